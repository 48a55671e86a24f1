use Rattle.std.proofs.Common.{◌≡◌, ◌+◌, ◌<◌, ◌^◌, length}
use Rattle.dq_base.specs.Scripts.{step_of, zones_of}
use Rattle.dq_machine.proofs.Admits.{meet_numbers}
use Rattle.dq_machine.specs.Preparing.{remotes_of}
use Rattle.dq_machine.proofs.parts.Parts.meet.Goals as goal

pub admit-requires : goal.admit-requires
admit-requires c =
    let l = c.args.loaded.now in
    let few = meet_numbers l c.args.self.now.state c.args.lane c.args.step c.script.ensures.loaded c.requires.parts.reached c.requires.kind in
    let held : c.self.inside.started + 1 + length (remotes_of l.script.schemas (zones_of (step_of l.script.lanes c.args.lane c.args.step))) < 2 ^ 64 = rw (← c.self.view_is) at few in
    let zones : c.self.inside.started + 1 + length (remotes_of l.script.schemas c.args.zones.now) < 2 ^ 64 = rw c.requires.zones at held in
    rw (c.in_ok-queries.ensures, c.script.ensures.script) zones

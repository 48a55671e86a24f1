use Rattle.std.proofs.Common.{◌-◌, get_or}
use Rattle.dq_machine.proofs.LostFew.{LostFew-reached}
use Rattle.dq_machine.specs.Losses.{LostFew}
use Rattle.dq_machine.specs.State.{no_work}
use Rattle.dq_machine.proofs.parts.Parts.lose_entry.Goals as goal

pub lost_phase-lost-requires : goal.lost_phase-lost-requires
lost_phase-lost-requires c =
    let few = LostFew-reached c.args.loaded.now c.args.self.now.state c.args.lane c.requires.parts.reached in
    let held : LostFew (get_or c.self.inside.works (c.args.lane - 1) no_work).phase = rw (← c.self.view_is) at few in
    rw (c.phase.ensures, c.work_at-2.ensures) held

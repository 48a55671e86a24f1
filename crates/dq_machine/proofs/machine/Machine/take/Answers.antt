use Rattle.std.proofs.Common.{◌≡◌, length, true, sym, ◌∙◌}
use Rattle.std.specs.Arc.{arc_value}
use Rattle.dq_base.specs.Scripts.{is_lane}
use Rattle.dq_journal.specs.Journals.{lane_of}
use Rattle.dq_machine.proofs.Advanced.{AreParts-next}
use Rattle.dq_machine.specs.Parts.{Takes}
use Rattle.dq_machine.proofs.machine.Machine.take.Goals as goal

pub invariant_of-result : goal.invariant_of-result
invariant_of-result c =
    let l = arc_value c.self.inside.loaded in
    let taken : Takes l c.self.inside.parts c.take.new.self c.args.entry.now = rw (c.if-not-branch.false, c.deref.ensures) at c.in_ok-take.ensures in
    let told : is_lane c.len.result c.lane_of.result ≡ true = sym c.is_lane.ensures ∙ c.if-not-is_lane.false in
    let held : is_lane (length c.parts.inside.works) (lane_of c.args.entry.now) ≡ true = rw (c.len.ensures, c.lane_of.ensures) at told in
    let known : is_lane (length c.self.inside.parts.state.works) (lane_of c.args.entry.now) ≡ true = rw (← c.parts.view_is) held in
    AreParts-next l c.self.inside.parts c.take.new.self c.args.entry.now c.self.invariant known taken

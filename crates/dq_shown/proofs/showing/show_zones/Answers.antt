use Rattle.std.proofs.Common.{Option, subst}
use Rattle.dq_journal.specs.Shown.{joint_at}
use Rattle.dq_shown.specs.Showing.{pending_of}
use Rattle.dq_shown.specs.declared.showing.Pending.{Pending}
use Rattle.dq_shown.proofs.Shows.{Showing, shown_whole, showing_more}
use Rattle.dq_shown.proofs.showing.show_zones.Goals as goal

pub loop-place-preserved : goal.loop-place-preserved
loop-place-preserved c =
    let one = c.in_ok-pending.ensures in
    showing_more (joint_at c.args.script.now c.args.lane c.args.step) c.args.zones.now c.loop-place.place c.index-zones-place.result c.index-zones-place.result
    (pending_of c.args.script.now.lanes c.loop-place.pending) (pending_of c.args.script.now.lanes c.in_ok-pending.pending) c.loop-place.shown one.more c.show_zone.new.shown
    c.loop-place-test.true c.index-zones-place.is one.grew one.shown c.loop-place.invariant

pub returns-in-None : goal.returns-in-None
returns-in-None c =
    let at = joint_at c.args.script.now c.args.lane c.args.step in
    let Left : Option Pending → Type 0 = λ p. Showing at c.args.zones.now c.loop-place.place (pending_of c.args.script.now.lanes p) c.loop-place.shown in
    shown_whole at c.args.zones.now c.loop-place.place c.loop-place.shown c.loop-place-test.false (subst Left c.in-None.is c.loop-place.invariant)

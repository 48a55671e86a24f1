use Rattle.dq_machine.proofs.Misses.{canons_more}
use Rattle.dq_machine.proofs.preparing.canons.Goals as goal

pub loop-q-preserved : goal.loop-q-preserved
loop-q-preserved c =
    let within = rw c.as_slice-q-items.ensures at c.loop-q-test.true in
    let at = rw c.as_slice-q-items.ensures at c.q-item.is in
    canons_more c.args.schemas.now c.args.zones.now c.loop-q.q-index c.q-item.result _ c.loop-q.canons _ within at c.loop-q.invariant c.in_ok-add_canon.ensures

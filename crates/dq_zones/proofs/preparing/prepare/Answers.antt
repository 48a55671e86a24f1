use Rattle.std.proofs.Common.{arith}
use Rattle.dq_machine.proofs.Misses.{canons_more}
use Rattle.dq_zones.proofs.Numbered.{numbers_more}
use Rattle.dq_zones.proofs.preparing.prepare.Goals as goal

pub loop-q-preserved : goal.loop-q-preserved
loop-q-preserved c =
    let schemas = c.args.schemas.now in
    let zones = c.args.zones.now in
    let i = c.loop-q.q-index in
    let within = rw c.as_slice-q-items.ensures at c.loop-q-test.true in
    let at = rw c.as_slice-q-items.ensures at c.q-item.is in
    record {
      place = omega (arith, c.loop-q.invariant.place);
      zones = numbers_more schemas zones i c.q-item.result _ c.loop-q.numbers _ within at c.loop-q.invariant.zones (rw c.loop-q.invariant.place at c.in_ok-prepare_zone.ensures.zones);
      canons = canons_more schemas zones i c.q-item.result _ c.loop-q.canons _ within at c.loop-q.invariant.canons c.in_ok-prepare_zone.ensures.canons;
    }

use Rattle.dq_zones.proofs.Refused.{refused_more}
use Rattle.dq_zones.proofs.refusals.refused_zones.Goals as goal

pub loop-q-preserved : goal.loop-q-preserved
loop-q-preserved c =
    refused_more c.args.schemas.now c.args.zones.now c.loop-q.q-index c.q-item.result c.loop-q.outcomes _ c.refused_zone.result
    c.loop-q-test.true c.q-item.is c.loop-q.invariant c.refused_zone.ensures c.in_ok-push.ensures.ok

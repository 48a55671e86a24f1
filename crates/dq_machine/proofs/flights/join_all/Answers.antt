use Rattle.std.proofs.Common.{◌∙◌, ◌<◌, ◌^◌, ap, arith, length}
use Rattle.dq_flight.specs.Flights.{replaced}
use Rattle.dq_machine.specs.Admitting.{with_joiner}
use Rattle.dq_machine.specs.State.{Joined, is_numbered}
use Rattle.dq_machine.proofs.Joining.{few_more, joins_more}
use Rattle.dq_machine.proofs.flights.join_all.Goals as goal

pub loop-one-preserved : goal.loop-one-preserved
loop-one-preserved c =
    let joins = c.args.joins.now in
    let i = c.loop-one.one-index in
    let j = c.one-item.result in
    let lt : i < length joins = omega arith in
    let more = c.join.ensures ∙ ap (λ (k : Joined). replaced (is_numbered k.flight) with_joiner c.loop-one.flown) c.one.view_is in (
      joins_more c.loop-one.flown c.join.new.flown joins i j _ lt c.one-item.is c.loop-one.invariant.0 more,
      few_more (2 ^ 64) c.loop-one.flown c.join.new.flown joins i j lt c.loop-one.invariant.1 more,
    )

use Rattle.std.proofs.Common.{◌<◌, ◌∙◌, ap, arith, length}
use Rattle.dq_flight.specs.Flights.{is_numbered, joined, replaced}
use Rattle.dq_machine.specs.State.{Joined}
use Rattle.dq_desk.proofs.Flown.{can_more, joined_more}
use Rattle.dq_desk.proofs.starting.join_all.Goals as goal

pub loop-one-preserved : goal.loop-one-preserved
loop-one-preserved c =
    let joins = c.args.joins.now in
    let i = c.loop-one.one-index in
    let j = c.one-item.result in
    let fs = c.loop-one.flights.flights in
    let lt : i < length joins = omega arith in
    let more = c.join.ensures.flights ∙ ap (λ (k : Joined). replaced (is_numbered k.flight) joined fs) c.one.view_is in
    record {
      flights = joined_more fs c.join.new.self.flights joins i j _ lt c.one-item.is c.loop-one.invariant.flights more;
      may = can_more fs c.join.new.self.flights joins i j lt c.one-item.is c.loop-one.invariant.may more;
      room = omega (arith, c.loop-one.invariant.room, c.join.ensures.room);
    }

use Rattle.std.proofs.Common.{◌≡◌, ap, ◌∙◌, sym, None, Some, position}
use Rattle.dq_flight.specs.Flights.{ascends, is_numbered, taken}
use Rattle.dq_flight.proofs.Ascent.{ascends_replaced, taken_steady}
use Rattle.dq_flight.proofs.Replacing.{found, none_found, replaced_none}
use Rattle.dq_flight.proofs.flights.Flights.take.Goals as goal

pub invariant_of-self : goal.invariant_of-self
invariant_of-self c = ap ascends c.let_go.ensures.items ∙ ascends_replaced (is_numbered c.args.number) taken taken_steady c.self.inside.flights.items c.self.invariant

pub returns-in_default-clause-look : goal.returns-in_default-clause-look
returns-in_default-clause-look c =
    let test = is_numbered c.args.number in
    let none : position test c.self.inside.flights.items ≡ None = ap (position test) (sym c.as_slice.ensures.value) ∙ sym c.in_default.ensures in
    let empty = none_found test c.self.inside.flights.items none in
    let a = rw (← c.self.view_is) at c.requires in
    absurd (rw empty at a)

pub returns-in_default-clause-flights : goal.returns-in_default-clause-flights
returns-in_default-clause-flights c =
    let test = is_numbered c.args.number in
    let none : position test c.self.inside.flights.items ≡ None = ap (position test) (sym c.as_slice.ensures.value) ∙ sym c.in_default.ensures in
    rw (← c.self.view_is) (replaced_none test taken c.self.inside.flights.items none)

pub returns-clause-look : goal.returns-clause-look
returns-clause-look c =
    let test = is_numbered c.args.number in
    let f = c.index.result.now in
    let at : position test c.self.inside.flights.items ≡ Some c.in-Some.place = ap (position test) (sym c.as_slice.ensures.value) ∙ sym c.in-Some.ensures in
    let there = found test c.self.inside.flights.items c.in-Some.place f at ∙ ap Some (sym c.index.ensures) in
    rw (← c.self.view_is, there) c.look-look.ensures

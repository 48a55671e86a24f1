use Rattle.std.proofs.Common.{◌≡◌, ap, ◌∙◌, sym, Some, position, arith, ◌<◌, ◌^◌, ◌+◌, [], ◌∷◌}
use Rattle.dq_flight.specs.Flights.{FlightOf, is_numbered, joined}
use Rattle.dq_flight.proofs.Replacing.{found, one_item, replaced_none, replaced_by}
use Rattle.dq_flight.proofs.flights.wait.Goals as goal

pub returns-in_default-clause-items : goal.returns-in_default-clause-items
returns-in_default-clause-items c =
    let test = is_numbered c.args.number in
    replaced_none test joined c.args.flights.now.items (ap (position test) (sym c.as_slice.ensures.value) ∙ sym c.in_default.ensures)

pub overflow_add-joiners : goal.overflow_add-joiners
overflow_add-joiners c =
    let test = is_numbered c.args.number in
    let xs = c.args.flights.now.items in
    let f = c.index.result.now in
    let at : position test xs ≡ Some c.in-Some.place = ap (position test) (sym c.as_slice.ensures.value) ∙ sym c.in-Some.ensures in
    let there = found test xs c.in-Some.place f at ∙ ap Some (sym c.index.ensures) in
    let few : f.joiners + 1 < 2 ^ 64 = rw there at c.requires in
    omega (arith, c.joiners-joiners.ensures, few)

pub returns-clause-items : goal.returns-clause-items
returns-clause-items c =
    let test = is_numbered c.args.number in
    let xs = c.args.flights.now.items in
    let f = c.index.result.now in
    let at : position test xs ≡ Some c.in-Some.place = ap (position test) (sym c.as_slice.ensures.value) ∙ sym c.in-Some.ensures in
    let g = c.index_mut.result.now in
    let same : f ≡ g = one_item test xs c.in-Some.place f g at c.index.ensures c.index_mut.ensures.value in
    replaced_by test joined xs c.in-Some.place c.set_joiners.new.self g at
    (ap joined (sym c.index_mut.ensures.value) ∙ ap (λ n. record g { joiners = n + 1 } ∷ []) (sym (c.joiners-joiners.ensures ∙ ap (λ (h : FlightOf). h.joiners) same)) ∙ ap (λ (h : FlightOf). h ∷ []) (sym c.set_joiners.ensures))

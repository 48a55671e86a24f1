use Rattle.std.proofs.Common.{◌≡◌, ◌∙◌, Some, [], ◌∷◌, ap, arith, position, sym}
use Rattle.dq_flight.proofs.Replacing.{replaced_by, replaced_none}
use Rattle.dq_machine.specs.Admitting.{with_joiner}
use Rattle.dq_machine.specs.State.{Flown, is_numbered}
use Rattle.dq_machine.proofs.Fronts.{below, item_at}
use Rattle.dq_machine.proofs.flights.join.Goals as goal

pub returns-in_default : goal.returns-in_default
returns-in_default c =
    let test = is_numbered c.args.number in
    replaced_none test with_joiner c.args.flown.now (ap (position test) (sym c.as_slice.ensures) ∙ sym c.in_default.ensures)

pub add_joiner-requires : goal.add_joiner-requires
add_joiner-requires c =
    let test = is_numbered c.args.number in
    let xs = c.args.flown.now in
    let f = c.item_mut.result.now in
    let at : position test xs ≡ Some c.in-Some.place = ap (position test) (sym c.as_slice.ensures) ∙ sym c.in-Some.ensures in
    let lt = below test xs c.in-Some.place at in
    let few = c.requires c.in-Some.place f lt in
    let same = ap (λ (g : Flown). g.joiners) (item_at xs c.in-Some.place f lt c.item_mut.ensures.value) in
    omega (arith, few, same)

pub returns : goal.returns
returns c =
    let test = is_numbered c.args.number in
    let xs = c.args.flown.now in
    let f = c.item_mut.result.now in
    let at : position test xs ≡ Some c.in-Some.place = ap (position test) (sym c.as_slice.ensures) ∙ sym c.in-Some.ensures in
    let lt = below test xs c.in-Some.place at in
    replaced_by test with_joiner xs c.in-Some.place c.add_joiner.new.flight f at
    (ap with_joiner (sym (item_at xs c.in-Some.place f lt c.item_mut.ensures.value)) ∙ ap (λ (g : Flown). g ∷ []) (sym c.add_joiner.ensures))

use Rattle.std.proofs.Common.{◌≡◌, ◌-◌, ap, ◌∙◌, sym, Some, position, get_or}
use Rattle.dq_flight.proofs.Replacing.{replaced_none}
use Rattle.dq_machine.specs.State.{Flown, is_numbered}
use Rattle.dq_machine.specs.Taking.{without_joiner}
use Rattle.dq_machine.proofs.Replaced.{let_go_kept, let_go_out}
use Rattle.dq_machine.proofs.ending.let_go.Goals as goal

pub returns-in_default : goal.returns-in_default
returns-in_default c = replaced_none (is_numbered c.args.number) without_joiner c.args.flown.now (rw c.as_slice.ensures at (sym c.in_default.ensures))

pub returns-then-joiners-eq0 : goal.returns-then-joiners-eq0
returns-then-joiners-eq0 c =
    let f = c.index-as_slice-place.result in
    let at : position (is_numbered c.args.number) c.args.flown.now ≡ Some c.in-Some.place = rw c.as_slice.ensures at (sym c.in-Some.ensures) in
    let is : f ≡ get_or c.args.flown.now c.in-Some.place f = rw c.as_slice-2.ensures at c.index-as_slice-place.is in
    let left : c.saturating_sub-joiners.result ≡ f.joiners - 1 = c.saturating_sub-joiners.ensures ∙ ap (λ (g : Flown). g.joiners - 1) c.flight.view_is in
    c.in_ok-take_out.ensures ∙ let_go_out c.args.number c.args.flown.now c.in-Some.place f at is (sym left ∙ c.if-joiners-eq0.true)

pub returns : goal.returns
returns c =
    let f = c.index-as_slice-place.result in
    let at : position (is_numbered c.args.number) c.args.flown.now ≡ Some c.in-Some.place = rw c.as_slice.ensures at (sym c.in-Some.ensures) in
    let is : f ≡ get_or c.args.flown.now c.in-Some.place f = rw c.as_slice-2.ensures at c.index-as_slice-place.is in
    let left : c.saturating_sub-joiners.result ≡ f.joiners - 1 = c.saturating_sub-joiners.ensures ∙ ap (λ (g : Flown). g.joiners - 1) c.flight.view_is in
    rw c.set_joiners.ensures
    (let_go_kept c.args.number c.args.flown.now c.in-Some.place f at is c.item_mut.result.now c.saturating_sub-joiners.result c.item_mut.ensures.value left c.if-joiners-eq0.false)

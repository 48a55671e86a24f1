use Rattle.std.proofs.Common.{◌≡◌, ◌∙◌, List, None, Some, OnOk, ◌∷◌, ap, position, subst, sym}
use Rattle.dq_machine.specs.Admitting.{has_same}
use Rattle.dq_machine.specs.State.{Shelved}
use Rattle.dq_machine.proofs.Fronts.{none_out, out}
use Rattle.dq_machine.proofs.landing.put_front.Goals as goal

pub returns-in-None : goal.returns-in-None
returns-in-None c =
    let e = c.args.entry in
    let xs = c.args.shelf.now in
    let stamp = ap (λ (s : Shelved). s.stamp) (sym c.entry.view_is) in
    let key = ap (λ (s : Shelved). s.key) (sym c.entry.view_is) ∙ sym c.deref.ensures in
    let at : position (has_same e.stamp e.key) xs ≡ None = (λ j. position (has_same (stamp j) (key j)) (sym c.as_slice.ensures j)) ∙ sym c.in-None.ensures in
    let P : List Shelved → Type 0 = λ ys. OnOk c.insert.result (c.insert.new.self ≡ ys) in
    subst P (ap (λ ys. e ∷ ys) (none_out (has_same e.stamp e.key) xs at)) c.insert.ensures.ok

pub returns-in-Some : goal.returns-in-Some
returns-in-Some c =
    let e = c.args.entry in
    let xs = c.args.shelf.now in
    let stamp = ap (λ (s : Shelved). s.stamp) (sym c.entry.view_is) in
    let key = ap (λ (s : Shelved). s.key) (sym c.entry.view_is) ∙ sym c.deref.ensures in
    let at : position (has_same e.stamp e.key) xs ≡ Some c.in-Some.place = (λ j. position (has_same (stamp j) (key j)) (sym c.as_slice.ensures j)) ∙ sym c.in-Some.ensures in
    c.bring_front.ensures ∙ ap (λ ys. e ∷ ys) (out (has_same e.stamp e.key) xs c.in-Some.place e at)

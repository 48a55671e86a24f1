use Rattle.std.proofs.Common.{◌≡◌, ◌∙◌, None, Some, ◌∷◌, ap, remove, sym}
use Rattle.std.specs.Option.{option_map}
use Rattle.dq_flight.proofs.Replacing.{none_found}
use Rattle.dq_machine.specs.State.{Shelved}
use Rattle.dq_machine.proofs.Fronts.{fronted, got, stays, stays_by, there}
use Rattle.dq_machine.proofs.shelf.move_front.Goals as goal

pub returns-in_default-clause-found : goal.returns-in_default-clause-found
returns-in_default-clause-found c = λ test at.
    let none : c.args.place ≡ None = cc in
    ap (option_map (λ (e : Shelved). e.flight)) (sym (none_found test c.args.shelf.now (sym at ∙ none)))

pub returns-in_default-clause-moved : goal.returns-in_default-clause-moved
returns-in_default-clause-moved c = λ test at.
    let none : c.args.place ≡ None = cc in
    stays_by test c.args.shelf.now (sym at ∙ none)

pub returns-in_default-get-clause-found : goal.returns-in_default-get-clause-found
returns-in_default-get-clause-found c = λ test at.
    ap (option_map (λ (e : Shelved). e.flight)) (c.in_default-get.ensures ∙ got test c.args.shelf.now c.in-Some.place (sym at ∙ c.in-Some.is))

pub returns-in_default-get-clause-moved : goal.returns-in_default-get-clause-moved
returns-in_default-get-clause-moved c = λ test at.
    stays test c.args.shelf.now (sym (c.in_default-get.ensures ∙ got test c.args.shelf.now c.in-Some.place (sym at ∙ c.in-Some.is)))

pub bring_front-requires : goal.bring_front-requires
bring_front-requires c = there c.args.shelf.now c.in-Some.place c.in-Some-get.held.now (sym c.in-Some-get.ensures)

pub returns-clause-found : goal.returns-clause-found
returns-clause-found c = λ test at.
    ap (λ (e : Shelved). Some e.flight) (c.entry.view_is ∙ c.in_ok-entry.ensures)
    ∙ ap (option_map (λ (e : Shelved). e.flight)) (c.in-Some-get.ensures ∙ got test c.args.shelf.now c.in-Some.place (sym at ∙ c.in-Some.is))

pub returns-clause-moved : goal.returns-clause-moved
returns-clause-moved c = λ test at.
    c.bring_front.ensures
    ∙ ap (λ (e : Shelved). e ∷ remove c.args.shelf.now c.in-Some.place) c.in_ok-entry.ensures
    ∙ fronted test c.args.shelf.now c.in-Some.place c.in-Some-get.held.now (sym at ∙ c.in-Some.is) (sym c.in-Some-get.ensures)

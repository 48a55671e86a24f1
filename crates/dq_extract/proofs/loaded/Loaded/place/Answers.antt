use Rattle.std.proofs.Common.{◌∙◌, ℕ, List, ap, subst}
use Rattle.std.specs.Prelude.{Option, option_and_then}
use Rattle.dq_base.specs.Scripts.{numbered}
use Rattle.dq_extract.proofs.Behind.{IsIndexed-at}
use Rattle.dq_extract.specs.Loads.{IsIndexed, LoadedFiles}
use Rattle.dq_extract.proofs.loaded.Loaded.place.Goals as goal

pub returns-in_err-places : goal.returns-in_err-places
returns-in_err-places c =
    let P : LoadedFiles → Type 0 = λ l. IsIndexed l c.self.inside.places in
    let in_lane : Option (List ℕ) → Option ℕ = λ found. option_and_then (λ places. numbered places c.args.step) found in
    c.from_residual.ensures ∙ ap in_lane c.in_err-places.ensures ∙ IsIndexed-at c.args.self.now c.self.inside.places c.args.lane c.args.step (subst P c.self.view_is c.self.invariant)

pub returns : goal.returns
returns c =
    let P : LoadedFiles → Type 0 = λ l. IsIndexed l c.self.inside.places in
    let in_lane : Option (List ℕ) → Option ℕ = λ found. option_and_then (λ places. numbered places c.args.step) found in
    c.copied.ensures ∙ c.numbered-2.ensures ∙ ap in_lane c.in_ok-places.ensures
    ∙ IsIndexed-at c.args.self.now c.self.inside.places c.args.lane c.args.step (subst P c.self.view_is c.self.invariant)

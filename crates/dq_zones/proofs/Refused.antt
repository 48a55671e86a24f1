-- Outcomes of a refused batch.
use Rattle.std.proofs.Common.{◌≡◌, ℕ, ◌+◌, ◌<◌, List, [], ◌∷◌, ◌++◌, length, take, get_or, ap, sym, ◌∙◌}
use Rattle.std.proofs.lemmas.List.{take_more}
use Rattle.dq_base.specs.Headings.{Heading}
use Rattle.dq_base.specs.Validity.{invalid_by}
use Rattle.dq_base.specs.declared.query.Query.{Query}
use Rattle.dq_journal.specs.Steps.{AreRefused, IsRefused}
use Rattle.dq_journal.specs.declared.result.ZoneResult.{ZoneResult}

AreRefused-push : (schemas : List Heading) (qs : List Query) (zs : List ZoneResult) (q : Query) (z : ZoneResult) → AreRefused schemas qs zs → IsRefused (invalid_by schemas q) z → AreRefused schemas (qs ++ q ∷ []) (zs ++ z ∷ [])
AreRefused-push schemas [] [] q z are is = (is, tt)
AreRefused-push schemas [] (y ∷ zs) q z are is = absurd are
AreRefused-push schemas (p ∷ qs) [] q z are is = absurd are
AreRefused-push schemas (p ∷ qs) (y ∷ zs) q z are is = (are.0, AreRefused-push schemas qs zs q z are.1 is)

-- one zone more
pub refused_more : (schemas : List Heading) (zones : List Query) (i : ℕ) (q : Query) (before after : List ZoneResult) (z : ZoneResult)
    → i < length zones → q ≡ get_or zones i q → AreRefused schemas (take i zones) before → IsRefused (invalid_by schemas q) z → after ≡ before ++ z ∷ [] → AreRefused schemas (take (i + 1) zones) after
refused_more schemas zones i q before after z lt at are is more =
    let taken = take_more zones i q lt ∙ ap (λ p. take i zones ++ p ∷ []) (sym at) in
    rw (taken, more) (AreRefused-push schemas (take i zones) before q z are is)

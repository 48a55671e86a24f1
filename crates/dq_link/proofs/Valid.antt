-- A valid query has few predicates.
use Rattle.std.proofs.Common.{◌≡◌, ℕ, ◌≤◌, Bool, true, false, cond, List, length, Option, Some, None, refl, arith}
use Rattle.std.proofs.lemmas.Bool.Decides.{nat_tests}
use Rattle.std.specs.Prelude.{◌||◌, not, nat_lt}
use Rattle.dq_base.specs.Validity.{column_missing, first_reason, place_missing, repeats, shows_nothing, sorts_fit, too_long}
use Rattle.dq_base.specs.declared.invalid.Invalid.TheVariants as invalid
use Rattle.dq_base.specs.declared.query.Query.{Query}
use Rattle.dq_base.specs.declared.schema.Sort.{Sort}

peel : {X : Type 0} (b : Bool) (x : X) (rest : Option X) → cond b (Some x) rest ≡ None → (b ≡ false) × (rest ≡ None)
peel true x rest e = cc
peel false x rest e = (refl, e)

first_part : (a b c d f : Bool) → (a || b || c || d || f) ≡ false → a ≡ false
first_part true b c d f e = cc
first_part false b c d f e = refl

few : (n : ℕ) → nat_lt 16 n ≡ false → n ≤ 16
few n e = grind (arith, nat_tests)

pub valid_few : (sorts : List Sort) (q : Query) → first_reason sorts q ≡ None → length q.filters ≤ 16
valid_few sorts q e =
    let column = peel (column_missing (length sorts) q) invalid.Column _ e in
    let dim = peel (repeats q.dims) invalid.RepeatedDim _ column.1 in
    let sort = peel (not (sorts_fit sorts q)) invalid.WrongSort _ dim.1 in
    let shown = peel (shows_nothing q) invalid.NothingShown _ sort.1 in
    let key = peel (place_missing q) invalid.OrderKey _ shown.1 in
    let long = peel (too_long q) invalid.TooLong None key.1 in
    few (length q.filters) (first_part _ _ _ _ _ long.0)

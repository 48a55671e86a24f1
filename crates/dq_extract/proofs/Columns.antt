-- The schemas of a script have columns.
use Rattle.std.proofs.Common.{◌≡◌, ◌<◌, ◌&&◌, ℕ, zero, suc, Bool, true, false, List, [], ◌∷◌, length, refl}
use Rattle.std.proofs.lemmas.Bool.{ltb-true}
use Rattle.std.specs.List.{list_all}
use Rattle.std.specs.Prelude.{slice_get, Some, nat_lt, nat_le}
use Rattle.dq_base.specs.Headings.{Heading}
use Rattle.dq_base.specs.Limits.{most_columns}
use Rattle.dq_base.specs.Scripts.{heading_fits}

and_first : (a b : Bool) → (a && b) ≡ true → a ≡ true
and_first true b is = refl
and_first false b is = is

and_second : (a b : Bool) → (a && b) ≡ true → b ≡ true
and_second true b is = is
and_second false b is = cc

list_all-at : {X : Type 0} (p : X → Bool) (xs : List X) (i : ℕ) (x : X) → list_all p xs ≡ true → slice_get xs i ≡ Some x → p x ≡ true
list_all-at p [] i x all is = cc
list_all-at p (y ∷ xs) zero x all is = let same : y ≡ x = cc in rw (← same) (and_first (p y) (list_all p xs) all)
list_all-at p (y ∷ xs) (suc i) x all is = list_all-at p xs i x (and_second (p y) (list_all p xs) all) is

pub some_columns : (schemas : List Heading) (source : ℕ) (heading : Heading) → list_all heading_fits schemas ≡ true → slice_get schemas source ≡ Some heading → 0 < length heading.names
some_columns schemas source heading all is =
    ltb-true 0 (length heading.names) (and_first (nat_lt 0 (length heading.names)) (nat_le (length heading.names) most_columns) (list_all-at heading_fits schemas source heading all is))

-- Lists of numbers and what belongs to each.
use Rattle.std.specs.Prelude.{ℕ, nat_eq, not, List, [], ◌∷◌, ◌++◌, Option, option_map}
use Rattle.std.specs.List.{filter, find}

-- what belongs to the first pair of that number
abbrev pub lookup : {X : Type 0} → List (ℕ × X) → ℕ → Option X
lookup pairs n = option_map (λ p. p.1) (find (λ p. nat_eq p.0 n) pairs)

-- the pairs of other numbers
abbrev pub without : {X : Type 0} → List (ℕ × X) → ℕ → List (ℕ × X)
without pairs n = filter (λ p. not (nat_eq p.0 n)) pairs

-- x alone belongs to that number
abbrev pub with_pair : {X : Type 0} → List (ℕ × X) → ℕ → X → List (ℕ × X)
with_pair pairs n x = without pairs n ++ (n, x) ∷ []

-- A list that ends first.
use Rattle.std.proofs.Common.{◌≡◌, ◌<◌, List, [], ◌∷◌, length, refl, arith}
use Rattle.std.specs.declared.cmp.Ordering.{Ordering}
use Rattle.std.specs.declared.cmp.Ordering.TheVariants.{Less}
use Rattle.std.specs.Cmp.Lexicographic.{slice_cmp}

-- a list that ends first comes first
pub ended_first : {X : Type 0} (R : X → X → Ordering) (xs ys : List X) → xs ≡ [] → 0 < length ys → slice_cmp R xs ys ≡ Less
ended_first R [] [] e h = absurd (omega arith)
ended_first R [] (y ∷ ys) e h = refl
ended_first R (x ∷ xs) ys e h = cc

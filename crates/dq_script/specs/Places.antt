-- Keys in order, each of which is looked up by comparing.
use Rattle.std.specs.Prelude.{ℕ, List, Bool, Option, is_none}
use Rattle.std.specs.List.{position_from}
use Rattle.std.specs.declared.cmp.Ordering.{Ordering}
use Rattle.std.specs.Ordering.{is_eq, nat_cmp}
use Rattle.std.specs.Cmp.Lexicographic.{slice_cmp}

-- the place from 0 of the first key that compares equal
abbrev pub place_of : {K : Type 0} → (K → K → Ordering) → List K → K → Option ℕ
place_of cmp keys key = position_from (λ k. is_eq (cmp k key)) 0 keys

-- no key compares equal
abbrev pub is_new : {K : Type 0} → (K → K → Ordering) → List K → K → Bool
is_new cmp keys key = is_none (place_of cmp keys key)

-- texts compare byte by byte
abbrev pub text_cmp : List ℕ → List ℕ → Ordering
text_cmp a b = slice_cmp nat_cmp a b

-- Held rows by the keys that are made of theirs.
use Rattle.std.specs.Prelude.{ℕ, zero, suc, List, [], ◌∷◌, ◌++◌, map, slice_index_or}
use Rattle.std.specs.List.{filter, fold}
use Rattle.std.specs.Ordering.{is_eq}
use Rattle.dq_base.specs.Orders.{key_cmp}
use Rattle.dq_base.specs.Sets.{with}
use Rattle.dq_base.specs.declared.value.Value.{Value}
use Rattle.dq_base.specs.declared.cell.Cell.{Cell}
use Rattle.dq_rollup.specs.declared.key.Made.{Made}
use Rattle.dq_rollup.specs.Derived.{Plan, is_kept}
use Rattle.dq_rollup.specs.Keys.{made_key}

-- the places below a number
abbrev pub upto : ℕ → List ℕ
upto zero = []
upto (suc n) = upto n ++ n ∷ []

abbrev pub keys_among : (ℕ → List Value) → List (List Value) → List ℕ → List (List Value)
keys_among key base places = fold (λ set place. with key_cmp (key place) set) base places

-- each key with the places that have it
abbrev pub grouped : (ℕ → List Value) → List (List Value) → List ℕ → List (List Value × List ℕ)
grouped key base places = map (λ k. (k, filter (λ place. is_eq (key_cmp k (key place))) places)) (keys_among key base places)

-- without dimensions there is the empty key from the start
abbrev pub first_keys : List Made → List (List Value)
first_keys [] = [] ∷ []
first_keys (m ∷ made) = []

abbrev pub key_at : Plan → List (List Cell) → ℕ → List Value
key_at plan held place = made_key plan.made (slice_index_or held place [])

-- the places below a number whose rows are kept
abbrev pub kept_places : Plan → List (List Cell) → ℕ → List ℕ
kept_places plan held n = filter (λ place. is_kept plan (slice_index_or held place [])) (upto n)

abbrev pub groups_below : Plan → List (List Cell) → ℕ → List (List Value × List ℕ)
groups_below plan held n = grouped (key_at plan held) (first_keys plan.made) (kept_places plan held n)

-- What stands at the places of a held row.
use Rattle.std.proofs.Common.{◌≡◌, ℕ, zero, suc, ◌+◌, Bool, true, not, ◌||◌, ◌&&◌, List, [], ◌∷◌, ◌++◌, map, length, refl, sym, ap, ◌∙◌, Option, Some, None, nat_eq, arith}
use Rattle.std.specs.Prelude.{slice_get}
use Rattle.std.specs.List.{list_any, list_all}
use Rattle.dq_base.specs.Answers.{cell_of, key_of, value_in}
use Rattle.dq_base.specs.Covering.{groups_by}
use Rattle.dq_base.specs.Dims.{Dimension, banded, is_plain, plain, width_of}
use Rattle.dq_base.specs.Filters.{holds, value_at}
use Rattle.dq_base.specs.declared.value.Value.{Value}
use Rattle.dq_base.specs.declared.value.Value.TheVariants as value
use Rattle.dq_base.specs.declared.cell.Cell.{Cell}
use Rattle.dq_base.specs.declared.predicate.Predicate.{Predicate}
use Rattle.dq_base.specs.declared.query.Query.{Query}
use Rattle.dq_cover.proofs.CoverLaws.{and_left, exact_numbers, number_same, or_left, or_right}
use Rattle.dq_rollup.specs.declared.key.Made.{Made}
use Rattle.dq_rollup.specs.Keys.{IsMade, IsPlaced, made_key, made_value, passes}
use Rattle.dq_rollup.specs.Pairs.{Paired}
use Rattle.dq_rollup.specs.Reading.{cell_in, value_of}
use Rattle.dq_rollup.proofs.Bands.{banded_again, value_in_bands}
use Rattle.dq_rollup.proofs.Sound.{checked, holds_of}

pub value_again : (v : Value) → value_of (cell_of v) ≡ v
value_again value.Null = refl
value_again (value.Int n) = refl
value_again (value.Word t) = refl

-- the cell of a dimension
pub key_cell : (dims : List Dimension) (row : List Value) (ms : List Cell) (i : ℕ) (d : Dimension) → slice_get dims i ≡ Some d → cell_in (map cell_of (key_of dims row) ++ ms) i ≡ cell_of (value_in row d)
key_cell [] row ms i d e = cc
key_cell (x ∷ dims) row ms zero d e = let s : x ≡ d = cc in ap (λ y. cell_of (value_in row y)) s
key_cell (x ∷ dims) row ms (suc i) d e = key_cell dims row ms i d e

got_map : {X : Type 0} (f : X → Cell) (xs : List X) (i : ℕ) (x : X) → slice_get xs i ≡ Some x → cell_in (map f xs) i ≡ f x
got_map f [] i x e = cc
got_map f (y ∷ ys) zero x e = let s : y ≡ x = cc in ap f s
got_map f (y ∷ ys) (suc i) x e = got_map f ys i x e

-- the cell of a measure
pub measure_cell : {X : Type 0} (dims : List Dimension) (row : List Value) (f : X → Cell) (ms : List X) (i j : ℕ) (m : X) → i ≡ length dims + j → slice_get ms j ≡ Some m → cell_in (map cell_of (key_of dims row) ++ map f ms) i ≡ f m
measure_cell [] row f ms i j m e g = let s : i ≡ j = omega (arith, e) in ap (cell_in (map f ms)) s ∙ got_map f ms j m g
measure_cell (d ∷ dims) row f ms zero j m e g = absurd (omega (arith, e))
measure_cell (d ∷ dims) row f ms (suc i) j m e g = measure_cell dims row f ms i j m (omega (arith, e)) g

module _ (ps : List Dimension) (row : List Value) (ms : List Cell) where
  made_from : (d : Dimension) (m : Made) → IsMade ps d m → made_value (map cell_of (key_of ps row) ++ ms) m ≡ value_in row d
  made_from d m s =
      ap (λ cell. banded (width_of m.dim) (value_of cell)) (key_cell ps row ms m.place s.from s.there)
      ∙ ap (banded (width_of m.dim)) (value_again (value_in row s.from) ∙ value_in_bands row s.from)
      ∙ banded_again (width_of m.dim) (width_of s.from) (value_at row s.from.column)
      ∙ ap (λ w. banded w (value_at row s.from.column)) (sym s.width)
      ∙ ap (λ c. banded (width_of d) (value_at row c)) (sym (exact_numbers d.column s.from.column (and_left _ _ s.made)))
      ∙ sym (value_in_bands row d)

  -- a key that is made of a row's key is the row's
  pub made_key_row : (qs : List Dimension) (plan : List Made) → Paired (IsMade ps) qs plan → made_key plan (map cell_of (key_of ps row) ++ ms) ≡ key_of qs row
  made_key_row [] [] s = refl
  made_key_row [] (m ∷ plan) s = absurd s
  made_key_row (d ∷ qs) [] s = absurd s
  made_key_row (d ∷ qs) (m ∷ plan) s = ap (λ v. v ∷ made_key plan (map cell_of (key_of ps row) ++ ms)) (made_from d m s.0) ∙ ap (λ vs. value_in row d ∷ vs) (made_key_row qs plan s.1)

any_got : {X : Type 0} (t : X → Bool) (xs : List X) (i : ℕ) (x : X) → slice_get xs i ≡ Some x → t x ≡ true → list_any t xs ≡ true
any_got t [] i x e h = cc
any_got t (y ∷ ys) zero x e h = let s : y ≡ x = cc in or_left (t y) (list_any t ys) (ap t s ∙ h)
any_got t (y ∷ ys) (suc i) x e h = or_right (t y) (list_any t ys) (any_got t ys i x e h)

pub plain_found : (p : Query) (c i : ℕ) → slice_get p.dims i ≡ Some (plain c) → groups_by p c ≡ true
plain_found p c i e = any_got (λ d. nat_eq c d.column && is_plain d) p.dims i (plain c) e (ap (λ b. b && true) (number_same c))

pub plain_cell : (p : Query) (row : List Value) (ms : List Cell) (c i : ℕ) → slice_get p.dims i ≡ Some (plain c) → value_of (cell_in (map cell_of (key_of p.dims row) ++ ms) i) ≡ value_at row c
plain_cell p row ms c i e = ap value_of (key_cell p.dims row ms i (plain c) e) ∙ value_again (value_at row c)

module _ (p : Query) (row : List Value) (ms : List Cell) where
  -- the tests of a row's key are those of the row that the key decides
  pub passes_row : (fs : List Predicate) (places : List (Option ℕ)) → Paired (IsPlaced p.dims) fs places → passes fs places (map cell_of (key_of p.dims row) ++ ms) ≡ list_all (checked p row) fs
  passes_row [] [] s = refl
  passes_row [] (o ∷ places) s = absurd s
  passes_row (f ∷ fs) [] s = absurd s
  passes_row (f ∷ fs) (None ∷ places) s = passes_row fs places s.1 ∙ ap (λ b. (not b || holds_of row f) && list_all (checked p row) fs) (sym s.0)
  passes_row (f ∷ fs) (Some place ∷ places) s =
      ap (λ b. b && passes fs places (map cell_of (key_of p.dims row) ++ ms)) (ap (holds f.test) (plain_cell p row ms f.column place s.0))
      ∙ ap (λ b. holds_of row f && b) (passes_row fs places s.1)
      ∙ ap (λ b. (not b || holds_of row f) && list_all (checked p row) fs) (sym (plain_found p f.column place s.0))

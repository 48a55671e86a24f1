-- A row agrees at the links exactly where it begins with the linked cells.
use Rattle.std.proofs.Common.{◌≡◌, ℕ, suc, ◌+◌, min, Bool, ◌&&◌, List, [], ◌∷◌, ◌++◌, map, length, take, get_or, refl, sym, ap, ◌∙◌, arith}
use Rattle.std.specs.Prelude.{nat_eq, slice_get, Some}
use Rattle.std.proofs.lemmas.Bool.Decides.{nat_tests}
use Rattle.std.proofs.lemmas.List.{take_all, take_more}
use Rattle.std.proofs.lemmas.Option.{slice_get_within, get_or_from_slice_get}
use Rattle.std.specs.declared.cmp.Ordering.{Ordering}
use Rattle.std.specs.declared.cmp.Ordering.TheVariants.{Less, Equal, Greater}
use Rattle.std.specs.Ordering.{is_eq, ordering_then, nat_cmp, int_cmp}
use Rattle.std.specs.List.{find}
use Rattle.dq_base.specs.Answers.{cell_at}
use Rattle.dq_base.specs.Blends.{agree, cell_eq}
use Rattle.dq_base.specs.declared.cell.Cell.{Cell}
use Rattle.dq_base.specs.declared.cell.Cell.TheVariants.{Null, Whole, Word, Ratio}
use Rattle.dq_blend.specs.Exact.{exact_cmp, cells_cmp}
use Rattle.dq_blend.specs.Places.{begins_with}

eq_then : (r s : Ordering) → is_eq (ordering_then r s) ≡ (is_eq r && is_eq s)
eq_then Less s = refl
eq_then Equal s = refl
eq_then Greater s = refl

eq_count : (m n : ℕ) → is_eq (nat_cmp (suc m) (suc n)) ≡ nat_eq m n
eq_count m n = grind (arith, nat_tests)

eq_cells : (a b : Cell) → cell_eq a b ≡ is_eq (exact_cmp a b)
eq_cells Null Null = refl
eq_cells Null (Whole b) = refl
eq_cells Null (Word b) = refl
eq_cells Null (Ratio b) = refl
eq_cells (Whole a) Null = refl
eq_cells (Whole a) (Whole b) = refl
eq_cells (Whole a) (Word b) = refl
eq_cells (Whole a) (Ratio b) = refl
eq_cells (Word a) Null = refl
eq_cells (Word a) (Whole b) = refl
eq_cells (Word a) (Word b) = refl
eq_cells (Word a) (Ratio b) = refl
eq_cells (Ratio a) Null = refl
eq_cells (Ratio a) (Whole b) = refl
eq_cells (Ratio a) (Word b) = refl
eq_cells (Ratio a) (Ratio b) =
    sym (eq_then (int_cmp a.sum b.sum) (nat_cmp (suc a.others) (suc b.others)) ∙ ap (λ e. is_eq (int_cmp a.sum b.sum) && e) (eq_count a.others b.others))

pub agrees : (row : List Cell) (links : List ℕ) (other : List Cell) → agree links row other ≡ begins_with (length links) (map (cell_at row) links) other
agrees row [] other = refl
agrees row (link ∷ links) [] = refl
agrees row (link ∷ links) (c ∷ cells) =
    ap (λ b. b && agree links row cells) (eq_cells (cell_at row link) c)
    ∙ ap (λ b. is_eq (exact_cmp (cell_at row link) c) && b) (agrees row links cells)
    ∙ sym (eq_then (exact_cmp (cell_at row link) c) (cells_cmp (map (cell_at row) links) (take (length links) cells)))

find_same : {X : Type 0} (p q : X → Bool) → ((x : X) → p x ≡ q x) → (xs : List X) → find p xs ≡ find q xs
find_same p q h [] = refl
find_same p q h (x ∷ xs) = grind (arith, h x, find_same p q h xs)

-- the first row that agrees is the first one that begins with the linked cells
pub found_agrees : (row : List Cell) (links : List ℕ) (rows : List (List Cell))
    → find (begins_with (length links) (map (cell_at row) links)) rows ≡ find (agree links row) rows
found_agrees row links rows = sym (find_same (agree links row) (begins_with (length links) (map (cell_at row) links)) (agrees row links) rows)

pub take_least : {X : Type 0} (n : ℕ) (xs : List X) → take (min n (length xs)) xs ≡ take n xs
take_least n xs = grind (arith, take_all n xs, take_all (min n (length xs)) xs)

-- one more of the first items
pub take_next : {X : Type 0} (xs : List X) (i : ℕ) (x y : X) (before after : List X) → slice_get xs i ≡ Some x → before ≡ take i xs → y ≡ x → after ≡ before ++ y ∷ []
    → after ≡ take (i + 1) xs
take_next xs i x y before after is held same new =
    new ∙ ap (λ z. before ++ z ∷ []) (same ∙ sym (get_or_from_slice_get xs i x x is)) ∙ ap (λ zs. zs ++ get_or xs i x ∷ []) held ∙ sym (take_more xs i x (slice_get_within xs i x is))

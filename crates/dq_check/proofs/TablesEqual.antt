-- Tables are found equal exactly where they are.
use Rattle.std.proofs.Common.{◌≡◌, ℕ, zero, suc, Bool, true, false, ◌&&◌, List, [], ◌∷◌, refl, sym, ap, ◌∙◌, eq-eqb}
use Rattle.std.proofs.lemmas.Bool.{eqb-true}
use Rattle.std.proofs.lemmas.Cmp.{int_cmp_total, nat_list_cmp_total}
use Rattle.std.specs.Prelude.{ℤ, nat_eq}
use Rattle.std.specs.Cmp.{IsTotalOrder}
use Rattle.std.specs.Cmp.Lexicographic.{slice_cmp}
use Rattle.std.specs.FinMap.{int_cmp-IsAntisymmetric, nat_cmp-IsAntisymmetric, slice_cmp-IsAntisymmetric}
use Rattle.std.specs.Ordering.{int_cmp, is_eq, nat_cmp, ordering_reverse}
use Rattle.std.specs.declared.cmp.Ordering.{Ordering}
use Rattle.std.specs.declared.cmp.Ordering.TheVariants.{Less, Equal, Greater}
use Rattle.dq_base.specs.Blends.{cell_eq}
use Rattle.dq_base.specs.Ratios.{Fraction}
use Rattle.dq_base.specs.declared.cell.Cell.{Cell}
use Rattle.dq_base.specs.declared.cell.Cell.TheVariants.{Null, Whole, Word, Ratio}
use Rattle.dq_base.specs.declared.invalid.Invalid.{Invalid}
use Rattle.dq_base.specs.declared.invalid.Invalid.TheVariants as invalid
use Rattle.dq_check.specs.Forcing.{reason_eq, reason_place, rows_eq, tables_eq}

equal_of : (o : Ordering) → is_eq o ≡ true → o ≡ Equal
equal_of Less e = cc
equal_of Equal e = refl
equal_of Greater e = cc

of_equal : (o : Ordering) → o ≡ Equal → is_eq o ≡ true
of_equal Less e = cc
of_equal Equal e = refl
of_equal Greater e = cc

own_reverse : (o : Ordering) → o ≡ ordering_reverse o → is_eq o ≡ true
own_reverse Less e = cc
own_reverse Equal e = refl
own_reverse Greater e = cc

with_itself : {K : Type 0} (R : K → K → Ordering) → IsTotalOrder R → (x : K) → is_eq (R x x) ≡ true
with_itself R total x = own_reverse (R x x) (total.antisymm x x)

first_true : (a b : Bool) → (a && b) ≡ true → a ≡ true
first_true true b e = refl
first_true false b e = cc

second_true : (a b : Bool) → (a && b) ≡ true → b ≡ true
second_true true b e = e
second_true false b e = cc

both_true : (a b : Bool) → a ≡ true → b ≡ true → (a && b) ≡ true
both_true true b e f = f
both_true false b e f = cc

same_fraction : (a b : Fraction) → (is_eq (int_cmp a.sum b.sum) && nat_eq a.others b.others) ≡ true → a ≡ b
same_fraction a b e =
    let sums : a.sum ≡ b.sum = int_cmp-IsAntisymmetric a.sum b.sum (equal_of _ (first_true _ _ e)) in
    let counts : a.others ≡ b.others = eqb-true a.others b.others (second_true _ _ e) in
    let One : ℤ → Fraction = λ s. record { sum = s; others = a.others } in
    let Two : ℕ → Fraction = λ n. record { sum = b.sum; others = n } in
    ap One sums ∙ ap Two counts

same_cell : (a b : Cell) → cell_eq a b ≡ true → a ≡ b
same_cell Null Null e = refl
same_cell Null (Whole b) e = cc
same_cell Null (Word b) e = cc
same_cell Null (Ratio b) e = cc
same_cell (Whole a) Null e = cc
same_cell (Whole a) (Whole b) e = ap Whole (int_cmp-IsAntisymmetric a b (equal_of _ e))
same_cell (Whole a) (Word b) e = cc
same_cell (Whole a) (Ratio b) e = cc
same_cell (Word a) Null e = cc
same_cell (Word a) (Whole b) e = cc
same_cell (Word a) (Word b) e = ap Word (slice_cmp-IsAntisymmetric nat_cmp-IsAntisymmetric a b (equal_of _ e))
same_cell (Word a) (Ratio b) e = cc
same_cell (Ratio a) Null e = cc
same_cell (Ratio a) (Whole b) e = cc
same_cell (Ratio a) (Word b) e = cc
same_cell (Ratio a) (Ratio b) e = ap Ratio (same_fraction a b e)

cell_itself : (a : Cell) → cell_eq a a ≡ true
cell_itself Null = refl
cell_itself (Whole a) = with_itself int_cmp int_cmp_total a
cell_itself (Word a) = with_itself (slice_cmp nat_cmp) nat_list_cmp_total a
cell_itself (Ratio a) = both_true _ _ (with_itself int_cmp int_cmp_total a.sum) (eq-eqb a.others a.others refl)

same_row : (xs ys : List Cell) → rows_eq xs ys ≡ true → xs ≡ ys
same_row [] [] e = refl
same_row [] (y ∷ ys) e = cc
same_row (x ∷ xs) [] e = cc
same_row (x ∷ xs) (y ∷ ys) e =
    ap (λ c. c ∷ xs) (same_cell x y (first_true (cell_eq x y) (rows_eq xs ys) e)) ∙ ap (λ cs. y ∷ cs) (same_row xs ys (second_true (cell_eq x y) (rows_eq xs ys) e))

row_itself : (xs : List Cell) → rows_eq xs xs ≡ true
row_itself [] = refl
row_itself (x ∷ xs) = both_true (cell_eq x x) (rows_eq xs xs) (cell_itself x) (row_itself xs)

pub same_table : (xs ys : List (List Cell)) → tables_eq xs ys ≡ true → xs ≡ ys
same_table [] [] e = refl
same_table [] (y ∷ ys) e = cc
same_table (x ∷ xs) [] e = cc
same_table (x ∷ xs) (y ∷ ys) e =
    ap (λ c. c ∷ xs) (same_row x y (first_true (rows_eq x y) (tables_eq xs ys) e)) ∙ ap (λ cs. y ∷ cs) (same_table xs ys (second_true (rows_eq x y) (tables_eq xs ys) e))

table_itself : (xs : List (List Cell)) → tables_eq xs xs ≡ true
table_itself [] = refl
table_itself (x ∷ xs) = both_true (rows_eq x x) (tables_eq xs xs) (row_itself x) (table_itself xs)

pub table_found : (xs ys : List (List Cell)) → xs ≡ ys → tables_eq xs ys ≡ true
table_found xs ys e = let Same : List (List Cell) → Bool = λ zs. tables_eq xs zs in sym (ap Same e) ∙ table_itself xs

reason_at : ℕ → Invalid
reason_at n = elim n [
  | zero ↦ invalid.Source
  | suc n ↦ elim n [
    | zero ↦ invalid.Column
    | suc n ↦ elim n [
      | zero ↦ invalid.RepeatedDim
      | suc n ↦ elim n [
        | zero ↦ invalid.WrongSort
        | suc n ↦ elim n [ zero ↦ invalid.NothingShown | suc n ↦ elim n [ zero ↦ invalid.OrderKey | suc n ↦ invalid.TooLong ] ]
      ]
    ]
  ]
]

reason_back : (r : Invalid) → reason_at (reason_place r) ≡ r
unfolding reason_at
reason_back invalid.Source = refl
reason_back invalid.Column = refl
reason_back invalid.RepeatedDim = refl
reason_back invalid.WrongSort = refl
reason_back invalid.NothingShown = refl
reason_back invalid.OrderKey = refl
reason_back invalid.TooLong = refl

pub same_reason : (a b : Invalid) → reason_eq a b ≡ true → a ≡ b
same_reason a b e = sym (reason_back a) ∙ ap reason_at (eqb-true (reason_place a) (reason_place b) e) ∙ reason_back b

pub reason_found : (a b : Invalid) → a ≡ b → reason_eq a b ≡ true
reason_found a b e = eq-eqb (reason_place a) (reason_place b) (ap reason_place e)

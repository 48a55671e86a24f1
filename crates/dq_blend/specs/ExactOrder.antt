-- The exact order of cells is total.
use Rattle.std.specs.Prelude.{◌≡◌, ℕ, ℤ, pos, List, [], refl}
use Rattle.std.specs.declared.cmp.Ordering.{Ordering}
use Rattle.std.specs.declared.cmp.Ordering.TheVariants.{Less, Equal, Greater}
use Rattle.std.specs.Ordering.{nat_cmp, int_cmp, ordering_reverse, ordering_then, on, then_cmp}
use Rattle.std.specs.Cmp.{IsTotalOrder}
use Rattle.std.specs.Cmp.Lexicographic.{slice_cmp}
use Rattle.std.proofs.Common.{ap, sym, ◌∙◌}
use Rattle.std.proofs.lemmas.Cmp.{nat_cmp_total, int_cmp_total, nat_list_cmp_total, on_total, then_total}
use Rattle.dq_base.specs.Ratios.{count_of}
use Rattle.dq_base.specs.declared.cell.Cell.{Cell}
use Rattle.dq_base.specs.declared.cell.Cell.TheVariants.{Null, Whole, Word, Ratio}
use Rattle.dq_blend.specs.Exact.{exact_cmp}

-- what a cell consists of: its kind, a number, a text and a count

kind_of : Cell → ℕ
kind_of Null = 0
kind_of (Whole a) = 1
kind_of (Word a) = 2
kind_of (Ratio a) = 3

number_in : Cell → ℤ
number_in Null = pos 0
number_in (Whole a) = a
number_in (Word a) = pos 0
number_in (Ratio a) = a.sum

text_in : Cell → List ℕ
text_in Null = []
text_in (Whole a) = []
text_in (Word a) = a
text_in (Ratio a) = []

count_in : Cell → ℕ
count_in Null = 0
count_in (Whole a) = 0
count_in (Word a) = 0
count_in (Ratio a) = count_of a

by_parts : Cell → Cell → Ordering
by_parts = then_cmp (on kind_of nat_cmp) (then_cmp (on number_in int_cmp) (then_cmp (on text_in (slice_cmp nat_cmp)) (on count_in nat_cmp)))

by_parts_total : IsTotalOrder by_parts
unfolding by_parts
by_parts_total = then_total (on_total kind_of nat_cmp_total) (then_total (on_total number_in int_cmp_total) (then_total (on_total text_in nat_list_cmp_total) (on_total count_in nat_cmp_total)))

then_nothing : (o : Ordering) → o ≡ ordering_then o Equal
then_nothing Less = refl
then_nothing Equal = refl
then_nothing Greater = refl

parts : (a b : Cell) → exact_cmp a b ≡ by_parts a b
unfolding by_parts kind_of number_in text_in count_in
parts Null Null = refl
parts Null (Whole b) = refl
parts Null (Word b) = refl
parts Null (Ratio b) = refl
parts (Whole a) Null = refl
parts (Whole a) (Whole b) = then_nothing (int_cmp a b)
parts (Whole a) (Word b) = refl
parts (Whole a) (Ratio b) = refl
parts (Word a) Null = refl
parts (Word a) (Whole b) = refl
parts (Word a) (Word b) = then_nothing (slice_cmp nat_cmp a b)
parts (Word a) (Ratio b) = refl
parts (Ratio a) Null = refl
parts (Ratio a) (Whole b) = refl
parts (Ratio a) (Word b) = refl
parts (Ratio a) (Ratio b) = refl

pub exact_cmp_total : IsTotalOrder exact_cmp
exact_cmp_total =
    record {
      antisymm = λ x y. parts x y ∙ by_parts_total.antisymm x y ∙ ap ordering_reverse (sym (parts y x));
      trans = λ x y z p q. parts x z ∙ by_parts_total.trans x y z (sym (parts x y) ∙ p) (sym (parts y z) ∙ q);
      congr = λ x y z p. parts x z ∙ by_parts_total.congr x y z (sym (parts x y) ∙ p) ∙ sym (parts y z);
    }

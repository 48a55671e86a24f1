-- An order of cells in which only equal cells tie.
use Rattle.std.specs.Prelude.{List}
use Rattle.std.specs.declared.cmp.Ordering.{Ordering}
use Rattle.std.specs.declared.cmp.Ordering.TheVariants.{Less, Equal, Greater}
use Rattle.std.specs.Ordering.{nat_cmp, int_cmp, ordering_then}
use Rattle.std.specs.Cmp.Lexicographic.{slice_cmp}
use Rattle.dq_base.specs.Ratios.{Fraction, count_of}
use Rattle.dq_base.specs.declared.cell.Cell.{Cell}
use Rattle.dq_base.specs.declared.cell.Cell.TheVariants.{Null, Whole, Word, Ratio}

-- by the sum, and then by the count: 1/2 is not 2/4
abbrev pub fraction_cmp : Fraction → Fraction → Ordering
fraction_cmp a b = ordering_then (int_cmp a.sum b.sum) (nat_cmp (count_of a) (count_of b))

-- null, then whole numbers, then texts, then ratios
abbrev pub exact_cmp : Cell → Cell → Ordering
exact_cmp Null Null = Equal
exact_cmp Null (Whole b) = Less
exact_cmp Null (Word b) = Less
exact_cmp Null (Ratio b) = Less
exact_cmp (Whole a) Null = Greater
exact_cmp (Whole a) (Whole b) = int_cmp a b
exact_cmp (Whole a) (Word b) = Less
exact_cmp (Whole a) (Ratio b) = Less
exact_cmp (Word a) Null = Greater
exact_cmp (Word a) (Whole b) = Greater
exact_cmp (Word a) (Word b) = slice_cmp nat_cmp a b
exact_cmp (Word a) (Ratio b) = Less
exact_cmp (Ratio a) Null = Greater
exact_cmp (Ratio a) (Whole b) = Greater
exact_cmp (Ratio a) (Word b) = Greater
exact_cmp (Ratio a) (Ratio b) = fraction_cmp a b

-- keys cell by cell
abbrev pub cells_cmp : List Cell → List Cell → Ordering
cells_cmp = slice_cmp exact_cmp

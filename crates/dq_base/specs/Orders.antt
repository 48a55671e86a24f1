-- The order of values and of cells.
use Rattle.std.specs.Prelude.{◌*ℤ◌, pos, List}
use Rattle.std.specs.declared.cmp.Ordering.{Ordering}
use Rattle.std.specs.declared.cmp.Ordering.TheVariants.{Less, Equal, Greater}
use Rattle.std.specs.Ordering.{nat_cmp, int_cmp}
use Rattle.std.specs.Cmp.Lexicographic.{slice_cmp}
use Rattle.dq_base.specs.Ratios.{Fraction, count_of}
use Rattle.dq_base.specs.declared.value.Value.{Value}
use Rattle.dq_base.specs.declared.value.Value.TheVariants as value
use Rattle.dq_base.specs.declared.cell.Cell.{Cell}
use Rattle.dq_base.specs.declared.cell.Cell.TheVariants as cell

-- null, then whole numbers by value, then texts by their bytes
abbrev pub value_cmp : Value → Value → Ordering
value_cmp value.Null value.Null = Equal
value_cmp value.Null (value.Int b) = Less
value_cmp value.Null (value.Word b) = Less
value_cmp (value.Int a) value.Null = Greater
value_cmp (value.Int a) (value.Int b) = int_cmp a b
value_cmp (value.Int a) (value.Word b) = Less
value_cmp (value.Word a) value.Null = Greater
value_cmp (value.Word a) (value.Int b) = Greater
value_cmp (value.Word a) (value.Word b) = slice_cmp nat_cmp a b

-- keys item by item
abbrev pub key_cmp : List Value → List Value → Ordering
key_cmp = slice_cmp value_cmp

-- by cross multiplication
abbrev pub ratio_cmp : Fraction → Fraction → Ordering
ratio_cmp a b = int_cmp (a.sum *ℤ pos (count_of b)) (b.sum *ℤ pos (count_of a))

-- null, then whole numbers, then texts, then ratios
abbrev pub cell_cmp : Cell → Cell → Ordering
cell_cmp cell.Null cell.Null = Equal
cell_cmp cell.Null (cell.Whole b) = Less
cell_cmp cell.Null (cell.Word b) = Less
cell_cmp cell.Null (cell.Ratio b) = Less
cell_cmp (cell.Whole a) cell.Null = Greater
cell_cmp (cell.Whole a) (cell.Whole b) = int_cmp a b
cell_cmp (cell.Whole a) (cell.Word b) = Less
cell_cmp (cell.Whole a) (cell.Ratio b) = Less
cell_cmp (cell.Word a) cell.Null = Greater
cell_cmp (cell.Word a) (cell.Whole b) = Greater
cell_cmp (cell.Word a) (cell.Word b) = slice_cmp nat_cmp a b
cell_cmp (cell.Word a) (cell.Ratio b) = Less
cell_cmp (cell.Ratio a) cell.Null = Greater
cell_cmp (cell.Ratio a) (cell.Whole b) = Greater
cell_cmp (cell.Ratio a) (cell.Word b) = Greater
cell_cmp (cell.Ratio a) (cell.Ratio b) = ratio_cmp a b

-- Readings of tables.
use Rattle.std.proofs.Common.{ℕ, List, [], ◌∷◌, flat_map, length-append, refl, arith}
use Rattle.dq_base.specs.Spelling.{Bytes}
use Rattle.dq_base.specs.declared.cell.Cell.{Cell}
use Rattle.dq_report.specs.Report.{cells_text, row_text}
use Rattle.dq_parse.specs.Sizes.{IsSizedRow}
use Rattle.dq_parse.proofs.Counted.{Lists}

-- what is told of no number is told of each
abbrev pub rows_from : ℕ → List (List Cell) → Bytes
rows_from k rows = flat_map row_text rows

abbrev pub row_at : ℕ → List Cell → Bytes
row_at k row = row_text row

pub rows_list : Lists IsSizedRow rows_from row_at
rows_list = record { none = λ k. refl; more = λ k x xs. refl; some = λ k x p. omega (arith, length-append (cells_text x) (10 ∷ [])) }

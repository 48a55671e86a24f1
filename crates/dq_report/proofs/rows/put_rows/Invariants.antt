use Rattle.std.proofs.Common.{◌≡◌, ◌++◌, take}
use Rattle.std.specs.List.{flat_map}
use Rattle.dq_report.specs.Report as form
use Rattle.dq_report.proofs.rows.put_rows.Given as goal

abbrev pub invariant-loop-row : goal.invariant-loop-row
invariant-loop-row l = l.text ≡ l.initial.text ++ flat_map form.row_text (take l.row-index l.rows)

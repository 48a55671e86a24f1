use Rattle.std.proofs.Common.{◌≡◌, ◌++◌, drop}
use Rattle.dq_base.specs.Sessions.{visible}
use Rattle.dq_shield.proofs.seeing.copy_visible.Given as goal

abbrev pub invariant-loop-row : goal.invariant-loop-row
invariant-loop-row l = l.copies ++ visible l.filters (drop l.row-index l.rows) ≡ l.fn.copies ++ visible l.filters l.rows

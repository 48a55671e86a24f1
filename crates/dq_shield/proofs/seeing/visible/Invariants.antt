use Rattle.std.proofs.Common.{◌≡◌, take}
use Rattle.dq_base.specs.Sessions.{visible}
use Rattle.dq_extract.specs.Segments.{rows_in}
use Rattle.dq_shield.proofs.seeing.visible.Given as goal

abbrev pub invariant-loop-place : goal.invariant-loop-place
invariant-loop-place l = l.rows ≡ visible l.filters (rows_in (take l.place l.segments))

use Rattle.std.proofs.Common.{◌≤◌, length}
use Rattle.dq_shown.specs.Showing.{LeadFrom}
use Rattle.dq_shown.proofs.starts.starts_of.Given as goal

abbrev pub invariant-loop-place : goal.invariant-loop-place
invariant-loop-place l = (l.place ≤ length l.blends) × LeadFrom l.place l.blends l.starts.entries

abbrev pub decreases-loop-place : goal.decreases-loop-place
decreases-loop-place l = l.place

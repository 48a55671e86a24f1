use Rattle.std.proofs.Common.{◌≡◌, ◌≤◌, ℕ, get_or, vec_len}
use Rattle.dq_machine.proofs.versions.widen.Given as goal

abbrev pub invariant-loop-place : goal.invariant-loop-place
invariant-loop-place l = ((k : ℕ) → get_or l.latest.items k 0 ≡ get_or l.initial.latest.items k 0) × (l.place ≤ vec_len l.latest)

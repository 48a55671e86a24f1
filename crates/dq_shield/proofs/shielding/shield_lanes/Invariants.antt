use Rattle.std.proofs.Common.{◌≡◌, ◌++◌, take, drop, length}
use Rattle.dq_base.specs.Sessions.{shielded_lanes}
use Rattle.dq_shield.proofs.shielding.shield_lanes.Given as goal

abbrev pub invariant-loop-place : goal.invariant-loop-place
invariant-loop-place l = (l.lanes ≡ shielded_lanes l.sessions 1 (take l.place l.fn.lanes) ++ drop l.place l.fn.lanes) × (l.place-end ≡ length l.fn.lanes)

use Rattle.std.proofs.Common.{◌≡◌, ◌++◌, map, drop}
use Rattle.dq_shield.specs.Own.{sessions_of}
use Rattle.dq_shield.proofs.shielding.own_of.Given as goal

abbrev pub invariant-loop-session : goal.invariant-loop-session
invariant-loop-session l = (map (λ s. s.now) l.own.items ++ sessions_of l.lane (drop l.session-index l.sessions) ≡ sessions_of l.lane l.sessions) × (l.session-items ≡ l.sessions)

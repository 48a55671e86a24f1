use Rattle.std.proofs.Common.{drop, map}
use Rattle.std.specs.Prelude.{nat_le}
use Rattle.dq_script.proofs.Tallied.{RestSo}
use Rattle.dq_script.specs.Scripts.{session_with}
use Rattle.dq_script.proofs.making.make_sessions.Given as goal

abbrev pub invariant-loop-session : goal.invariant-loop-session
invariant-loop-session l = RestSo session_with (λ s. nat_le s.lane 64) (map session_with l.sessions) l.made (drop l.session-index l.sessions)

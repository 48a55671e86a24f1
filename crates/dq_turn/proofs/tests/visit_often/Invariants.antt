use Rattle.std.proofs.Common.{◌≡◌, None}
use Rattle.dq_turn.specs.Seen.{IsSeatOf, lane, entered}
use Rattle.dq_turn.proofs.tests.visit_often.Given as goal

abbrev pub invariant-loop : goal.invariant-loop
invariant-loop g l = IsSeatOf l.turnstile l.seat × (entered l.seat ≡ None) × (lane l.seat ≡ l.number)

use Rattle.std.proofs.Common.{◌≡◌, ◌++◌, drop, map}
use Rattle.std.specs.List.{enumerate_from}
use Rattle.dq_machine.specs.Admitting.{number_in}
use Rattle.dq_machine.proofs.meeting.miss_numbers.Given as goal

abbrev pub invariant-loop-place : goal.invariant-loop-place
invariant-loop-place l =
    map (λ p. number_in l.first l.groups p.0) (enumerate_from 0 l.misses) ≡ l.numbers ++ map (λ p. number_in l.first l.groups p.0) (enumerate_from l.place (drop l.place l.misses))

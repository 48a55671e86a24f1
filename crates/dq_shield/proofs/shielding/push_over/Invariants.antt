use Rattle.std.proofs.Common.{◌≡◌, ◌++◌, map, drop}
use Rattle.dq_shield.specs.Own.{filters_over}
use Rattle.dq_shield.proofs.shielding.push_over.Given as goal

abbrev pub invariant-loop-session : goal.invariant-loop-session
invariant-loop-session l = l.filters ++ filters_over l.source (map (λ s. s.now) (drop l.session-index l.own)) ≡ l.fn.filters ++ filters_over l.source (map (λ s. s.now) l.own)

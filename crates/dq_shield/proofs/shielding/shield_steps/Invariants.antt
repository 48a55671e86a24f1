use Rattle.std.proofs.Common.{◌≡◌, ◌++◌, map, take, drop, length}
use Rattle.dq_shield.specs.Own.{step_with}
use Rattle.dq_shield.proofs.shielding.shield_steps.Given as goal

abbrev pub invariant-loop-place : goal.invariant-loop-place
invariant-loop-place l =
    (l.steps ≡ map (step_with (map (λ s. s.now) l.own)) (take l.place l.fn.steps) ++ drop l.place l.fn.steps) × (l.place-end ≡ length l.fn.steps)

use Rattle.std.proofs.Common.{◌≡◌, ◌++◌, map, take, drop, length}
use Rattle.dq_shield.specs.Own.{zone_with}
use Rattle.dq_shield.proofs.shielding.shield_zones.Given as goal

abbrev pub invariant-loop-place : goal.invariant-loop-place
invariant-loop-place l =
    (l.zones ≡ map (zone_with (map (λ s. s.now) l.own)) (take l.place l.fn.zones) ++ drop l.place l.fn.zones) × (l.place-end ≡ length l.fn.zones)

use Rattle.std.proofs.Common.{◌≡◌, ◌+◌, drop, nat_eq}
use Rattle.std.specs.List.{position_or_len}
use Rattle.dq_cache.proofs.shelf.place_of.Given as goal

abbrev pub invariant-loop-place : goal.invariant-loop-place
invariant-loop-place l = position_or_len (nat_eq l.number) l.numbers ≡ l.place + position_or_len (nat_eq l.number) (drop l.place l.numbers)

use Rattle.std.proofs.Common.{◌≡◌, take}
use Rattle.dq_blend.specs.Places.{AreFirst}
use Rattle.dq_blend.proofs.places.places_of.Given as goal

abbrev pub invariant-loop-place : goal.invariant-loop-place
invariant-loop-place l = AreFirst l.count (take l.place l.table) l.places.entries × (l.row-items ≡ l.table)

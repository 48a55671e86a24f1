use Rattle.std.proofs.Common.{◌≡◌, map}
use Rattle.dq_base.specs.Sets.{set_of}
use Rattle.dq_column.specs.Stored.{code_below, text_cmp}
use Rattle.dq_column.proofs.ranks.places_of.Given as goal

abbrev pub invariant-loop-place : goal.invariant-loop-place
invariant-loop-place l = l.places ≡ map (code_below (set_of text_cmp l.arrivals) l.place) l.arrivals

use Rattle.std.proofs.Common.{◌≡◌, drop}
use Rattle.dq_script.specs.Reasons.{found_in}
use Rattle.dq_script.proofs.finds.found_in.Given as goal

abbrev pub invariant-loop-place : goal.invariant-loop-place
invariant-loop-place g l = found_in (g.S.Strays.stray l.finder) 0 l.items ≡ found_in (g.S.Strays.stray l.finder) l.place (drop l.place l.items)

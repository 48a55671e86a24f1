use Rattle.std.proofs.Common.{◌≡◌, drop}
use Rattle.dq_script.specs.Reasons.{first_in}
use Rattle.dq_script.proofs.finds.first_in.Given as goal

abbrev pub invariant-loop-item : goal.invariant-loop-item
invariant-loop-item g l = first_in (g.F.Finds.found l.finder) l.items ≡ first_in (g.F.Finds.found l.finder) (drop l.item-index l.items)

use Rattle.std.proofs.Common.{take}
use Rattle.std.specs.List.{AllByRecursion}
use Rattle.dq_text.specs.Sizes.{IsSizedKey}
use Rattle.dq_text.proofs.sizes.fit_keys.Given as goal

abbrev pub invariant-loop-key : goal.invariant-loop-key
invariant-loop-key l = AllByRecursion IsSizedKey (take l.key-index l.keys)

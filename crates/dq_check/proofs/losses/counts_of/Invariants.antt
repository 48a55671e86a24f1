use Rattle.std.proofs.Common.{◌≡◌, ℕ, take, nat_eq}
use Rattle.std.specs.BTreeMap.{get}
use Rattle.std.specs.List.{count_by}
use Rattle.std.specs.Ordering.{nat_cmp}
use Rattle.std.specs.Prelude.{unwrap_or}
use Rattle.dq_check.proofs.losses.counts_of.Given as goal

abbrev pub invariant-loop-number : goal.invariant-loop-number
invariant-loop-number l = (q : ℕ) → unwrap_or (get nat_cmp l.counts q) 0 ≡ count_by (λ n. nat_eq n q) (take l.number-index l.numbers)

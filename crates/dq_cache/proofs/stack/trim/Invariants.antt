use Rattle.std.proofs.Common.{◌≡◌, ℕ, length}
use Rattle.std.specs.Map.{values_of}
use Rattle.dq_cache.specs.Entries.{trimmed}
use Rattle.dq_cache.specs.Stacks.{IsStack, all_below}
use Rattle.dq_cache.proofs.stack.trim.Given as goal

abbrev pub invariant-loop-bound : goal.invariant-loop-bound
invariant-loop-bound g l = record {
  stack : IsStack g.T.Held.entry l.cache l.total;
  below : (m : ℕ) → all_below m l.initial.cache.entries → all_below m l.cache.entries;
  list : trimmed (λ e. (g.T.Held.entry e).weight) l.bound (values_of l.cache.entries) ≡ trimmed (λ e. (g.T.Held.entry e).weight) l.bound (values_of l.initial.cache.entries);
}

abbrev pub decreases-loop-bound : goal.decreases-loop-bound
decreases-loop-bound g l = length l.cache.entries

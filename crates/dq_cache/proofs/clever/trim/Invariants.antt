use Rattle.std.proofs.Common.{◌≡◌, ℕ, length}
use Rattle.std.specs.Map.{values_of}
use Rattle.dq_cache.specs.Entries.{EntryOf, trimmed}
use Rattle.dq_cache.specs.Shelves.{IsIndex}
use Rattle.dq_cache.specs.Stacks.{IsStack, all_below}
use Rattle.dq_cache.proofs.clever.trim.Given as goal

abbrev pub invariant-loop-bound : goal.invariant-loop-bound
invariant-loop-bound l = record {
  stack : IsStack (λ (e : EntryOf). e) l.cache l.total;
  below : (m : ℕ) → all_below m l.initial.cache.entries → all_below m l.cache.entries;
  indexed : IsIndex l.index l.cache.entries;
  list : trimmed (λ (e : EntryOf). e.weight) l.bound (values_of l.cache.entries) ≡ trimmed (λ (e : EntryOf). e.weight) l.bound (values_of l.initial.cache.entries);
}

abbrev pub decreases-loop-bound : goal.decreases-loop-bound
decreases-loop-bound l = length l.cache.entries

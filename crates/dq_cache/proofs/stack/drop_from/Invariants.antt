use Rattle.std.proofs.Common.{◌≡◌, ◌-◌, length, not}
use Rattle.dq_cache.specs.Entries.{is_of}
use Rattle.dq_cache.specs.Stacks.{IsStack}
use Rattle.dq_cache.proofs.Rotated.{rotated}
use Rattle.dq_cache.proofs.stack.drop_from.Given as goal

abbrev pub invariant-loop : goal.invariant-loop
invariant-loop g l = record {
  stack : IsStack g.T.Held.entry l.cache l.total;
  end : l.end ≡ length l.initial.cache.entries;
  list : l.cache.entries ≡ rotated (λ e. not (is_of l.source (g.T.Held.entry e.1))) l.initial.cache.entries (l.end - l.counter);
}

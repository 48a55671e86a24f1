use Rattle.std.proofs.Common.{◌≡◌}
use Rattle.dq_cache.specs.Entries.{has_body}
use Rattle.dq_cache.specs.Stacks.{number_in}
use Rattle.dq_cache.proofs.literal.number_of.Given as goal

abbrev pub invariant-loop-number : goal.invariant-loop-number
invariant-loop-number l =
    (goal.iterator-loop-number).can_next l.number-iterator
    × (goal.iterator-loop-number).is_finite l.number-iterator
    × (number_in (has_body l.stamp l.body) l.cache.entries ≡ number_in (has_body l.stamp l.body) l.number-iterator)

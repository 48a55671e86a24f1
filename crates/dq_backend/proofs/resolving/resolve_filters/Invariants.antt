use Rattle.std.proofs.Common.{◌≡◌, drop}
use Rattle.dq_link.specs.Pairs.{lookup}
use Rattle.dq_text.specs.Said.{resolved_filters}
use Rattle.dq_backend.proofs.Resolved.{ahead}
use Rattle.dq_backend.proofs.resolving.resolve_filters.Given as goal

abbrev pub invariant-loop-filter : goal.invariant-loop-filter
invariant-loop-filter l = resolved_filters (lookup l.tables) l.filters ≡ ahead l.resolved (resolved_filters (lookup l.tables) (drop l.filter-index l.filters))

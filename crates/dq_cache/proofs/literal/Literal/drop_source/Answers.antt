use Rattle.std.proofs.Common.{ap, ◌∙◌, not}
use Rattle.std.specs.Map.{values_of}
use Rattle.dq_cache.specs.Entries.{is_of, BodiedOf}
use Rattle.dq_cache.proofs.Trimmed.{values_filtered}
use Rattle.dq_cache.proofs.literal.Literal.drop_source.Goals as goal

pub invariant_of-self : goal.invariant_of-self
invariant_of-self c = record { stack = c.drop_from.ensures.stack; below = c.drop_from.ensures.below _ c.self.invariant.below }

pub returns-clause-entries : goal.returns-clause-entries
returns-clause-entries c = rw (← c.self.view_is) (ap values_of c.drop_from.ensures.list ∙ values_filtered (λ (e : BodiedOf). not (is_of c.args.source e.entry)) c.self.inside.cache.entries)

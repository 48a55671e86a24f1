use Rattle.std.proofs.Common.{ap, ◌∙◌, sym, not, filter}
use Rattle.std.specs.Map.{values_of}
use Rattle.dq_cache.specs.Entries.{is_of, EntryOf}
use Rattle.dq_cache.proofs.Looked.{index_along}
use Rattle.dq_cache.proofs.Shelving.{Numbered}
use Rattle.dq_cache.proofs.Trimmed.{values_filtered}
use Rattle.dq_cache.proofs.clever.Clever.drop_source.Goals as goal

pub invariant_of-self : goal.invariant_of-self
invariant_of-self c =
    let es = c.self.inside.cache.entries in
    record {
      stack = c.drop_from.ensures.stack;
      below = c.drop_from.ensures.below _ c.self.invariant.below;
      indexed = index_along c.drop_shelves.new.index (filter (λ (e : Numbered). not (is_of c.args.source e.1)) es) c.drop_from.new.cache.entries (sym c.drop_from.ensures.list)
          (c.drop_shelves.ensures es c.self.invariant.indexed);
    }

pub returns-clause-entries : goal.returns-clause-entries
returns-clause-entries c = rw (← c.self.view_is) (ap values_of c.drop_from.ensures.list ∙ values_filtered (λ (e : EntryOf). not (is_of c.args.source e)) c.self.inside.cache.entries)

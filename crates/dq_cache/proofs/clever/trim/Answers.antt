use Rattle.std.proofs.Common.{ap, ◌∙◌, sym, List}
use Rattle.std.specs.Map.{values_of}
use Rattle.dq_cache.specs.Entries.{EntryOf, trimmed}
use Rattle.dq_cache.proofs.Trimmed.{trimmed_over, trimmed_within, weights, sum_weights, length_weights, values_before, over_shorter}
use Rattle.dq_cache.proofs.clever.trim.Goals as goal

pub returns-clause-list : goal.returns-clause-list
returns-clause-list c =
    let es = c.loop-bound.cache.entries in
    let within = sym (c.is_beyond.ensures (weights (λ (e : EntryOf). e) es) (c.len.ensures.len ∙ length_weights (λ (e : EntryOf). e) es) (c.loop-bound.invariant.stack.total_is ∙ sum_weights (λ (e : EntryOf). e) es)) ∙ c.loop-bound-test.false in
    sym (trimmed_within (λ (e : EntryOf). e.weight) c.args.bound (values_of es) within) ∙ c.loop-bound.invariant.list

pub loop-bound-preserved : goal.loop-bound-preserved
loop-bound-preserved c =
    let es = c.loop-bound.cache.entries in
    let over = sym (c.is_beyond.ensures (weights (λ (e : EntryOf). e) es) (c.len.ensures.len ∙ length_weights (λ (e : EntryOf). e) es) (c.loop-bound.invariant.stack.total_is ∙ sum_weights (λ (e : EntryOf). e) es)) ∙ c.loop-bound-test.true in
    record {
      stack = c.drop_last.ensures.stack;
      below = λ m a. c.drop_last.ensures.below m (c.loop-bound.invariant.below m a);
      indexed = c.drop_last.ensures.indexed;
      list = ap (λ (xs : List EntryOf). trimmed (λ (e : EntryOf). e.weight) c.args.bound xs) (ap values_of c.drop_last.ensures.list ∙ values_before es)
          ∙ sym (trimmed_over (λ (e : EntryOf). e.weight) c.args.bound (values_of es) over) ∙ c.loop-bound.invariant.list;
    }

pub loop-bound-smaller : goal.loop-bound-smaller
loop-bound-smaller c =
    let es = c.loop-bound.cache.entries in
    let over = sym (c.is_beyond.ensures (weights (λ (e : EntryOf). e) es) (c.len.ensures.len ∙ length_weights (λ (e : EntryOf). e) es) (c.loop-bound.invariant.stack.total_is ∙ sum_weights (λ (e : EntryOf). e) es)) ∙ c.loop-bound-test.true in
    rw c.drop_last.ensures.list (over_shorter (λ (e : EntryOf). e) c.args.bound es over)

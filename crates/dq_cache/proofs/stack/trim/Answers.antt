use Rattle.std.proofs.Common.{ap, ◌∙◌, sym, List}
use Rattle.std.specs.Map.{values_of}
use Rattle.dq_cache.specs.Entries.{trimmed}
use Rattle.dq_cache.proofs.Trimmed.{trimmed_over, trimmed_within, weights, sum_weights, length_weights, values_before, over_shorter}
use Rattle.dq_cache.proofs.stack.trim.Goals as goal

pub returns-clause-list : goal.returns-clause-list
returns-clause-list g c =
    let entry = g.T.Held.entry in
    let es = c.loop-bound.cache.entries in
    let within = sym (c.is_beyond.ensures (weights entry es) (c.len.ensures.len ∙ length_weights entry es) (c.loop-bound.invariant.stack.total_is ∙ sum_weights entry es)) ∙ c.loop-bound-test.false in
    sym (trimmed_within (λ e. (entry e).weight) c.args.bound (values_of es) within) ∙ c.loop-bound.invariant.list

pub loop-bound-preserved : goal.loop-bound-preserved
loop-bound-preserved g c =
    let entry = g.T.Held.entry in
    let es = c.loop-bound.cache.entries in
    let over = sym (c.is_beyond.ensures (weights entry es) (c.len.ensures.len ∙ length_weights entry es) (c.loop-bound.invariant.stack.total_is ∙ sum_weights entry es)) ∙ c.loop-bound-test.true in
    record {
      stack = c.pop_last.ensures.stack;
      below = λ m a. c.pop_last.ensures.below m (c.loop-bound.invariant.below m a);
      list = ap (λ (xs : List g.row.T.Denot). trimmed (λ e. (entry e).weight) c.args.bound xs) (ap values_of c.pop_last.ensures.list ∙ values_before es)
          ∙ sym (trimmed_over (λ e. (entry e).weight) c.args.bound (values_of es) over) ∙ c.loop-bound.invariant.list;
    }

pub loop-bound-smaller : goal.loop-bound-smaller
loop-bound-smaller g c =
    let entry = g.T.Held.entry in
    let es = c.loop-bound.cache.entries in
    let over = sym (c.is_beyond.ensures (weights entry es) (c.len.ensures.len ∙ length_weights entry es) (c.loop-bound.invariant.stack.total_is ∙ sum_weights entry es)) ∙ c.loop-bound-test.true in
    rw c.pop_last.ensures.list (over_shorter entry c.args.bound es over)

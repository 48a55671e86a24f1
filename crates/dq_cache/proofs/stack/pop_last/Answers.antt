use Rattle.std.proofs.Common.{◌≡◌, ◌-◌, ap, ◌∙◌, sym, arith, Some, length}
use Rattle.std.specs.Prelude.{slice_get}
use Rattle.dq_cache.specs.Entries.{EntryOf}
use Rattle.dq_cache.proofs.Numbers.{below_taken}
use Rattle.dq_cache.proofs.Stacked.{popped_stack}
use Rattle.dq_cache.proofs.Totals.{total_last}
use Rattle.dq_cache.proofs.stack.pop_last.Goals as goal

pub overflow_sub-total : goal.overflow_sub-total
overflow_sub-total g c =
    let entry = g.T.Held.entry in
    let w = c.from.ensures ∙ c.weight.ensures ∙ ap (λ (e : EntryOf). e.weight) c.entry.ensures in
    let es = c.args.cache.now.entries in
    let at : slice_get es (length es - 1) ≡ Some c.in_ok-last.last = sym c.in_ok-last.ensures.value in
    omega (arith, w, c.requires.stack.total_is, total_last entry es c.in_ok-last.last at)

pub returns-clause-stack : goal.returns-clause-stack
returns-clause-stack g c =
    let entry = g.T.Held.entry in
    let w = c.from.ensures ∙ c.weight.ensures ∙ ap (λ (e : EntryOf). e.weight) c.entry.ensures in
    let es = c.args.cache.now.entries in
    let at : slice_get es (length es - 1) ≡ Some c.in_ok-last.last = sym c.in_ok-last.ensures.value in
    rw w (popped_stack entry c.args.total.now c.in_ok-last.last c.args.cache.now c.pop_lru.new.self c.requires.stack at c.pop_lru.ensures.entries)

pub returns-clause-below : goal.returns-clause-below
returns-clause-below g c = λ m a.
    let es = c.args.cache.now.entries in
    rw c.pop_lru.ensures.entries (below_taken m (length es - 1) es a)

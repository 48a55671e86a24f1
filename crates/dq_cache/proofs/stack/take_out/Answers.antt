use Rattle.std.proofs.Common.{◌≡◌, ap, ◌∙◌, sym, arith, Some, eqb}
use Rattle.std.specs.Map.{lookup}
use Rattle.dq_cache.specs.Entries.{EntryOf}
use Rattle.dq_cache.proofs.Numbers.{below_removed}
use Rattle.dq_cache.proofs.Stacked.{taken_stack}
use Rattle.dq_cache.proofs.Totals.{total_removed}
use Rattle.dq_cache.proofs.stack.take_out.Goals as goal

pub overflow_sub-total : goal.overflow_sub-total
overflow_sub-total g c =
    let found : lookup (eqb c.args.number) c.args.cache.now.entries ≡ Some c.in-Some.held = sym c.in-Some.ensures.value in
    let w = c.from.ensures ∙ c.weight.ensures ∙ ap (λ (e : EntryOf). e.weight) c.entry.ensures in
    omega (arith, w, c.requires.stack.total_is, total_removed g.T.Held.entry (eqb c.args.number) c.args.cache.now.entries c.in-Some.held found)

pub returns-in-Some-clause-stack : goal.returns-in-Some-clause-stack
returns-in-Some-clause-stack g c =
    let found : lookup (eqb c.args.number) c.args.cache.now.entries ≡ Some c.in-Some.held = sym c.in-Some.ensures.value in
    let w = c.from.ensures ∙ c.weight.ensures ∙ ap (λ (e : EntryOf). e.weight) c.entry.ensures in
    rw w (taken_stack g.T.Held.entry c.args.number c.args.total.now c.in-Some.held c.args.cache.now c.pop.new.self c.requires.stack found c.pop.ensures.entries)

pub returns-in-Some-clause-below : goal.returns-in-Some-clause-below
returns-in-Some-clause-below g c = λ m a. rw c.pop.ensures.entries (below_removed m (eqb c.args.number) c.args.cache.now.entries a)

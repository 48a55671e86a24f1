use Rattle.std.proofs.Common.{◌≡◌, ap, ◌∙◌, sym, arith, Some, is_some, eqb, ℕ}
use Rattle.std.specs.Map.{lookup}
use Rattle.lru.specs.LruCache.{LruCache, lru_cache, put_entries}
use Rattle.dq_cache.specs.Entries.{EntryOf}
use Rattle.dq_cache.proofs.Numbers.{below_removed}
use Rattle.dq_cache.proofs.Stacked.{replaced_list, replaced_stack}
use Rattle.dq_cache.proofs.Totals.{total_small, total_removed}
use Rattle.dq_cache.proofs.stack.replace.Goals as goal

pub overflow_add-total : goal.overflow_add-total
overflow_add-total g c =
    let entry = g.T.Held.entry in
    let w = c.from-weight.ensures ∙ c.weight.ensures ∙ ap (λ (e : EntryOf). e.weight) c.entry.ensures in
    omega (arith, w, c.requires.small, c.requires.stack.total_is, total_small entry c.args.cache.now.entries c.requires.stack.small, c.len-room.ensures.len, c.len-room.ensures.fits)

pub overflow_sub-total : goal.overflow_sub-total
overflow_sub-total g c =
    let entry = g.T.Held.entry in
    let at : Some c.in-Ok-Some.old ≡ lookup (eqb c.args.number) c.args.cache.now.entries = (rw c.in-Ok-Some.field-0-is at c.in-Ok-Some.ensures).old in
    let v = c.from.ensures ∙ c.weight-in-Ok-Some.ensures ∙ ap (λ (e : EntryOf). e.weight) c.entry-in-Ok-Some.ensures in
    omega (arith, v, c.requires.stack.total_is, total_removed entry (eqb c.args.number) c.args.cache.now.entries c.in-Ok-Some.old (sym at))

pub returns-in-Ok-Some-clause-list : goal.returns-in-Ok-Some-clause-list
returns-in-Ok-Some-clause-list g c =
    let put : c.put.new.self ≡ lru_cache (put_entries eqb c.args.cache.now c.args.number c.args.held) c.args.cache.now.cap = (rw c.in-Ok-Some.field-0-is at c.in-Ok-Some.ensures).entries in
    let at : Some c.in-Ok-Some.old ≡ lookup (eqb c.args.number) c.args.cache.now.entries = (rw c.in-Ok-Some.field-0-is at c.in-Ok-Some.ensures).old in
    replaced_list c.args.number c.args.held c.args.cache.now c.put.new.self (ap is_some (sym at)) put

pub returns-in-Ok-Some-clause-stack : goal.returns-in-Ok-Some-clause-stack
returns-in-Ok-Some-clause-stack g c =
    let entry = g.T.Held.entry in
    let w = c.from-weight.ensures ∙ c.weight.ensures ∙ ap (λ (e : EntryOf). e.weight) c.entry.ensures in
    let v = c.from.ensures ∙ c.weight-in-Ok-Some.ensures ∙ ap (λ (e : EntryOf). e.weight) c.entry-in-Ok-Some.ensures in
    let put : c.put.new.self ≡ lru_cache (put_entries eqb c.args.cache.now c.args.number c.args.held) c.args.cache.now.cap = (rw c.in-Ok-Some.field-0-is at c.in-Ok-Some.ensures).entries in
    let at : Some c.in-Ok-Some.old ≡ lookup (eqb c.args.number) c.args.cache.now.entries = (rw c.in-Ok-Some.field-0-is at c.in-Ok-Some.ensures).old in
    rw (w, v) (replaced_stack entry c.args.number c.args.total.now c.args.held c.in-Ok-Some.old c.args.cache.now c.put.new.self c.requires.stack c.requires.small (ap (λ (d : LruCache ℕ g.row.T.Denot). d.cap) put) (sym at) (returns-in-Ok-Some-clause-list g c))

pub returns-in-Ok-Some-clause-below : goal.returns-in-Ok-Some-clause-below
returns-in-Ok-Some-clause-below g c = λ m l a. rw (returns-in-Ok-Some-clause-list g c) (l, below_removed m (eqb c.args.number) c.args.cache.now.entries a)

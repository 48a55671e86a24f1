use Rattle.std.proofs.Common.{◌≤◌, ◌-◌, ◌^◌, ap, ◌∙◌, arith, length}
use Rattle.lru.specs.LruCache.{LruCache}
use Rattle.dq_cache.specs.Entries.{EntryOf}
use Rattle.dq_cache.proofs.Numbers.{below_more}
use Rattle.dq_cache.proofs.Stacked.{added_list, added_stack}
use Rattle.dq_cache.proofs.Totals.{total_small}
use Rattle.dq_cache.proofs.stack.add.Goals as goal

pub overflow_add-total : goal.overflow_add-total
overflow_add-total g c =
    let entry = g.T.Held.entry in
    let w = c.from-weight.ensures ∙ c.weight.ensures ∙ ap (λ (e : EntryOf). e.weight) c.entry.ensures in
    omega (arith, w, c.requires.small, c.requires.stack.total_is, total_small entry c.args.cache.now.entries c.requires.stack.small, c.len-room.ensures.len, c.len-room.ensures.fits)

pub returns-clause-list : goal.returns-clause-list
returns-clause-list g c =
    let len : length c.args.cache.now.entries ≤ 2 ^ 63 - 1 = omega (arith, c.len-room.ensures.len, c.len-room.ensures.fits) in
    added_list c.args.next.now c.args.held c.args.cache.now c.put.new.self c.requires.stack.cap (omega (arith, len)) c.requires.below c.in-Ok.ensures.entries

pub returns-clause-below : goal.returns-clause-below
returns-clause-below g c =
    rw (returns-clause-list g c) (omega arith, below_more c.args.next.now c.args.cache.now.entries c.requires.below)

pub returns-clause-stack : goal.returns-clause-stack
returns-clause-stack g c =
    let entry = g.T.Held.entry in
    let w = c.from-weight.ensures ∙ c.weight.ensures ∙ ap (λ (e : EntryOf). e.weight) c.entry.ensures in
    rw w (added_stack entry c.args.next.now c.args.total.now c.args.held c.args.cache.now c.put.new.self c.requires.stack c.requires.small (ap (λ (d : LruCache _ _). d.cap) c.in-Ok.ensures.entries) (returns-clause-list g c))

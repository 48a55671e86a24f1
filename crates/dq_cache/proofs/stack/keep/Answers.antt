use Rattle.std.proofs.Common.{ℕ, ap, ◌∙◌, List}
use Rattle.std.specs.Map.{values_of}
use Rattle.dq_cache.specs.Entries.{trimmed}
use Rattle.dq_cache.proofs.Numbers.{picked, put_picked, put_none}
use Rattle.dq_cache.proofs.stack.keep.Goals as goal

pub returns-in-Some-clause-below : goal.returns-in-Some-clause-below
returns-in-Some-clause-below g c =
    let r = rw c.in-Some.is at c.requires.at in
    c.trim.ensures.below c.args.next.now (c.replace.ensures.below c.args.next.now r.1 c.requires.below)

pub returns-in-Some-clause-list : goal.returns-in-Some-clause-list
returns-in-Some-clause-list g c = λ test h.
    let es = c.args.cache.now.entries in
    let w : g.row.T.Denot → ℕ = λ e. (g.T.Held.entry e).weight in
    let p = picked test c.in-Some.number es c.len-distinct.ensures.valid.0 (h ∙ c.in-Some.is) in
    c.trim.ensures.list ∙ ap (λ (xs : List g.row.T.Denot). trimmed w c.args.bound xs) (ap values_of c.replace.ensures.list ∙ put_picked test c.in-Some.number c.args.held es p)

pub returns-clause-below : goal.returns-clause-below
returns-clause-below g c = c.trim-2.ensures.below c.add.new.next c.add.ensures.below

pub returns-clause-list : goal.returns-clause-list
returns-clause-list g c = λ test h.
    let es = c.args.cache.now.entries in
    let w : g.row.T.Denot → ℕ = λ e. (g.T.Held.entry e).weight in
    c.trim-2.ensures.list ∙ ap (λ (xs : List g.row.T.Denot). trimmed w c.args.bound xs) (ap values_of c.if-not-add.ensures.list ∙ put_none test c.args.next.now c.args.held es (h ∙ c.in_default.is))

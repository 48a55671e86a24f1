use Rattle.std.proofs.Common.{ℕ, Bool, ap, ◌∙◌, sym, eqb, ◌∷◌}
use Rattle.std.specs.Prelude.{if◌then◌else◌}
use Rattle.lru.specs.LruCache.{LruCache, promoted}
use Rattle.dq_cache.proofs.Stacked.{before_is, turned_last, promoted_stack, told_of_last}
use Rattle.dq_cache.proofs.stack.turn.Goals as goal

pub returns-clause-stack : goal.returns-clause-stack
returns-clause-stack g c = promoted_stack g.T.Held.entry _ c.args.total.now c.args.cache.now c.promote.new.self c.requires.stack c.promote.ensures.entries

pub returns-then-dropped-clause-list : goal.returns-then-dropped-clause-list
returns-then-dropped-clause-list g c = λ es e h.
    let t = told_of_last g.T.Held.entry c.in-Some.number c.args.source c.in-Some.dropped c.args.cache.now.entries es e c.in-Some.ensures h in
    c.pop_last.ensures.list ∙ before_is c.args.cache.now.entries es e h ∙ ap (λ (b : Bool). if b then es else (e ∷ es)) (sym c.if-dropped.true ∙ t.1)

pub returns-clause-list : goal.returns-clause-list
returns-clause-list g c = λ es e h.
    let t = told_of_last g.T.Held.entry c.in-Some.number c.args.source c.in-Some.dropped c.args.cache.now.entries es e c.in-Some.ensures h in
    ap (λ (d : LruCache ℕ g.row.T.Denot). d.entries) c.promote.ensures.entries
    ∙ ap (λ n. promoted (eqb n) c.args.cache.now.entries) t.0
    ∙ turned_last c.args.cache.now.entries es e c.len-distinct.ensures.valid.0 h
    ∙ ap (λ (b : Bool). if b then es else (e ∷ es)) (sym c.if-dropped.false ∙ t.1)

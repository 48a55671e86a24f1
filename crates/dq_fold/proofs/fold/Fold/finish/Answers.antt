use Rattle.std.proofs.Common.{◌≡◌, ◌≤◌, ◌^◌, length, ap, sym, ◌∙◌, subst, arith}
use Rattle.dq_fold.specs.Folding.{AllSmall}
use Rattle.dq_fold.proofs.Grouped.{answered, groups_small}
use Rattle.dq_fold.proofs.fold.Fold.finish.Goals as goal

pub rows_of-requires : goal.rows_of-requires
rows_of-requires c =
    let i = c.self.invariant (ap (λ f. f.spent) c.self.view_is ∙ c.requires) in
    let n : c.self.inside.rows ≡ length i.0 = ap (λ f. f.rows) i.1 in
    let few : length i.0 ≤ 2 ^ 23 = omega (arith, i.2) in
    subst AllSmall (sym (ap (λ f. f.groups) i.1)) (groups_small c.self.inside.key.now i.0 few)

pub returns : goal.returns
returns c = λ rows e.
    answered c.query-q.result.now c.args.self.key rows c.self.inside.groups c.in_ok-rows.rows.items c.sort_rows.new.rows.items c.from_vec.result c.first_of.result
    (c.query-q.ensures.same ∙ ap (λ f. f.key) c.self.view_is) (ap (λ f. f.groups) (c.self.view_is ∙ e)) c.in_ok-rows.ensures c.in_ok-sort_rows.ensures.ok c.from_vec.ensures c.first_of.ensures

use Rattle.std.proofs.Common.{◌≡◌, ◌+◌, ◌^◌, ◌≤◌, ◌++◌, ap, sym, ◌∙◌, refl, arith}
use Rattle.dq_base.specs.declared.query.Query.{Query}
use Rattle.dq_fold.specs.Folding.{groups_of}
use Rattle.dq_fold.proofs.Joined.{folds_mergeable, folds_merged}
use Rattle.dq_fold.proofs.fold.Fold.merge.Goals as goal

pub merge_groups-requires : goal.merge_groups-requires
merge_groups-requires c =
    let own = c.self.invariant (ap (λ f. f.spent) c.self.view_is ∙ c.requires.fresh) in
    let others = c.other.invariant (ap (λ f. f.spent) c.other.view_is ∙ c.requires.other) in
    let same : c.other.inside.key.now ≡ c.self.inside.key.now = ap (λ f. f.key) c.other.view_is ∙ c.requires.same ∙ sym (ap (λ f. f.key) c.self.view_is) in
    let few : c.self.inside.rows + c.other.inside.rows ≤ 2 ^ 23 = omega (arith, c.requires.room, ap (λ f. f.rows) c.self.view_is, ap (λ f. f.rows) c.other.view_is) in
    folds_mergeable c.self.inside.key.now own.0 others.0 c.self.inside.groups c.other.inside.groups c.self.inside.rows c.other.inside.rows
    (ap (λ f. f.groups) own.1) (ap (λ f. f.groups) others.1 ∙ ap (λ (q : Query). groups_of q others.0) same) (ap (λ f. f.rows) own.1) (ap (λ f. f.rows) others.1) few

pub invariant_of-self-2 : goal.invariant_of-self-2
invariant_of-self-2 c = λ fresh.
    let own = c.self.invariant (ap (λ f. f.spent) c.self.view_is ∙ c.requires.fresh) in
    let others = c.other.invariant (ap (λ f. f.spent) c.other.view_is ∙ c.requires.other) in
    let same : c.other.inside.key.now ≡ c.self.inside.key.now = ap (λ f. f.key) c.other.view_is ∙ c.requires.same ∙ sym (ap (λ f. f.key) c.self.view_is) in
    let few : c.self.inside.rows + c.other.inside.rows ≤ 2 ^ 23 = omega (arith, c.requires.room, ap (λ f. f.rows) c.self.view_is, ap (λ f. f.rows) c.other.view_is) in (
      own.0 ++ others.0,
      folds_merged c.self.inside.key.now c.self.inside.key.now own.0 others.0 c.self.inside.groups c.other.inside.groups c.merge_groups.new.groups c.self.inside.rows c.other.inside.rows
          refl (ap (λ f. f.groups) own.1) (ap (λ f. f.groups) others.1 ∙ ap (λ (q : Query). groups_of q others.0) same) (ap (λ f. f.rows) own.1) (ap (λ f. f.rows) others.1) few c.in_ok-merge_groups.ensures,
      few,
    )

pub returns-clause-ok : goal.returns-clause-ok
returns-clause-ok c = λ rows more e o.
    let few : c.self.inside.rows + c.other.inside.rows ≤ 2 ^ 23 = omega (arith, c.requires.room, ap (λ f. f.rows) c.self.view_is, ap (λ f. f.rows) c.other.view_is) in
    folds_merged c.args.self.now.key c.self.inside.key.now rows more c.self.inside.groups c.other.inside.groups c.merge_groups.new.groups c.self.inside.rows c.other.inside.rows
    (ap (λ f. f.key) c.self.view_is) (ap (λ f. f.groups) (c.self.view_is ∙ e)) (ap (λ f. f.groups) (c.other.view_is ∙ o))
    (ap (λ f. f.rows) (c.self.view_is ∙ e)) (ap (λ f. f.rows) (c.other.view_is ∙ o)) few c.in_ok-merge_groups.ensures

use Rattle.std.proofs.Common.{ap, sym, ◌∙◌}
use Rattle.dq_base.specs.declared.query.Query.{Query}
use Rattle.dq_fold.specs.Folding.{folded}
use Rattle.dq_fold_tests.proofs.tests.told_merged.Goals as goal

pub finish-requires : goal.finish-requires
finish-requires c =
    let key = ap (λ f. f.key) c.in_ok-fold.ensures in
    ap (λ f. f.spent)
    (c.in_ok-merge.ensures.ok c.args.rows.now c.args.more.now
    (c.in_ok-fold.ensures ∙ ap (λ (q : Query). folded q c.args.rows.now) (sym key))
    (c.in_ok-other.ensures ∙ ap (λ (q : Query). folded q c.args.more.now) (sym key)))

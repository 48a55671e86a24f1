use Rattle.std.proofs.Common.{◌++◌, [], ◌∷◌, ap, ◌∙◌, refl}
use Rattle.dq_top.proofs.Reached.{IsProgress-push}
use Rattle.dq_top.proofs.progress.with_segment.Goals as goal

pub returns-clause-progress : goal.returns-clause-progress
returns-clause-progress c = λ schemas sources source under progress.
    IsProgress-push schemas sources source c.args.progress c.args.segment _ _ c.push.new.self
    (c.in_ok-push.ensures.ok ∙ ap (λ v. c.args.progress.segments ++ v ∷ []) c.in_ok-new.ensures.ok)
    (rw (c.count.ensures.count, c.len.ensures, c.names.ensures.names, c.schema.ensures) refl) c.requires.cells c.count.ensures.version under progress

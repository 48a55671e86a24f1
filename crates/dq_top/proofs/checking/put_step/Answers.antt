use Rattle.std.proofs.Common.{◌++◌, ap, ◌∙◌, append_assoc}
use Rattle.std.specs.Fmt.{decimal}
use Rattle.std.specs.Prelude.{codes}
use Rattle.dq_top.proofs.checking.put_step.Goals as goal

pub returns : goal.returns
returns c =
    c.in_ok-put_labelled-2.ensures ∙ ap (λ xs. xs ++ (codes " " ++ decimal c.from-2.result)) c.in_ok-put_labelled.ensures
    ∙ append_assoc c.args.line.now (codes "unlawful zone " ++ decimal c.from.result) (codes " " ++ decimal c.from-2.result)
    ∙ ap (λ n. c.args.line.now ++ ((codes "unlawful zone " ++ decimal n) ++ (codes " " ++ decimal c.from-2.result))) c.from.ensures
    ∙ ap (λ n. c.args.line.now ++ ((codes "unlawful zone " ++ decimal c.args.lane) ++ (codes " " ++ decimal n))) c.from-2.ensures

use Rattle.std.proofs.Common.{◌++◌, ◌∷◌, [], ap, sym, ◌∙◌}
use Rattle.std.specs.Arc.{arc_value}
use Rattle.dq_extract.proofs.Extracts.{take-push}
use Rattle.dq_extract.proofs.owners.OwnersDuplicate.duplicate.Goals as goal

pub loop-place-preserved : goal.loop-place-preserved
loop-place-preserved g c =
    c.in_ok-push.ensures.ok ∙ ap (λ owned. owned ++ arc_value c.in_ok-share.field-0 ∷ []) c.loop-place.invariant
    ∙ sym (take-push c.args.self.now c.loop-place.place _ c.in_ok-share.ensures)

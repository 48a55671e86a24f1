use Rattle.std.proofs.Common.{ap, ◌∙◌, length, List}
use Rattle.std.specs.List.{find}
use Rattle.dq_base.specs.declared.cell.Cell.{Cell}
use Rattle.dq_blend.specs.Places.{begins_with}
use Rattle.dq_blend.proofs.Agreeing.{found_agrees}
use Rattle.dq_blend.proofs.blending.agreeing.Goals as goal

pub returns : goal.returns
returns c =
    c.row_with.ensures ∙ ap (λ n. find (begins_with n c.in_ok-key.key) c.args.second.now) c.len.ensures
    ∙ ap (λ (key : List Cell). find (begins_with (length c.args.links.now) key) c.args.second.now) c.in_ok-key.ensures
    ∙ found_agrees c.args.row.now c.args.links.now c.args.second.now

use Rattle.std.proofs.Common.{◌≡◌, List, [], subst, ◌∙◌}
use Rattle.std.specs.Prelude.{IfOk}
use Rattle.dq_rollup.specs.Reading.{summed}
use Rattle.dq_base.specs.declared.cell.Cell.{Cell}
use Rattle.dq_rollup.proofs.Lists.{absent}
use Rattle.dq_rollup.proofs.measures.summed_at.Goals as goal

pub returns-in-None : goal.returns-in-None
returns-in-None c = subst (λ (row : List Cell). IfOk c.summed-in-None-2.result (λ x. x ≡ summed c.args.part row)) (c.new.ensures ∙ absent c.args.held.now c.args.place [] c.in-None.ensures) c.summed-in-None-2.ensures

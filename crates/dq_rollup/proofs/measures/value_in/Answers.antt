use Rattle.std.proofs.Common.{◌≡◌, List, [], subst, ◌∙◌}
use Rattle.std.specs.Prelude.{IfOk}
use Rattle.dq_rollup.specs.Reading.{cell_in, value_of}
use Rattle.dq_base.specs.declared.cell.Cell.{Cell}
use Rattle.dq_rollup.proofs.Lists.{absent}
use Rattle.dq_rollup.proofs.measures.value_in.Goals as goal

pub returns-in-None : goal.returns-in-None
returns-in-None c = subst (λ (row : List Cell). IfOk c.value_at-in-None-2.result (λ x. x ≡ value_of (cell_in row c.args.at))) (c.new.ensures ∙ absent c.args.held.now c.args.place [] c.in-None.ensures) c.value_at-in-None-2.ensures

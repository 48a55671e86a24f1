use Rattle.std.proofs.Common.{ap, ◌∙◌}
use Rattle.dq_backend.specs.Standing.{Standing}
use Rattle.dq_backend.proofs.Lookups.{taken_at}
use Rattle.dq_backend.proofs.sure.SureLinkLink.drop_table.Goals as goal

pub returns-clause-tables : goal.returns-clause-tables
returns-clause-tables c =
    taken_at _ _ _ _ (ap (λ (s : Standing). s.tables) c.count_call.ensures ∙ ap (λ (s : Standing). s.tables) c.self.view_is)
    (ap (λ (s : Standing). s.tables) c.drop_table.ensures)

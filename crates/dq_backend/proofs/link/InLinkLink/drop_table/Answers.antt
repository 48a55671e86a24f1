use Rattle.std.proofs.Common.{ap, ◌∙◌}
use Rattle.dq_backend.specs.Standing.{PlannedLink, Standing}
use Rattle.dq_backend.proofs.Lookups.{taken_at}
use Rattle.dq_backend.proofs.link.InLinkLink.drop_table.Goals as goal

pub returns-clause-tables : goal.returns-clause-tables
returns-clause-tables c =
    taken_at _ _ _ _ (ap (λ (l : PlannedLink). l.standing.tables) (c.self.view_is ∙ c.call_fails.ensures.counted))
    (ap (λ (s : Standing). s.tables) c.drop_table.ensures)

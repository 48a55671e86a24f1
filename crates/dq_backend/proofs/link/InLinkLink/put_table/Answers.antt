use Rattle.std.proofs.Common.{ap, ◌∙◌}
use Rattle.dq_backend.specs.Standing.{PlannedLink, Standing}
use Rattle.dq_backend.proofs.Lookups.{put_at}
use Rattle.dq_backend.proofs.link.InLinkLink.put_table.Goals as goal

pub returns-clause-tables : goal.returns-clause-tables
returns-clause-tables c =
    put_at _ _ _ _ _ (ap (λ (l : PlannedLink). l.standing.tables) (c.self.view_is ∙ c.call_fails.ensures.counted))
    (ap (λ (s : Standing). s.tables) c.in-Ok.ensures.ok)

use Rattle.std.proofs.Common.{ap, ◌∙◌}
use Rattle.dq_backend.specs.Standing.{Standing}
use Rattle.dq_backend.proofs.Lookups.{put_at}
use Rattle.dq_backend.proofs.sure.SureLinkLink.put_table.Goals as goal

pub returns-clause-tables : goal.returns-clause-tables
returns-clause-tables c =
    put_at _ _ _ _ _ (ap (λ (s : Standing). s.tables) c.count_call.ensures ∙ ap (λ (s : Standing). s.tables) c.self.view_is)
    (ap (λ (s : Standing). s.tables) c.in-Ok.ensures.ok)

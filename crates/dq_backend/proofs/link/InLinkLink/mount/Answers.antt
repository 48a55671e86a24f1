use Rattle.std.proofs.Common.{ap, ◌∙◌}
use Rattle.dq_backend.specs.Standing.{PlannedLink, Standing}
use Rattle.dq_backend.proofs.Lookups.{put_at}
use Rattle.dq_backend.proofs.link.InLinkLink.mount.Goals as goal

pub returns-clause-mounts : goal.returns-clause-mounts
returns-clause-mounts c =
    put_at _ _ _ _ _ (ap (λ (l : PlannedLink). l.standing.mounts) (c.self.view_is ∙ c.call_fails.ensures.counted))
    (ap (λ (s : Standing). s.mounts) c.in-Ok.ensures.ok)

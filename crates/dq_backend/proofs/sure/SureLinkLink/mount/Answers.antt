use Rattle.std.proofs.Common.{ap, ◌∙◌}
use Rattle.dq_backend.specs.Standing.{Standing}
use Rattle.dq_backend.proofs.Lookups.{put_at}
use Rattle.dq_backend.proofs.sure.SureLinkLink.mount.Goals as goal

pub returns-clause-mounts : goal.returns-clause-mounts
returns-clause-mounts c =
    put_at _ _ _ _ _ (ap (λ (s : Standing). s.mounts) c.count_call.ensures ∙ ap (λ (s : Standing). s.mounts) c.self.view_is)
    (ap (λ (s : Standing). s.mounts) c.in-Ok.ensures.ok)

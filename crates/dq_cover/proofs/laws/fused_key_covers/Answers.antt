use Rattle.dq_cover.proofs.Fused.{group_covered}
use Rattle.dq_cover.proofs.laws.fused_key_covers.Goals as goal

pub returns : goal.returns
returns c = group_covered

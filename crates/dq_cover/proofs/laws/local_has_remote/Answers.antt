use Rattle.dq_cover.proofs.Remotes.{has_remote}
use Rattle.dq_cover.proofs.laws.local_has_remote.Goals as goal

pub returns : goal.returns
returns c = has_remote

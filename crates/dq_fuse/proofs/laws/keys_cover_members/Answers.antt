use Rattle.dq_fuse.proofs.KeysCover.{keys_cover}
use Rattle.dq_fuse.proofs.laws.keys_cover_members.Goals as goal

pub returns : goal.returns
returns c = keys_cover

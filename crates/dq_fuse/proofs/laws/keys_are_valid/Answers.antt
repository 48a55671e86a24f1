use Rattle.dq_fuse.proofs.KeysValid.{keys_valid}
use Rattle.dq_fuse.proofs.laws.keys_are_valid.Goals as goal

pub returns : goal.returns
returns c = keys_valid

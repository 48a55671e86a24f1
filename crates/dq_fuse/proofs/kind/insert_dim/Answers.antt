use Rattle.std.proofs.Common.{◌∙◌, rules}
use Rattle.std.specs.BTreeSet.{keys}
use Rattle.dq_fuse.specs.Kinds.{pair_cmp, pair_of}
use Rattle.dq_fuse.proofs.Inserted.{insert_key-with}
use Rattle.dq_fuse.proofs.kind.insert_dim.Goals as goal

pub returns : goal.returns
returns c = c.in_ok-insert.ensures.keys ∙ search (rules, insert_key-with pair_cmp (pair_of c.args.dim.now) (keys c.args.set.now))

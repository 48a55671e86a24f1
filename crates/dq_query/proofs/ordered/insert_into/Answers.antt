use Rattle.std.proofs.Common.{◌∙◌}
use Rattle.std.specs.BTreeSet.{keys}
use Rattle.dq_query.proofs.Inserted.{insert_key-with}
use Rattle.dq_query.proofs.ordered.insert_into.Goals as goal

pub returns : goal.returns
returns g c = c.in_ok-insert.ensures.keys ∙ insert_key-with g.T.Ord.cmp c.args.item (keys c.args.set.now)

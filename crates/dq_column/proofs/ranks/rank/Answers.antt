use Rattle.std.proofs.Common.{rules}
use Rattle.dq_column.proofs.Sorting.{ascending_set}
use Rattle.dq_column.proofs.ranks.rank.Goals as goal

pub places_of-requires : goal.places_of-requires
places_of-requires c = search (rules, ascending_set c.args.arrivals.now c.as_slice.ensures.different)

pub returns-clause-words : goal.returns-clause-words
returns-clause-words c = search (rules, ascending_set c.args.arrivals.now c.as_slice.ensures.different)

use Rattle.std.proofs.Common.{rules}
use Rattle.dq_column.proofs.Finished.{is_dictionary, same_values}
use Rattle.dq_column.proofs.builder.TextColumnBuilder.finish.Goals as goal

pub new-requires : goal.new-requires
new-requires c = search (rules, is_dictionary c.self.inside.arrivals c.self.inside.codes c.in_ok-codes.codes c.self.invariant)

pub returns : goal.returns
returns c = search (rules, same_values c.self.inside.arrivals c.self.inside.codes c.in_ok-codes.codes)

use Rattle.std.proofs.Common.{rules}
use Rattle.dq_column.proofs.Arriving.{known_stays, new_stays, new_view}
use Rattle.dq_column.proofs.builder.TextColumnBuilder.push.Goals as goal

pub invariant_of-self-in-Some : goal.invariant_of-self-in-Some
invariant_of-self-in-Some c = search (rules, known_stays c.self.inside.arrivals c.self.inside.codes c.self.invariant c.in-Some.place c.args.text.now c.in-Some.ensures)

pub invariant_of-self-else-is_err : goal.invariant_of-self-else-is_err
invariant_of-self-else-is_err c = search (rules, new_stays c.self.inside.arrivals c.self.inside.codes c.self.invariant c.args.text.now c.in_default.ensures)

pub returns-clause-ok : goal.returns-clause-ok
returns-clause-ok c = search (rules, new_view c.self.inside.arrivals c.self.inside.codes c.self.invariant c.args.text.now c.in_default.ensures)

use Rattle.std.proofs.Common.{rules}
use Rattle.dq_column.proofs.Marked.{pushed, stays_wholes}
use Rattle.dq_column.proofs.wholes.WholeColumn.push.Goals as goal

pub invariant_of-self-else-is_err : goal.invariant_of-self-else-is_err
invariant_of-self-else-is_err c = search (rules, stays_wholes c.self.inside.marks c.self.inside.numbers c.args.number c.self.invariant)

pub returns-clause-ok : goal.returns-clause-ok
returns-clause-ok c = search (rules, pushed c.self.inside.marks c.self.inside.numbers c.args.number c.self.invariant)

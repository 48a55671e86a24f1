use Rattle.std.proofs.Common.{rules, map}
use Rattle.std.specs.String.{string_bytes}
use Rattle.dq_column.proofs.Found.{different_push, put_new}
use Rattle.dq_column.proofs.arrivals.Arrivals.add.Goals as goal

pub invariant_of-self : goal.invariant_of-self
invariant_of-self c = search (rules, different_push (map string_bytes c.self.inside.seen.keys) c.args.text.now c.self.invariant, put_new string_bytes c.self.inside.seen.keys c.in_ok-owned.owned)

pub returns-clause-ok : goal.returns-clause-ok
returns-clause-ok c = search (rules, put_new string_bytes c.self.inside.seen.keys c.in_ok-owned.owned)

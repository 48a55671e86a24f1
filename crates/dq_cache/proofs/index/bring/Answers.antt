use Rattle.std.proofs.Common.{sym, is_some, ap}
use Rattle.dq_cache.proofs.Shelving.{brought_some, never_brought}
use Rattle.dq_cache.proofs.index.bring.Goals as goal

pub returns-in-Some : goal.returns-in-Some
returns-in-Some c = λ es d e p q f l i.
    let u = c.get_mut.follows.holds c.bring.new.self in
    brought_some c.args.index.now (c.get_mut.follows.lender c.bring.new.self) c.args.place c.in-Some.shelf.now c.bring.new.self c.args.number c.args.flight es d e p q f l i c.in-Some.ensures.value
    c.bring.ensures (u.3 (ap is_some (sym c.in-Some.ensures.value))).0

pub returns-in_default : goal.returns-in_default
returns-in_default c = λ es d e p q f l i. absurd (never_brought c.args.index.now c.args.place c.args.number es d p l i c.in_default.ensures.value)

use Rattle.std.proofs.Common.{◌∙◌, sym, is_some, ap}
use Rattle.dq_cache.proofs.Shelving.{left_some, left_removed}
use Rattle.dq_cache.proofs.index.leave.Goals as goal

pub returns-else-drop_last : goal.returns-else-drop_last
returns-else-drop_last c = λ es e p i.
    let u = c.get_mut.follows.holds c.drop_last.new.self in
    left_some c.args.index.now (c.get_mut.follows.lender c.drop_last.new.self) c.args.place c.in-Some.shelf.now c.drop_last.new.self es e p i c.in-Some.ensures.value c.drop_last.ensures.list
    (sym c.drop_last.ensures.empty ∙ c.if-drop_last.false) (u.3 (ap is_some (sym c.in-Some.ensures.value))).0

pub returns-then-drop_last : goal.returns-then-drop_last
returns-then-drop_last c = λ es e p i.
    let u = c.get_mut.follows.holds c.drop_last.new.self in
    left_removed c.args.index.now (c.get_mut.follows.lender c.drop_last.new.self) c.remove.new.self c.args.place c.in-Some.shelf.now c.drop_last.new.self es e p i c.in-Some.ensures.value
    (sym c.drop_last.ensures.empty ∙ c.if-drop_last.true) (u.3 (ap is_some (sym c.in-Some.ensures.value))).0 c.remove.ensures.updates.0

use Rattle.dq_desk.proofs.Events.{IsDesk-end}
use Rattle.dq_desk.proofs.desk.Desk.end.Goals as goal

pub invariant_of-self : goal.invariant_of-self
invariant_of-self g c = IsDesk-end _ _ _ _ c.self.invariant c.args.lane _ _ (rw (← c.self.view_is) at c.requires) c.push.ensures.room c.push.ensures.entries

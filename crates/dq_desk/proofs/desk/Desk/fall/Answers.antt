use Rattle.dq_desk.proofs.Lands.{IsDesk-fall, fall-room, fall-runs, is-running}
use Rattle.dq_desk.proofs.desk.Desk.fall.Goals as goal

pub fall-requires : goal.fall-requires
fall-requires g c = is-running _ _ _ _ c.self.invariant c.args.flight (fall-runs _ _ _ _ c.self.invariant c.args.lane c.args.flight c.args.cause (rw (← c.self.view_is) at c.requires))

pub overflow_sub-self : goal.overflow_sub-self
overflow_sub-self g c = (fall-room _ _ _ _ c.self.invariant c.args.lane c.args.flight c.args.cause (rw (← c.self.view_is) at c.requires)).owed

pub push-requires-clause-room : goal.push-requires-clause-room
push-requires-clause-room g c =
    (fall-room _ _ _ _ c.self.invariant c.args.lane c.args.flight c.args.cause (rw (← c.self.view_is) at c.requires)).entries

pub invariant_of-self : goal.invariant_of-self
invariant_of-self g c =
    IsDesk-fall _ _ _ _ c.self.invariant c.args.lane c.args.flight _ c.args.cause _ _ (rw (← c.self.view_is) at c.requires) c.fall.ensures.flights c.fall.ensures.room
    c.push.ensures.room c.push.ensures.entries

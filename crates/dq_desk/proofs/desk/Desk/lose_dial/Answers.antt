use Rattle.std.proofs.Common.{false}
use Rattle.dq_journal.specs.declared.entry.Entry.TheVariants.{Lose}
use Rattle.dq_desk.proofs.Events.{has-some, owed-less}
use Rattle.dq_desk.proofs.Leases.{IsDesk-lose-dial}
use Rattle.dq_desk.proofs.desk.Desk.lose_dial.Goals as goal

pub overflow_sub-self : goal.overflow_sub-self
overflow_sub-self g c =
    let may = rw (← c.self.view_is) at c.requires in
    let e = Lose c.args.lane c.args.flight c.args.link false false 0 0 in
    (has-some _ _ _ _ c.self.invariant e may (owed-less _ _ _ _ c.self.invariant e may)).owed

pub push-requires-clause-room : goal.push-requires-clause-room
push-requires-clause-room g c =
    let may = rw (← c.self.view_is) at c.requires in
    let e = Lose c.args.lane c.args.flight c.args.link false false 0 0 in
    (has-some _ _ _ _ c.self.invariant e may (owed-less _ _ _ _ c.self.invariant e may)).entries

pub invariant_of-self : goal.invariant_of-self
invariant_of-self g c =
    IsDesk-lose-dial _ _ _ _ c.self.invariant c.args.lane c.args.flight c.args.link _ _ (rw (← c.self.view_is) at c.requires) c.push.ensures.room c.push.ensures.entries

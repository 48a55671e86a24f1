use Rattle.std.proofs.Common.{true}
use Rattle.dq_journal.specs.declared.entry.Entry.TheVariants.{Lose}
use Rattle.dq_desk.proofs.Events.{has-some, owed-less}
use Rattle.dq_desk.proofs.Leases.{IsDesk-lose-link}
use Rattle.dq_desk.proofs.desk.Desk.lose_link.Goals as goal

pub overflow_sub-self : goal.overflow_sub-self
overflow_sub-self g c =
    let may = rw (← c.self.view_is) at c.requires.may in
    let e = Lose c.args.lane c.args.flight c.args.link true c.args.ran (g.L.Link.runs c.args.wreck.link) (g.L.Link.calls c.args.wreck.link) in
    (has-some _ _ _ _ c.self.invariant e may (owed-less _ _ _ _ c.self.invariant e may)).owed

pub push-requires-clause-room : goal.push-requires-clause-room
push-requires-clause-room g c =
    let may = rw (← c.self.view_is) at c.requires.may in
    let e = Lose c.args.lane c.args.flight c.args.link true c.args.ran (g.L.Link.runs c.args.wreck.link) (g.L.Link.calls c.args.wreck.link) in
    (has-some _ _ _ _ c.self.invariant e may (owed-less _ _ _ _ c.self.invariant e may)).entries

pub push-requires-2 : goal.push-requires-2
push-requires-2 g c =
    let may = rw (← c.self.view_is) at c.requires.may in
    let e = Lose c.args.lane c.args.flight c.args.link true c.args.ran (g.L.Link.runs c.args.wreck.link) (g.L.Link.calls c.args.wreck.link) in
    (has-some _ _ _ _ c.self.invariant e may (owed-less _ _ _ _ c.self.invariant e may)).wrecks

pub invariant_of-self : goal.invariant_of-self
invariant_of-self g c =
    let may = rw (← c.self.view_is) at c.requires.may in
    let planned = rw (← c.self.view_is) at c.requires.planned in
    let entries = rw (c.runs.ensures, c.calls.ensures) at c.push.ensures.entries in
    IsDesk-lose-link _ _ _ _ c.self.invariant c.args.lane c.args.flight c.args.link _ c.args.ran c.args.wreck _ _ may c.requires.number planned c.push.ensures.room
    c.push-2.ensures.items c.push-2.ensures.spare entries

use Rattle.dq_journal.specs.declared.entry.Entry.TheVariants.{Give}
use Rattle.dq_desk.proofs.Events.{has-some, owed-less}
use Rattle.dq_desk.proofs.Leases.{IsDesk-give, give-room}
use Rattle.dq_desk.proofs.desk.Desk.give.Goals as goal

pub overflow_sub-self : goal.overflow_sub-self
overflow_sub-self g c =
    let may = rw (← c.self.view_is) at c.requires.may in
    let e = Give c.args.lane c.args.flight c.args.link.number c.args.ran (g.L.Link.runs c.args.link.link) (g.L.Link.calls c.args.link.link) in
    (has-some _ _ _ _ c.self.invariant e may (owed-less _ _ _ _ c.self.invariant e may)).owed

pub push-requires-clause-room : goal.push-requires-clause-room
push-requires-clause-room g c =
    let may = rw (← c.self.view_is) at c.requires.may in
    let e = Give c.args.lane c.args.flight c.args.link.number c.args.ran (g.L.Link.runs c.args.link.link) (g.L.Link.calls c.args.link.link) in
    (has-some _ _ _ _ c.self.invariant e may (owed-less _ _ _ _ c.self.invariant e may)).entries

pub push-requires-2 : goal.push-requires-2
push-requires-2 g c =
    let may = rw (← c.self.view_is) at c.requires.may in
    let named = rw (← c.self.view_is) at c.requires.named in
    let mirror = rw (← c.self.view_is) at c.requires.mirror in
    let planned = rw (← c.self.view_is) at c.requires.planned in
    give-room _ _ _ _ c.self.invariant c.args.lane c.args.flight c.args.link c.args.ran may named mirror planned

pub invariant_of-self : goal.invariant_of-self
invariant_of-self g c =
    let may = rw (← c.self.view_is) at c.requires.may in
    let named = rw (← c.self.view_is) at c.requires.named in
    let mirror = rw (← c.self.view_is) at c.requires.mirror in
    let planned = rw (← c.self.view_is) at c.requires.planned in
    let entries = rw (c.number.ensures, c.runs.ensures.runs, c.calls.ensures) at c.push.ensures.entries in
    IsDesk-give _ _ _ _ c.self.invariant c.args.lane c.args.flight _ c.args.link c.args.ran _ _ may named mirror planned c.push.ensures.room
    c.push-2.ensures.items c.push-2.ensures.spare entries

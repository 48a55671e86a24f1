use Rattle.std.proofs.Common.{◌≡◌, ◌≤◌, ◌+◌, ◌++◌, ◌∷◌, [], ap, sym, ◌∙◌, arith}
use Rattle.dq_journal.specs.declared.entry.Entry.{Entry}
use Rattle.dq_desk.proofs.Leases.{leases-fresh, leases-idle}
use Rattle.dq_desk.proofs.desk.Desk.lease.Goals as goal

pub overflow_add-number : goal.overflow_add-number
overflow_add-number g c =
    let may = rw (← c.self.view_is) at c.requires in
    let fits : c.self.inside.journal.spare ≤ c.self.inside.journal.spare + 1 = omega arith in
    let leases = leases-fresh _ _ _ _ c.self.invariant c.args.lane c.args.flight c.self.inside.journal.spare may fits c.in_default.ensures.0 in
    omega (arith, leases.few, leases.some.entries, c.len-room.ensures.len, c.len-room.ensures.room)

pub invariant_of-self : goal.invariant_of-self
invariant_of-self g c =
    let may = rw (← c.self.view_is) at c.requires in
    let leases = leases-fresh _ _ _ _ c.self.invariant c.args.lane c.args.flight c.push.new.self.spare may c.push.ensures.room c.in_default.ensures.0 in
    rw c.in_default.ensures.1 (leases.desk c.push.new.self.entries c.push.ensures.entries)

pub returns-in_default-clause-leased : goal.returns-in_default-clause-leased
returns-in_default-clause-leased g c =
    let may = rw (← c.self.view_is) at c.requires in
    let leases = leases-fresh _ _ _ _ c.self.invariant c.args.lane c.args.flight c.push.new.self.spare may c.push.ensures.room c.in_default.ensures.0 in
    rw (← c.self.view_is) (leases.none, leases.number)

pub returns-in_default-clause-entry : goal.returns-in_default-clause-entry
returns-in_default-clause-entry g c =
    let may = rw (← c.self.view_is) at c.requires in
    let leases = leases-fresh _ _ _ _ c.self.invariant c.args.lane c.args.flight c.push.new.self.spare may c.push.ensures.room c.in_default.ensures.0 in
    rw (← c.self.view_is) (c.push.ensures.entries ∙ ap (λ (e : Entry). c.self.inside.journal.entries ++ e ∷ []) (sym leases.entry))

pub invariant_of-self-2 : goal.invariant_of-self-2
invariant_of-self-2 g c =
    let may = rw (← c.self.view_is) at c.requires in
    let leases = leases-idle _ _ _ _ c.self.invariant c.args.lane c.args.flight c.push-2.new.self.spare c.in-Some.link c.pop.new.self may c.push-2.ensures.room
    c.in-Some.ensures.0 c.in-Some.ensures.1 in
    leases.desk c.push-2.new.self.entries (rw c.number.ensures at c.push-2.ensures.entries)

pub returns-clause-leased : goal.returns-clause-leased
returns-clause-leased g c =
    let may = rw (← c.self.view_is) at c.requires in
    let leases = leases-idle _ _ _ _ c.self.invariant c.args.lane c.args.flight c.push-2.new.self.spare c.in-Some.link c.pop.new.self may c.push-2.ensures.room
    c.in-Some.ensures.0 c.in-Some.ensures.1 in
    rw (← c.self.view_is) leases.top

pub returns-clause-entry : goal.returns-clause-entry
returns-clause-entry g c =
    let may = rw (← c.self.view_is) at c.requires in
    let leases = leases-idle _ _ _ _ c.self.invariant c.args.lane c.args.flight c.push-2.new.self.spare c.in-Some.link c.pop.new.self may c.push-2.ensures.room
    c.in-Some.ensures.0 c.in-Some.ensures.1 in
    rw (← c.self.view_is) (rw c.number.ensures at c.push-2.ensures.entries ∙ ap (λ (e : Entry). c.self.inside.journal.entries ++ e ∷ []) (sym leases.entry))

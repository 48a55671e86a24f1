use Rattle.std.proofs.Common.{sym, arith}
use Rattle.dq_batch.proofs.Flies.{group_begins, group_ends, group_flies}
use Rattle.dq_batch.proofs.Loops.{got_below}
use Rattle.dq_batch.proofs.Works.{open_some}
use Rattle.dq_batch.proofs.open.Open.fly_group.Goals as goal

pub unreachable-requires : goal.unreachable-requires
unreachable-requires g c = open_some c.args.loaded.now c.args.desk.now.journal c.args.self.now c.args.bringing c.requires.open (sym c.in_default.ensures)

pub overflow_add-self : goal.overflow_add-self
overflow_add-self g c = let lt = got_below c.args.self.now.started c.args.self.now.over c.in-Some.started.now (sym c.in-Some.ensures) in omega (arith, lt, c.len.ensures)

pub next_group-requires-clause-next : goal.next_group-requires-clause-next
next_group-requires-clause-next g c =
    let lawful = rw (c.step-flown.ensures.loaded, c.requires.same) at c.journal.ensures.legal in
    group_begins c.args.loaded.now c.args.desk.now.journal c.step-flown.new.desk.journal c.args.self.now c.args.bringing c.requires.open lawful c.in-Some.started.now (sym c.in-Some.ensures) c.in-Over.ending c.in-Over.ensures.flown

pub returns-in-On-clause-moved : goal.returns-in-On-clause-moved
returns-in-On-clause-moved g c =
    let lawful = rw (c.step-flown.ensures.loaded, c.requires.same) at c.journal.ensures.legal in
    group_flies c.args.loaded.now c.args.desk.now.journal c.step-flown.new.desk.journal c.args.self.now c.args.bringing c.requires.open lawful c.in-On.bringing c.in-On.ensures.flown

pub returns-in-Some-clause-moved : goal.returns-in-Some-clause-moved
returns-in-Some-clause-moved g c =
    let lawful = rw (c.step-flown.ensures.loaded, c.requires.same) at c.journal.ensures.legal in
    let settled = rw (c.flight-flight.ensures.flight, c.key.ensures) at c.settle.ensures in
    group_ends c.args.loaded.now c.args.desk.now.journal c.step-flown.new.desk.journal c.args.self.now c.args.bringing c.requires.open lawful c.in-Some.started.now (sym c.in-Some.ensures) c.in-Over.ending c.in-Over.ensures.flown c.settle.new.fetches c.next_group.result settled
    c.next_group.ensures

use Rattle.std.proofs.Common.{sym}
use Rattle.dq_batch.proofs.Loops.{begin_here, next_none, next_some}
use Rattle.dq_batch.proofs.open.next_group.Goals as goal

pub new-requires-clause-lane : goal.new-requires-clause-lane
new-requires-clause-lane g c =
    (begin_here c.args.loaded.now c.args.lane c.args.desk.now.journal c.args.started.now c.args.over c.in-Some.next.now (sym c.in-Some.ensures) c.requires.next).within

pub new-requires-clause-first : goal.new-requires-clause-first
new-requires-clause-first g c =
    rw (c.journal.ensures.journal, c.flight.ensures)
    (begin_here c.args.loaded.now c.args.lane c.args.desk.now.journal c.args.started.now c.args.over c.in-Some.next.now (sym c.in-Some.ensures) c.requires.next).first

pub new-requires-clause-begins : goal.new-requires-clause-begins
new-requires-clause-begins g c =
    rw (c.journal.ensures.journal)
    (begin_here c.args.loaded.now c.args.lane c.args.desk.now.journal c.args.started.now c.args.over c.in-Some.next.now (sym c.in-Some.ensures) c.requires.next).begins

pub returns-in-Some : goal.returns-in-Some
returns-in-Some g c =
    let made = rw (c.journal.ensures.journal, c.flight.ensures) at c.new.ensures in
    next_some g.row.L.Denot c.args.loaded.now c.args.lane c.args.desk.now.journal c.args.started.now c.args.over c.in-Some.next.now c.new.result (sym c.in-Some.ensures) made

pub returns-in-None : goal.returns-in-None
returns-in-None g c = next_none g.row.L.Denot c.args.loaded.now c.args.lane c.args.desk.now.journal c.args.started.now c.args.over (sym c.in-None.ensures)

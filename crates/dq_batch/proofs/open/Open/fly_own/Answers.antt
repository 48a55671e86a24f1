use Rattle.std.proofs.Common.{sym}
use Rattle.std.specs.Arc.{arc_value}
use Rattle.dq_batch.proofs.Flies.{own_ends, own_flies}
use Rattle.dq_batch.proofs.open.Open.fly_own.Goals as goal

pub returns-in-On-clause-moved : goal.returns-in-On-clause-moved
returns-in-On-clause-moved g c =
    let lawful = rw (c.step-flown.ensures.loaded, c.requires.same) at c.journal.ensures.legal in
    own_flies c.args.loaded.now c.args.desk.now.journal c.step-flown.new.desk.journal c.args.self.now c.args.place c.args.bringing c.requires.open lawful c.in-On.bringing c.in-On.ensures.flown

pub returns-in-Some-clause-moved : goal.returns-in-Some-clause-moved
returns-in-Some-clause-moved g c =
    let lawful = rw (c.step-flown.ensures.loaded, c.requires.same) at c.journal.ensures.legal in
    let settled = rw (c.flight-flight.ensures.flight) at c.settle.ensures in
    own_ends c.args.loaded.now c.args.desk.now.journal c.step-flown.new.desk.journal c.args.self.now c.args.place c.args.bringing c.requires.open lawful (arc_value c.in-Some.query.now) (sym c.in-Some.ensures) c.in-Over.ending c.settle.new.fetches c.in-Over.ensures.flown settled

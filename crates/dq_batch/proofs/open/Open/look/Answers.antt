use Rattle.std.proofs.Common.{append-nil}
use Rattle.dq_batch.proofs.Looks.{fallen_begins, fallen_first, look_fallen, look_landed, look_waits, may_look}
use Rattle.dq_batch.proofs.Loops.{first_below}
use Rattle.dq_batch.proofs.open.Open.look.Goals as goal

pub take-taken-requires : goal.take-taken-requires
take-taken-requires g c = rw (c.requires.same) (may_look c.args.loaded.now c.args.desk.now.journal c.args.self.now c.requires.open c.requires.free c.in-Some.field-0.place c.in-Some.field-0.flight c.in-Some.ensures)

pub item_mut-requires : goal.item_mut-requires
item_mut-requires g c = first_below c.args.self.now.fetches c.in-Some.field-0.place c.in-Some.field-0.flight c.in-Some.ensures

pub item_mut-requires-in-Fallen : goal.item_mut-requires-in-Fallen
item_mut-requires-in-Fallen g c = first_below c.args.self.now.fetches c.in-Some.field-0.place c.in-Some.field-0.flight c.in-Some.ensures

pub new-bringing-requires-clause-first : goal.new-bringing-requires-clause-first
new-bringing-requires-clause-first g c =
    let lawful = rw (c.take-taken.ensures.loaded, c.requires.same) at c.journal-journal.ensures.legal in
    let told = rw (c.requires.same) at c.in-Fallen.ensures.looks in
    rw (c.journal-journal.ensures.journal)
    (fallen_first c.args.loaded.now c.args.desk.now.journal c.args.self.now c.requires.open c.requires.free c.in-Some.field-0.place c.in-Some.field-0.flight c.in-Some.ensures c.take-taken.new.self.journal c.in-Fallen.number c.in-Fallen.ensures.entry lawful told)

pub new-bringing-requires-clause-begins : goal.new-bringing-requires-clause-begins
new-bringing-requires-clause-begins g c =
    let lawful = rw (c.take-taken.ensures.loaded, c.requires.same) at c.journal-journal.ensures.legal in
    let told = rw (c.requires.same) at c.in-Fallen.ensures.looks in
    rw (c.journal-journal.ensures.journal)
    (fallen_begins c.args.loaded.now c.args.desk.now.journal c.args.self.now c.requires.open c.requires.free c.in-Some.field-0.place c.in-Some.field-0.flight c.in-Some.ensures c.take-taken.new.self.journal c.in-Fallen.number c.in-Fallen.ensures.entry lawful told)

pub returns-in-Running-clause-turned : goal.returns-in-Running-clause-turned
returns-in-Running-clause-turned g c =
    let told = rw (c.requires.same) at c.in-Running.ensures.looks in
    let same = rw append-nil at c.in-Running.ensures.entry in
    look_waits c.args.loaded.now c.args.desk.now.journal c.args.self.now c.requires.open c.requires.free c.in-Some.field-0.place c.in-Some.field-0.flight c.in-Some.ensures c.take-taken.new.self.journal same told

pub returns-in-Landed-clause-turned : goal.returns-in-Landed-clause-turned
returns-in-Landed-clause-turned g c =
    let lawful = rw (c.take-taken.ensures.loaded, c.requires.same) at c.journal-journal.ensures.legal in
    let told = rw (c.requires.same) at c.in-Landed.ensures.looks in
    rw (c.shared.ensures)
    (look_landed c.args.loaded.now c.args.desk.now.journal c.args.self.now c.requires.open c.requires.free c.in-Some.field-0.place c.in-Some.field-0.flight c.in-Some.ensures c.take-taken.new.self.journal c.in-Landed.share c.in-Landed.ensures.entry lawful told)

pub returns-in-Fallen-clause-turned : goal.returns-in-Fallen-clause-turned
returns-in-Fallen-clause-turned g c =
    let lawful = rw (c.take-taken.ensures.loaded, c.requires.same) at c.journal-journal.ensures.legal in
    let told = rw (c.requires.same) at c.in-Fallen.ensures.looks in
    let begins = rw (c.journal-journal.ensures.journal) at c.new-bringing.ensures in
    look_fallen c.args.loaded.now c.args.desk.now.journal c.args.self.now c.requires.open c.requires.free c.in-Some.field-0.place c.in-Some.field-0.flight c.in-Some.ensures c.take-taken.new.self.journal c.in-Fallen.number c.in-Fallen.ensures.entry lawful told c.new-bringing.result begins

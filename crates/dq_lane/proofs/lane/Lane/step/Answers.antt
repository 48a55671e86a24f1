use Rattle.std.proofs.Common.{◌≡◌, ◌+◌, ◌≤◌, length, true, false}
use Rattle.std.specs.Arc.{arc_value}
use Rattle.dq_fates.specs.GoingOn.{GoesOn}
use Rattle.dq_laws.specs.Lengths.{most_entries_of_journal}
use Rattle.dq_machine.specs.Machine.{legal}
use Rattle.dq_lane.specs.Courses.{HasNoBatch}
use Rattle.dq_lane.specs.Events.{IsEvent}
use Rattle.dq_lane.proofs.Turning.{can_begin, done_step, ended_at, event_settles, event_step, event_turn, open_step}
use Rattle.dq_lane.proofs.lane.Lane.step.Goals as goal

pub invariant_of-self : goal.invariant_of-self
invariant_of-self g c =
    let i = c.self.inside in
    let l = arc_value i.loaded in
    let same : c.args.desk.now.loaded ≡ l = rw (← c.self.view_is) at c.requires.loaded in
    let on : GoesOn i.number i.seen.value.entries c.args.desk.now.journal = rw (← c.self.view_is) at c.requires.goes_on in
    let lawful : legal l c.args.desk.now.journal ≡ true = rw same at c.journal.ensures.legal in
    let few : length c.args.desk.now.journal ≤ most_entries_of_journal = rw (c.as_slice.ensures, c.journal.ensures.journal) at c.journals_are_short.ensures.few in
    rw (c.of.ensures, c.journal-then-self.ensures.journal) (done_step l i.number i.seen.value.entries c.args.desk.now.journal i.course _ _ c.self.invariant on lawful few c.if-self.true)

pub returns-then-self-clause-ended : goal.returns-then-self-clause-ended
returns-then-self-clause-ended g c =
    let i = c.self.inside in
    let l = arc_value i.loaded in
    let same : c.args.desk.now.loaded ≡ l = rw (← c.self.view_is) at c.requires.loaded in
    let on : GoesOn i.number i.seen.value.entries c.args.desk.now.journal = rw (← c.self.view_is) at c.requires.goes_on in
    let lawful : legal l c.args.desk.now.journal ≡ true = rw same at c.journal.ensures.legal in
    let few : length c.args.desk.now.journal ≤ most_entries_of_journal = rw (c.as_slice.ensures, c.journal.ensures.journal) at c.journals_are_short.ensures.few in
    rw (← c.self.view_is, same) (ended_at l i.number i.seen.value.entries c.args.desk.now.journal i.course _ _ c.self.invariant on lawful few)

pub invariant_of-self-in-Some : goal.invariant_of-self-in-Some
invariant_of-self-in-Some g c =
    let i = c.self.inside in
    let l = arc_value i.loaded in
    let same : c.args.desk.now.loaded ≡ l = rw (← c.self.view_is) at c.requires.loaded in
    let on : GoesOn i.number i.seen.value.entries c.args.desk.now.journal = rw (← c.self.view_is) at c.requires.goes_on in
    let lawful : legal l c.args.desk.now.journal ≡ true = rw same at c.journal.ensures.legal in
    let few : length c.args.desk.now.journal ≤ most_entries_of_journal = rw (c.as_slice.ensures, c.journal.ensures.journal) at c.journals_are_short.ensures.few in
    let short : length c.go_on.new.desk.journal ≤ most_entries_of_journal = rw (c.as_slice-in-Some.ensures, c.journal-in-Some.ensures.journal) at c.journals_are_short-in-Some.ensures.few in
    rw (c.of-in-Some.ensures, c.journal-in-Some-2.ensures.journal) (open_step l i.number i.seen.value.entries c.args.desk.now.journal i.course _ _ c.self.invariant on lawful few c.go_on.new.desk.journal c.go_on.new.self c.in-Some.turned c.in-Some.ensures.gone short)

pub returns-in-Some-clause-ended : goal.returns-in-Some-clause-ended
returns-in-Some-clause-ended g c =
    let i = c.self.inside in
    let l = arc_value i.loaded in
    let same : c.args.desk.now.loaded ≡ l = rw (← c.self.view_is) at c.requires.loaded in
    let on : GoesOn i.number i.seen.value.entries c.args.desk.now.journal = rw (← c.self.view_is) at c.requires.goes_on in
    let lawful : legal l c.args.desk.now.journal ≡ true = rw same at c.journal.ensures.legal in
    let few : length c.args.desk.now.journal ≤ most_entries_of_journal = rw (c.as_slice.ensures, c.journal.ensures.journal) at c.journals_are_short.ensures.few in
    rw (← c.self.view_is, same) (ended_at l i.number i.seen.value.entries c.args.desk.now.journal i.course _ _ c.self.invariant on lawful few)

pub next_event-event-requires-clause-can : goal.next_event-event-requires-clause-can
next_event-event-requires-clause-can g c =
    let i = c.self.inside in
    let l = arc_value i.loaded in
    let same : c.args.desk.now.loaded ≡ l = rw (← c.self.view_is) at c.requires.loaded in
    let on : GoesOn i.number i.seen.value.entries c.args.desk.now.journal = rw (← c.self.view_is) at c.requires.goes_on in
    let lawful : legal l c.args.desk.now.journal ≡ true = rw same at c.journal.ensures.legal in
    let few : length c.args.desk.now.journal ≤ most_entries_of_journal = rw (c.as_slice.ensures, c.journal.ensures.journal) at c.journals_are_short.ensures.few in
    let going : i.course.done ≡ false = c.if-self.false in
    let none : HasNoBatch i.course c.args.desk.now.journal c.go_on.new.self c.go_on.new.desk.journal = c.in_default.ensures.gone in
    rw (c.deref-3.ensures, none.is, none.journal) (can_begin l i.number i.seen.value.entries c.args.desk.now.journal i.course _ _ c.self.invariant on lawful few none.shut going)

pub settle-requires : goal.settle-requires
settle-requires g c =
    let i = c.self.inside in
    let l = arc_value i.loaded in
    let same : c.args.desk.now.loaded ≡ l = rw (← c.self.view_is) at c.requires.loaded in
    let on : GoesOn i.number i.seen.value.entries c.args.desk.now.journal = rw (← c.self.view_is) at c.requires.goes_on in
    let lawful : legal l c.args.desk.now.journal ≡ true = rw same at c.journal.ensures.legal in
    let few : length c.args.desk.now.journal ≤ most_entries_of_journal = rw (c.as_slice.ensures, c.journal.ensures.journal) at c.journals_are_short.ensures.few in
    let going : i.course.done ≡ false = c.if-self.false in
    let none : HasNoBatch i.course c.args.desk.now.journal c.go_on.new.self c.go_on.new.desk.journal = c.in_default.ensures.gone in
    let at : IsEvent l i.number (i.course.taken + 1) c.args.desk.now.journal c.next_event-event.new.desk.journal c.next_event-event.result =
    rw (c.go_on.ensures.loaded, same, none.journal, none.is) at c.next_event-event.ensures.event in
    rw none.is (event_settles l i.number i.seen.value.entries c.args.desk.now.journal i.course _ _ c.self.invariant on lawful few none.shut going c.next_event-event.new.desk.journal c.next_event-event.result at)

pub returns-clause-ended : goal.returns-clause-ended
returns-clause-ended g c =
    let i = c.self.inside in
    let l = arc_value i.loaded in
    let same : c.args.desk.now.loaded ≡ l = rw (← c.self.view_is) at c.requires.loaded in
    let on : GoesOn i.number i.seen.value.entries c.args.desk.now.journal = rw (← c.self.view_is) at c.requires.goes_on in
    let lawful : legal l c.args.desk.now.journal ≡ true = rw same at c.journal.ensures.legal in
    let few : length c.args.desk.now.journal ≤ most_entries_of_journal = rw (c.as_slice.ensures, c.journal.ensures.journal) at c.journals_are_short.ensures.few in
    rw (← c.self.view_is, same) (ended_at l i.number i.seen.value.entries c.args.desk.now.journal i.course _ _ c.self.invariant on lawful few)

pub invariant_of-self-2 : goal.invariant_of-self-2
invariant_of-self-2 g c =
    let i = c.self.inside in
    let l = arc_value i.loaded in
    let same : c.args.desk.now.loaded ≡ l = rw (← c.self.view_is) at c.requires.loaded in
    let on : GoesOn i.number i.seen.value.entries c.args.desk.now.journal = rw (← c.self.view_is) at c.requires.goes_on in
    let lawful : legal l c.args.desk.now.journal ≡ true = rw same at c.journal.ensures.legal in
    let few : length c.args.desk.now.journal ≤ most_entries_of_journal = rw (c.as_slice.ensures, c.journal.ensures.journal) at c.journals_are_short.ensures.few in
    let going : i.course.done ≡ false = c.if-self.false in
    let none : HasNoBatch i.course c.args.desk.now.journal c.go_on.new.self c.go_on.new.desk.journal = c.in_default.ensures.gone in
    let at : IsEvent l i.number (i.course.taken + 1) c.args.desk.now.journal c.next_event-event.new.desk.journal c.next_event-event.result =
    rw (c.go_on.ensures.loaded, same, none.journal, none.is) at c.next_event-event.ensures.event in
    let short : length c.next_event-event.new.desk.journal ≤ most_entries_of_journal = rw (c.as_slice-2.ensures, c.journal-2.ensures.journal) at c.journals_are_short-2.ensures.few in
    let later : legal l c.next_event-event.new.desk.journal ≡ true = rw (c.next_event-event.ensures.loaded, c.go_on.ensures.loaded, same) at c.journal-2.ensures.legal in
    rw (c.of-2.ensures, c.journal-3.ensures.journal, c.settle.ensures, none.is) (event_step l i.number i.seen.value.entries c.args.desk.now.journal i.course _ _ c.self.invariant on lawful few none.shut going c.next_event-event.new.desk.journal c.next_event-event.result at later short)

pub returns-clause-turn : goal.returns-clause-turn
returns-clause-turn g c =
    let i = c.self.inside in
    let l = arc_value i.loaded in
    let same : c.args.desk.now.loaded ≡ l = rw (← c.self.view_is) at c.requires.loaded in
    let on : GoesOn i.number i.seen.value.entries c.args.desk.now.journal = rw (← c.self.view_is) at c.requires.goes_on in
    let lawful : legal l c.args.desk.now.journal ≡ true = rw same at c.journal.ensures.legal in
    let few : length c.args.desk.now.journal ≤ most_entries_of_journal = rw (c.as_slice.ensures, c.journal.ensures.journal) at c.journals_are_short.ensures.few in
    let going : i.course.done ≡ false = c.if-self.false in
    let none : HasNoBatch i.course c.args.desk.now.journal c.go_on.new.self c.go_on.new.desk.journal = c.in_default.ensures.gone in
    let at : IsEvent l i.number (i.course.taken + 1) c.args.desk.now.journal c.next_event-event.new.desk.journal c.next_event-event.result =
    rw (c.go_on.ensures.loaded, same, none.journal, none.is) at c.next_event-event.ensures.event in
    let short : length c.next_event-event.new.desk.journal ≤ most_entries_of_journal = rw (c.as_slice-2.ensures, c.journal-2.ensures.journal) at c.journals_are_short-2.ensures.few in
    let later : legal l c.next_event-event.new.desk.journal ≡ true = rw (c.next_event-event.ensures.loaded, c.go_on.ensures.loaded, same) at c.journal-2.ensures.legal in
    rw (← c.self.view_is, c.of-2.ensures, c.journal-3.ensures.journal, c.settle.ensures, none.is) (event_turn l i.number i.seen.value.entries c.args.desk.now.journal i.course _ _ c.self.invariant on lawful few none.shut going c.next_event-event.new.desk.journal c.next_event-event.result at later short)

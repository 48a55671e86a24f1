use Rattle.std.proofs.Common.{length, refl, ap, sym, ◌∙◌}
use Rattle.dq_journal.specs.Journals.{JournalOf}
use Rattle.dq_machine.specs.Machine.{after}
use Rattle.dq_desk.specs.Admissions.{remotes_at}
use Rattle.dq_batch.proofs.Admitted.{first_as, first_begins}
use Rattle.dq_batch.proofs.Begins.{held_long}
use Rattle.dq_batch.proofs.Flies.{next_idle, next_told}
use Rattle.dq_batch.proofs.batch.Batch.admit.Goals as goal

pub begin_all-requires-clause-held : goal.begin_all-requires-clause-held
begin_all-requires-clause-held g c =
    let l = c.args.desk.now.loaded in
    (held_long l.script.schemas (after l c.args.desk.now.journal).versions (remotes_at l c.args.lane c.args.step) c.in-Ok.admitted.met c.in-Ok.admitted.held c.in-Ok.ensures.held).0

pub begin_all-requires-clause-fetches : goal.begin_all-requires-clause-fetches
begin_all-requires-clause-fetches g c =
    let l = c.args.loaded.now in
    let held = rw (c.requires.same) at c.in-Ok.ensures.held in
    c.requires.prepared.room ∙ ap length c.requires.prepared.queries
    ∙ sym (held_long l.script.schemas (after l c.args.desk.now.journal).versions (remotes_at l c.args.lane c.args.step) c.in-Ok.admitted.met c.in-Ok.admitted.held held).1

pub next_group-current-requires-clause-next : goal.next_group-current-requires-clause-next
next_group-current-requires-clause-next g c =
    let entry = rw (c.requires.same) at c.in-Ok.ensures.entry in
    let met = rw (c.requires.same) at c.in-Ok.ensures.met in
    let held = rw (c.requires.same, met) at c.in-Ok.ensures.held in
    let started = rw (c.requires.same) at c.in-Ok.ensures.started in
    let lawful = rw (c.in-Ok.ensures.loaded, c.requires.same, entry) at c.journal-journal.ensures.legal in
    rw entry (first_begins c.args.loaded.now c.args.desk.now.journal c.args.lane c.args.step c.requires.may lawful c.in-Ok.admitted.held held c.in-Ok.admitted.started started)

pub invariant_of-result : goal.invariant_of-result
invariant_of-result g c =
    let entry = rw (c.requires.same) at c.in-Ok.ensures.entry in
    let met = rw (c.requires.same) at c.in-Ok.ensures.met in
    let held = rw (c.requires.same, met) at c.in-Ok.ensures.held in
    let started = rw (c.requires.same) at c.in-Ok.ensures.started in
    let stood = rw (c.requires.same) at c.in-Ok.ensures.stood in
    let lawful = rw (c.in-Ok.ensures.loaded, c.requires.same, entry) at c.journal-journal.ensures.legal in
    let keys = rw (c.as_slice.ensures, c.journal-journal.ensures.journal, entry) at c.keys_are_valid.ensures.valid in
    let place = rw entry at c.in-Ok.ensures.place in
    let follows = rw entry at c.next_group-current.ensures in
    let begun = rw met at c.begin_all.ensures in
    first_as c.args.loaded.now c.args.desk.now.journal c.args.lane c.args.step c.requires.may lawful c.in-Ok.admitted.held held c.in-Ok.admitted.started started keys c.in-Ok.admitted.place place
    c.args.preparation.prepared c.args.preparation.queries c.in-Ok.admitted.stood c.next_group-current.result c.requires.prepared.prepared c.requires.prepared.queries stood follows c.of.result.value
    c.of-2.result.value.entries c.begin_all.new.fetches c.of.ensures
    (ap (λ (j : JournalOf). j.entries) c.of-2.ensures ∙ c.journal-journal.ensures.journal ∙ entry) begun

pub returns-clause-admitted : goal.returns-clause-admitted
returns-clause-admitted g c =
    let entry = rw (c.requires.same) at c.in-Ok.ensures.entry in
    record {
      journal = entry;
      loaded = c.of.ensures;
      lane_is = refl;
      step_is = refl;
      place = c.in-Ok.ensures.place;
      seen = ap (λ (j : JournalOf). j.entries) c.of-2.ensures ∙ c.journal-journal.ensures.journal;
      pending = next_idle c.args.loaded.now c.args.lane c.admit.new.self.journal c.in-Ok.admitted.started c.next_group-current.result c.next_group-current.ensures;
      untold = next_told c.args.loaded.now c.args.lane c.admit.new.self.journal c.in-Ok.admitted.started c.next_group-current.result c.next_group-current.ensures;
    }

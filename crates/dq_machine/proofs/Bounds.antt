-- What stands of a source, and all that is still to be published, is within the room for cells.
use Rattle.std.proofs.Common.{◌≡◌, ℕ, ◌+◌, ◌*◌, ◌-◌, ◌<◌, ◌≤◌, Bool, true, false, List, [], ◌∷◌, length, take, get_or, slice_set, refl, ap, sym, ◌∙◌, arith, length-append}
use Rattle.std.proofs.lemmas.Bool.{eqb-true}
use Rattle.std.specs.List.{flat_map}
use Rattle.std.specs.Prelude.{slice_get, Option, Some, None, option_and_then, unwrap_or, nat_eq, if◌then◌else◌}
use Rattle.dq_base.specs.Headings.{Heading}
use Rattle.dq_base.specs.Limits.{cell_room}
use Rattle.dq_base.specs.Scripts.{numbered, step_of, source_in, sources_of}
use Rattle.dq_base.specs.Versions.{Version, cells_of}
use Rattle.dq_base.specs.declared.script.How.{How}
use Rattle.dq_base.specs.declared.script.How.TheVariants.{Replace, Append}
use Rattle.dq_base.specs.declared.script.Step.{Step}
use Rattle.dq_base.specs.declared.script.Step.TheVariants as step
use Rattle.dq_extract.proofs.Counts.{numbered-there}
use Rattle.dq_extract.proofs.Places.{FitsStep-segment_of}
use Rattle.dq_extract.specs.Loads.{LoadedFiles, IsLoaded, FitsStep, before_step, published_at, segment_of}
use Rattle.dq_journal.specs.Standing.{Rows, published, version_rows}
use Rattle.dq_journal.specs.declared.entry.Entry.{Entry}
use Rattle.dq_journal.specs.declared.entry.Entry.TheVariants.{Publish, Admit, Lease, Give, Lose, Land, Fall, Take, End}
use Rattle.dq_machine.proofs.Begins.{publish_above, publish_kind, admit_above}
use Rattle.dq_machine.proofs.CellsLeft.{cells_left, cells_left-start, cells_left-less, cells_left-played}
use Rattle.dq_machine.proofs.Reached.{allowed_above, allowed_may, allowed_within, reached_keeps}
use Rattle.dq_machine.specs.Machine.{IsReached, allowed, next}
use Rattle.dq_machine.specs.Publishing.{is_publish, rows_in, versions_after}
use Rattle.dq_machine.specs.State.{Publication, State, Work, no_work, start, work_of}
use Rattle.dq_machine.specs.Taking.{work_taken}

pub record IsBounded (l : LoadedFiles) (versions : List Publication) (works : List Work) : Type 0 where
  pub each : (source : ℕ) (heading : Heading) → slice_get l.script.schemas source ≡ Some heading
      → length (rows_in versions source) * length heading.names + cells_left l.segments l.script.lanes works ≤ cell_room

IsBounded-start : (l : LoadedFiles) → IsLoaded l → IsBounded l (start l).versions (start l).works
IsBounded-start l loaded = record { each = λ source heading is. omega (arith, cells_left-start l.segments l.script.lanes, loaded.cells) }

-- the segment of a publish step is among those left
left_by : (l : LoadedFiles) (works : List Work) (lane number source : ℕ) (how : How) (file : List ℕ) (v : Version) (w : Work) (steps : Option (List Step))
    → 0 < lane → lane ≤ length works → (get_or works (lane - 1) no_work).last < number → w.last ≡ number
    → numbered l.script.lanes lane ≡ steps → option_and_then (λ ss. numbered ss number) steps ≡ Some (step.Publish source how file)
    → slice_get l.segments (length (sources_of (take (lane - 1) l.script.lanes)) + length (flat_map source_in (take (number - 1) (unwrap_or steps [])))) ≡ Some v
    → cells_left l.segments l.script.lanes (slice_set works (lane - 1) w) + cells_of v ≤ cells_left l.segments l.script.lanes works
left_by l works lane number source how file v w None some within above last in_lane is found = cc
left_by l works lane number source how file v w (Some ss) some within above last in_lane is found =
    cells_left-played l.segments l.script.lanes works (lane - 1) number source how file ss w v (omega arith) above last
    (numbered-there l.script.lanes lane ss in_lane) is found

pub left-publish : (l : LoadedFiles) (works : List Work) (lane number source : ℕ) (how : How) (file : List ℕ) (v : Version) (w : Work)
    → 0 < lane → lane ≤ length works → (get_or works (lane - 1) no_work).last < number → w.last ≡ number
    → step_of l.script.lanes lane number ≡ Some (step.Publish source how file) → segment_of l lane number ≡ Some v
    → cells_left l.segments l.script.lanes (slice_set works (lane - 1) w) + cells_of v ≤ cells_left l.segments l.script.lanes works
left-publish l works lane number source how file v w some within above last kind found =
    let place : ℕ = before_step l.script.lanes lane number in
    let at : slice_get l.segments place ≡ Some v = sym (ap (published_at l.segments place) kind) ∙ found in
    left_by l works lane number source how file v w (numbered l.script.lanes lane) some within above last refl kind at

-- new rows, and then no more than before

rows_bounded : (how : How) (old new : Rows) (n left left' : ℕ) → length old * n + left ≤ cell_room → left' + length new * n ≤ left
    → length (published how old new) * n + left' ≤ cell_room
rows_bounded Replace old new n left left' within less = omega arith
rows_bounded Append old new n left left' within less = omega (arith, ap (λ k. k * n) (length-append old new))

either_bounded : (b : Bool) (new old : Rows) (n left : ℕ) → (b ≡ true → length new * n + left ≤ cell_room) → (b ≡ false → length old * n + left ≤ cell_room)
    → length (if b then new else old) * n + left ≤ cell_room
either_bounded true new old n left here elsewhere = here refl
either_bounded false new old n left here elsewhere = elsewhere refl

published_bounded : (l : LoadedFiles) (versions : List Publication) (works : List Work) (lane number : ℕ) (w : Work) (o : Option Step) (found : Option Version)
    → 0 < lane → lane ≤ length works → (get_or works (lane - 1) no_work).last < number → w.last ≡ number → is_publish o ≡ true
    → step_of l.script.lanes lane number ≡ o → segment_of l lane number ≡ found → FitsStep l.script.schemas o found
    → IsBounded l versions works → IsBounded l (versions_after versions (version_rows found) o) (slice_set works (lane - 1) w)
published_bounded l versions works lane number w None found some within above last kind at segment fits h = cc
published_bounded l versions works lane number w (Some (step.Batch zones)) found some within above last kind at segment fits h = cc
published_bounded l versions works lane number w (Some (step.Publish source how file)) None some within above last kind at segment fits h = absurd fits
published_bounded l versions works lane number w (Some (step.Publish source how file)) (Some v) some within above last kind at segment fits h =
    let left = left-publish l works lane number source how file v w some within above last at segment in
    record {
      each = λ k heading is.
          either_bounded (nat_eq source k) (published how (rows_in versions source) v.rows) (rows_in versions k) (length heading.names) (cells_left l.segments l.script.lanes (slice_set works (lane - 1) w))
          (λ here. let same = eqb-true source k here in
          let under : v.heading ≡ heading = let one = sym fits ∙ ap (slice_get l.script.schemas) same ∙ is in cc in
          rows_bounded how (rows_in versions source) v.rows (length heading.names) _ _ (h.each source heading (ap (slice_get l.script.schemas) same ∙ is)) (rw (← under) left))
          (λ elsewhere. omega (arith, h.each k heading is, left));
    }

-- what changes no version, and no last step but to a later one
kept_bounded : (l : LoadedFiles) (versions : List Publication) (works : List Work) (i : ℕ) (w : Work)
    → (get_or works i no_work).last ≤ w.last → IsBounded l versions works → IsBounded l versions (slice_set works i w)
kept_bounded l versions works i w le h = record { each = λ k heading is. omega (arith, h.each k heading is, cells_left-less l.segments l.script.lanes works i w le) }

taken_last : (w : Work) (next : Option ℕ) → w.last ≤ (work_taken w next).last
taken_last w None = omega arith
taken_last w (Some n) = omega arith

IsBounded-next : (l : LoadedFiles) (s : State) (e : Entry) → IsLoaded l → IsBounded l s.versions s.works → allowed l s e ≡ true
    → IsBounded l (next l s e).versions (next l s e).works
IsBounded-next l s (Publish lane number) loaded h a =
    let may = allowed_may l s (Publish lane number) a in
    published_bounded l s.versions s.works lane number (record (work_of s lane) { last = number }) (step_of l.script.lanes lane number) (segment_of l lane number)
    (allowed_above l s (Publish lane number) a) (allowed_within l s (Publish lane number) a)
    (publish_above l (work_of s lane) lane number may) refl (publish_kind l (work_of s lane) lane number may)
    refl refl (FitsStep-segment_of l lane number loaded) h
IsBounded-next l s (Admit lane number met) loaded h a =
    let above = admit_above l s (work_of s lane) lane number met (allowed_may l s (Admit lane number met) a) in
    kept_bounded l s.versions s.works (lane - 1) _ (omega (arith, above)) h
IsBounded-next l s (Lease lane flight link fresh) loaded h a = kept_bounded l s.versions s.works (lane - 1) _ (omega arith) h
IsBounded-next l s (Give lane flight link ran runs calls) loaded h a = kept_bounded l s.versions s.works (lane - 1) _ (omega arith) h
IsBounded-next l s (Lose lane flight link dialled ran runs calls) loaded h a = kept_bounded l s.versions s.works (lane - 1) _ (omega arith) h
IsBounded-next l s (Land lane flight cells clever literal) loaded h a = kept_bounded l s.versions s.works (lane - 1) _ (omega arith) h
IsBounded-next l s (Fall lane flight cause) loaded h a = kept_bounded l s.versions s.works (lane - 1) _ (omega arith) h
IsBounded-next l s (Take lane flight next) loaded h a = kept_bounded l s.versions s.works (lane - 1) _ (taken_last (work_of s lane) next) h
IsBounded-next l s (End lane) loaded h a = kept_bounded l s.versions s.works (lane - 1) _ (omega arith) h

pub IsBounded-reached : (l : LoadedFiles) (s : State) → IsLoaded l → IsReached l s → IsBounded l s.versions s.works
IsBounded-reached l s loaded r =
    reached_keeps l (λ s. IsBounded l s.versions s.works) (λ s e h a. IsBounded-next l s e loaded h a) s (IsBounded-start l loaded) r

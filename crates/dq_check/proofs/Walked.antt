-- What walking over a journal finds of its batches: the rows of their zones' stamps are those that stand at their entries.
use Rattle.std.proofs.Common.{◌≡◌, ◌≢◌, inl, inr, ℕ, zero, suc, ◌+◌, ◌-◌, ◌<◌, ◌≤◌, Bool, true, false, eqb, List, [], ◌∷◌, ◌++◌, length, take, drop, map, refl, ap, sym, ◌∙◌, arith, add-one, append-nil, ◌⊎◌}
use Rattle.std.proofs.Math.ListN.{drop_of_length-le}
use Rattle.std.proofs.lemmas.Bool.Decides.{eqb_tells, nat_tests}
use Rattle.std.specs.List.{fold}
use Rattle.std.specs.Prelude.{Option, Some, None, nat_eq, slice_get, if◌then◌else◌}
use Rattle.dq_base.specs.Scripts.{step_of, zones_of}
use Rattle.dq_base.specs.declared.query.Query.{Query}
use Rattle.dq_base.specs.declared.script.How.{How}
use Rattle.dq_base.specs.declared.script.Step.{Step}
use Rattle.dq_base.specs.declared.script.Step.TheVariants as step
use Rattle.dq_extract.specs.Loads.{LoadedFiles, segment_of}
use Rattle.dq_journal.specs.Standing.{Rows, after_entry, after_entries, after_step, published, stand, version_rows}
use Rattle.dq_journal.specs.declared.entry.Entry.{Entry}
use Rattle.dq_journal.specs.declared.entry.Entry.TheVariants.{Publish, Admit, Lease, Give, Lose, Land, Fall, Take, End}
use Rattle.dq_journal.specs.declared.entry.Met.{Met}
use Rattle.dq_machine.specs.Machine.{after, legal, legal_from, next, run, versions_by}
use Rattle.dq_machine.specs.Parts.{MachineOf}
use Rattle.dq_machine.specs.Publishing.{rows_at, rows_in, stamp_in, versions_after}
use Rattle.dq_machine.specs.State.{Publication, State, start}
use Rattle.dq_check.specs.Walks.{IsLegalWalk, stamps_at, stamps_from, stamps_of}

-- rows

published_rows : (versions : List Publication) (k source : ℕ) (how : How) (new : Rows) → ((eqb k source ≡ true) × (k ≡ source)) ⊎ ((eqb k source ≡ false) × (k ≢ source))
    → rows_in (record { source = k; rows = published how (rows_in versions k) new } ∷ versions) source ≡ (if nat_eq k source then published how (rows_in versions source) new else rows_in versions source)
published_rows versions k source how new (inl (told, same)) = rw told (ap (λ x. published how (rows_in versions x) new) same)
published_rows versions k source how new (inr (told, apart)) = rw told refl

step_rows : (versions : List Publication) (source : ℕ) (new : Rows) (o : Option Step) → rows_in (versions_after versions new o) source ≡ after_step source (rows_in versions source) new o
step_rows versions source new None = refl
step_rows versions source new (Some (step.Publish k how file)) = published_rows versions k source how new (eqb_tells k source)
step_rows versions source new (Some (step.Batch zones)) = refl

next_rows : (l : LoadedFiles) (s : State) (source : ℕ) (e : Entry) → rows_in (versions_by l s e) source ≡ after_entry l source (rows_in s.versions source) e
next_rows l s source (Publish lane number) = step_rows s.versions source (version_rows (segment_of l lane number)) (step_of l.script.lanes lane number)
next_rows l s source (Admit lane number met) = refl
next_rows l s source (Lease lane flight link fresh) = refl
next_rows l s source (Give lane flight link ran runs calls) = refl
next_rows l s source (Lose lane flight link dialled ran runs calls) = refl
next_rows l s source (Land lane flight cells clever literal) = refl
next_rows l s source (Fall lane flight cause) = refl
next_rows l s source (Take lane flight started) = refl
next_rows l s source (End lane) = refl

run_rows : (l : LoadedFiles) (s : State) (source : ℕ) (es : List Entry) → rows_in (run l s es).versions source ≡ fold (after_entry l source) (rows_in s.versions source) es
run_rows l s source [] = refl
run_rows l s source (e ∷ es) = run_rows l (next l s e) source es ∙ ap (λ rows. fold (after_entry l source) rows es) (next_rows l s source e)

-- stamps

stamp_within : (versions : List Publication) (source : ℕ) → stamp_in versions source ≤ length versions
stamp_within [] source = omega arith
stamp_within (v ∷ versions) source = by (nat_eq v.source source) (stamp_within versions source)
  where
    by : (b : Bool) → stamp_in versions source ≤ length versions → (if b then length versions + 1 else stamp_in versions source) ≤ length (v ∷ versions)
    by true within = omega arith
    by false within = omega arith

-- what another publication leaves is found by another stamp
older_rows : (v : Publication) (versions : List Publication) (stamp : ℕ) → stamp ≤ length versions → rows_at (v ∷ versions) stamp ≡ rows_at versions stamp
older_rows v versions stamp h = by (eqb_tells stamp (length versions + 1))
  where
    by : ((eqb stamp (length versions + 1) ≡ true) × (stamp ≡ length versions + 1)) ⊎ ((eqb stamp (length versions + 1) ≡ false) × (stamp ≢ length versions + 1))
        → rows_at (v ∷ versions) stamp ≡ rows_at versions stamp
    by (inl (told, same)) = absurd (omega arith)
    by (inr (told, apart)) = rw told refl

newest_rows : (v : Publication) (versions : List Publication) → rows_at (v ∷ versions) (length versions + 1) ≡ v.rows
newest_rows v versions = by (eqb_tells (length versions + 1) (length versions + 1))
  where
    by : ((eqb (length versions + 1) (length versions + 1) ≡ true) × (length versions + 1 ≡ length versions + 1)) ⊎ ((eqb (length versions + 1) (length versions + 1) ≡ false) × (length versions + 1 ≢ length versions + 1))
        → rows_at (v ∷ versions) (length versions + 1) ≡ v.rows
    by (inl (told, same)) = rw told refl
    by (inr (told, apart)) = absurd (apart refl)

unpublished_rows : (versions : List Publication) → rows_at versions 0 ≡ []
unpublished_rows [] = refl
unpublished_rows (v ∷ versions) = older_rows v versions 0 (omega arith) ∙ unpublished_rows versions

-- a source's stamp leads to its rows
rows_by_stamp : (versions : List Publication) (source : ℕ) → rows_at versions (stamp_in versions source) ≡ rows_in versions source
rows_by_stamp [] source = refl
rows_by_stamp (v ∷ versions) source = by (nat_eq v.source source) (rows_by_stamp versions source)
  where
    by : (b : Bool) → rows_at versions (stamp_in versions source) ≡ rows_in versions source → rows_at (v ∷ versions) (if b then length versions + 1 else stamp_in versions source) ≡ (if b then v.rows else rows_in versions source)
    by true older = newest_rows v versions
    by false older = older_rows v versions (stamp_in versions source) (stamp_within versions source) ∙ older

-- later entries leave what an older stamp leads to
record Kept (old new : List Publication) : Type 0 where
  longer : length old ≤ length new
  rows : (stamp : ℕ) → stamp ≤ length old → rows_at new stamp ≡ rows_at old stamp

step_keeps : (versions : List Publication) (new : Rows) (o : Option Step) → Kept versions (versions_after versions new o)
step_keeps versions new None = record { longer = omega arith; rows = λ stamp h. refl }
step_keeps versions new (Some (step.Publish k how file)) = record { longer = omega arith; rows = λ stamp h. older_rows (record { source = k; rows = published how (rows_in versions k) new }) versions stamp h }
step_keeps versions new (Some (step.Batch zones)) = record { longer = omega arith; rows = λ stamp h. refl }

same_kept : (versions : List Publication) → Kept versions versions
same_kept versions = record { longer = omega arith; rows = λ stamp h. refl }

next_keeps : (l : LoadedFiles) (s : State) (e : Entry) → Kept s.versions (versions_by l s e)
next_keeps l s (Publish lane number) = step_keeps s.versions (version_rows (segment_of l lane number)) (step_of l.script.lanes lane number)
next_keeps l s (Admit lane number met) = same_kept s.versions
next_keeps l s (Lease lane flight link fresh) = same_kept s.versions
next_keeps l s (Give lane flight link ran runs calls) = same_kept s.versions
next_keeps l s (Lose lane flight link dialled ran runs calls) = same_kept s.versions
next_keeps l s (Land lane flight cells clever literal) = same_kept s.versions
next_keeps l s (Fall lane flight cause) = same_kept s.versions
next_keeps l s (Take lane flight started) = same_kept s.versions
next_keeps l s (End lane) = same_kept s.versions

run_keeps : (l : LoadedFiles) (s : State) (es : List Entry) → Kept s.versions (run l s es).versions
run_keeps l s [] = same_kept s.versions
run_keeps l s (e ∷ es) =
    let one = next_keeps l s e in
    let more = run_keeps l (next l s e) es in
    record {
      longer = omega (arith, one.longer, more.longer);
      rows = λ stamp h. let within : stamp ≤ length (versions_by l s e) = omega (arith, one.longer, h) in more.rows stamp within ∙ one.rows stamp h;
    }

run_split : (l : LoadedFiles) (s : State) (count : ℕ) (es : List Entry) → run l s es ≡ run l (run l s (take count es)) (drop count es)
run_split l s zero es = refl
run_split l s (suc n) [] = refl
run_split l s (suc n) (e ∷ es) = run_split l (next l s e) n es

-- the state that the entries before a place leave
abbrev pub before : LoadedFiles → List Entry → ℕ → State
before l journal place = run l (start l) (take (place - 1) journal)

pub stamps_lead : (l : LoadedFiles) (journal : List Entry) (place source : ℕ)
    → rows_at (after l journal).versions (stamp_in (before l journal place).versions source) ≡ stand l journal place source
unfolding after
stamps_lead l journal place source =
    let standing = before l journal place in
    let kept = run_keeps l standing (drop (place - 1) journal) in
    ap (λ (s : State). rows_at s.versions (stamp_in standing.versions source)) (run_split l (start l) (place - 1) journal)
    ∙ kept.rows (stamp_in standing.versions source) (stamp_within standing.versions source)
    ∙ rows_by_stamp standing.versions source
    ∙ run_rows l (start l) source (take (place - 1) journal)

-- the stamps of a batch's zones
stamps_found : (l : LoadedFiles) (s : State) (journal : List Entry) (place : ℕ) (e : Entry) → slice_get journal place ≡ Some e
    → slice_get (stamps_from l s journal) place ≡ Some (stamps_at l (run l s (take place journal)) e)
stamps_found l s [] place e h = cc
stamps_found l s (x ∷ journal) zero e h = let same : x ≡ e = cc in ap (λ y. Some (stamps_at l s y)) same
stamps_found l s (x ∷ journal) (suc n) e h = stamps_found l (next l s x) journal n e h

pub admitted_stamps : (l : LoadedFiles) (journal : List Entry) (place lane number : ℕ) (met : List Met) → slice_get journal (place - 1) ≡ Some (Admit lane number met)
    → slice_get (stamps_from l (start l) journal) (place - 1) ≡ Some (stamps_of (before l journal place) (zones_of (step_of l.script.lanes lane number)))
admitted_stamps l journal place lane number met h = stamps_found l (start l) journal (place - 1) (Admit lane number met) h

-- the walk's end

pub walk_ends : (l : LoadedFiles) (journal : List Entry) (m : MachineOf) (stamps : List (List ℕ)) (place : ℕ) → m.loaded ≡ l
    → legal_from l (start l) journal ≡ legal_from l m.state (drop place journal) → run l (start l) journal ≡ run l m.state (drop place journal)
    → stamps_from l (start l) journal ≡ stamps ++ stamps_from l m.state (drop place journal) → length journal ≤ place
    → IsLegalWalk l journal (record { machine = m; stamps = stamps })
unfolding legal after
walk_ends l journal m stamps place loaded lawful ran told end =
    let none : drop place journal ≡ [] = drop_of_length-le journal end in
    let state : m.state ≡ run l (start l) journal = sym (ran ∙ ap (run l m.state) none) in
    record {
      legal = lawful ∙ ap (legal_from l m.state) none;
      machine = rw (loaded, state) refl;
      stamps = sym (told ∙ ap (λ es. stamps ++ stamps_from l m.state es) none ∙ append-nil stamps);
    }

-- The rows that stand at a place of a journal, by their stamps.
use Rattle.std.proofs.Common.{◌≡◌, ◌≢◌, inl, inr, ℕ, ◌+◌, ◌-◌, ◌≤◌, Bool, true, false, eqb, List, [], ◌∷◌, ◌++◌, length, take, drop, refl, ap, sym, ◌∙◌, arith}
use Rattle.std.proofs.lemmas.Bool.Decides.{eqb_tells}
use Rattle.std.proofs.lemmas.List.{take-append-drop, take-append-le}
use Rattle.std.specs.List.{fold}
use Rattle.std.specs.Prelude.{◌⊎◌, Option, Some, None, nat_eq, if◌then◌else◌}
use Rattle.dq_base.specs.Scripts.{step_of}
use Rattle.dq_base.specs.declared.script.How.{How}
use Rattle.dq_base.specs.declared.script.Step.{Step}
use Rattle.dq_base.specs.declared.script.Step.TheVariants as step
use Rattle.dq_extract.specs.Loads.{LoadedFiles, segment_of}
use Rattle.dq_journal.specs.Standing.{Rows, after_entry, after_entries, after_step, published, stand, version_rows}
use Rattle.dq_journal.specs.declared.entry.Entry.{Entry}
use Rattle.dq_journal.specs.declared.entry.Entry.TheVariants.{Publish, Admit, Lease, Give, Lose, Land, Fall, Take, End}
use Rattle.dq_laws.proofs.Stays.{Adds, adds_next, run_append}
use Rattle.dq_machine.specs.Machine.{after, next, run, versions_by}
use Rattle.dq_machine.specs.Publishing.{rows_at, rows_in, stamp_in, versions_after}
use Rattle.dq_machine.specs.State.{Publication, State, start}

-- stamps

pub stamp_within : (versions : List Publication) (source : ℕ) → stamp_in versions source ≤ length versions
stamp_within [] source = omega arith
stamp_within (v ∷ versions) source = by (nat_eq v.source source) (stamp_within versions source)
  where
    by : (b : Bool) → stamp_in versions source ≤ length versions → (if b then length versions + 1 else stamp_in versions source) ≤ length (v ∷ versions)
    by true within = omega arith
    by false within = omega arith

-- what another publication leaves is found by another stamp
older_rows : (v : Publication) (versions : List Publication) (stamp : ℕ) → stamp ≤ length versions → rows_at (v ∷ versions) stamp ≡ rows_at versions stamp
older_rows v versions stamp h = by (eqb_tells stamp (length versions + 1))
  where
    by : ((eqb stamp (length versions + 1) ≡ true) × (stamp ≡ length versions + 1)) ⊎ ((eqb stamp (length versions + 1) ≡ false) × (stamp ≢ length versions + 1))
        → rows_at (v ∷ versions) stamp ≡ rows_at versions stamp
    by (inl (told, same)) = absurd (omega arith)
    by (inr (told, apart)) = rw told refl

newest_rows : (v : Publication) (versions : List Publication) → rows_at (v ∷ versions) (length versions + 1) ≡ v.rows
newest_rows v versions = by (eqb_tells (length versions + 1) (length versions + 1))
  where
    by : ((eqb (length versions + 1) (length versions + 1) ≡ true) × (length versions + 1 ≡ length versions + 1)) ⊎ ((eqb (length versions + 1) (length versions + 1) ≡ false) × (length versions + 1 ≢ length versions + 1))
        → rows_at (v ∷ versions) (length versions + 1) ≡ v.rows
    by (inl (told, same)) = rw told refl
    by (inr (told, apart)) = absurd (apart refl)

-- a source's stamp leads to its rows
pub rows_named : (versions : List Publication) (source : ℕ) → rows_at versions (stamp_in versions source) ≡ rows_in versions source
rows_named [] source = refl
rows_named (v ∷ versions) source = by (nat_eq v.source source) (rows_named versions source)
  where
    by : (b : Bool) → rows_at versions (stamp_in versions source) ≡ rows_in versions source → rows_at (v ∷ versions) (if b then length versions + 1 else stamp_in versions source) ≡ (if b then v.rows else rows_in versions source)
    by true older = newest_rows v versions
    by false older = older_rows v versions (stamp_in versions source) (stamp_within versions source) ∙ older

-- what entries leave of a source

published_rows : (versions : List Publication) (k source : ℕ) (how : How) (new : Rows) → ((eqb k source ≡ true) × (k ≡ source)) ⊎ ((eqb k source ≡ false) × (k ≢ source))
    → rows_in (record { source = k; rows = published how (rows_in versions k) new } ∷ versions) source ≡ (if nat_eq k source then published how (rows_in versions source) new else rows_in versions source)
published_rows versions k source how new (inl (told, same)) = rw told (ap (λ x. published how (rows_in versions x) new) same)
published_rows versions k source how new (inr (told, apart)) = rw told refl

step_rows : (versions : List Publication) (source : ℕ) (new : Rows) (o : Option Step) → rows_in (versions_after versions new o) source ≡ after_step source (rows_in versions source) new o
step_rows versions source new None = refl
step_rows versions source new (Some (step.Publish k how file)) = published_rows versions k source how new (eqb_tells k source)
step_rows versions source new (Some (step.Batch zones)) = refl

next_rows : (l : LoadedFiles) (s : State) (source : ℕ) (e : Entry) → rows_in (versions_by l s e) source ≡ after_entry l source (rows_in s.versions source) e
next_rows l s source (Publish lane number) = step_rows s.versions source (version_rows (segment_of l lane number)) (step_of l.script.lanes lane number)
next_rows l s source (Admit lane number met) = refl
next_rows l s source (Lease lane flight link fresh) = refl
next_rows l s source (Give lane flight link ran runs calls) = refl
next_rows l s source (Lose lane flight link dialled ran runs calls) = refl
next_rows l s source (Land lane flight cells clever literal) = refl
next_rows l s source (Fall lane flight cause) = refl
next_rows l s source (Take lane flight started) = refl
next_rows l s source (End lane) = refl

run_rows : (l : LoadedFiles) (s : State) (source : ℕ) (es : List Entry) → rows_in (run l s es).versions source ≡ fold (after_entry l source) (rows_in s.versions source) es
run_rows l s source [] = refl
run_rows l s source (e ∷ es) = run_rows l (next l s e) source es ∙ ap (λ rows. fold (after_entry l source) rows es) (next_rows l s source e)

-- the state that the entries before a place leave has the rows that stand there
pub rows_stand : (l : LoadedFiles) (journal : List Entry) (place source : ℕ) → rows_in (after l (take (place - 1) journal)).versions source ≡ stand l journal place source
unfolding after
rows_stand l journal place source = run_rows l (start l) source (take (place - 1) journal)

-- what entries that come later leave

adds_run : (l : LoadedFiles) (s : State) (es : List Entry) → Adds s.versions (run l s es).versions
adds_run l s [] = record { more = omega arith; rows = λ stamp le. refl }
adds_run l s (e ∷ es) =
    let one = adds_next l s e in
    let rest = adds_run l (next l s e) es in
    record {
      more = omega (arith, one.more, rest.more);
      rows = λ stamp le. let later : stamp ≤ length (next l s e).versions = omega (arith, le, one.more) in rest.rows stamp later ∙ one.rows stamp le;
    }

-- there are no fewer publications, and the old stamps have their rows
pub versions_go_on : (l : LoadedFiles) (journal more : List Entry) → Adds (after l journal).versions (after l (journal ++ more)).versions
unfolding after
versions_go_on l journal more = rw (run_append l (start l) journal more) (adds_run l (run l (start l) journal) more)

-- the stamp that a source had at a place leads to the rows that stand there, whatever came since
pub rows_since : (l : LoadedFiles) (journal : List Entry) (place source : ℕ)
    → rows_at (after l journal).versions (stamp_in (after l (take (place - 1) journal)).versions source) ≡ stand l journal place source
rows_since l journal place source =
    let before = take (place - 1) journal in
    let stamp : ℕ = stamp_in (after l before).versions source in
    ap (λ es. rows_at (after l es).versions stamp) (sym (take-append-drop (place - 1) journal))
    ∙ (versions_go_on l before (drop (place - 1) journal)).rows stamp (stamp_within (after l before).versions source)
    ∙ rows_named (after l before).versions source
    ∙ rows_stand l journal place source

pub stand_stays : (l : LoadedFiles) (journal more : List Entry) (place source : ℕ) → place ≤ length journal + 1 → stand l (journal ++ more) place source ≡ stand l journal place source
stand_stays l journal more place source le =
    let within : place - 1 ≤ length journal = omega (arith, le) in ap (after_entries l source) (take-append-le (place - 1) journal more within)

-- What a publication left stays.
use Rattle.std.proofs.Common.{◌≡◌, ◌≢◌, inl, inr, ℕ, ◌+◌, ◌≤◌, true, false, eqb, List, [], ◌∷◌, ◌++◌, length, refl, ◌∙◌, arith}
use Rattle.std.proofs.lemmas.Bool.Decides.{eqb_tells}
use Rattle.std.specs.Prelude.{◌⊎◌, Option, Some, None}
use Rattle.dq_base.specs.Scripts.{step_of}
use Rattle.dq_base.specs.declared.script.Step.{Step}
use Rattle.dq_base.specs.declared.script.Step.TheVariants as step
use Rattle.dq_extract.specs.Loads.{LoadedFiles, segment_of}
use Rattle.dq_journal.specs.Standing.{Rows, published, version_rows}
use Rattle.dq_journal.specs.declared.entry.Entry.{Entry}
use Rattle.dq_journal.specs.declared.entry.Entry.TheVariants.{Publish, Admit, Lease, Give, Lose, Land, Fall, Take, End}
use Rattle.dq_machine.specs.Machine.{after, next, run}
use Rattle.dq_machine.specs.Publishing.{rows_at, rows_in, versions_after}
use Rattle.dq_machine.specs.State.{Publication, State, start}

-- the versions were added to: there are no fewer, and the old stamps have their rows
pub record Adds (old new : List Publication) : Type 0 where
  pub more : length old ≤ length new
  pub rows : (stamp : ℕ) → stamp ≤ length old → rows_at new stamp ≡ rows_at old stamp

same_adds : (versions : List Publication) → Adds versions versions
same_adds versions = record { more = omega arith; rows = λ stamp le. refl }

one_rows : (v : Publication) (versions : List Publication) (stamp : ℕ) → stamp ≤ length versions
    → ((eqb stamp (length versions + 1) ≡ true) × (stamp ≡ length versions + 1)) ⊎ ((eqb stamp (length versions + 1) ≡ false) × (stamp ≢ length versions + 1))
    → rows_at (v ∷ versions) stamp ≡ rows_at versions stamp
one_rows v versions stamp le (inl (told, same)) = absurd (omega (arith, le, same))
one_rows v versions stamp le (inr (told, apart)) = rw told refl

adds_after : (versions : List Publication) (new : Rows) (o : Option Step) → Adds versions (versions_after versions new o)
adds_after versions new None = same_adds versions
adds_after versions new (Some (step.Batch zones)) = same_adds versions
adds_after versions new (Some (step.Publish source how file)) =
    let v : Publication = record { source = source; rows = published how (rows_in versions source) new } in
    record { more = omega arith; rows = λ stamp le. one_rows v versions stamp le (eqb_tells stamp (length versions + 1)) }

pub adds_next : (l : LoadedFiles) (s : State) (e : Entry) → Adds s.versions (next l s e).versions
adds_next l s (Publish lane number) = adds_after s.versions (version_rows (segment_of l lane number)) (step_of l.script.lanes lane number)
adds_next l s (Admit lane number met) = same_adds s.versions
adds_next l s (Lease lane flight link fresh) = same_adds s.versions
adds_next l s (Give lane flight link ran runs calls) = same_adds s.versions
adds_next l s (Lose lane flight link dialled ran runs calls) = same_adds s.versions
adds_next l s (Land lane flight cells clever literal) = same_adds s.versions
adds_next l s (Fall lane flight cause) = same_adds s.versions
adds_next l s (Take lane flight next) = same_adds s.versions
adds_next l s (End lane) = same_adds s.versions

adds_run : (l : LoadedFiles) (s : State) (es : List Entry) → Adds s.versions (run l s es).versions
adds_run l s [] = same_adds s.versions
adds_run l s (e ∷ es) =
    let one = adds_next l s e in
    let rest = adds_run l (next l s e) es in
    record {
      more = omega (arith, one.more, rest.more);
      rows = λ stamp le. let later : stamp ≤ length (next l s e).versions = omega (arith, le, one.more) in rest.rows stamp later ∙ one.rows stamp le;
    }

pub run_append : (l : LoadedFiles) (s : State) (es fs : List Entry) → run l s (es ++ fs) ≡ run l (run l s es) fs
run_append l s [] fs = refl
run_append l s (e ∷ es) fs = run_append l (next l s e) es fs

pub rows_stay : (l : LoadedFiles) (journal more : List Entry) (stamp : ℕ) → stamp ≤ length (after l journal).versions
    → rows_at (after l (journal ++ more)).versions stamp ≡ rows_at (after l journal).versions stamp
unfolding after
rows_stay l journal more stamp le = rw (run_append l (start l) journal more) ((adds_run l (run l (start l) journal) more).rows stamp le)

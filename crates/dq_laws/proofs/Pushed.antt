-- A legal journal's last entry was allowed.
use Rattle.std.proofs.Common.{◌≡◌, true, List, [], ◌∷◌, ◌++◌, refl}
use Rattle.dq_extract.specs.Loads.{LoadedFiles}
use Rattle.dq_journal.specs.declared.entry.Entry.{Entry}
use Rattle.dq_machine.proofs.Reached.{and_both, and_first, and_second}
use Rattle.dq_machine.specs.Machine.{after, allowed, legal, legal_from, next, run}
use Rattle.dq_machine.specs.State.{State, start}

-- the journal before the entry is legal, and the entry may come behind it
pub record IsPushed (l : LoadedFiles) (journal : List Entry) (e : Entry) : Type 0 where
  pub legal : legal l journal ≡ true
  pub allowed : allowed l (after l journal) e ≡ true
  pub after : after l (journal ++ e ∷ []) ≡ next l (after l journal) e

run_push : (l : LoadedFiles) (s : State) (es : List Entry) (e : Entry) → run l s (es ++ e ∷ []) ≡ next l (run l s es) e
run_push l s [] e = refl
run_push l s (x ∷ es) e = run_push l (next l s x) es e

before_legal : (l : LoadedFiles) (s : State) (es : List Entry) (e : Entry) → legal_from l s (es ++ e ∷ []) ≡ true → legal_from l s es ≡ true
before_legal l s [] e h = refl
before_legal l s (x ∷ es) e h =
    and_both (allowed l s x) (legal_from l (next l s x) es) (and_first (allowed l s x) (legal_from l (next l s x) (es ++ e ∷ [])) h)
    (before_legal l (next l s x) es e (and_second (allowed l s x) (legal_from l (next l s x) (es ++ e ∷ [])) h))

last_allowed : (l : LoadedFiles) (s : State) (es : List Entry) (e : Entry) → legal_from l s (es ++ e ∷ []) ≡ true → allowed l (run l s es) e ≡ true
last_allowed l s [] e h = and_first (allowed l s e) true h
last_allowed l s (x ∷ es) e h = last_allowed l (next l s x) es e (and_second (allowed l s x) (legal_from l (next l s x) (es ++ e ∷ [])) h)

pub pushed : (l : LoadedFiles) (journal : List Entry) (e : Entry) → legal l (journal ++ e ∷ []) ≡ true → IsPushed l journal e
unfolding after legal
pushed l journal e h = record {
  legal = before_legal l (start l) journal e h;
  allowed = last_allowed l (start l) journal e h;
  after = run_push l (start l) journal e;
}

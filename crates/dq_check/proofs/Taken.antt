-- What the Takes behind a place of the journal start.
use Rattle.std.proofs.Common.{◌≡◌, ℕ, zero, suc, ◌+◌, ◌<◌, ◌≤◌, Bool, true, false, cond, nat_eq, append_assoc, append-nil, slice_index_or, add-one, drop-cons, List, [], ◌∷◌, ◌++◌, ◌⊎◌, inl, inr, drop, length, Option, Some, None, refl, ap, sym, ◌∙◌, arith, get_or}
use Rattle.std.specs.List.{flat_map}
use Rattle.std.specs.Prelude.{slice_get}
use Rattle.std.proofs.Math.ListN.{drop_of_length-le}
use Rattle.std.proofs.Math.Seq.{drop-append_seam}
use Rattle.std.proofs.lemmas.Option.{slice_get_cases}
use Rattle.dq_journal.specs.Journals.{lane_of}
use Rattle.dq_journal.specs.Steps.{entries_of}
use Rattle.dq_journal.specs.declared.entry.Entry.{Entry}
use Rattle.dq_machine.specs.Owning.{started_behind, started_in}
use Rattle.dq_check.specs.Takes.{TakesOf, behind_count, behind_of}

-- what all Takes of a lane start
abbrev pub all_started : ℕ → List Entry → List (Option ℕ)
all_started lane journal = flat_map started_in (entries_of lane journal)

-- each count leads to what the Takes behind its place start
abbrev pub CountBehind : ℕ → List Entry → List ℕ → Type 0
CountBehind lane journal before =
    (place count : ℕ) → slice_get before place ≡ Some count → drop count (all_started lane journal) ≡ all_started lane (drop place journal)

-- an item of a list with one more behind it
item_or_last : (xs : List ℕ) (x y place : ℕ) → slice_get (xs ++ x ∷ []) place ≡ Some y → (slice_get xs place ≡ Some y) ⊎ ((place ≡ length xs) × (x ≡ y))
item_or_last [] x y zero h = let same : x ≡ y = cc in inr (refl, same)
item_or_last [] x y (suc k) h = cc
item_or_last (z ∷ xs) x y zero h = inl h
item_or_last (z ∷ xs) x y (suc k) h = on (item_or_last xs x y k h)
  where
    on : (slice_get xs k ≡ Some y) ⊎ ((k ≡ length xs) × (x ≡ y)) → (slice_get xs k ≡ Some y) ⊎ ((suc k ≡ suc (length xs)) × (x ≡ y))
    on (inl e) = inl e
    on (inr p) = inr (ap suc p.0, p.1)

pub counts_more : (lane : ℕ) (journal : List Entry) (started : List (Option ℕ)) (before : List ℕ)
    → all_started lane journal ≡ started ++ all_started lane (drop (length before) journal)
    → CountBehind lane journal before → CountBehind lane journal (before ++ length started ∷ [])
counts_more lane journal started before whole h = λ place count e. by place count (item_or_last before (length started) count place e)
  where
    by : (place count : ℕ) → (slice_get before place ≡ Some count) ⊎ ((place ≡ length before) × (length started ≡ count))
        → drop count (all_started lane journal) ≡ all_started lane (drop place journal)
    by place count (inl f) = h place count f
    by place count (inr p) =
        ap (λ n. drop n (all_started lane journal)) (sym p.1) ∙ ap (drop (length started)) whole
        ∙ drop-append_seam started (all_started lane (drop (length before) journal)) ∙ ap (λ n. all_started lane (drop n journal)) (sym p.0)

past_is_none : (lane : ℕ) (journal : List Entry) (before : List ℕ) (place : ℕ) → length before ≡ length journal → slice_get before place ≡ None → [] ≡ started_behind journal lane place
past_is_none lane journal before place count e =
    ap (all_started lane) (sym (drop_of_length-le journal (past (slice_get_cases before place))))
  where
    past : (slice_get before place ≡ slice_get before place) × (((x : ℕ) × (place < length before) × (slice_get before place ≡ Some x) × (get_or before place x ≡ x)) ⊎ ((length before ≤ place) × (slice_get before place ≡ None))) → length journal ≤ place
    past p = cases p.1
      where
        cases : ((x : ℕ) × (place < length before) × (slice_get before place ≡ Some x) × (get_or before place x ≡ x)) ⊎ ((length before ≤ place) × (slice_get before place ≡ None)) → length journal ≤ place
        cases (inl q) = let no : None ≡ Some q.0 = sym e ∙ q.2 in cc
        cases (inr q) = omega arith

-- where all entries were counted
pub taken_behind : (lane : ℕ) (journal : List Entry) (t : TakesOf) → t.started ≡ all_started lane journal → length t.before ≡ length journal
    → CountBehind lane journal t.before → (place : ℕ) → behind_of t place ≡ started_behind journal lane place
taken_behind lane journal t all count h place = by (slice_get t.before place) refl
  where
    by : (o : Option ℕ) → slice_get t.before place ≡ o → behind_count t.started o ≡ started_behind journal lane place
    by None e = past_is_none lane journal t.before place count e
    by (Some n) e = ap (drop n) all ∙ h place n e

-- one entry more
started_cons : (lane : ℕ) (e : Entry) (es : List Entry) → all_started lane (e ∷ es) ≡ all_started lane (e ∷ []) ++ all_started lane es
started_cons lane e es = by (nat_eq (lane_of e) lane)
  where
    by : (b : Bool) → flat_map started_in (cond b (e ∷ entries_of lane es) (entries_of lane es)) ≡ flat_map started_in (cond b (e ∷ []) []) ++ all_started lane es
    by true = ap (λ xs. xs ++ all_started lane es) (sym (append-nil (started_in e)))
    by false = refl

pub started_more : (lane : ℕ) (journal rest : List Entry) (started more : List (Option ℕ)) (e : Entry)
    → all_started lane journal ≡ started ++ all_started lane (e ∷ rest) → more ≡ started ++ all_started lane (e ∷ [])
    → all_started lane journal ≡ more ++ all_started lane rest
started_more lane journal rest started more e whole pushed =
    whole ∙ ap (λ xs. started ++ xs) (started_cons lane e rest) ∙ sym (append_assoc started (all_started lane (e ∷ [])) (all_started lane rest))
    ∙ ap (λ xs. xs ++ all_started lane rest) (sym pushed)

pub taken_whole : (lane : ℕ) (journal : List Entry) (started : List (Option ℕ)) (seen : ℕ) → all_started lane journal ≡ started ++ all_started lane (drop seen journal) → length journal ≤ seen
    → started ≡ all_started lane journal
taken_whole lane journal started seen whole end =
    sym (whole ∙ ap (λ es. started ++ all_started lane es) (drop_of_length-le journal end) ∙ append-nil started)

pub entries_from : (journal : List Entry) (place : ℕ) (e : Entry) → place < length journal → e ≡ slice_index_or journal place e → drop place journal ≡ e ∷ drop (place + 1) journal
entries_from journal place e h is = rw add-one (drop-cons journal place e h ∙ ap (λ x. x ∷ drop (suc place) journal) (sym is))

longer : (xs : List ℕ) (x : ℕ) → length (xs ++ x ∷ []) ≡ suc (length xs)
longer [] x = refl
longer (y ∷ xs) x = ap suc (longer xs x)

pub one_longer : (xs : List ℕ) (x n : ℕ) → length xs ≡ n → length (xs ++ x ∷ []) ≡ n + 1
one_longer xs x n h = let more = longer xs x in omega arith

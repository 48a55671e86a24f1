-- The entries so far, those that are owed and those that the steps to come may bring are together no more than at first.
use Rattle.std.proofs.Common.{◌≡◌, ℕ, zero, suc, ◌+◌, ◌*◌, ◌-◌, ◌<◌, ◌≤◌, true, leb, List, [], ◌∷◌, length, drop, get_or, slice_set, sum_by, replicate, Option, Some, None, refl, ap, arith}
use Rattle.std.proofs.lemmas.Bool.{leb-true}
use Rattle.std.proofs.lemmas.List.Folds.{sum_by-replicate}
use Rattle.std.proofs.lemmas.List.Sums.{sum_by-cons, sum_by-drop_more, sum_by-take-drop}
use Rattle.std.proofs.lemmas.Option.{slice_get_within, get_or_from_slice_get}
use Rattle.std.specs.List.{list_all}
use Rattle.std.specs.Prelude.{option_and_then, slice_get}
use Rattle.dq_base.specs.Limits.{most_steps}
use Rattle.dq_base.specs.Scripts.{lane_fits, numbered, step_fits, step_of, zones_count, zones_in, zones_of}
use Rattle.dq_base.specs.declared.query.Query.{Query}
use Rattle.dq_base.specs.declared.script.Step.{Step}
use Rattle.dq_base.specs.declared.script.Step.TheVariants as step
use Rattle.dq_extract.proofs.Counts.{numbered-there}
use Rattle.dq_extract.specs.Loads.{LoadedFiles, IsLoaded}
use Rattle.dq_journal.specs.Journals.{lane_of}
use Rattle.dq_journal.specs.declared.entry.Entry.{Entry}
use Rattle.dq_journal.specs.declared.entry.Entry.TheVariants.{Publish, Admit, Lease, Give, Lose, Land, Fall, Take, End}
use Rattle.dq_machine.proofs.Begins.{admit_above, admit_kind, publish_above, publish_kind}
use Rattle.dq_machine.proofs.Few.{groups_few, met_few, remotes_few}
use Rattle.dq_machine.proofs.Reached.{IsReached-next, IsReached-start, allowed_above, allowed_may, allowed_within, and_first, and_second}
use Rattle.dq_machine.specs.Admitting.{admission_of, is_batch, looked, missed}
use Rattle.dq_machine.specs.Machine.{IsReached, allowed, legal, legal_from, next, work_admitted}
use Rattle.dq_machine.specs.Preparing.{remotes_of}
use Rattle.dq_machine.specs.Publishing.{is_publish}
use Rattle.dq_machine.specs.State.{State, Work, no_work, start, work_of}
use Rattle.dq_machine.specs.Taking.{work_taken}
use Rattle.dq_laws.specs.Lengths.{entries_for, most_entries_of_journal}
use Rattle.dq_laws.specs.Room.{owed, owed_work}
use Rattle.dq_laws.proofs.Owed.{admission_owed, few_more, owed_next}

-- what a step may bring: its own entry, and six for each zone
abbrev pub brings : Step → ℕ
brings s = 1 + 6 * zones_in s

-- the steps of all lanes behind their last ones
abbrev pub coming : List (List Step) → List Work → ℕ
coming [] works = 0
coming (steps ∷ lanes) [] = 0
coming (steps ∷ lanes) (w ∷ works) = sum_by brings (drop w.last steps) + coming lanes works

-- sums behind a place

module _ {X : Type 0} (f : X → ℕ) where
  sum_less : (xs : List X) (a b : ℕ) → a ≤ b → sum_by f (drop b xs) ≤ sum_by f (drop a xs)
  sum_less [] zero zero le = omega arith
  sum_less [] zero (suc b) le = omega arith
  sum_less [] (suc a) zero le = omega arith
  sum_less [] (suc a) (suc b) le = omega arith
  sum_less (x ∷ xs) zero b le = omega (arith, sum_by-take-drop f (x ∷ xs) b)
  sum_less (x ∷ xs) (suc a) zero le = absurd (omega arith)
  sum_less (x ∷ xs) (suc a) (suc b) le = sum_less xs a b (omega arith)

  sum_played : (xs : List X) (a p : ℕ) (x : X) → slice_get xs p ≡ Some x → a ≤ p → sum_by f (drop (p + 1) xs) + f x ≤ sum_by f (drop a xs)
  sum_played xs a p x is le =
      omega (arith, sum_less xs a p le, sum_by-drop_more f xs p x (slice_get_within xs p x is), ap f (get_or_from_slice_get xs p x x is))

-- a later last step leaves no more
coming_less : (lanes : List (List Step)) (works : List Work) (i : ℕ) (w : Work) → (get_or works i no_work).last ≤ w.last
    → coming lanes (slice_set works i w) ≤ coming lanes works
coming_less [] works i w le = omega arith
coming_less (steps ∷ lanes) [] i w le = omega arith
coming_less (steps ∷ lanes) (v ∷ works) zero w le = omega (arith, sum_less brings steps v.last w.last le)
coming_less (steps ∷ lanes) (v ∷ works) (suc i) w le = omega (arith, coming_less lanes works i w le)

-- a step that begins isn't to come any more
coming_played : (lanes : List (List Step)) (works : List Work) (i number : ℕ) (steps : List Step) (s : Step) (w : Work) → i < length works
    → (get_or works i no_work).last < number → w.last ≡ number → slice_get lanes i ≡ Some steps → slice_get steps (number - 1) ≡ Some s
    → coming lanes (slice_set works i w) + brings s ≤ coming lanes works
coming_played [] works i number steps s w lt above last lane is = cc
coming_played (ss ∷ lanes) [] i number steps s w lt above last lane is = absurd (omega arith)
coming_played (ss ∷ lanes) (v ∷ works) zero number steps s w lt above last lane is =
    let same : ss ≡ steps = cc in
    let next : number - 1 + 1 ≡ w.last = omega (arith, above, last) in
    let played : sum_by brings (drop w.last steps) + brings s ≤ sum_by brings (drop v.last steps) = rw (← next) (sum_played brings steps v.last (number - 1) s is (omega (arith, above))) in
    rw same (omega (arith, played))
coming_played (ss ∷ lanes) (v ∷ works) (suc i) number steps s w lt above last lane is =
    omega (arith, coming_played lanes works i number steps s w (omega arith) above last lane is)

played_in : (lanes : List (List Step)) (works : List Work) (lane number : ℕ) (s : Step) (w : Work) (o : Option (List Step)) → lane - 1 < length works
    → (get_or works (lane - 1) no_work).last < number → w.last ≡ number → numbered lanes lane ≡ o → option_and_then (λ steps. numbered steps number) o ≡ Some s
    → coming lanes (slice_set works (lane - 1) w) + brings s ≤ coming lanes works
played_in lanes works lane number s w None lt above last in_lane is = cc
played_in lanes works lane number s w (Some steps) lt above last in_lane is =
    coming_played lanes works (lane - 1) number steps s w lt above last (numbered-there lanes lane steps in_lane) (numbered-there steps number s is)

played : (lanes : List (List Step)) (works : List Work) (lane number : ℕ) (s : Step) (w : Work) → lane - 1 < length works
    → (get_or works (lane - 1) no_work).last < number → w.last ≡ number → step_of lanes lane number ≡ Some s
    → coming lanes (slice_set works (lane - 1) w) + brings s ≤ coming lanes works
played lanes works lane number s w lt above last is = played_in lanes works lane number s w (numbered lanes lane) lt above last refl is

-- at first

drop_none : {X : Type 0} (xs : List X) → drop 0 xs ≡ xs
drop_none [] = refl
drop_none (x ∷ xs) = refl

steps_bring : (steps : List Step) → sum_by brings steps ≡ length steps + 6 * sum_by zones_in steps
steps_bring [] = omega arith
steps_bring (s ∷ steps) = omega (arith, steps_bring steps, sum_by-cons brings s steps, sum_by-cons zones_in s steps)

coming_first : (lanes : List (List Step)) → coming lanes (replicate (length lanes) no_work) ≡ sum_by length lanes + 6 * zones_count lanes
coming_first [] = omega arith
coming_first (steps ∷ lanes) =
    omega (arith, coming_first lanes, steps_bring steps, ap (sum_by brings) (drop_none steps), sum_by-cons length steps lanes, sum_by-cons (λ ss. sum_by zones_in ss) steps lanes)

pub record IsShort (l : LoadedFiles) (n : ℕ) (s : State) : Type 0 where
  pub short : n + owed s + coming l.script.lanes s.works ≤ entries_for l.script.lanes

IsShort-start : (l : LoadedFiles) → IsShort l 0 (start l)
IsShort-start l = record { short = omega (arith, coming_first l.script.lanes, sum_by-replicate owed_work (length l.script.lanes) no_work) }

-- each entry

there : (l : LoadedFiles) (s : State) (e : Entry) → allowed l s e ≡ true → lane_of e - 1 < length s.works
there l s e a = omega (arith, allowed_above l s e a, allowed_within l s e a)

publish_comes : (l : LoadedFiles) (works : List Work) (lane number : ℕ) (w : Work) (o : Option Step) → lane - 1 < length works
    → (get_or works (lane - 1) no_work).last < number → w.last ≡ number → step_of l.script.lanes lane number ≡ o → is_publish o ≡ true
    → coming l.script.lanes (slice_set works (lane - 1) w) + 1 ≤ coming l.script.lanes works
publish_comes l works lane number w None lt above last at kind = cc
publish_comes l works lane number w (Some s) lt above last at kind = omega (arith, played l.script.lanes works lane number s w lt above last at)

batch_comes : (l : LoadedFiles) (works : List Work) (lane number : ℕ) (w : Work) (o : Option Step) → lane - 1 < length works
    → (get_or works (lane - 1) no_work).last < number → w.last ≡ number → step_of l.script.lanes lane number ≡ o → is_batch o ≡ true
    → coming l.script.lanes (slice_set works (lane - 1) w) + (1 + 6 * length (zones_of o)) ≤ coming l.script.lanes works
batch_comes l works lane number w None lt above last at kind = cc
batch_comes l works lane number w (Some (step.Publish source how file)) lt above last at kind = cc
batch_comes l works lane number w (Some (step.Batch zones)) lt above last at kind = omega (arith, played l.script.lanes works lane number (step.Batch zones) w lt above last at)

-- a batch has as many flights and joins as zones at most
admission_within : (l : LoadedFiles) (s : State) (lane number : ℕ)
    → length (admission_of l s lane number).groups + length (admission_of l s lane number).joins ≤ length (zones_of (step_of l.script.lanes lane number))
admission_within l s lane number =
    let zones : List Query = zones_of (step_of l.script.lanes lane number) in
    let queries : List Query = remotes_of l.script.schemas zones in
    let found = (looked s.flights.flown s.versions s.shelves queries).found in
    omega (arith, remotes_few l.script.schemas zones, met_few s.versions found queries, groups_few (missed found queries))

taken_last : (w : Work) (next : Option ℕ) → (work_taken w next).last ≡ w.last
taken_last w None = refl
taken_last w (Some number) = refl

-- an entry that was owed, of a lane whose last step stays
short_kept : (l : LoadedFiles) (n : ℕ) (s : State) (e : Entry) → IsShort l n s → owed (next l s e) + 1 ≤ owed s
    → coming l.script.lanes (next l s e).works ≤ coming l.script.lanes s.works → IsShort l (n + 1) (next l s e)
short_kept l n s e h less no_more = record { short = omega (arith, h.short, less, no_more) }

IsShort-next : (l : LoadedFiles) (n : ℕ) (s : State) (e : Entry) → IsReached l s → IsShort l n s → allowed l s e ≡ true → IsShort l (n + 1) (next l s e)
IsShort-next l n s (Publish lane number) r h a =
    let e : Entry = Publish lane number in
    let w : Work = work_of s lane in
    let may = allowed_may l s e a in
    let less = publish_comes l s.works lane number (record w { last = number }) (step_of l.script.lanes lane number) (there l s e a)
    (publish_above l w lane number may) refl refl (publish_kind l w lane number may) in
    record { short = omega (arith, h.short, less, owed_next l s e r a) }
IsShort-next l n s (Admit lane number met) r h a =
    let e : Entry = Admit lane number met in
    let w : Work = work_of s lane in
    let adm = admission_of l s lane number in
    let may = allowed_may l s e a in
    let less = batch_comes l s.works lane number (work_admitted s w number adm) (step_of l.script.lanes lane number) (there l s e a)
    (admit_above l s w lane number met may) refl refl (admit_kind l s w lane number met may) in
    let more = few_more l s e a (work_admitted s w number adm) (6 * (length adm.groups + length adm.joins)) (admission_owed s w number adm) in
    record { short = omega (arith, h.short, less, more, admission_within l s lane number) }
IsShort-next l n s (Lease lane flight link fresh) r h a =
    let e : Entry = Lease lane flight link fresh in
    short_kept l n s e h (owed_next l s e r a) (coming_less l.script.lanes s.works (lane - 1) _ (omega arith))
IsShort-next l n s (Give lane flight link ran runs calls) r h a =
    let e : Entry = Give lane flight link ran runs calls in
    short_kept l n s e h (owed_next l s e r a) (coming_less l.script.lanes s.works (lane - 1) _ (omega arith))
IsShort-next l n s (Lose lane flight link dialled ran runs calls) r h a =
    let e : Entry = Lose lane flight link dialled ran runs calls in
    short_kept l n s e h (owed_next l s e r a) (coming_less l.script.lanes s.works (lane - 1) _ (omega arith))
IsShort-next l n s (Land lane flight cells clever literal) r h a =
    let e : Entry = Land lane flight cells clever literal in
    short_kept l n s e h (owed_next l s e r a) (coming_less l.script.lanes s.works (lane - 1) _ (omega arith))
IsShort-next l n s (Fall lane flight cause) r h a =
    let e : Entry = Fall lane flight cause in
    short_kept l n s e h (owed_next l s e r a) (coming_less l.script.lanes s.works (lane - 1) _ (omega arith))
IsShort-next l n s (Take lane flight next) r h a =
    let e : Entry = Take lane flight next in
    short_kept l n s e h (owed_next l s e r a) (coming_less l.script.lanes s.works (lane - 1) _ (omega (arith, taken_last (work_of s lane) next)))
IsShort-next l n s (End lane) r h a =
    let e : Entry = End lane in
    short_kept l n s e h (owed_next l s e r a) (coming_less l.script.lanes s.works (lane - 1) _ (omega arith))

run_short : (l : LoadedFiles) (n : ℕ) (s : State) (es : List Entry) → IsReached l s → IsShort l n s → legal_from l s es ≡ true
    → n + length es ≤ entries_for l.script.lanes
run_short l n s [] r h legal = omega (arith, h.short)
run_short l n s (e ∷ es) r h legal =
    let a = and_first (allowed l s e) (legal_from l (next l s e) es) legal in
    omega (arith, run_short l (n + 1) (next l s e) es (IsReached-next l s e r a) (IsShort-next l n s e r h a) (and_second (allowed l s e) (legal_from l (next l s e) es) legal))

pub short_for : (l : LoadedFiles) (journal : List Entry) → legal l journal ≡ true → length journal ≤ entries_for l.script.lanes
unfolding legal
short_for l journal h = omega (arith, run_short l 0 (start l) journal (IsReached-start l) (IsShort-start l) h)

-- what that comes to

steps_few : (extracts : ℕ) (lanes : List (List Step)) → list_all (lane_fits extracts) lanes ≡ true → sum_by length lanes ≤ most_steps * length lanes
steps_few extracts [] h = omega arith
steps_few extracts (steps ∷ lanes) h =
    let fits = and_first (lane_fits extracts steps) (list_all (lane_fits extracts) lanes) h in
    let few = leb-true (length steps) most_steps (and_first (leb (length steps) most_steps) (list_all (step_fits extracts) steps) fits) in
    omega (arith, few, steps_few extracts lanes (and_second (lane_fits extracts steps) (list_all (lane_fits extracts) lanes) h), sum_by-cons length steps lanes)

pub short : (l : LoadedFiles) (journal : List Entry) → IsLoaded l → legal l journal ≡ true → length journal ≤ most_entries_of_journal
short l journal loaded legal =
    omega (arith, short_for l journal legal, steps_few (length l.script.schemas) l.script.lanes loaded.script.steps, loaded.script.lanes, loaded.script.zones)

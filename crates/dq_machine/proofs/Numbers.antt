-- How many flights a journal starts, and how many wait for one, stays small.
use Rattle.std.proofs.Common.{◌≡◌, ◌≢◌, inl, inr, ℕ, zero, suc, ◌+◌, ◌*◌, ◌-◌, ◌<◌, ◌≤◌, Bool, true, false, ◌&&◌, eqb, List, [], ◌∷◌, length, drop, get_or, slice_set, length-set, sum_by, replicate, refl, ap, sym, ◌∙◌, arith}
use Rattle.std.proofs.lemmas.Bool.{eqb-true}
use Rattle.std.proofs.lemmas.Bool.Decides.{eqb_tells}
use Rattle.std.proofs.lemmas.List.{get_or-set_other, get_or-set_same, get_or-replicate}
use Rattle.std.proofs.lemmas.List.Folds.{sum_by-replicate}
use Rattle.std.proofs.lemmas.List.Sums.{sum_by-cons, sum_by-set}
use Rattle.std.specs.Prelude.{◌⊎◌, All, Option, Some, None, nat_eq}
use Rattle.dq_base.specs.Limits.{most_lanes, most_steps, most_zones}
use Rattle.dq_base.specs.Scripts.{step_of, zones_of}
use Rattle.dq_base.specs.declared.query.Query.{Query}
use Rattle.dq_base.specs.declared.script.Step.{Step}
use Rattle.dq_base.specs.declared.script.Step.TheVariants as step
use Rattle.dq_extract.specs.Loads.{LoadedFiles, IsLoaded}
use Rattle.dq_journal.specs.Journals.{lane_of}
use Rattle.dq_journal.specs.declared.entry.Entry.{Entry}
use Rattle.dq_journal.specs.declared.entry.Entry.TheVariants.{Publish, Admit, Lease, Give, Lose, Land, Fall, Take, End}
use Rattle.dq_machine.proofs.Begins.{admit_above, admit_kind, publish_above, publish_kind}
use Rattle.dq_machine.proofs.Few.{AreFew, admitted_few, all_few, ended_few, few_more, groups_few, met_few, remotes_few, taken_few}
use Rattle.dq_machine.proofs.Limits.{few_steps, few_zones}
use Rattle.dq_machine.proofs.Reached.{allowed_above, allowed_may, allowed_within, and_first, and_second, reached-works, reached_keeps}
use Rattle.dq_machine.specs.Admitting.{admission_of, is_batch, looked, missed}
use Rattle.dq_machine.specs.Machine.{IsReached, allowed, next, work_admitted}
use Rattle.dq_machine.specs.Preparing.{remotes_of}
use Rattle.dq_machine.specs.Publishing.{is_publish}
use Rattle.dq_machine.specs.State.{Course, Running, Landed, Fallen, Flown, Joined, State, Work, flight_at, no_work, none_left, start, work_of}
use Rattle.dq_machine.specs.Taking.{flights_taken, is_first_join, may_take, takes_as, takes_course, work_taken}

abbrev pub all_lasts : List Work → ℕ
all_lasts works = sum_by (λ w. w.last) works

abbrev pub all_joins : List Work → ℕ
all_joins works = sum_by (λ w. length w.joins) works

-- as many flights, joins and joiners as all steps so far may have zones
pub record IsFew (works : List Work) (started : ℕ) (flown : List Flown) : Type 0 where
  pub lasts : (i : ℕ) → (get_or works i no_work).last ≤ most_steps
  pub numbers : started + all_joins works ≤ most_zones * all_lasts works
  pub joiners : AreFew (most_zones * all_lasts works) flown

-- at first

no_lasts : (n i : ℕ) → (get_or (replicate n no_work) i no_work).last ≤ most_steps
no_lasts zero zero = omega arith
no_lasts zero (suc i) = omega arith
no_lasts (suc n) zero = omega arith
no_lasts (suc n) (suc i) = no_lasts n i

IsFew-start : (l : LoadedFiles) → IsFew (start l).works (start l).flights.started (start l).flights.flown
IsFew-start l = record {
  lasts = no_lasts (length l.script.lanes);
  numbers = omega (arith, sum_by-replicate (λ (w : Work). length w.joins) (length l.script.lanes) no_work);
  joiners = tt;
}

-- a lane's work changes

one_last : (works : List Work) (i j : ℕ) (w : Work) → i < length works → w.last ≤ most_steps → (get_or works j no_work).last ≤ most_steps
    → ((eqb i j ≡ true) × (i ≡ j)) ⊎ ((eqb i j ≡ false) × (i ≢ j)) → (get_or (slice_set works i w) j no_work).last ≤ most_steps
one_last works i j w lt here there (inl (told, same)) = rw (← same, get_or-set_same works i w no_work lt) here
one_last works i j w lt here there (inr (told, apart)) = let ne : j ≢ i = λ e. apart (sym e) in rw (get_or-set_other works i j w no_work ne) there

lasts_more : (works : List Work) (i : ℕ) (w : Work) → i < length works → (get_or works i no_work).last ≤ w.last → all_lasts works ≤ all_lasts (slice_set works i w)
lasts_more works i w lt le = omega (arith, le, sum_by-set (λ (v : Work). v.last) works i w no_work lt)

few_step : (works : List Work) (started : ℕ) (flown : List Flown) (i : ℕ) (w : Work) (started' : ℕ) (flown' : List Flown) → IsFew works started flown → i < length works
    → w.last ≤ most_steps
    → started' + length w.joins + most_zones * (get_or works i no_work).last ≤ started + length (get_or works i no_work).joins + most_zones * w.last
    → AreFew (most_zones * all_lasts (slice_set works i w)) flown' → IsFew (slice_set works i w) started' flown'
few_step works started flown i w started' flown' h lt last less few = record {
  lasts = λ j. one_last works i j w lt last (h.lasts j) (eqb_tells i j);
  numbers = omega (arith, h.numbers, less, sum_by-set (λ (v : Work). v.last) works i w no_work lt, sum_by-set (λ (v : Work). length v.joins) works i w no_work lt);
  joiners = few;
}

-- it keeps its last step and its joins
few_kept : (works : List Work) (started : ℕ) (flown : List Flown) (i : ℕ) (w : Work) (flown' : List Flown) → IsFew works started flown → i < length works
    → w.last ≡ (get_or works i no_work).last → w.joins ≡ (get_or works i no_work).joins → AreFew (most_zones * all_lasts works) flown' → IsFew (slice_set works i w) started flown'
few_kept works started flown i w flown' h lt last joins few =
    few_step works started flown i w started flown' h lt (omega (arith, last, h.lasts i)) (omega (arith, last, ap length joins))
    (few_more (most_zones * all_lasts works) (most_zones * all_lasts (slice_set works i w)) flown' (omega (arith, lasts_more works i w lt (omega (arith, last)))) few)

-- steps

some_publish : (l : LoadedFiles) (lane number : ℕ) (o : Option Step) → IsLoaded l → step_of l.script.lanes lane number ≡ o → is_publish o ≡ true → number ≤ most_steps
some_publish l lane number None loaded at kind = cc
some_publish l lane number (Some s) loaded at kind = few_steps l lane number s loaded at

pub zones_few : (l : LoadedFiles) (lane number : ℕ) (o : Option Step) → IsLoaded l → step_of l.script.lanes lane number ≡ o → is_batch o ≡ true → (number ≤ most_steps) × (length (zones_of o) ≤ most_zones)
zones_few l lane number None loaded at kind = cc
zones_few l lane number (Some (step.Publish source how file)) loaded at kind = cc
zones_few l lane number (Some (step.Batch zones)) loaded at kind = (few_steps l lane number (step.Batch zones) loaded at, few_zones l lane number zones loaded at)

-- a batch has as many flights and joins as zones at most
pub admission_few : (l : LoadedFiles) (s : State) (lane number : ℕ) → length (zones_of (step_of l.script.lanes lane number)) ≤ most_zones
    → length (admission_of l s lane number).groups + length (admission_of l s lane number).joins ≤ most_zones
admission_few l s lane number few =
    let zones : List Query = zones_of (step_of l.script.lanes lane number) in
    let queries : List Query = remotes_of l.script.schemas zones in
    let found = (looked s.flights.flown s.versions s.shelves queries).found in
    omega (arith, few, remotes_few l.script.schemas zones, met_few s.versions found queries, groups_few (missed found queries))

admit_few : (l : LoadedFiles) (s : State) (lane number : ℕ) → IsLoaded l → IsFew s.works s.flights.started s.flights.flown → lane - 1 < length s.works
    → (work_of s lane).last < number → is_batch (step_of l.script.lanes lane number) ≡ true
    → IsFew (next l s (Admit lane number [])).works (next l s (Admit lane number [])).flights.started (next l s (Admit lane number [])).flights.flown
admit_few l s lane number loaded h lt above kind =
    let a = admission_of l s lane number in
    let w : Work = work_admitted s (work_of s lane) number a in
    let zones = zones_few l lane number (step_of l.script.lanes lane number) loaded refl kind in
    let few = admission_few l s lane number zones.1 in
    few_step s.works s.flights.started s.flights.flown (lane - 1) w _ _ h lt zones.0
    (omega (arith, few, above))
    (admitted_few (most_zones * all_lasts s.works) (most_zones * all_lasts (slice_set s.works (lane - 1) w)) s.versions lane (s.flights.started + 1) s.flights.flown a.joins a.groups
    (omega (arith, few, above, sum_by-set (λ (v : Work). v.last) s.works (lane - 1) w no_work lt)) h.joiners)

-- takes

some_join : (joins : List Joined) (flight : ℕ) → is_first_join joins flight ≡ true → length (drop 1 joins) + 1 ≡ length joins
some_join [] flight first = cc
some_join (j ∷ joins) flight first = omega arith

next_number : (started number : ℕ) (course : Course) → takes_course started course (Some number) ≡ true → number ≡ started + 1
next_number started number Running takes = cc
next_number started number Landed takes = cc
next_number started number Fallen takes = eqb-true number (started + 1) takes

next_of : (started number : ℕ) (o : Option Flown) → takes_as started o (Some number) ≡ true → number ≡ started + 1
next_of started number None takes = cc
next_of started number (Some f) takes = next_number started number f.course takes

take_less : (s : State) (w : Work) (lane flight : ℕ) (next : Option ℕ) → may_take s w flight next ≡ true
    → (flights_taken s.flights lane flight w.joins next).started + length (work_taken w next).joins ≤ s.flights.started + length w.joins
take_less s w lane flight None may =
    let first = and_second (none_left w.own) (is_first_join w.joins flight) (and_first (none_left w.own && is_first_join w.joins flight) (takes_as s.flights.started (flight_at s flight) None) may) in
    omega (arith, some_join w.joins flight first)
take_less s w lane flight (Some number) may =
    let first = and_second (none_left w.own) (is_first_join w.joins flight) (and_first (none_left w.own && is_first_join w.joins flight) (takes_as s.flights.started (flight_at s flight) (Some number)) may) in
    let is = next_of s.flights.started number (flight_at s flight) (and_second (none_left w.own && is_first_join w.joins flight) (takes_as s.flights.started (flight_at s flight) (Some number)) may) in
    omega (arith, some_join w.joins flight first, is)

taken_last : (w : Work) (next : Option ℕ) → (work_taken w next).last ≡ w.last
taken_last w None = refl
taken_last w (Some number) = refl

take_few : (s : State) (lane flight : ℕ) (next : Option ℕ) → IsFew s.works s.flights.started s.flights.flown → lane - 1 < length s.works → may_take s (work_of s lane) flight next ≡ true
    → IsFew (slice_set s.works (lane - 1) (work_taken (work_of s lane) next)) (flights_taken s.flights lane flight (work_of s lane).joins next).started (flights_taken s.flights lane flight (work_of s lane).joins next).flown
take_few s lane flight next h lt may =
    let w : Work = work_taken (work_of s lane) next in
    let last = taken_last (work_of s lane) next in
    few_step s.works s.flights.started s.flights.flown (lane - 1) w _ _ h lt (omega (arith, last, h.lasts (lane - 1)))
    (omega (arith, last, take_less s (work_of s lane) lane flight next may))
    (few_more (most_zones * all_lasts s.works) (most_zones * all_lasts (slice_set s.works (lane - 1) w)) _ (omega (arith, lasts_more s.works (lane - 1) w lt (omega (arith, last))))
    (taken_few (most_zones * all_lasts s.works) s.flights lane flight (work_of s lane).joins next h.joiners))

-- each entry

within : (l : LoadedFiles) (s : State) (e : Entry) → allowed l s e ≡ true → lane_of e - 1 < length s.works
within l s e a = omega (arith, allowed_above l s e a, allowed_within l s e a)

IsFew-next : (l : LoadedFiles) (s : State) (e : Entry) → IsLoaded l → IsFew s.works s.flights.started s.flights.flown → allowed l s e ≡ true
    → IsFew (next l s e).works (next l s e).flights.started (next l s e).flights.flown
IsFew-next l s (Publish lane number) loaded h a =
    let lt = within l s (Publish lane number) a in
    let may = allowed_may l s (Publish lane number) a in
    let above = publish_above l (work_of s lane) lane number may in
    let w : Work = record (work_of s lane) { last = number } in
    few_step s.works s.flights.started s.flights.flown (lane - 1) w s.flights.started s.flights.flown h lt
    (some_publish l lane number (step_of l.script.lanes lane number) loaded refl (publish_kind l (work_of s lane) lane number may))
    (omega (arith, above))
    (few_more (most_zones * all_lasts s.works) (most_zones * all_lasts (slice_set s.works (lane - 1) w)) s.flights.flown (omega (arith, lasts_more s.works (lane - 1) w lt (omega (arith, above)))) h.joiners)
IsFew-next l s (Admit lane number met) loaded h a =
    let may = allowed_may l s (Admit lane number met) a in
    admit_few l s lane number loaded h (within l s (Admit lane number met) a) (admit_above l s (work_of s lane) lane number met may) (admit_kind l s (work_of s lane) lane number met may)
IsFew-next l s (Lease lane flight link fresh) loaded h a = few_kept s.works s.flights.started s.flights.flown (lane - 1) _ _ h (within l s (Lease lane flight link fresh) a) refl refl h.joiners
IsFew-next l s (Give lane flight link ran runs calls) loaded h a = few_kept s.works s.flights.started s.flights.flown (lane - 1) _ _ h (within l s (Give lane flight link ran runs calls) a) refl refl h.joiners
IsFew-next l s (Lose lane flight link dialled ran runs calls) loaded h a = few_kept s.works s.flights.started s.flights.flown (lane - 1) _ _ h (within l s (Lose lane flight link dialled ran runs calls) a) refl refl h.joiners
IsFew-next l s (Land lane flight cells clever literal) loaded h a =
    few_kept s.works s.flights.started s.flights.flown (lane - 1) _ _ h (within l s (Land lane flight cells clever literal) a) refl refl
    (ended_few (most_zones * all_lasts s.works) Landed flight s.flights.flown h.joiners)
IsFew-next l s (Fall lane flight cause) loaded h a =
    few_kept s.works s.flights.started s.flights.flown (lane - 1) _ _ h (within l s (Fall lane flight cause) a) refl refl
    (ended_few (most_zones * all_lasts s.works) Fallen flight s.flights.flown h.joiners)
IsFew-next l s (Take lane flight next) loaded h a = take_few s lane flight next h (within l s (Take lane flight next) a) (allowed_may l s (Take lane flight next) a)
IsFew-next l s (End lane) loaded h a = few_kept s.works s.flights.started s.flights.flown (lane - 1) _ _ h (within l s (End lane) a) refl refl h.joiners

pub IsFew-reached : (l : LoadedFiles) (s : State) → IsLoaded l → IsReached l s → IsFew s.works s.flights.started s.flights.flown
IsFew-reached l s loaded r =
    reached_keeps l (λ s. IsFew s.works s.flights.started s.flights.flown) (λ s e h a. IsFew-next l s e loaded h a) s (IsFew-start l) r

-- what that comes to

lasts_few : (works : List Work) → ((i : ℕ) → (get_or works i no_work).last ≤ most_steps) → all_lasts works ≤ most_steps * length works
lasts_few [] each = omega arith
lasts_few (w ∷ works) each = omega (arith, each 0, lasts_few works (λ i. each (suc i)), sum_by-cons (λ (v : Work). v.last) w works)

all_few_lasts : (l : LoadedFiles) (s : State) → IsLoaded l → IsReached l s → all_lasts s.works ≤ 262144
all_few_lasts l s loaded r = omega (arith, lasts_few s.works (IsFew-reached l s loaded r).lasts, reached-works l s r, loaded.script.lanes)

pub started_few : (l : LoadedFiles) (s : State) → IsLoaded l → IsReached l s → s.flights.started ≤ 16777216
started_few l s loaded r = omega (arith, (IsFew-reached l s loaded r).numbers, all_few_lasts l s loaded r)

pub joiners_few : (l : LoadedFiles) (s : State) → IsLoaded l → IsReached l s → All (λ f. f.joiners ≤ 16777216) s.flights.flown
joiners_few l s loaded r =
    all_few 16777216 s.flights.flown
    (few_more (most_zones * all_lasts s.works) 16777216 s.flights.flown (omega (arith, all_few_lasts l s loaded r)) (IsFew-reached l s loaded r).joiners)

-- How many entries the work that was started still needs: each takes one of them.
use Rattle.std.proofs.Common.{◌≡◌, ℕ, suc, ◌+◌, ◌*◌, ◌-◌, ◌<◌, ◌≤◌, Bool, true, false, ◌&&◌, List, [], ◌∷◌, ◌++◌, length, drop, slice_set, sum_by, refl, ap, ◌∙◌, arith}
use Rattle.std.proofs.lemmas.Bool.{eqb-true, leb-true}
use Rattle.std.proofs.lemmas.List.{length-map}
use Rattle.std.proofs.lemmas.List.Sums.{sum_by-set}
use Rattle.std.specs.Cmp.Lexicographic.{as_long, pointwise}
use Rattle.std.specs.List.{enumerate_from}
use Rattle.std.specs.Prelude.{Option, Some, None, not}
use Rattle.dq_base.specs.Batches.{Group, groups}
use Rattle.dq_base.specs.Scripts.{step_of, zones_of}
use Rattle.dq_base.specs.declared.query.Query.{Query}
use Rattle.dq_extract.specs.Loads.{LoadedFiles}
use Rattle.dq_journal.specs.Journals.{lane_of}
use Rattle.dq_journal.specs.declared.entry.Cause.{Cause}
use Rattle.dq_journal.specs.declared.entry.Cause.TheVariants as cause
use Rattle.dq_journal.specs.declared.entry.Met.{Met}
use Rattle.dq_journal.specs.declared.entry.Met.TheVariants as met
use Rattle.dq_journal.specs.declared.entry.Entry.{Entry}
use Rattle.dq_journal.specs.declared.entry.Entry.TheVariants.{Publish, Admit, Lease, Give, Lose, Land, Fall, Take, End}
use Rattle.dq_machine.proofs.Few.{groups_few}
use Rattle.dq_machine.proofs.LostFew.{LostFew-reached}
use Rattle.dq_machine.proofs.Reached.{allowed_above, allowed_may, allowed_within, and_first, and_second}
use Rattle.dq_machine.specs.Admitting.{Admission, admission_of, is_batch, joins_of, looked, meets_of, met_eq, miss_numbers, missed, number_in, numbers_from}
use Rattle.dq_machine.specs.Landing.{has_run, may_fall, may_land_at}
use Rattle.dq_machine.specs.Leasing.{is_next, leased, lost, may_give, may_lease, may_lose}
use Rattle.dq_machine.specs.Losses.{LostFew}
use Rattle.dq_machine.specs.Machine.{IsReached, after, allowed, legal, may_admit, may_begin, next, work_admitted}
use Rattle.dq_machine.specs.Preparing.{remotes_of}
use Rattle.dq_machine.specs.State.{Flown, Joined, LinkOf, Phase, New, Leased, Given, Publication, State, Work, flight_at, is_first, is_free, no_work, none_left, work_of}
use Rattle.dq_machine.specs.Taking.{is_first_join, may_take, takes_as, work_taken}
use Rattle.dq_laws.specs.Room.{OwesAfter, owed, owed_end, owed_own, owed_phase, owed_work}
use Rattle.dq_laws.proofs.Goes.{legal_reached}
use Rattle.dq_laws.proofs.Pushed.{pushed}

-- the first own flight

lease_owed : (p : Phase) (link : ℕ) (idle : List LinkOf) → may_lease p ≡ true → owed_phase (leased p link idle) + 1 ≤ owed_phase p
lease_owed (New losses) link [] may = omega (arith, leb-true losses 1 may)
lease_owed (New losses) link (k ∷ idle) may = omega (arith, leb-true losses 1 may)
lease_owed (Leased losses fresh k) link idle may = cc
lease_owed (Given ran) link idle may = cc

give_owed : (p : Phase) (o : Option Flown) (link : ℕ) (ran : Bool) (runs calls : ℕ) → may_give p o link ran runs calls ≡ true → LostFew p → 1 + 1 ≤ owed_phase p
give_owed (New losses) o link ran runs calls may few = cc
give_owed (Leased losses fresh k) o link ran runs calls may few = omega (arith, few)
give_owed (Given before) o link ran runs calls may few = cc

lose_owed : (p : Phase) (o : Option Flown) (link : ℕ) (dialled ran : Bool) (runs calls : ℕ) → may_lose p o link dialled ran runs calls ≡ true → LostFew p
    → owed_phase (lost p) + 1 ≤ owed_phase p
lose_owed (New losses) o link dialled ran runs calls may few = cc
lose_owed (Leased losses fresh k) o link dialled ran runs calls may few = omega (arith, few)
lose_owed (Given before) o link dialled ran runs calls may few = cc

land_owed : (p : Phase) → has_run p ≡ true → 1 ≤ owed_phase p
land_owed (New losses) may = cc
land_owed (Leased losses fresh k) may = cc
land_owed (Given ran) may = omega arith

fall_owed : (p : Phase) (why : Cause) → may_fall p why ≡ true → LostFew p → 1 ≤ owed_phase p
fall_owed (New losses) cause.BackEnd may few = omega (arith, eqb-true losses 2 may)
fall_owed (New losses) cause.Memory may few = cc
fall_owed (Leased losses fresh k) cause.BackEnd may few = cc
fall_owed (Leased losses fresh k) cause.Memory may few = omega (arith, few)
fall_owed (Given ran) why may few = omega arith

-- it is the first of the own flights
own_owed : (p p' : Phase) (own : List ℕ) (flight : ℕ) → is_first own flight ≡ true → owed_phase p' + 1 ≤ owed_phase p → owed_own p' own + 1 ≤ owed_own p own
own_owed p p' [] flight first less = cc
own_owed p p' (f ∷ own) flight first less = omega (arith, less)

-- and ends
end_owed : (p : Phase) (own : List ℕ) (flight : ℕ) → is_first own flight ≡ true → 1 ≤ owed_phase p → owed_own (New 0) (drop 1 own) + 1 ≤ owed_own p own
end_owed p [] flight first some = cc
end_owed p (f ∷ []) flight first some = omega (arith, some)
end_owed p (f ∷ g ∷ own) flight first some = omega (arith, some)

-- an admission

numbers_count : (number : ℕ) (gs : List Group) → length (numbers_from number gs) ≡ length gs
numbers_count number [] = refl
numbers_count number (g ∷ gs) = ap suc (numbers_count (number + 1) gs)

numbers_owed : (number : ℕ) (gs : List Group) → owed_own (New 0) (numbers_from number gs) ≡ 5 * length gs
numbers_owed number [] = omega arith
numbers_owed number (g ∷ gs) = omega (arith, numbers_count (number + 1) gs)

places_count : (place : ℕ) (qs : List Query) → length (enumerate_from place qs) ≡ length qs
places_count place [] = refl
places_count place (q ∷ qs) = ap suc (places_count (place + 1) qs)

-- each miss and each join is of a query of its own
meets_count : (versions : List Publication) (found : List (Option Met)) (qs : List Query) (numbers : List ℕ) → length numbers ≡ length (missed found qs)
    → length (missed found qs) + length (joins_of versions found qs) ≤ length (meets_of found numbers)
meets_count versions [] qs numbers same = omega arith
meets_count versions (None ∷ found) [] numbers same = omega arith
meets_count versions (None ∷ found) (q ∷ qs) [] same = absurd (omega (arith, same))
meets_count versions (None ∷ found) (q ∷ qs) (n ∷ numbers) same = omega (arith, meets_count versions found qs numbers (omega (arith, same)))
meets_count versions (Some (met.Hit f) ∷ found) [] numbers same = omega arith
meets_count versions (Some (met.Hit f) ∷ found) (q ∷ qs) numbers same = omega (arith, meets_count versions found qs numbers same)
meets_count versions (Some (met.Literal f) ∷ found) [] numbers same = omega arith
meets_count versions (Some (met.Literal f) ∷ found) (q ∷ qs) numbers same = omega (arith, meets_count versions found qs numbers same)
meets_count versions (Some (met.Join f) ∷ found) [] numbers same = omega arith
meets_count versions (Some (met.Join f) ∷ found) (q ∷ qs) numbers same = omega (arith, meets_count versions found qs numbers same)
meets_count versions (Some (met.Group f) ∷ found) [] numbers same = omega arith
meets_count versions (Some (met.Group f) ∷ found) (q ∷ qs) numbers same = omega (arith, meets_count versions found qs numbers same)

admission_count : (l : LoadedFiles) (s : State) (lane number : ℕ)
    → length (admission_of l s lane number).groups + length (admission_of l s lane number).joins ≤ length (admission_of l s lane number).met
admission_count l s lane number =
    let queries : List Query = remotes_of l.script.schemas (zones_of (step_of l.script.lanes lane number)) in
    let found = (looked s.flights.flown s.versions s.shelves queries).found in
    let misses : List Query = missed found queries in
    let first : ℕ = s.flights.started + 1 in
    let count : length (miss_numbers first (groups misses) misses) ≡ length misses =
    length-map (enumerate_from 0 misses) (λ p. number_in first (groups misses) p.0) ∙ places_count 0 misses in
    omega (arith, meets_count s.versions found queries (miss_numbers first (groups misses) misses) count, groups_few misses)

admit_as_long : (l : LoadedFiles) (s : State) (w : Work) (lane number : ℕ) (met : List Met) → may_admit l s w lane number met ≡ true
    → length (admission_of l s lane number).met ≡ length met
admit_as_long l s w lane number met may =
    as_long met_eq (admission_of l s lane number).met met
    (and_second (may_begin w number && is_batch (step_of l.script.lanes lane number)) (pointwise met_eq (admission_of l s lane number).met met) may)

-- each flight that starts owes five, and each join six
pub admission_owed : (s : State) (w : Work) (number : ℕ) (a : Admission) → owed_work (work_admitted s w number a) ≤ owed_work w + 6 * (length a.groups + length a.joins)
admission_owed s w number a = omega (arith, numbers_owed (s.flights.started + 1) a.groups)

admit_owed : (l : LoadedFiles) (s : State) (w : Work) (lane number : ℕ) (met : List Met) → may_admit l s w lane number met ≡ true
    → owed_work (work_admitted s w number (admission_of l s lane number)) ≤ owed_work w + 6 * length met
admit_owed l s w lane number met may =
    omega (arith, admission_owed s w number (admission_of l s lane number), admission_count l s lane number, admit_as_long l s w lane number met may)

-- a take

join_taken : (joins : List Joined) (flight : ℕ) → is_first_join joins flight ≡ true → length (drop 1 joins) + 1 ≡ length joins
join_taken [] flight first = cc
join_taken (j ∷ joins) flight first = omega arith

take_owed : (s : State) (w : Work) (flight : ℕ) (next : Option ℕ) → may_take s w flight next ≡ true → owed_work (work_taken w next) + 1 ≤ owed_work w
take_owed s w flight None may =
    let both = and_first (none_left w.own && is_first_join w.joins flight) (takes_as s.flights.started (flight_at s flight) None) may in
    omega (arith, join_taken w.joins flight (and_second (none_left w.own) (is_first_join w.joins flight) both))
take_owed s w flight (Some number) may =
    let both = and_first (none_left w.own && is_first_join w.joins flight) (takes_as s.flights.started (flight_at s flight) (Some number)) may in
    omega (arith, join_taken w.joins flight (and_second (none_left w.own) (is_first_join w.joins flight) both))

-- an end

unended_owes : (b : Bool) → not b ≡ true → owed_end b ≡ 1
unended_owes true h = cc
unended_owes false h = refl

free_owes : (w : Work) → is_free w ≡ true → owed_end w.ended ≡ 1
free_owes w free = unended_owes w.ended (and_first (not w.ended) (none_left w.own) (and_first (not w.ended && none_left w.own) (none_left w.joins) free))

-- each entry

module _ (l : LoadedFiles) (s : State) (e : Entry) (a : allowed l s e ≡ true) where
  there : lane_of e - 1 < length s.works
  there = omega (arith, allowed_above l s e a, allowed_within l s e a)

  -- the lane's work owes one less
  one_less : (w : Work) → owed_work w + 1 ≤ owed_work (work_of s (lane_of e)) → sum_by owed_work (slice_set s.works (lane_of e - 1) w) + 1 ≤ owed s
  one_less w less = omega (arith, less, sum_by-set owed_work s.works (lane_of e - 1) w no_work there)

  -- as much as before
  as_before : (w : Work) → owed_work w ≡ owed_work (work_of s (lane_of e)) → sum_by owed_work (slice_set s.works (lane_of e - 1) w) ≡ owed s
  as_before w same = omega (arith, same, sum_by-set owed_work s.works (lane_of e - 1) w no_work there)

  -- or so many more
  pub few_more : (w : Work) (n : ℕ) → owed_work w ≤ owed_work (work_of s (lane_of e)) + n → sum_by owed_work (slice_set s.works (lane_of e - 1) w) ≤ owed s + n
  few_more w n more = omega (arith, more, sum_by-set owed_work s.works (lane_of e - 1) w no_work there)

pub owed_next : (l : LoadedFiles) (s : State) (e : Entry) → IsReached l s → allowed l s e ≡ true → OwesAfter e (owed s) (owed (next l s e))
owed_next l s (Publish lane number) r a = as_before l s (Publish lane number) a _ refl
owed_next l s (Admit lane number met) r a =
    let e : Entry = Admit lane number met in
    few_more l s e a _ (6 * length met) (admit_owed l s (work_of s lane) lane number met (allowed_may l s e a))
owed_next l s (Lease lane flight link fresh) r a =
    let e : Entry = Lease lane flight link fresh in
    let w : Work = work_of s lane in
    let both = and_first (is_first w.own flight && may_lease w.phase) (is_next s.links.idle s.links.fresh link fresh) (allowed_may l s e a) in
    let less = lease_owed w.phase link s.links.idle (and_second (is_first w.own flight) (may_lease w.phase) both) in
    one_less l s e a _ (omega (arith, own_owed w.phase (leased w.phase link s.links.idle) w.own flight (and_first (is_first w.own flight) (may_lease w.phase) both) less))
owed_next l s (Give lane flight link ran runs calls) r a =
    let e : Entry = Give lane flight link ran runs calls in
    let w : Work = work_of s lane in
    let may = allowed_may l s e a in
    let gives = and_second (is_first w.own flight) (may_give w.phase (flight_at s flight) link ran runs calls) may in
    let less = give_owed w.phase (flight_at s flight) link ran runs calls gives (LostFew-reached l s lane r) in
    one_less l s e a _ (omega (arith, own_owed w.phase (Given ran) w.own flight (and_first (is_first w.own flight) (may_give w.phase (flight_at s flight) link ran runs calls) may) less))
owed_next l s (Lose lane flight link dialled ran runs calls) r a =
    let e : Entry = Lose lane flight link dialled ran runs calls in
    let w : Work = work_of s lane in
    let may = allowed_may l s e a in
    let loses = and_second (is_first w.own flight) (may_lose w.phase (flight_at s flight) link dialled ran runs calls) may in
    let less = lose_owed w.phase (flight_at s flight) link dialled ran runs calls loses (LostFew-reached l s lane r) in
    one_less l s e a _ (omega (arith, own_owed w.phase (lost w.phase) w.own flight (and_first (is_first w.own flight) (may_lose w.phase (flight_at s flight) link dialled ran runs calls) may) less))
owed_next l s (Land lane flight cells clever literal) r a =
    let e : Entry = Land lane flight cells clever literal in
    let w : Work = work_of s lane in
    let both = and_first (is_first w.own flight && has_run w.phase) (may_land_at l s.versions (flight_at s flight) cells clever literal) (allowed_may l s e a) in
    let some = land_owed w.phase (and_second (is_first w.own flight) (has_run w.phase) both) in
    one_less l s e a _ (omega (arith, end_owed w.phase w.own flight (and_first (is_first w.own flight) (has_run w.phase) both) some))
owed_next l s (Fall lane flight cause) r a =
    let e : Entry = Fall lane flight cause in
    let w : Work = work_of s lane in
    let may = allowed_may l s e a in
    let some = fall_owed w.phase cause (and_second (is_first w.own flight) (may_fall w.phase cause) may) (LostFew-reached l s lane r) in
    one_less l s e a _ (omega (arith, end_owed w.phase w.own flight (and_first (is_first w.own flight) (may_fall w.phase cause) may) some))
owed_next l s (Take lane flight next) r a =
    let e : Entry = Take lane flight next in
    one_less l s e a _ (take_owed s (work_of s lane) flight next (allowed_may l s e a))
owed_next l s (End lane) r a =
    let e : Entry = End lane in
    one_less l s e a _ (omega (arith, free_owes (work_of s lane) (allowed_may l s e a)))

pub owed_after : (l : LoadedFiles) (journal : List Entry) (e : Entry) → legal l (journal ++ e ∷ []) ≡ true
    → OwesAfter e (owed (after l journal)) (owed (after l (journal ++ e ∷ [])))
owed_after l journal e h =
    let p = pushed l journal e h in
    rw p.after (owed_next l (after l journal) e (legal_reached l journal p.legal) p.allowed)

-- Flights, joins and joiners are few: at most as many as the lanes' steps so far may have zones.
use Rattle.std.proofs.Common.{◌≡◌, ℕ, zero, suc, ◌+◌, ◌*◌, ◌-◌, ◌<◌, ◌≤◌, ◌^◌, Bool, true, false, cond, List, [], ◌∷◌, ◌++◌, length, map, filter, drop, get_or, slice_set, length-set, sum_by, replicate, refl, ap, sym, ◌∙◌, arith}
use Rattle.std.proofs.lemmas.List.{get_or-set_other, get_or-set_same, length-map}
use Rattle.std.proofs.lemmas.List.Folds.{sum_by-replicate}
use Rattle.std.proofs.lemmas.List.Sums.{sum_by-cons, sum_by-set}
use Rattle.std.specs.List.{enumerate_from}
use Rattle.std.specs.Prelude.{All, Option, Some, None, nat_eq, not, if◌then◌else◌}
use Rattle.dq_base.specs.Batches.{Group, fuses, groups, groups_from, roles}
use Rattle.dq_base.specs.Canonical.{canonical}
use Rattle.dq_base.specs.Headings.{Heading}
use Rattle.dq_base.specs.Limits.{most_steps, most_zones, most_lanes}
use Rattle.dq_base.specs.Scripts.{step_of, zones_of}
use Rattle.dq_base.specs.declared.canon.Role.{Role}
use Rattle.dq_base.specs.declared.canon.Role.TheVariants.{Remote, Local}
use Rattle.dq_base.specs.declared.query.Query.{Query}
use Rattle.dq_base.specs.declared.script.Step.{Step}
use Rattle.dq_base.specs.declared.script.Step.TheVariants as step
use Rattle.dq_extract.specs.Loads.{LoadedFiles, IsLoaded}
use Rattle.dq_flight.specs.Flights.{replaced}
use Rattle.dq_journal.specs.declared.entry.Met.{Met}
use Rattle.dq_journal.specs.declared.entry.Met.TheVariants as met
use Rattle.dq_machine.proofs.Limits.{few_zones}
use Rattle.dq_machine.specs.Admitting.{Admission, admission_of, group_flights, joined_by, joins_of, missed, with_joiner}
use Rattle.dq_machine.specs.Landing.{ended, over}
use Rattle.dq_machine.specs.Preparing.{canons_of, is_valid, remote_among, remotes_of}
use Rattle.dq_machine.specs.State.{Course, Flown, Flights, Joined, Publication, State, is_numbered}
use Rattle.dq_machine.specs.Taking.{flights_taken, let_go, own_flight, without_joiner}

-- how many flights and joins a batch has

groups_few_from : (n : ℕ) (qs : List (ℕ × Query)) → length (groups_from n qs) ≤ n
groups_few_from zero qs = omega arith
groups_few_from (suc n) [] = omega arith
groups_few_from (suc n) (q ∷ qs) = omega (arith, groups_few_from n (filter (λ p. not (fuses q.1 p.1)) qs))

pub groups_few : (qs : List Query) → length (groups qs) ≤ length qs
groups_few qs = groups_few_from (length qs) (enumerate_from 0 qs)

pub met_few : (versions : List Publication) (found : List (Option Met)) (qs : List Query) → length (missed found qs) + length (joins_of versions found qs) ≤ length qs
met_few versions [] [] = omega arith
met_few versions [] (q ∷ qs) = omega arith
met_few versions (None ∷ found) [] = omega arith
met_few versions (None ∷ found) (q ∷ qs) = omega (arith, met_few versions found qs)
met_few versions (Some (met.Hit f) ∷ found) [] = omega arith
met_few versions (Some (met.Hit f) ∷ found) (q ∷ qs) = omega (arith, met_few versions found qs)
met_few versions (Some (met.Literal f) ∷ found) [] = omega arith
met_few versions (Some (met.Literal f) ∷ found) (q ∷ qs) = omega (arith, met_few versions found qs)
met_few versions (Some (met.Join f) ∷ found) [] = omega arith
met_few versions (Some (met.Join f) ∷ found) (q ∷ qs) = omega (arith, met_few versions found qs)
met_few versions (Some (met.Group f) ∷ found) [] = omega arith
met_few versions (Some (met.Group f) ∷ found) (q ∷ qs) = omega (arith, met_few versions found qs)

remote_few : (rs : List Role) (qs : List Query) → length (remote_among rs qs) ≤ length qs
remote_few [] qs = omega arith
remote_few (Remote ∷ rs) [] = omega arith
remote_few (Remote ∷ rs) (q ∷ qs) = omega (arith, remote_few rs qs)
remote_few (Local place ∷ rs) [] = omega arith
remote_few (Local place ∷ rs) (q ∷ qs) = omega (arith, remote_few rs qs)

one_kept : (b : Bool) (q : Query) (qs : List Query) (n : ℕ) → length qs ≤ n → length (cond b (q ∷ qs) qs) ≤ suc n
one_kept true q qs n le = omega arith
one_kept false q qs n le = omega arith

filter_few : (p : Query → Bool) (qs : List Query) → length (filter p qs) ≤ length qs
filter_few p [] = omega arith
filter_few p (q ∷ qs) = one_kept (p q) q (filter p qs) (length qs) (filter_few p qs)

pub remotes_few : (schemas : List Heading) (zones : List Query) → length (remotes_of schemas zones) ≤ length zones
remotes_few schemas zones =
    omega (arith, remote_few (roles (canons_of schemas zones)) (canons_of schemas zones), length-map (filter (is_valid schemas) zones) canonical, filter_few (is_valid schemas) zones)

-- flights for which no more than so many wait

abbrev pub AreFew : ℕ → List Flown → Type 0
AreFew n [] = Unit {0}
AreFew n (f ∷ flown) = (f.joiners ≤ n) × AreFew n flown

pub all_few : (n : ℕ) (flown : List Flown) → AreFew n flown → All (λ f. f.joiners ≤ n) flown
all_few n [] few k d lt = absurd (omega arith)
all_few n (f ∷ flown) few zero d lt = few.0
all_few n (f ∷ flown) few (suc k) d lt = all_few n flown few.1 k d (omega arith)

pub few_more : (n m : ℕ) (flown : List Flown) → n ≤ m → AreFew n flown → AreFew m flown
few_more n m [] le few = tt
few_more n m (f ∷ flown) le few = (omega (arith, few.0), few_more n m flown le few.1)

few_append : (n : ℕ) (fs gs : List Flown) → AreFew n fs → AreFew n gs → AreFew n (fs ++ gs)
few_append n [] gs few more = more
few_append n (f ∷ fs) gs few more = (few.0, few_append n fs gs few.1 more)

either_few : (n : ℕ) (b : Bool) (fs gs : List Flown) → AreFew n fs → AreFew n gs → AreFew n (if b then fs else gs)
either_few n true fs gs here elsewhere = here
either_few n false fs gs here elsewhere = elsewhere

replaced_few : (n m : ℕ) (p : Flown → Bool) (g : Flown → List Flown) → n ≤ m → ((f : Flown) → f.joiners ≤ n → AreFew m (g f)) → (flown : List Flown) → AreFew n flown → AreFew m (replaced p g flown)
replaced_few n m p g le each [] few = tt
replaced_few n m p g le each (f ∷ flown) few =
    either_few m (p f) (g f ++ flown) (f ∷ replaced p g flown) (few_append m (g f) flown (each f few.0) (few_more n m flown le few.1))
    (omega (arith, few.0), replaced_few n m p g le each flown few.1)

joined_few : (n : ℕ) (flown : List Flown) (joins : List Joined) → AreFew n flown → AreFew (n + length joins) (joined_by flown joins)
joined_few n flown [] few = few_more n (n + 0) flown (omega arith) few
joined_few n flown (j ∷ joins) few =
    few_more (n + 1 + length joins) (n + suc (length joins)) (joined_by (replaced (is_numbered j.flight) with_joiner flown) joins) (omega arith)
    (joined_few (n + 1) (replaced (is_numbered j.flight) with_joiner flown) joins
    (replaced_few n (n + 1) (is_numbered j.flight) with_joiner (omega arith) (λ f le. (omega (arith, le), tt)) flown few))

group_few : (n : ℕ) (versions : List Publication) (lane number : ℕ) (gs : List Group) → AreFew n (group_flights versions lane number gs)
group_few n versions lane number [] = tt
group_few n versions lane number (g ∷ gs) = (omega arith, group_few n versions lane (number + 1) gs)

pub admitted_few : (n m : ℕ) (versions : List Publication) (lane number : ℕ) (flown : List Flown) (joins : List Joined) (gs : List Group) → n + length joins ≤ m
    → AreFew n flown → AreFew m (joined_by flown joins ++ group_flights versions lane number gs)
admitted_few n m versions lane number flown joins gs le few =
    few_append m (joined_by flown joins) (group_flights versions lane number gs)
    (few_more (n + length joins) m (joined_by flown joins) le (joined_few n flown joins few)) (group_few m versions lane number gs)

one_less : (n : ℕ) (f : Flown) → f.joiners ≤ n → AreFew n (without_joiner f)
one_less n f le = either_few n (nat_eq (f.joiners - 1) 0) [] (record f { joiners = f.joiners - 1 } ∷ []) tt (omega (arith, le), tt)

kept_over : (n : ℕ) (course : Course) (f : Flown) → f.joiners ≤ n → AreFew n (over course f)
kept_over n course f le = either_few n (nat_eq f.joiners 0) [] (record f { course = course } ∷ []) tt (le, tt)

pub ended_few : (n : ℕ) (course : Course) (flight : ℕ) (flown : List Flown) → AreFew n flown → AreFew n (ended course flight flown)
ended_few n course flight flown few = replaced_few n n (is_numbered flight) (over course) (omega arith) (kept_over n course) flown few

own_few : (n number lane : ℕ) (joins : List Joined) → AreFew n (own_flight number lane joins)
own_few n number lane [] = tt
own_few n number lane (j ∷ joins) = (omega arith, tt)

let_go_few : (n flight : ℕ) (flown : List Flown) → AreFew n flown → AreFew n (let_go flight flown)
let_go_few n flight flown few = replaced_few n n (is_numbered flight) without_joiner (omega arith) (one_less n) flown few

pub taken_few : (n : ℕ) (flights : Flights) (lane flight : ℕ) (joins : List Joined) (next : Option ℕ) → AreFew n flights.flown → AreFew n (flights_taken flights lane flight joins next).flown
taken_few n flights lane flight joins None few = let_go_few n flight flights.flown few
taken_few n flights lane flight joins (Some number) few =
    few_append n (let_go flight flights.flown) (own_flight number lane joins) (let_go_few n flight flights.flown few) (own_few n number lane joins)

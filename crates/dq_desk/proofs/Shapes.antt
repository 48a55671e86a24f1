-- What a plan tells of what will be met: all but the flights of answers in the caches.
use Rattle.std.proofs.Common.{◌≡◌, ℕ, suc, ◌+◌, Bool, false, ◌&&◌, List, [], ◌∷◌, ◌++◌, map, find, fold, length, refl, sym, ap, ◌∙◌, arith, append_assoc, append-nil, length-append}
use Rattle.std.proofs.lemmas.List.{map-append}
use Rattle.std.specs.List.{AllByRecursion, enumerate_from}
use Rattle.std.specs.Option.{option_map}
use Rattle.std.specs.Prelude.{Option, Some, None, is_some, nat_eq}
use Rattle.dq_base.specs.Batches.{Group}
use Rattle.dq_base.specs.Covering.{covers}
use Rattle.dq_base.specs.Headings.{Heading}
use Rattle.dq_base.specs.declared.query.Query.{Query}
use Rattle.dq_cache.specs.Entries.{BodiedOf, EntryOf, fits, has_body}
use Rattle.dq_cache.specs.declared.entry.Found.{Found}
use Rattle.dq_flight.specs.Flights.{FlightOf}
use Rattle.dq_flight.specs.Flights as flights
use Rattle.dq_journal.specs.declared.entry.Met.{Met}
use Rattle.dq_journal.specs.declared.entry.Met.TheVariants as met
use Rattle.dq_machine.specs.Admitting.{Looked, has_cover, has_same, joins_of, look, look_literal, looked, may_join, meets_of, met_flight, miss_numbers, missed, number_in, then_look}
use Rattle.dq_machine.specs.Admitting as admitting
use Rattle.dq_machine.specs.Latest.{AreLatest}
use Rattle.dq_machine.specs.Publishing.{stamp_in}
use Rattle.dq_machine.specs.State.{Flown, Publication, Shelved, Shelves}
use Rattle.dq_text.specs.Sizes.{IsSizedQuery}
use Rattle.dq_text.specs.Statements.{body}
use Rattle.dq_desk.specs.Admissions.{AreHeld}
use Rattle.dq_desk.specs.Handed.{AllHanded, all_filled}
use Rattle.dq_desk.specs.Kept.{IsBodied, course_of, flown_of, shelved_in, shelved_of}
use Rattle.dq_desk.specs.Plans.{joins_by, planned, planned_by, planned_join, stamp_of}
use Rattle.dq_desk.proofs.Along.{Alike, all_of, find_along, some_along, some_front}
use Rattle.dq_desk.proofs.Handed.{cover_alike, same_alike}

abbrev pub shape : Option Met → Option Met
shape None = None
shape (Some (met.Hit flight)) = Some (met.Hit 0)
shape (Some (met.Literal flight)) = Some (met.Literal 0)
shape (Some (met.Join flight)) = Some (met.Join flight)
shape (Some (met.Group flight)) = Some (met.Group flight)

-- what a query would meet, were it the first
abbrev pub once : List Flown → ℕ → Shelves → Query → Option Met
once flown stamp shelves q =
    planned_by (is_some (find (has_cover stamp q) shelves.clever)) (is_some (find (has_same stamp q) shelves.literal))
    (option_map (λ (f : Flown). f.number) (find (may_join stamp q) flown))

-- a look-up's shape

join_shape : (o : Option Flown) → shape (met_flight o) ≡ planned_join (option_map (λ (f : Flown). f.number) o)
join_shape None = refl
join_shape (Some f) = refl

literal_shape : (flown : List Flown) (stamp : ℕ) (q : Query) (o : Option Shelved)
    → shape (look_literal flown stamp q o) ≡ planned_by false (is_some o) (option_map (λ (f : Flown). f.number) (find (may_join stamp q) flown))
literal_shape flown stamp q None = join_shape (find (may_join stamp q) flown)
literal_shape flown stamp q (Some e) = refl

look_shape : (flown : List Flown) (stamp : ℕ) (q : Query) (shelves : Shelves) (o : Option Shelved) → o ≡ find (has_cover stamp q) shelves.clever
    → map shape (look flown stamp q shelves o).found ≡ once flown stamp shelves q ∷ []
look_shape flown stamp q shelves (Some e) at =
    ap (λ (o : Option Shelved). planned_by (is_some o) (is_some (find (has_same stamp q) shelves.literal)) (option_map (λ (f : Flown). f.number) (find (may_join stamp q) flown)) ∷ []) at
look_shape flown stamp q shelves None at =
    ap (λ m. m ∷ []) (literal_shape flown stamp q (find (has_same stamp q) shelves.literal))
    ∙ ap (λ (o : Option Shelved). planned_by (is_some o) (is_some (find (has_same stamp q) shelves.literal)) (option_map (λ (f : Flown). f.number) (find (may_join stamp q) flown)) ∷ []) at

-- shelves with the same answers

record AreLike (a b : Shelves) : Type 0 where
  clever_like : (test : Shelved → Bool) → is_some (find test a.clever) ≡ is_some (find test b.clever)
  literal_like : (test : Shelved → Bool) → is_some (find test a.literal) ≡ is_some (find test b.literal)

look_like : (flown : List Flown) (stamp : ℕ) (q : Query) (a b : Shelves) (o : Option Shelved) → AreLike a b → AreLike (look flown stamp q a o).shelves b
look_like flown stamp q a b (Some e) h = record {
  clever_like = λ test. some_front (has_cover stamp q) test a.clever ∙ h.clever_like test;
  literal_like = h.literal_like;
}
look_like flown stamp q a b None h = record {
  clever_like = h.clever_like;
  literal_like = λ test. some_front (has_same stamp q) test a.literal ∙ h.literal_like test;
}

once_like : (flown : List Flown) (stamp : ℕ) (q : Query) (a b : Shelves) → AreLike a b → once flown stamp a q ≡ once flown stamp b q
once_like flown stamp q a b h =
    (λ j. planned_by (h.clever_like (has_cover stamp q) j) (h.literal_like (has_same stamp q) j) (option_map (λ (f : Flown). f.number) (find (may_join stamp q) flown)))

module _ (flown : List Flown) (versions : List Publication) (shelves : Shelves) where
  abbrev firsts : List Query → List (Option Met)
  firsts queries = map (λ (q : Query). once flown (stamp_in versions q.source) shelves q) queries

  shapes_from : (b : Looked) (queries : List Query) → AreLike b.shelves shelves → map shape (fold (then_look flown versions) b queries).found ≡ map shape b.found ++ firsts queries
  shapes_from b [] h = sym (append-nil (map shape b.found))
  shapes_from b (q ∷ queries) h =
      let stamp = stamp_in versions q.source in
      let o = find (has_cover stamp q) b.shelves.clever in
      let one = look flown stamp q b.shelves o in
      shapes_from (then_look flown versions b q) queries (look_like flown stamp q b.shelves shelves o h)
      ∙ ap (λ ms. ms ++ firsts queries) (map-append shape b.found one.found)
      ∙ ap (λ ms. (map shape b.found ++ ms) ++ firsts queries) (look_shape flown stamp q b.shelves o refl ∙ ap (λ m. m ∷ []) (once_like flown stamp q b.shelves shelves h))
      ∙ append_assoc (map shape b.found) (once flown stamp shelves q ∷ []) (firsts queries)

  pub looked_shapes : (queries : List Query) → map shape (looked flown versions shelves queries).found ≡ firsts queries
  looked_shapes queries = shapes_from (record { shelves = shelves; found = [] }) queries (record { clever_like = λ test. refl; literal_like = λ test. refl })

-- the plan is that

runs_same : (c : flights.Course) (t : Bool) → (admitting.runs (course_of c) && t) ≡ (flights.runs c && t)
runs_same flights.Running t = refl
runs_same (flights.Landed rows) t = refl
runs_same flights.Fallen t = refl

pub fits_alike : (stamp : ℕ) (q : Query) (fs : List FlightOf) → Alike flown_of (may_join stamp q) (flights.fits stamp q) fs
fits_alike stamp q fs =
    all_of (λ f. may_join stamp q (flown_of f) ≡ flights.fits stamp q f) (λ f. runs_same f.course (nat_eq f.stamp stamp && covers f.key q)) fs

number_along : (o : Option FlightOf) → option_map (λ (f : Flown). f.number) (option_map flown_of o) ≡ option_map (λ (f : FlightOf). f.number) o
number_along None = refl
number_along (Some f) = refl

module _ (versions : List Publication) (clever : List EntryOf) (literal : List BodiedOf) (fs : List FlightOf) (bodied : AllByRecursion (IsBodied versions) literal) where
  abbrev shelves_are : Shelves
  shelves_are = record { clever = map shelved_of clever; literal = map shelved_in literal }

  planned_once : (stamp : ℕ) (q : Query) → IsSizedQuery q → planned clever literal fs stamp q (body q) ≡ once (map flown_of fs) stamp shelves_are q
  planned_once stamp q sized =
      let a : is_some (find (fits stamp q) clever) ≡ is_some (find (has_cover stamp q) (map shelved_of clever)) =
      sym (ap (λ (o : Option Shelved). is_some o) (find_along shelved_of (has_cover stamp q) (fits stamp q) clever (cover_alike stamp q clever)) ∙ some_along shelved_of (find (fits stamp q) clever)) in
      let b : is_some (find (has_body stamp (body q)) literal) ≡ is_some (find (has_same stamp q) (map shelved_in literal)) =
      sym (ap (λ (o : Option Shelved). is_some o) (find_along shelved_in (has_same stamp q) (has_body stamp (body q)) literal (same_alike versions stamp q literal bodied sized))
      ∙ some_along shelved_in (find (has_body stamp (body q)) literal)) in
      let c : option_map (λ (f : FlightOf). f.number) (find (flights.fits stamp q) fs) ≡ option_map (λ (f : Flown). f.number) (find (may_join stamp q) (map flown_of fs)) =
      sym (ap (option_map (λ (f : Flown). f.number)) (find_along flown_of (may_join stamp q) (flights.fits stamp q) fs (fits_alike stamp q fs)) ∙ number_along (find (flights.fits stamp q) fs)) in
      (λ j. planned_by (a j) (b j) (c j))

  planned_firsts : (stamps : List ℕ) (queries : List Query) → AreLatest stamps versions → AllByRecursion IsSizedQuery queries
      → map (λ (q : Query). planned clever literal fs (stamp_of stamps q.source) q (body q)) queries ≡ firsts (map flown_of fs) versions shelves_are queries
  planned_firsts stamps [] latest sized = refl
  planned_firsts stamps (q ∷ queries) latest sized =
      (λ j. (planned_once (stamp_of stamps q.source) q sized.0 ∙ ap (λ (n : ℕ). once (map flown_of fs) n shelves_are q) (latest.each q.source)) j ∷ planned_firsts stamps queries latest sized.1 j)

  pub planned_shapes : (stamps : List ℕ) (queries : List Query) → AreLatest stamps versions → AllByRecursion IsSizedQuery queries
      → map (λ (q : Query). planned clever literal fs (stamp_of stamps q.source) q (body q)) queries ≡ map shape (looked (map flown_of fs) versions shelves_are queries).found
  planned_shapes stamps queries latest sized = planned_firsts stamps queries latest sized ∙ sym (looked_shapes (map flown_of fs) versions shelves_are queries)

-- what comes from a shape alone

pub missed_shape : (found : List (Option Met)) (qs : List Query) → missed (map shape found) qs ≡ missed found qs
missed_shape [] qs = refl
missed_shape (None ∷ found) [] = refl
missed_shape (None ∷ found) (q ∷ qs) = ap (λ more. q ∷ more) (missed_shape found qs)
missed_shape (Some (met.Hit f) ∷ found) [] = refl
missed_shape (Some (met.Hit f) ∷ found) (q ∷ qs) = missed_shape found qs
missed_shape (Some (met.Literal f) ∷ found) [] = refl
missed_shape (Some (met.Literal f) ∷ found) (q ∷ qs) = missed_shape found qs
missed_shape (Some (met.Join f) ∷ found) [] = refl
missed_shape (Some (met.Join f) ∷ found) (q ∷ qs) = missed_shape found qs
missed_shape (Some (met.Group f) ∷ found) [] = refl
missed_shape (Some (met.Group f) ∷ found) (q ∷ qs) = missed_shape found qs

pub joins_shape : (stamps : List ℕ) (versions : List Publication) (found : List (Option Met)) (qs : List Query) → AreLatest stamps versions
    → joins_by (stamp_of stamps) (map shape found) qs ≡ joins_of versions found qs
joins_shape stamps versions [] qs latest = refl
joins_shape stamps versions (None ∷ found) [] latest = refl
joins_shape stamps versions (None ∷ found) (q ∷ qs) latest = joins_shape stamps versions found qs latest
joins_shape stamps versions (Some (met.Hit f) ∷ found) [] latest = refl
joins_shape stamps versions (Some (met.Hit f) ∷ found) (q ∷ qs) latest = joins_shape stamps versions found qs latest
joins_shape stamps versions (Some (met.Literal f) ∷ found) [] latest = refl
joins_shape stamps versions (Some (met.Literal f) ∷ found) (q ∷ qs) latest = joins_shape stamps versions found qs latest
joins_shape stamps versions (Some (met.Group f) ∷ found) [] latest = refl
joins_shape stamps versions (Some (met.Group f) ∷ found) (q ∷ qs) latest = joins_shape stamps versions found qs latest
joins_shape stamps versions (Some (met.Join f) ∷ found) [] latest = refl
joins_shape stamps versions (Some (met.Join f) ∷ found) (q ∷ qs) latest =
    (λ j. record { flight = f; query = q; stamp = latest.each q.source j } ∷ joins_shape stamps versions found qs latest j)

-- as many numbers as misses

numbers_long : (f : ℕ → ℕ) (n : ℕ) (ms : List Query) → length (map (λ p. f p.0) (enumerate_from n ms)) ≡ length ms
numbers_long f n [] = refl
numbers_long f n (m ∷ ms) = ap suc (numbers_long f (n + 1) ms)

pub miss_numbers_long : (first : ℕ) (gs : List Group) (ms : List Query) → length (miss_numbers first gs ms) ≡ length ms
miss_numbers_long first gs ms = numbers_long (number_in first gs) 0 ms

pub meets_long : (found : List (Option Met)) (qs : List Query) (numbers : List ℕ) → length found ≡ length qs → length numbers ≡ length (missed found qs)
    → length (meets_of (map shape found) numbers) ≡ length qs
meets_long [] [] numbers long same = refl
meets_long [] (q ∷ qs) numbers long same = absurd (omega arith)
meets_long (f ∷ found) [] numbers long same = absurd (omega arith)
meets_long (None ∷ found) (q ∷ qs) [] long same = absurd (omega arith)
meets_long (None ∷ found) (q ∷ qs) (n ∷ numbers) long same = ap suc (meets_long found qs numbers (omega arith) (omega arith))
meets_long (Some (met.Hit f) ∷ found) (q ∷ qs) numbers long same = ap suc (meets_long found qs numbers (omega arith) same)
meets_long (Some (met.Literal f) ∷ found) (q ∷ qs) numbers long same = ap suc (meets_long found qs numbers (omega arith) same)
meets_long (Some (met.Join f) ∷ found) (q ∷ qs) numbers long same = ap suc (meets_long found qs numbers (omega arith) same)
meets_long (Some (met.Group f) ∷ found) (q ∷ qs) numbers long same = ap suc (meets_long found qs numbers (omega arith) same)

pub meets_whole : (found : List (Option Met)) (qs : List Query) (numbers : List ℕ) → length found ≡ length qs → length numbers ≡ length (missed found qs)
    → length (meets_of found numbers) ≡ length qs
meets_whole [] [] numbers long same = refl
meets_whole [] (q ∷ qs) numbers long same = absurd (omega arith)
meets_whole (f ∷ found) [] numbers long same = absurd (omega arith)
meets_whole (None ∷ found) (q ∷ qs) [] long same = absurd (omega arith)
meets_whole (None ∷ found) (q ∷ qs) (n ∷ numbers) long same = ap suc (meets_whole found qs numbers (omega arith) (omega arith))
meets_whole (Some m ∷ found) (q ∷ qs) numbers long same = ap suc (meets_whole found qs numbers (omega arith) same)

pub filled_whole : (found : List (Option Met)) (qs : List Query) (numbers : List ℕ) → length found ≡ length qs → length numbers ≡ length (missed found qs)
    → all_filled found (meets_of (map shape found) numbers) ≡ meets_of found numbers
filled_whole [] qs numbers long same = refl
filled_whole (f ∷ found) [] numbers long same = absurd (omega arith)
filled_whole (None ∷ found) (q ∷ qs) [] long same = absurd (omega arith)
filled_whole (None ∷ found) (q ∷ qs) (n ∷ numbers) long same = ap (λ ms. met.Group n ∷ ms) (filled_whole found qs numbers (omega arith) (omega arith))
filled_whole (Some (met.Hit f) ∷ found) (q ∷ qs) numbers long same = ap (λ ms. met.Hit f ∷ ms) (filled_whole found qs numbers (omega arith) same)
filled_whole (Some (met.Literal f) ∷ found) (q ∷ qs) numbers long same = ap (λ ms. met.Literal f ∷ ms) (filled_whole found qs numbers (omega arith) same)
filled_whole (Some (met.Join f) ∷ found) (q ∷ qs) numbers long same = ap (λ ms. met.Join f ∷ ms) (filled_whole found qs numbers (omega arith) same)
filled_whole (Some (met.Group f) ∷ found) (q ∷ qs) numbers long same = ap (λ ms. met.Group f ∷ ms) (filled_whole found qs numbers (omega arith) same)

-- what each query is handed out is by what it met
pub held_whole : (schemas : List Heading) (versions : List Publication) (found : List (Option Met)) (qs : List Query) (numbers : List ℕ) (held : List (Option Found))
    → length numbers ≡ length (missed found qs) → AllHanded schemas versions qs found held → AreHeld schemas versions qs (meets_of found numbers) held
held_whole schemas versions [] [] numbers [] same all = tt
held_whole schemas versions [] [] numbers (h ∷ held) same all = absurd all
held_whole schemas versions (f ∷ found) [] numbers held same all = absurd all
held_whole schemas versions [] (q ∷ qs) numbers held same all = absurd all
held_whole schemas versions (f ∷ found) (q ∷ qs) numbers [] same all = absurd all
held_whole schemas versions (None ∷ found) (q ∷ qs) [] (h ∷ held) same all = absurd (omega arith)
held_whole schemas versions (None ∷ found) (q ∷ qs) (n ∷ numbers) (None ∷ held) same all = (tt, held_whole schemas versions found qs numbers held (omega arith) all.1)
held_whole schemas versions (None ∷ found) (q ∷ qs) (n ∷ numbers) (Some h ∷ held) same all = absurd all.0
held_whole schemas versions (Some (met.Hit f) ∷ found) (q ∷ qs) numbers (None ∷ held) same all = absurd all.0
held_whole schemas versions (Some (met.Hit f) ∷ found) (q ∷ qs) numbers (Some h ∷ held) same all = (all.0, held_whole schemas versions found qs numbers held same all.1)
held_whole schemas versions (Some (met.Literal f) ∷ found) (q ∷ qs) numbers (None ∷ held) same all = absurd all.0
held_whole schemas versions (Some (met.Literal f) ∷ found) (q ∷ qs) numbers (Some h ∷ held) same all = (all.0, held_whole schemas versions found qs numbers held same all.1)
held_whole schemas versions (Some (met.Join f) ∷ found) (q ∷ qs) numbers (None ∷ held) same all = (tt, held_whole schemas versions found qs numbers held same all.1)
held_whole schemas versions (Some (met.Join f) ∷ found) (q ∷ qs) numbers (Some h ∷ held) same all = absurd all.0
held_whole schemas versions (Some (met.Group f) ∷ found) (q ∷ qs) numbers (None ∷ held) same all = (tt, held_whole schemas versions found qs numbers held same all.1)
held_whole schemas versions (Some (met.Group f) ∷ found) (q ∷ qs) numbers (Some h ∷ held) same all = absurd all.0

-- each query has something found for it
looked_from : (flown : List Flown) (versions : List Publication) (b : Looked) (queries : List Query) → length (fold (then_look flown versions) b queries).found ≡ length b.found + length queries
looked_from flown versions b [] = omega arith
looked_from flown versions b (q ∷ queries) =
    let stamp = stamp_in versions q.source in
    let one = look flown stamp q b.shelves (find (has_cover stamp q) b.shelves.clever) in
    omega (arith, looked_from flown versions (then_look flown versions b q) queries, length-append b.found one.found, one_long (find (has_cover stamp q) b.shelves.clever))
  where
    one_long : (o : Option Shelved) → length (look flown (stamp_in versions q.source) q b.shelves o).found ≡ 1
    one_long (Some e) = refl
    one_long None = refl

pub looked_long : (flown : List Flown) (versions : List Publication) (shelves : Shelves) (queries : List Query) → length (looked flown versions shelves queries).found ≡ length queries
looked_long flown versions shelves queries = looked_from flown versions (record { shelves = shelves; found = [] }) queries ∙ whole (length queries)
  where
    whole : (n : ℕ) → 0 + n ≡ n
    whole n = omega arith

-- What an admission takes memory for before it begins, in the words of what the desk keeps.
use Rattle.std.specs.Prelude.{◌≡◌, ℕ, ◌+◌, ◌^◌, ◌<◌, true, Bool, false, List, [], ◌∷◌, slice_get, slice_index_or, is_some, find, fold, map, option_map, Option, Some, None, IsSomeAnd}
use Rattle.dq_base.specs.Batches.{Group}
use Rattle.dq_base.specs.Versions.{Version}
use Rattle.dq_base.specs.declared.query.Query.{Query}
use Rattle.dq_cache.specs.Entries.{BodiedOf, EntryOf, fits, has_body, to_front}
use Rattle.dq_cache.specs.Finds.{Finds}
use Rattle.dq_cache.specs.declared.entry.Found.{Found}
use Rattle.dq_flight.specs.Flights.{FlightOf, flight_of, is_numbered, joined, replaced, runs}
use Rattle.dq_flight.specs.Flights as flights
use Rattle.dq_journal.specs.declared.entry.Met.{Met}
use Rattle.dq_journal.specs.declared.entry.Met.TheVariants as met
use Rattle.dq_machine.specs.Admitting.{meets_of, miss_numbers, missed}
use Rattle.dq_machine.specs.State.{Joined}
use Rattle.dq_text.specs.Statements.{body}
use Rattle.dq_desk.specs.Admissions.{StartedOf, StoodOf}

-- the stamp of a source, of all sources' stamps
abbrev pub stamp_of : List ℕ → ℕ → ℕ
stamp_of stamps source = slice_index_or stamps source 0

-- what a query will meet; the flight of an answer in a cache is left open

abbrev pub planned_join : Option ℕ → Option Met
planned_join None = None
planned_join (Some number) = Some (met.Join number)

abbrev pub planned_by : Bool → Bool → Option ℕ → Option Met
planned_by true literal number = Some (met.Hit 0)
planned_by false true number = Some (met.Literal 0)
planned_by false false number = planned_join number

abbrev pub planned : List EntryOf → List BodiedOf → List FlightOf → ℕ → Query → List ℕ → Option Met
planned clever literal flown stamp q text =
    planned_by (is_some (find (fits stamp q) clever)) (is_some (find (has_body stamp text) literal))
    (option_map (λ (f : FlightOf). f.number) (find (flights.fits stamp q) flown))

-- the joins, where each source has a stamp
abbrev pub joins_by : (ℕ → ℕ) → List (Option Met) → List Query → List Joined
joins_by stamp [] queries = []
joins_by stamp (f ∷ found) [] = []
joins_by stamp (None ∷ found) (q ∷ queries) = joins_by stamp found queries
joins_by stamp (Some (met.Hit f) ∷ found) (q ∷ queries) = joins_by stamp found queries
joins_by stamp (Some (met.Literal f) ∷ found) (q ∷ queries) = joins_by stamp found queries
joins_by stamp (Some (met.Group f) ∷ found) (q ∷ queries) = joins_by stamp found queries
joins_by stamp (Some (met.Join f) ∷ found) (q ∷ queries) = record { flight = f; query = q; stamp = stamp q.source } ∷ joins_by stamp found queries

-- what stands of the source
abbrev pub StandsAs : List ℕ → List Version → ℕ → StoodOf → Type 0
StandsAs stamps stands source s = (s.stamp ≡ stamp_of stamps source) × (slice_get stands source ≡ Some s.extract)

-- one for each query
abbrev pub AllStand : List ℕ → List Version → List Query → List StoodOf → Type 0
AllStand stamps stands [] [] = Unit {0}
AllStand stamps stands [] (s ∷ stood) = ⊥
AllStand stamps stands (q ∷ queries) [] = ⊥
AllStand stamps stands (q ∷ queries) (s ∷ stood) = StandsAs stamps stands q.source s × AllStand stamps stands queries stood

-- the flight of a group
pub record StartsAs (stamps : List ℕ) (stands : List Version) (number : ℕ) (g : Group) (s : StartedOf) : Type 0 where
  pub flight : s.flight ≡ number
  pub key : s.key ≡ g.key
  pub stood : StandsAs stamps stands g.key.source s.stood
  pub members : s.members ≡ g.members

-- one for each group, from this number on
abbrev pub AllStart : List ℕ → List Version → ℕ → List Group → List StartedOf → Type 0
AllStart stamps stands number [] [] = Unit {0}
AllStart stamps stands number [] (s ∷ started) = ⊥
AllStart stamps stands number (g ∷ groups) [] = ⊥
AllStart stamps stands number (g ∷ groups) (s ∷ started) = StartsAs stamps stands number g s × AllStart stamps stands (number + 1) groups started

-- what a look-up hands out

-- by the entry of the intelligent cache that it found, else by that of the literal cache, else what is put there
abbrev pub HandsOut : Option EntryOf → Option BodiedOf → Met → (Met × Option Found) → Type 0
HandsOut (Some e) literal other out = (out.0 ≡ met.Hit e.flight) × Finds (Some e) out.1
HandsOut None (Some b) other out = (out.0 ≡ met.Literal b.entry.flight) × Finds (Some b.entry) out.1
HandsOut None None other out = (out.0 ≡ other) × (out.1 ≡ None)

-- the literal cache is looked at where the intelligent one has nothing
abbrev pub literal_left : Option EntryOf → ℕ → List ℕ → List BodiedOf → List BodiedOf
literal_left (Some e) stamp text literal = literal
literal_left None stamp text literal = to_front (has_body stamp text) literal

-- flights

-- so many can join the flight of that number
abbrev pub CanJoin : ℕ → List FlightOf → ℕ → Type 0
CanJoin many flown number = IsSomeAnd (flight_of number flown) (λ f. (runs f.course ≡ true) × (f.joiners + many < 2 ^ 64))

abbrev pub AllCanJoin : ℕ → List FlightOf → List Joined → Type 0
AllCanJoin many flown [] = Unit {0}
AllCanJoin many flown (j ∷ joins) = CanJoin many flown j.flight × AllCanJoin many flown joins

-- each join is one joiner more
abbrev pub all_joined : List FlightOf → List Joined → List FlightOf
all_joined flown joins = fold (λ fs j. replaced (is_numbered j.flight) joined fs) flown joins

abbrev pub started_flight : List ℕ → ℕ → ℕ → Query → FlightOf
started_flight stamps lane number key =
    record { number = number; lane = lane; stamp = stamp_of stamps key.source; key = key; course = flights.Running; joiners = 0 }

-- one for each key, from this number on
abbrev pub started_flights : List ℕ → ℕ → ℕ → List Query → List FlightOf
started_flights stamps lane number [] = []
started_flights stamps lane number (key ∷ keys) = started_flight stamps lane number key ∷ started_flights stamps lane (number + 1) keys

-- all that an admission takes memory for

abbrev pub plan_of : List EntryOf → List BodiedOf → List FlightOf → List ℕ → List Query → List (Option Met)
plan_of clever literal flown stamps queries = map (λ (q : Query). planned clever literal flown (stamp_of stamps q.source) q (body q)) queries

-- by the plan, of which the misses' groups are these
pub record IsReady (stamps : List ℕ) (stands : List Version) (count : ℕ) (queries : List Query) (plan : List (Option Met)) (gs : List Group) (otherwise : List Met) (joins : List Joined)
    (stood : List StoodOf) (started : List StartedOf) (keys : List Query) : Type 0 where
  pub otherwise_are : otherwise ≡ meets_of plan (miss_numbers (count + 1) gs (missed plan queries))
  pub joins_are : joins ≡ joins_by (stamp_of stamps) plan queries
  pub stood_are : AllStand stamps stands queries stood
  pub started_are : AllStart stamps stands (count + 1) gs started
  pub keys_are : keys ≡ map (λ (g : Group). g.key) gs

-- What an Admit entry does.
use Rattle.std.specs.Prelude.{ℕ, ◌+◌, Bool, true, false, ◌&&◌, nat_eq, List, [], ◌∷◌, ◌++◌, length, map, find, fold, Option, Some, None, if◌then◌else◌}
use Rattle.std.specs.List.{list_any, enumerate_from}
use Rattle.dq_base.specs.Batches.{Group, groups}
use Rattle.dq_base.specs.Covering.{covers, query_eq}
use Rattle.dq_base.specs.Scripts.{step_of, zones_of}
use Rattle.dq_base.specs.declared.query.Query.{Query}
use Rattle.dq_base.specs.declared.script.Step.{Step}
use Rattle.dq_base.specs.declared.script.Step.TheVariants as step
use Rattle.dq_cache.specs.Entries.{to_front}
use Rattle.dq_extract.specs.Loads.{LoadedFiles}
use Rattle.dq_flight.specs.Flights.{replaced}
use Rattle.dq_journal.specs.declared.entry.Met.{Met}
use Rattle.dq_journal.specs.declared.entry.Met.TheVariants as met
use Rattle.dq_machine.specs.Preparing.{remotes_of}
use Rattle.dq_machine.specs.Publishing.{stamp_in}
use Rattle.dq_machine.specs.State.{Course, Running, Landed, Fallen, Flown, Flights, Joined, Publication, Shelved, Shelves, State, is_numbered}

-- what a query meets

-- an answer of that stamp, to a query that covers this one, or that equals it
abbrev pub has_cover : ℕ → Query → Shelved → Bool
has_cover stamp q e = nat_eq e.stamp stamp && covers e.key q

abbrev pub has_same : ℕ → Query → Shelved → Bool
has_same stamp q e = nat_eq e.stamp stamp && query_eq e.key q

abbrev pub runs : Course → Bool
runs Running = true
runs Landed = false
runs Fallen = false

-- a running flight of that stamp that covers the query
abbrev pub may_join : ℕ → Query → Flown → Bool
may_join stamp q f = runs f.course && (nat_eq f.stamp stamp && covers f.key q)

-- the shelves as look-ups leave them, and what each query met, of which none is a miss
pub record Looked : Type 0 where
  pub shelves : Shelves
  pub found : List (Option Met)

abbrev pub met_flight : Option Flown → Option Met
met_flight None = None
met_flight (Some f) = Some (met.Join f.number)

abbrev pub look_literal : List Flown → ℕ → Query → Option Shelved → Option Met
look_literal flown stamp q (Some e) = Some (met.Literal e.flight)
look_literal flown stamp q None = met_flight (find (may_join stamp q) flown)

-- the first that covers it in the intelligent cache, else the one that equals it in the literal cache, else the lowest flight
abbrev pub look : List Flown → ℕ → Query → Shelves → Option Shelved → Looked
look flown stamp q shelves (Some e) =
    record { shelves = record shelves { clever = to_front (has_cover stamp q) shelves.clever }; found = Some (met.Hit e.flight) ∷ [] }
look flown stamp q shelves None = record {
  shelves = record shelves { literal = to_front (has_same stamp q) shelves.literal };
  found = look_literal flown stamp q (find (has_same stamp q) shelves.literal) ∷ [];
}

-- one query more sees the shelves as those before it left them
abbrev pub then_look : List Flown → List Publication → Looked → Query → Looked
then_look flown versions before q =
    let stamp = stamp_in versions q.source in
    let one = look flown stamp q before.shelves (find (has_cover stamp q) before.shelves.clever) in
    record { shelves = one.shelves; found = before.found ++ one.found }

abbrev pub looked : List Flown → List Publication → Shelves → List Query → Looked
looked flown versions shelves queries = fold (then_look flown versions) (record { shelves = shelves; found = [] }) queries

-- the groups of those that missed

abbrev pub missed : List (Option Met) → List Query → List Query
missed [] queries = []
missed (Some m ∷ found) [] = []
missed (Some m ∷ found) (q ∷ queries) = missed found queries
missed (None ∷ found) [] = []
missed (None ∷ found) (q ∷ queries) = q ∷ missed found queries

-- the number of the group that has the miss at this place, where the first group has this number
abbrev pub number_in : ℕ → List Group → ℕ → ℕ
number_in first [] place = first
number_in first (g ∷ gs) place = if list_any (nat_eq place) g.members then first else number_in (first + 1) gs place

-- the numbers of the misses' groups, in their order
abbrev pub miss_numbers : ℕ → List Group → List Query → List ℕ
miss_numbers first gs misses = map (λ p. number_in first gs p.0) (enumerate_from 0 misses)

-- what each query met, where each miss has its group's number
abbrev pub meets_of : List (Option Met) → List ℕ → List Met
meets_of [] numbers = []
meets_of (Some m ∷ found) numbers = m ∷ meets_of found numbers
meets_of (None ∷ found) [] = meets_of found []
meets_of (None ∷ found) (n ∷ numbers) = met.Group n ∷ meets_of found numbers

-- the joins, in zone order
abbrev pub joins_of : List Publication → List (Option Met) → List Query → List Joined
joins_of versions [] queries = []
joins_of versions (f ∷ found) [] = []
joins_of versions (None ∷ found) (q ∷ queries) = joins_of versions found queries
joins_of versions (Some (met.Hit f) ∷ found) (q ∷ queries) = joins_of versions found queries
joins_of versions (Some (met.Literal f) ∷ found) (q ∷ queries) = joins_of versions found queries
joins_of versions (Some (met.Group f) ∷ found) (q ∷ queries) = joins_of versions found queries
joins_of versions (Some (met.Join f) ∷ found) (q ∷ queries) =
    record { flight = f; query = q; stamp = stamp_in versions q.source } ∷ joins_of versions found queries

-- the flights after it

abbrev pub with_joiner : Flown → List Flown
with_joiner f = record f { joiners = f.joiners + 1 } ∷ []

-- each join is one joiner more of its flight
abbrev pub joined_by : List Flown → List Joined → List Flown
joined_by flown joins = fold (λ flights j. replaced (is_numbered j.flight) with_joiner flights) flown joins

-- a flight that starts now
abbrev pub taking_off : ℕ → ℕ → ℕ → Query → Flown
taking_off number lane stamp key = record { number = number; lane = lane; stamp = stamp; key = key; course = Running; joiners = 0 }

-- one flight for each group, from this number on
abbrev pub group_flights : List Publication → ℕ → ℕ → List Group → List Flown
group_flights versions lane number [] = []
group_flights versions lane number (g ∷ gs) = taking_off number lane (stamp_in versions g.key.source) g.key ∷ group_flights versions lane (number + 1) gs

-- an admission

pub record Admission : Type 0 where
  pub shelves : Shelves
  pub met : List Met
  pub groups : List Group
  pub joins : List Joined

abbrev pub grouped : List Publication → ℕ → List Query → Looked → List Group → Admission
grouped versions started queries l gs = record {
  shelves = l.shelves;
  met = meets_of l.found (miss_numbers (started + 1) gs (missed l.found queries));
  groups = gs;
  joins = joins_of versions l.found queries;
}

abbrev pub admitted : List Publication → ℕ → List Query → Looked → Admission
admitted versions started queries l = grouped versions started queries l (groups (missed l.found queries))

-- what these remote queries meet, and what that leaves
abbrev pub admission : List Publication → Flights → Shelves → List Query → Admission
admission versions flights shelves queries = admitted versions flights.started queries (looked flights.flown versions shelves queries)

-- of the batch of that number
abbrev pub admission_of : LoadedFiles → State → ℕ → ℕ → Admission
admission_of l s lane number = admission s.versions s.flights s.shelves (remotes_of l.script.schemas (zones_of (step_of l.script.lanes lane number)))

abbrev pub flights_admitted : List Publication → Flights → ℕ → Admission → Flights
flights_admitted versions flights lane a = record {
  flown = joined_by flights.flown a.joins ++ group_flights versions lane (flights.started + 1) a.groups;
  started = flights.started + length a.groups;
}

-- the numbers of so many flights, from this one on
abbrev pub numbers_from : ℕ → List Group → List ℕ
numbers_from number [] = []
numbers_from number (g ∷ gs) = number ∷ numbers_from (number + 1) gs

abbrev pub is_batch : Option Step → Bool
is_batch None = false
is_batch (Some (step.Publish source how file)) = false
is_batch (Some (step.Batch zones)) = true

abbrev pub met_eq : Met → Met → Bool
met_eq (met.Hit a) (met.Hit b) = nat_eq a b
met_eq (met.Hit a) (met.Literal b) = false
met_eq (met.Hit a) (met.Join b) = false
met_eq (met.Hit a) (met.Group b) = false
met_eq (met.Literal a) (met.Hit b) = false
met_eq (met.Literal a) (met.Literal b) = nat_eq a b
met_eq (met.Literal a) (met.Join b) = false
met_eq (met.Literal a) (met.Group b) = false
met_eq (met.Join a) (met.Hit b) = false
met_eq (met.Join a) (met.Literal b) = false
met_eq (met.Join a) (met.Join b) = nat_eq a b
met_eq (met.Join a) (met.Group b) = false
met_eq (met.Group a) (met.Hit b) = false
met_eq (met.Group a) (met.Literal b) = false
met_eq (met.Group a) (met.Join b) = false
met_eq (met.Group a) (met.Group b) = nat_eq a b

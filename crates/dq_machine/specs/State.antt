-- The state of the list machine that walks over a journal.
use Rattle.std.specs.Prelude.{ℕ, ◌-◌, Bool, true, false, ◌&&◌, not, nat_eq, List, [], ◌∷◌, length, slice_index_or, replicate, Option, find}
use Rattle.dq_base.specs.declared.query.Query.{Query}
use Rattle.dq_extract.specs.Loads.{LoadedFiles}
use Rattle.dq_journal.specs.Standing.{Rows}
use Rattle.dq_link.specs.Mirrors.{Mirror}

-- what a publication leaves: its source, and that source's rows
pub record Publication : Type 0 where
  pub source : ℕ
  pub rows : Rows

-- an answer in a cache: the flight that landed it, its version's stamp, its query, and how much it counts
pub record Shelved : Type 0 where
  pub flight : ℕ
  pub stamp : ℕ
  pub key : Query
  pub weight : ℕ

-- both caches, the most recent first
pub record Shelves : Type 0 where
  pub clever : List Shelved
  pub literal : List Shelved

pub data Course : Type 0 where
  Running Landed Fallen : Course

-- a result that is under way, or for which somebody waits: its number, the lane that brings it, its version's stamp, its query,
-- and how many wait
pub record Flown : Type 0 where
  pub number : ℕ
  pub lane : ℕ
  pub stamp : ℕ
  pub key : Query
  pub course : Course
  pub joiners : ℕ

-- in the order of their numbers, and how many were started
pub record Flights : Type 0 where
  pub flown : List Flown
  pub started : ℕ

-- a link, as often as it ran a statement and was called, and what stands on it, as long as that is sure
pub record LinkOf : Type 0 where
  pub number : ℕ
  pub runs : ℕ
  pub calls : ℕ
  pub mirror : Mirror
  pub sure : Bool

-- those that nobody uses, the last one given back first, and how many were leased fresh
pub record Links : Type 0 where
  pub idle : List LinkOf
  pub fresh : ℕ

-- what becomes of a lane's first flight: after so many losses it has no link, or has that one, which is fresh or not; or its link
-- was given back, after it ran the statement or didn't
pub data Phase : Type 0 where
  New : ℕ → Phase
  Leased : ℕ → Bool → LinkOf → Phase
  Given : Bool → Phase

-- a flight for which a zone waits, with the zone's own query and the stamp at its admission
pub record Joined : Type 0 where
  pub flight : ℕ
  pub query : Query
  pub stamp : ℕ

-- what a lane has done and has to do: its last step, whether it has ended, its own flights, its joins in zone order, and how far
-- its first own flight is
pub record Work : Type 0 where
  pub last : ℕ
  pub ended : Bool
  pub own : List ℕ
  pub joins : List Joined
  pub phase : Phase

pub record State : Type 0 where
  -- the latest publication first
  pub versions : List Publication
  -- one for each lane
  pub works : List Work
  pub shelves : Shelves
  pub flights : Flights
  pub links : Links

abbrev pub no_work : Work
no_work = record { last = 0; ended = false; own = []; joins = []; phase = New 0 }

-- nothing has happened
abbrev pub start : LoadedFiles → State
start l = record {
  versions = [];
  works = replicate (length l.script.lanes) no_work;
  shelves = record { clever = []; literal = [] };
  flights = record { flown = []; started = 0 };
  links = record { idle = []; fresh = 0 };
}

-- the work of a lane; lanes count from 1
abbrev pub work_of : State → ℕ → Work
work_of s lane = slice_index_or s.works (lane - 1) no_work

abbrev pub is_numbered : ℕ → Flown → Bool
is_numbered number f = nat_eq f.number number

-- the flight of that number
abbrev pub flight_at : State → ℕ → Option Flown
flight_at s number = find (is_numbered number) s.flights.flown

abbrev pub none_left : {X : Type 0} → List X → Bool
none_left [] = true
none_left (x ∷ xs) = false

-- nothing of the lane is open
abbrev pub is_free : Work → Bool
is_free w = not w.ended && none_left w.own && none_left w.joins

-- the flight is the lane's first own one
abbrev pub is_first : List ℕ → ℕ → Bool
is_first [] flight = false
is_first (f ∷ own) flight = nat_eq f flight

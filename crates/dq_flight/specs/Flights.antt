-- Results that are under way, and those that some lane still waits for.
use Rattle.std.specs.Prelude.{ℕ, ◌+◌, ◌-◌, Bool, true, false, ◌&&◌, nat_eq, nat_lt, List, [], ◌∷◌, ◌++◌, Option, find, if◌then◌else◌}
use Rattle.std.specs.List.{list_all}
use Rattle.dq_base.specs.Covering.{covers}
use Rattle.dq_base.specs.declared.cell.Cell.{Cell}
use Rattle.dq_base.specs.declared.query.Query.{Query}

-- a table, row by row
abbrev pub Rows : Type 0
Rows = List (List Cell)

pub data Course : Type 0 where
  Running : Course
  Landed : Rows → Course
  Fallen : Course

pub record FlightOf : Type 0 where
  pub number : ℕ
  pub lane : ℕ
  pub stamp : ℕ
  pub key : Query
  pub course : Course
  -- how many wait for it
  pub joiners : ℕ

-- and the room for more
pub record FlightsOf : Type 0 where
  pub flights : List FlightOf
  pub spare : ℕ

abbrev pub runs : Course → Bool
runs Running = true
runs (Landed rows) = false
runs Fallen = false

-- a running flight of that stamp whose key covers the query
abbrev pub fits : ℕ → Query → FlightOf → Bool
fits stamp q f = runs f.course && (nat_eq f.stamp stamp && covers f.key q)

abbrev pub is_numbered : ℕ → FlightOf → Bool
is_numbered number f = nat_eq f.number number

-- the flight of that number
abbrev pub flight_of : ℕ → List FlightOf → Option FlightOf
flight_of number fs = find (is_numbered number) fs

-- each number is below those behind it
abbrev pub ascends : List FlightOf → Bool
ascends [] = true
ascends (f ∷ fs) = list_all (λ g. nat_lt f.number g.number) fs && ascends fs

-- the first that passes is replaced by one or by none
abbrev pub replaced : {X : Type 0} → (X → Bool) → (X → List X) → List X → List X
replaced p g [] = []
replaced p g (x ∷ xs) = if p x then g x ++ xs else x ∷ replaced p g xs

-- one joiner more
abbrev pub joined : FlightOf → List FlightOf
joined f = record f { joiners = f.joiners + 1 } ∷ []

-- it ends so, and is kept as long as somebody waits for it
abbrev pub ended : Course → FlightOf → List FlightOf
ended course f = if nat_eq f.joiners 0 then [] else record f { course = course } ∷ []

-- one joiner of a flight that has ended less; nobody is let go from a running one
abbrev pub taken : FlightOf → List FlightOf
taken f = if runs f.course then f ∷ [] else (if nat_eq (f.joiners - 1) 0 then [] else record f { joiners = f.joiners - 1 } ∷ [])

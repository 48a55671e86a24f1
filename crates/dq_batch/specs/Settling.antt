-- What a flight that ended brings to the queries that it flew for.
use Rattle.std.specs.Prelude.{◌≡◌, ℕ, zero, suc, Bool, true, false, MatchBool, nat_eq, List, [], ◌∷◌, Option, Some, None}
use Rattle.std.specs.Arc.{arc_value}
use Rattle.dq_base.specs.declared.cell.Cell.{Cell}
use Rattle.dq_base.specs.declared.query.Query.{Query}
use Rattle.dq_bring.specs.declared.telling.Ending.{Ending}
use Rattle.dq_bring.specs.declared.telling.Ending.TheVariants as ending
use Rattle.dq_zones.specs.declared.fetch.Fetch.{Fetch}
use Rattle.dq_zones.specs.declared.fetch.Fetch.TheVariants as fetch
use Rattle.dq_batch.specs.declared.settling.Wait.{Wait}

-- further owners of the key and the table, unless memory is wanting
abbrev pub FurtherTo : Query → List (List Cell) → Fetch → Type 0
FurtherTo key table (fetch.Waiting flight) = ⊥
FurtherTo key table (fetch.Flying flight) = ⊥
FurtherTo key table (fetch.Brought k t) = (arc_value k ≡ key) × (arc_value t ≡ table)
FurtherTo key table fetch.BackEnd = ⊥
FurtherTo key table fetch.Memory = Unit {0}

abbrev pub BringsTo : Query → Ending → Fetch → Type 0
BringsTo key (ending.Landed table) x = FurtherTo key (arc_value table) x
BringsTo key ending.BackEnd x = x ≡ fetch.BackEnd
BringsTo key ending.Memory x = x ≡ fetch.Memory

-- the flight flies for the query
abbrev pub is_flying : ℕ → Fetch → Bool
is_flying flight (fetch.Waiting number) = false
is_flying flight (fetch.Flying number) = nat_eq number flight
is_flying flight (fetch.Brought key table) = false
is_flying flight fetch.BackEnd = false
is_flying flight fetch.Memory = false

-- it gets what the flight brought; else it is as far as before
abbrev pub SettlesTo : ℕ → Query → Ending → Fetch → Fetch → Type 0
SettlesTo flight key e x y = MatchBool (is_flying flight x) (BringsTo key e y) (y ≡ x)

-- so is the one at a place, and the others are as far as before
abbrev pub SettlesAt : ℕ → Query → Ending → ℕ → List Fetch → List Fetch → Type 0
SettlesAt flight key e place [] [] = Unit {0}
SettlesAt flight key e place [] (y ∷ ys) = ⊥
SettlesAt flight key e place (x ∷ xs) [] = ⊥
SettlesAt flight key e zero (x ∷ xs) (y ∷ ys) = SettlesTo flight key e x y × (ys ≡ xs)
SettlesAt flight key e (suc place) (x ∷ xs) (y ∷ ys) = (y ≡ x) × SettlesAt flight key e place xs ys

-- so is each, in order
abbrev pub AllSettle : ℕ → Query → Ending → List Fetch → List Fetch → Type 0
AllSettle flight key e [] [] = Unit {0}
AllSettle flight key e [] (y ∷ ys) = ⊥
AllSettle flight key e (x ∷ xs) [] = ⊥
AllSettle flight key e (x ∷ xs) (y ∷ ys) = SettlesTo flight key e x y × AllSettle flight key e xs ys

-- the flight for which a query waits, if it does
abbrev pub waited : Fetch → Option ℕ
waited (fetch.Waiting flight) = Some flight
waited (fetch.Flying flight) = None
waited (fetch.Brought key table) = None
waited fetch.BackEnd = None
waited fetch.Memory = None

abbrev pub is_not : Option ℕ → Bool → Bool
is_not None rest = rest
is_not (Some flight) rest = false

-- none waits
abbrev pub none_waits : List Fetch → Bool
none_waits [] = true
none_waits (x ∷ xs) = is_not (waited x) (none_waits xs)

-- the first that waits, at its place
abbrev pub IsFirstWait : List Fetch → ℕ → ℕ → Type 0
IsFirstWait [] place flight = ⊥
IsFirstWait (x ∷ xs) zero flight = waited x ≡ Some flight
IsFirstWait (x ∷ xs) (suc place) flight = (waited x ≡ None) × IsFirstWait xs place flight

abbrev pub FirstWaits : List Fetch → Option Wait → Type 0
FirstWaits xs None = none_waits xs ≡ true
FirstWaits xs (Some w) = IsFirstWait xs w.place w.flight

-- What a cache holds: a list of entries, the most recent first.
use Rattle.std.specs.Prelude.{◌≡◌, ℕ, zero, suc, ◌+◌, ◌-◌, ◌*◌, Bool, false, ◌&&◌, ◌||◌, nat_eq, nat_lt, List, [], ◌∷◌, map, sum, length, take, filter, find, Option, Some, None, if◌then◌else◌}
use Rattle.std.specs.Cmp.Lexicographic.{pointwise}
use Rattle.dq_base.specs.Covering.{covers, query_eq}
use Rattle.dq_base.specs.Limits.{most_entries}
use Rattle.dq_base.specs.declared.bound.Bound.{Bound}
use Rattle.dq_base.specs.declared.bound.Bound.TheVariants as bound
use Rattle.dq_base.specs.declared.cell.Cell.{Cell}
use Rattle.dq_base.specs.declared.kept.Kept.{Kept as Word}
use Rattle.dq_base.specs.declared.kept.Kept.TheVariants.{Kept, Topped, TooLarge, Stale, Memory}
use Rattle.dq_base.specs.declared.query.Query.{Query}

-- a table, row by row
abbrev pub Rows : Type 0
Rows = List (List Cell)

-- the flight that landed it, its extract's stamp, its query, how much it counts, and its table
pub record EntryOf : Type 0 where
  pub flight : ℕ
  pub stamp : ℕ
  pub key : Query
  pub weight : ℕ
  pub table : Rows

-- an entry that is looked up by the body of its statement
pub record BodiedOf : Type 0 where
  pub entry : EntryOf
  pub body : List ℕ

pub record CleverOf : Type 0 where
  pub entries : List EntryOf
  pub bound : Bound

pub record LiteralOf : Type 0 where
  pub entries : List BodiedOf
  pub bound : Bound

-- cells of one table that a cache keeps at most
abbrev pub most_cells : ℕ
most_cells = 65536

-- rows times columns; the columns are the dimensions and the measures
abbrev pub cells_of : Query → Rows → ℕ
cells_of key rows = length rows * (length key.dims + length key.measures)

abbrev pub weight_of : ℕ → ℕ
weight_of cells = if nat_eq cells 0 then 1 else cells

abbrev pub beyond_bound : Bound → ℕ → Bool
beyond_bound (bound.Entries n) weight = false
beyond_bound (bound.Cells n) weight = nat_lt n weight

abbrev pub is_large : Bound → ℕ → Bool
is_large b cells = nat_lt most_cells cells || beyond_bound b (weight_of cells)

-- too many entries, or too many cells together
abbrev pub is_over : Bound → List ℕ → Bool
is_over (bound.Entries n) weights = nat_lt n (length weights)
is_over (bound.Cells n) weights = nat_lt n (sum weights) || nat_lt most_entries (length weights)

abbrev pub without_last : {X : Type 0} → List X → List X
without_last xs = take (length xs - 1) xs

abbrev pub trimmed_by : {X : Type 0} → (X → ℕ) → Bound → ℕ → List X → List X
trimmed_by weight b zero xs = xs
trimmed_by weight b (suc n) xs = if is_over b (map weight xs) then trimmed_by weight b n (without_last xs) else xs

-- the last is dropped as long as there is too much
abbrev pub trimmed : {X : Type 0} → (X → ℕ) → Bound → List X → List X
trimmed weight b xs = trimmed_by weight b (length xs) xs

abbrev pub without_first : {X : Type 0} → (X → Bool) → List X → List X
without_first test [] = []
without_first test (x ∷ xs) = if test x then xs else x ∷ without_first test xs

abbrev pub front_or : {X : Type 0} → Option X → List X → List X → List X
front_or (Some x) rest all = x ∷ rest
front_or None rest all = all

-- the first that passes goes to the front
abbrev pub to_front : {X : Type 0} → (X → Bool) → List X → List X
to_front test xs = front_or (find test xs) (without_first test xs) xs

-- one goes to the front, in place of the first that passes
abbrev pub put_front : {X : Type 0} → (X → Bool) → X → List X → List X
put_front test x xs = x ∷ without_first test xs

-- an entry of that stamp whose key covers the query, or equals it
abbrev pub fits : ℕ → Query → EntryOf → Bool
fits stamp q e = nat_eq e.stamp stamp && covers e.key q

abbrev pub is_same : ℕ → Query → EntryOf → Bool
is_same stamp q e = nat_eq e.stamp stamp && query_eq e.key q

-- an entry of that stamp and body
abbrev pub has_body : ℕ → List ℕ → BodiedOf → Bool
has_body stamp body e = nat_eq e.entry.stamp stamp && pointwise nat_eq e.body body

abbrev pub is_of : ℕ → EntryOf → Bool
is_of source e = nat_eq e.key.source source

-- why an answer isn't kept: the first that applies
abbrev pub refusal : Bool → Bool → Bool → Option Word
refusal topped large stale = if topped then Some Topped else if large then Some TooLarge else if stale then Some Stale else None

-- want of memory may stand in place of a kept answer
abbrev pub Answers : Option Word → Word → Type 0
Answers (Some word) result = result ≡ word
Answers None Kept = Unit {0}
Answers None Memory = Unit {0}
Answers None Topped = ⊥
Answers None TooLarge = ⊥
Answers None Stale = ⊥

-- every answer but Kept leaves the list as it was
abbrev pub Leaves : {X : Type 0} → Word → List X → List X → List X → Type 0
Leaves Kept old kept new = new ≡ kept
Leaves Memory old kept new = new ≡ old
Leaves Topped old kept new = new ≡ old
Leaves TooLarge old kept new = new ≡ old
Leaves Stale old kept new = new ≡ old

-- the flights of the entries of a source and a stamp
abbrev pub flights_on : ℕ → ℕ → List EntryOf → List ℕ
flights_on source stamp es = map (λ e. e.flight) (filter (λ e. nat_eq e.key.source source && nat_eq e.stamp stamp) es)

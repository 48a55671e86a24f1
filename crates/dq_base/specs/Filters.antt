-- Which rows a query keeps.
use Rattle.std.specs.Prelude.{ℕ, ℤ, Bool, true, false, ◌&&◌, not, int_le, List, slice_index_or, Option, Some, None}
use Rattle.std.specs.List.{list_all, filter}
use Rattle.dq_base.specs.Orders.{value_cmp}
use Rattle.dq_base.specs.Sets.{has}
use Rattle.dq_base.specs.declared.value.Value.{Value}
use Rattle.dq_base.specs.declared.value.Value.TheVariants as value
use Rattle.dq_base.specs.declared.predicate.Test.{Test}
use Rattle.dq_base.specs.declared.predicate.Test.TheVariants.{Among, Except, Between}
use Rattle.dq_base.specs.declared.predicate.Predicate.{Predicate}
use Rattle.dq_base.specs.declared.query.Query.{Query}

-- the row's value in a column
abbrev pub value_at : List Value → ℕ → Value
value_at row column = slice_index_or row column value.Null

abbrev pub from_low : Option ℤ → ℤ → Bool
from_low None n = true
from_low (Some low) n = int_le low n

abbrev pub to_high : Option ℤ → ℤ → Bool
to_high None n = true
to_high (Some high) n = int_le n high

-- a whole number within the bounds that are given
abbrev pub lies_between : Option ℤ → Option ℤ → Value → Bool
lies_between low high value.Null = false
lies_between low high (value.Int n) = from_low low n && to_high high n
lies_between low high (value.Word t) = false

-- whether the test holds of the value
abbrev pub holds : Test → Value → Bool
holds (Among list) v = has value_cmp list v
holds (Except list) v = not (has value_cmp list v)
holds (Between low high) v = lies_between low high v

-- whether each predicate's test holds of the row's value in its column
abbrev pub passes : List Predicate → List Value → Bool
passes filters row = list_all (λ p. holds p.test (value_at row p.column)) filters

abbrev pub keeps : Query → List Value → Bool
keeps q row = passes q.filters row

abbrev pub kept : Query → List (List Value) → List (List Value)
kept q rows = filter (keeps q) rows

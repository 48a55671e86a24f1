-- The statement that is sent for a query, and the query that a statement means.
use Rattle.std.specs.Prelude.{ℕ, nat_le, List, [], ◌∷◌, length, map, Option, Some, if◌then◌else◌}
use Rattle.std.specs.Option.{option_map, option_and_then}
use Rattle.std.specs.Ordering.{eq_by_cmp}
use Rattle.std.specs.Cmp.Lexicographic.{slice_cmp}
use Rattle.dq_base.specs.Orders.{value_cmp}
use Rattle.dq_base.specs.declared.value.Value.{Value}
use Rattle.dq_base.specs.declared.predicate.Test.{Test}
use Rattle.dq_base.specs.declared.predicate.Test.TheVariants as test
use Rattle.dq_base.specs.declared.predicate.Predicate.{Predicate}
use Rattle.dq_base.specs.declared.query.Query.{Query}
use Rattle.dq_text.specs.declared.statement.Listed.{Listed}
use Rattle.dq_text.specs.declared.statement.Listed.TheVariants.{Spelled, Named}
use Rattle.dq_text.specs.declared.statement.SaidTest.{SaidTest}
use Rattle.dq_text.specs.declared.statement.SaidTest.TheVariants.{Among, Except, Between}
use Rattle.dq_text.specs.declared.statement.SaidPredicate.{SaidPredicate}
use Rattle.dq_text.specs.declared.statement.Statement.{Statement}

-- tables as they stand on a link, each a number and its list
abbrev pub Tables : Type 0
Tables = List (ℕ × List Value)

-- the first table that holds that list, and 0 where none does
abbrev pub table_of : Tables → List Value → ℕ
table_of [] list = 0
table_of (t ∷ ts) list = if eq_by_cmp (slice_cmp value_cmp) t.1 list then t.0 else table_of ts list

-- a list of at most 16 values is spelled, a longer one stands in a table
abbrev pub said_list : Tables → List Value → Listed
said_list tables list = if nat_le (length list) 16 then Spelled list else Named (table_of tables list)

abbrev pub said_test : Tables → Test → SaidTest
said_test tables (test.Among list) = Among (said_list tables list)
said_test tables (test.Except list) = Except (said_list tables list)
said_test tables (test.Between low high) = Between low high

abbrev pub said_predicate : Tables → Predicate → SaidPredicate
said_predicate tables p = record { column = p.column; test = said_test tables p.test }

-- the statement for a query of the version with that stamp
abbrev pub said : Tables → ℕ → Query → Statement
said tables stamp q = record { source = q.source; stamp = stamp; filters = map (said_predicate tables) q.filters; dims = q.dims; measures = q.measures; order = q.order; top = q.top }

-- the list that is meant, where the named table stands
abbrev pub resolved_list : (ℕ → Option (List Value)) → Listed → Option (List Value)
resolved_list tables (Spelled values) = Some values
resolved_list tables (Named table) = tables table

abbrev pub resolved_test : (ℕ → Option (List Value)) → SaidTest → Option Test
resolved_test tables (Among list) = option_map test.Among (resolved_list tables list)
resolved_test tables (Except list) = option_map test.Except (resolved_list tables list)
resolved_test tables (Between low high) = Some (test.Between low high)

abbrev pub resolved_predicate : (ℕ → Option (List Value)) → SaidPredicate → Option Predicate
resolved_predicate tables p = option_map (λ t. record { column = p.column; test = t }) (resolved_test tables p.test)

-- all the predicates, where each is resolved
abbrev pub resolved_filters : (ℕ → Option (List Value)) → List SaidPredicate → Option (List Predicate)
resolved_filters tables [] = Some []
resolved_filters tables (p ∷ ps) = option_and_then (λ one. option_map (λ more. one ∷ more) (resolved_filters tables ps)) (resolved_predicate tables p)

-- the query that a statement means, where every named table stands
abbrev pub resolved : (ℕ → Option (List Value)) → Statement → Option Query
resolved tables s =
    option_map (λ filters. record { source = s.source; filters = filters; dims = s.dims; measures = s.measures; order = s.order; top = s.top }) (resolved_filters tables s.filters)

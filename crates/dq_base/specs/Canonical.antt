-- The canonical form of a query.
use Rattle.std.specs.Prelude.{◌≡◌, ℤ, int_lt, [], map, Option, Some, None, if◌then◌else◌}
use Rattle.std.specs.declared.cmp.Ordering.{Ordering}
use Rattle.std.specs.declared.cmp.Ordering.TheVariants.{Less, Greater}
use Rattle.std.specs.Ordering.{nat_cmp, int_cmp, ordering_then}
use Rattle.std.specs.Cmp.Lexicographic.{slice_cmp}
use Rattle.std.specs.Option.{option_cmp}
use Rattle.dq_base.specs.Orders.{value_cmp}
use Rattle.dq_base.specs.Sets.{set_of}
use Rattle.dq_base.specs.declared.predicate.Test.{Test}
use Rattle.dq_base.specs.declared.predicate.Test.TheVariants.{Among, Except, Between}
use Rattle.dq_base.specs.declared.predicate.Predicate.{Predicate}
use Rattle.dq_base.specs.declared.query.Query.{Query}

abbrev pub canonical_bounds : Option ℤ → Option ℤ → Test
canonical_bounds None high = Between None high
canonical_bounds (Some low) None = Between (Some low) None
canonical_bounds (Some low) (Some high) = if int_lt high low then Among [] else Between (Some low) (Some high)

-- lists ascending and without repeats, bounds that leave nothing as the empty list
abbrev pub canonical_test : Test → Test
canonical_test (Among list) = Among (set_of value_cmp list)
canonical_test (Except list) = Except (set_of value_cmp list)
canonical_test (Between low high) = canonical_bounds low high

-- Among, then Except, then Between, and then by contents, a missing bound first
abbrev pub test_cmp : Test → Test → Ordering
test_cmp (Among a) (Among b) = slice_cmp value_cmp a b
test_cmp (Among a) (Except b) = Less
test_cmp (Among a) (Between l h) = Less
test_cmp (Except a) (Among b) = Greater
test_cmp (Except a) (Except b) = slice_cmp value_cmp a b
test_cmp (Except a) (Between l h) = Less
test_cmp (Between k g) (Among b) = Greater
test_cmp (Between k g) (Except b) = Greater
test_cmp (Between k g) (Between l h) = ordering_then (option_cmp int_cmp k l) (option_cmp int_cmp g h)

abbrev pub predicate_cmp : Predicate → Predicate → Ordering
predicate_cmp a b = ordering_then (nat_cmp a.column b.column) (test_cmp a.test b.test)

abbrev pub canonical_predicate : Predicate → Predicate
canonical_predicate p = record p { test = canonical_test p.test }

abbrev pub canonical : Query → Query
canonical q = record q { filters = set_of predicate_cmp (map canonical_predicate q.filters) }

-- what is its own canonical form
abbrev pub IsCanonical : Query → Type 0
IsCanonical q = canonical q ≡ q

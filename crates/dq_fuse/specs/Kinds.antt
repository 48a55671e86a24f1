-- What queries that fuse have in common.
use Rattle.std.specs.Prelude.{ℕ, Bool, ◌&&◌, nat_eq, List, [], ◌∷◌, ◌++◌, map, length}
use Rattle.std.specs.declared.cmp.Ordering.{Ordering}
use Rattle.std.specs.Ordering.{eq_by_cmp, nat_cmp, ordering_then}
use Rattle.std.specs.Cmp.Lexicographic.{pointwise}
use Rattle.std.specs.Hash as fed
use Rattle.dq_base.specs.Canonical.{predicate_cmp}
use Rattle.dq_base.specs.Dims.{Dimension, width_of}
use Rattle.dq_base.specs.Sets.{set_of}
use Rattle.dq_base.specs.declared.value.Value.{Value}
use Rattle.dq_base.specs.declared.value.Value.TheVariants.{Null, Int, Word}
use Rattle.dq_base.specs.declared.predicate.Test.{Test}
use Rattle.dq_base.specs.declared.predicate.Test.TheVariants.{Among, Except, Between}
use Rattle.dq_base.specs.declared.predicate.Predicate.{Predicate}
use Rattle.dq_base.specs.declared.query.Query.{Query}

-- a column and a width
abbrev pub Pair : Type 0
Pair = ℕ × ℕ

abbrev pub pair_of : Dimension → Pair
pair_of d = (d.column, width_of d)

abbrev pub pair_eq : Pair → Pair → Bool
pair_eq a b = nat_eq a.0 b.0 && nat_eq a.1 b.1

abbrev pub pair_cmp : Pair → Pair → Ordering
pair_cmp a b = ordering_then (nat_cmp a.0 b.0) (nat_cmp a.1 b.1)

-- the dimensions ascend, without repeats
pub record KindOf : Type 0 where
  pub source : ℕ
  pub filters : List Predicate
  pub dims : List Pair

abbrev pub kind_of : Query → KindOf
kind_of q = record { source = q.source; filters = q.filters; dims = set_of pair_cmp (map pair_of q.dims) }

abbrev pub kind_eq : KindOf → KindOf → Bool
kind_eq a b = nat_eq a.source b.source && pointwise (eq_by_cmp predicate_cmp) a.filters b.filters && pointwise pair_eq a.dims b.dims

-- what a hasher is fed
abbrev pub HashWrites : Type 0
HashWrites = List (List ℕ)

abbrev pub value_input : Value → HashWrites
value_input Null = fed.u8 0
value_input (Int n) = fed.u8 1 ++ fed.i64 n
value_input (Word t) = fed.u8 2 ++ fed.usize (length t) ++ t ∷ []

abbrev pub test_input : Test → HashWrites
test_input (Among list) = fed.u8 0 ++ fed.slice value_input list
test_input (Except list) = fed.u8 1 ++ fed.slice value_input list
test_input (Between low high) = fed.u8 2 ++ fed.option fed.i64 low ++ fed.option fed.i64 high

abbrev pub predicate_input : Predicate → HashWrites
predicate_input p = fed.u32 p.column ++ test_input p.test

abbrev pub pair_input : Pair → HashWrites
pair_input p = fed.u32 p.0 ++ fed.u32 p.1

abbrev pub kind_input : KindOf → HashWrites
kind_input k = fed.u32 k.source ++ fed.slice predicate_input k.filters ++ fed.slice pair_input k.dims

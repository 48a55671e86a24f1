-- Which answers an answer can be computed from.
use Rattle.std.specs.Prelude.{ℕ, ℤ, Bool, true, false, ◌||◌, ◌&&◌, not, nat_eq, ◌%◌, int_le, List, [], ◌∷◌, Option, Some, None, is_none}
use Rattle.std.specs.List.{list_any, list_all}
use Rattle.std.specs.Ordering.{is_eq}
use Rattle.dq_base.specs.Dims.{Dimension, dim_eq, is_plain, width_of}
use Rattle.dq_base.specs.Orders.{value_cmp}
use Rattle.dq_base.specs.Filters.{lies_between}
use Rattle.dq_base.specs.Canonical.{predicate_cmp}
use Rattle.dq_base.specs.Sets.{has, all_in}
use Rattle.dq_base.specs.declared.predicate.Test.{Test}
use Rattle.dq_base.specs.declared.predicate.Test.TheVariants.{Among, Except, Between}
use Rattle.dq_base.specs.declared.predicate.Predicate.{Predicate}
use Rattle.dq_base.specs.declared.query.Measure.{Measure}
use Rattle.dq_base.specs.declared.query.Measure.TheVariants.{Rows, Count, Sum, Min, Max, Distinct, Avg}
use Rattle.dq_base.specs.declared.query.OrderKey.{OrderKey}
use Rattle.dq_base.specs.declared.query.Query.{Query}

-- the inner bound is given where the outer one is, and isn't below it
abbrev pub low_within : Option ℤ → Option ℤ → Bool
low_within low None = true
low_within None (Some outer) = false
low_within (Some low) (Some outer) = int_le outer low

abbrev pub high_within : Option ℤ → Option ℤ → Bool
high_within high None = true
high_within None (Some outer) = false
high_within (Some high) (Some outer) = int_le high outer

-- whether the first test holds of no value of which the second doesn't
abbrev pub within : Test → Test → Bool
within (Among a) (Among b) = all_in value_cmp a b
within (Among a) (Except b) = not (list_any (has value_cmp b) a)
within (Among a) (Between low high) = list_all (lies_between low high) a
within (Except a) (Among b) = false
within (Except a) (Except b) = all_in value_cmp b a
within (Except a) (Between low high) = false
within (Between low high) (Among b) = false
within (Between low high) (Except b) = not (list_any (lies_between low high) b)
within (Between l1 h1) (Between l2 h2) = low_within l1 l2 && high_within h1 h2

-- what a measure is made of: rows, and of a column how many values there are, their sum, the least, the greatest, the different ones
pub data Part : Type 0 where
  TheRows : Part
  Filled Total Least Greatest Different : ℕ → Part

abbrev pub needs : Measure → List Part
needs Rows = TheRows ∷ []
needs (Count c) = Filled c ∷ []
needs (Sum c) = Total c ∷ []
needs (Min c) = Least c ∷ []
needs (Max c) = Greatest c ∷ []
needs (Distinct c) = Different c ∷ []
needs (Avg c) = Total c ∷ Filled c ∷ []

abbrev pub measure_eq : Measure → Measure → Bool
measure_eq Rows Rows = true
measure_eq (Count a) (Count b) = nat_eq a b
measure_eq (Sum a) (Sum b) = nat_eq a b
measure_eq (Min a) (Min b) = nat_eq a b
measure_eq (Max a) (Max b) = nat_eq a b
measure_eq (Distinct a) (Distinct b) = nat_eq a b
measure_eq (Avg a) (Avg b) = nat_eq a b
measure_eq _ _ = false

abbrev pub shows : Query → Measure → Bool
shows q m = list_any (measure_eq m) q.measures

-- each dimension stands in the other list too
abbrev pub all_in_dims : List Dimension → List Dimension → Bool
all_in_dims ds es = list_all (λ d. list_any (dim_eq d) es) ds

-- a plain dimension is on this column
abbrev pub groups_by : Query → ℕ → Bool
groups_by q c = list_any (λ d. nat_eq c d.column && is_plain d) q.dims

-- the bands of the one are made of whole bands of the other
abbrev pub made_of : Dimension → Dimension → Bool
made_of d e = nat_eq d.column e.column && nat_eq (width_of d % width_of e) 0

-- some dimension of p is on the same column, and its width divides this one's
abbrev pub makes : Query → Dimension → Bool
makes p d = list_any (made_of d) p.dims

-- the same columns with the same widths
abbrev pub same_dims : Query → Query → Bool
same_dims p q = all_in_dims p.dims q.dims && all_in_dims q.dims p.dims

-- whether the answer of p has a part, for a query q
abbrev pub gives : Query → Query → Part → Bool
gives p q TheRows = shows p Rows
gives p q (Filled c) = shows p (Count c) || shows p (Avg c) || (groups_by p c && shows p Rows)
gives p q (Total c) = shows p (Sum c) || shows p (Avg c) || (groups_by p c && shows p Rows)
gives p q (Least c) = shows p (Min c) || groups_by p c
gives p q (Greatest c) = shows p (Max c) || groups_by p c
gives p q (Different c) = groups_by p c || (shows p (Distinct c) && same_dims p q)

abbrev pub lists_eq : {X : Type 0} → (X → X → Bool) → List X → List X → Bool
lists_eq eq [] [] = true
lists_eq eq [] (y ∷ ys) = false
lists_eq eq (x ∷ xs) [] = false
lists_eq eq (x ∷ xs) (y ∷ ys) = eq x y && lists_eq eq xs ys

abbrev pub top_eq : Option ℕ → Option ℕ → Bool
top_eq None None = true
top_eq None (Some n) = false
top_eq (Some m) None = false
top_eq (Some m) (Some n) = nat_eq m n

abbrev pub bool_eq : Bool → Bool → Bool
bool_eq true b = b
bool_eq false b = not b

abbrev pub predicate_eq : Predicate → Predicate → Bool
predicate_eq a b = is_eq (predicate_cmp a b)

abbrev pub order_eq : OrderKey → OrderKey → Bool
order_eq a b = nat_eq a.place b.place && bool_eq a.down b.down

abbrev pub query_eq : Query → Query → Bool
query_eq p q =
    nat_eq p.source q.source && lists_eq predicate_eq p.filters q.filters && lists_eq dim_eq p.dims q.dims
    && lists_eq measure_eq p.measures q.measures && lists_eq order_eq p.order q.order && top_eq p.top q.top

-- some predicate of q on that column leaves only values of which this one holds
abbrev pub implied : Query → Predicate → Bool
implied q f = list_any (λ g. nat_eq g.column f.column && within g.test f.test) q.filters

-- it is a predicate of p too, or on a plain dimension of p
abbrev pub checkable : Query → Predicate → Bool
checkable p g = list_any (predicate_eq g) p.filters || groups_by p g.column

-- whether the answer of q can be computed from the answer of p
abbrev pub covers : Query → Query → Bool
covers p q =
    nat_eq p.source q.source
    && (is_none p.top || query_eq p q)
    && list_all (makes p) q.dims
    && list_all (implied q) p.filters
    && list_all (checkable p) q.filters
    && list_all (λ m. list_all (gives p q) (needs m)) q.measures

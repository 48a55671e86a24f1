-- How the queries of a batch are answered together.
use Rattle.std.specs.Prelude.{ℕ, zero, suc, Bool, ◌||◌, ◌&&◌, not, nat_lt, nat_eq, List, [], ◌∷◌, ◌++◌, map, length, Option, Some, None, if◌then◌else◌}
use Rattle.std.specs.List.{list_any, filter, find, fold, enumerate_from}
use Rattle.dq_base.specs.Covering.{covers, measure_eq, predicate_eq, lists_eq, same_dims}
use Rattle.dq_base.specs.declared.query.Measure.{Measure}
use Rattle.dq_base.specs.declared.query.Query.{Query}
use Rattle.dq_base.specs.declared.canon.Role.{Role}
use Rattle.dq_base.specs.declared.canon.Role.TheVariants.{Remote, Local}

-- p covers q, and isn't covered by q in turn or stands before it. So p is never q itself.
abbrev pub outdone_by : (ℕ × Query) → (ℕ × Query) → Bool
outdone_by q p = covers p.1 q.1 && (not (covers q.1 p.1) || nat_lt p.0 q.0)

abbrev pub is_local : List (ℕ × Query) → (ℕ × Query) → Bool
is_local batch q = list_any (outdone_by q) batch

-- the first remote query that covers it
abbrev pub source_of : List (ℕ × Query) → (ℕ × Query) → Option (ℕ × Query)
source_of batch q = find (λ p. not (is_local batch p) && covers p.1 q.1) batch

abbrev pub local_to : Option (ℕ × Query) → Role
local_to None = Remote
local_to (Some p) = Local p.0

abbrev pub role_of : List (ℕ × Query) → (ℕ × Query) → Role
role_of batch q = if is_local batch q then local_to (source_of batch q) else Remote

-- the role of each query, places counted from 0
abbrev pub roles : List Query → List Role
roles batch = let numbered = enumerate_from 0 batch in map (role_of numbered) numbered

-- equal source, equal predicates, and the same set of dimensions
abbrev pub fuses : Query → Query → Bool
fuses p q = nat_eq p.source q.source && lists_eq predicate_eq p.filters q.filters && same_dims p q

-- what is new goes to the end
abbrev pub with_measure : List Measure → Measure → List Measure
with_measure ms m = if list_any (measure_eq m) ms then ms else (ms ++ m ∷ [])

abbrev pub union : List Query → List Measure
union qs = fold (λ ms q. fold with_measure ms q.measures) [] qs

-- a group of one keeps its query; a larger one shows all measures, in no order and with no top
abbrev pub fused_key : List Query → Query → Query
fused_key [] q = q
fused_key (p ∷ ps) q = record q { measures = union (q ∷ p ∷ ps); order = []; top = None }

pub record Group : Type 0 where
  pub key : Query
  pub members : List ℕ

abbrev pub group_with : List (ℕ × Query) → (ℕ × Query) → Group
group_with others q = record { key = fused_key (map (λ p. p.1) others) q.1; members = q.0 ∷ map (λ p. p.0) others }

abbrev pub groups_from : ℕ → List (ℕ × Query) → List Group
groups_from zero misses = []
groups_from (suc n) [] = []
groups_from (suc n) (q ∷ misses) = group_with (filter (λ p. fuses q.1 p.1) misses) q ∷ groups_from n (filter (λ p. not (fuses q.1 p.1)) misses)

-- the groups in first-seen order, members by their places from 0
abbrev pub groups : List Query → List Group
groups misses = groups_from (length misses) (enumerate_from 0 misses)

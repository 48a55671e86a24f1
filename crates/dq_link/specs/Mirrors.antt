-- What is kept of a link, and how the link is made ready for a query.
use Rattle.std.specs.Prelude.{◌≡◌, ℕ, ◌+◌, ◌≤◌, nat_le, nat_eq, Bool, false, not, List, [], ◌∷◌, ◌++◌, length, Option, Some, None, option_map, if◌then◌else◌}
use Rattle.std.specs.List.{find, fold, flat_map, list_any}
use Rattle.std.specs.Ordering.{eq_by_cmp}
use Rattle.std.specs.Cmp.Lexicographic.{slice_cmp}
use Rattle.dq_base.specs.Orders.{value_cmp}
use Rattle.dq_base.specs.declared.value.Value.{Value}
use Rattle.dq_base.specs.declared.predicate.Test.{Test}
use Rattle.dq_base.specs.declared.predicate.Test.TheVariants.{Among, Except, Between}
use Rattle.dq_base.specs.declared.predicate.Predicate.{Predicate}
use Rattle.dq_base.specs.declared.query.Query.{Query}
use Rattle.dq_text.specs.Said.{Tables}
use Rattle.dq_link.specs.Mounts.{Holdings, Mounts}
use Rattle.dq_link.specs.Pairs.{lookup, with_pair, without}

-- the sources and the stamps mounted for them, the tables in the order of their puts, and the next table's number
pub record Mirror : Type 0 where
  pub mounts : List (ℕ × ℕ)
  pub tables : Tables
  pub next : ℕ

-- of a link on which nothing is mounted or put
abbrev pub no_mirror : Mirror
no_mirror = record { mounts = []; tables = []; next = 1 }

-- numbers that ascend from the first on and are below the end
abbrev pub AreNumbered : ℕ → ℕ → Tables → Type 0
AreNumbered first end [] = first ≤ end
AreNumbered first end (t ∷ ts) = (first ≤ t.0) × AreNumbered (t.0 + 1) end ts

-- the mirror tells what is mounted and put
pub record IsMirrored (mounts : Mounts) (tables : Holdings) (m : Mirror) : Type 0 where
  pub stamps : (s : ℕ) → option_map (λ x. x.stamp) (mounts s) ≡ lookup m.mounts s
  pub lists : (n : ℕ) → tables n ≡ lookup m.tables n
  pub numbered : AreNumbered 1 m.next m.tables

-- a mirror, and how many mounts, drops and puts it took
pub record Readying : Type 0 where
  pub mirror : Mirror
  pub count : ℕ

abbrev pub is_stamp : Option ℕ → ℕ → Bool
is_stamp None stamp = false
is_stamp (Some s) stamp = nat_eq s stamp

-- the version of that stamp is mounted
abbrev pub remounting : ℕ → ℕ → Readying → Readying
remounting source stamp r = record { mirror = record r.mirror { mounts = with_pair r.mirror.mounts source stamp }; count = r.count + 1 }

-- it is mounted, where another or none is
abbrev pub mounting : ℕ → ℕ → Readying → Readying
mounting source stamp r = if is_stamp (lookup r.mirror.mounts source) stamp then r else remounting source stamp r

abbrev pub alike : List Value → List Value → Bool
alike = eq_by_cmp (slice_cmp value_cmp)

-- the lists that stand in tables: those of more than 16 values
abbrev pub long_list : List Value → List (List Value)
long_list list = if nat_le (length list) 16 then [] else list ∷ []

abbrev pub long_lists : Test → List (List Value)
long_lists (Among list) = long_list list
long_lists (Except list) = long_list list
long_lists (Between low high) = []

-- those of a query, in the order of its predicates
abbrev pub lists_in : List Predicate → List (List Value)
lists_in filters = flat_map (λ p. long_lists p.test) filters

abbrev pub is_among : List (List Value) → List Value → Bool
is_among lists list = list_any (λ l. alike l list) lists

-- some table holds the list
abbrev pub is_held : Tables → List Value → Bool
is_held tables list = list_any (λ t. alike t.1 list) tables

-- the table put longest ago whose list isn't among those that are needed
abbrev pub spare_table : List (List Value) → Tables → Option ℕ
spare_table needed tables = option_map (λ t. t.0) (find (λ t. not (is_among needed t.1)) tables)

abbrev pub dropping : Option ℕ → Readying → Readying
dropping None r = r
dropping (Some n) r = record { mirror = record r.mirror { tables = without r.mirror.tables n }; count = r.count + 1 }

-- where 16 tables stand one is dropped
abbrev pub roomed : List (List Value) → Readying → Readying
roomed needed r = if nat_le 16 (length r.mirror.tables) then dropping (spare_table needed r.mirror.tables) r else r

-- the list is put under the next number
abbrev pub putting : List Value → Readying → Readying
putting list r =
    record { mirror = record r.mirror { tables = r.mirror.tables ++ (r.mirror.next, list) ∷ []; next = r.mirror.next + 1 }; count = r.count + 1 }

-- a list that no table holds is put
abbrev pub holding : List (List Value) → Readying → List Value → Readying
holding needed r list = if is_held r.mirror.tables list then r else putting list (roomed needed r)

-- the version is mounted, and then the needed lists are held
abbrev pub preparing : ℕ → Query → Readying → Readying
preparing stamp q r = fold (holding (lists_in q.filters)) (mounting q.source stamp r) (lists_in q.filters)

abbrev pub readying : Mirror → ℕ → Query → Readying
readying m stamp q = preparing stamp q (record { mirror = m; count = 0 })

-- the mirror after it, and how many calls it takes
abbrev pub readied : Mirror → ℕ → Query → Mirror
readied m stamp q = (readying m stamp q).mirror

abbrev pub readying_count : Mirror → ℕ → Query → ℕ
readying_count m stamp q = (readying m stamp q).count

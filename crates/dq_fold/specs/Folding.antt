-- What a key's fold holds over rows.
use Rattle.std.specs.Prelude.{◌≡◌, ℕ, ◌≤◌, ◌^◌, Bool, false, List, [], ◌∷◌, ◌++◌, map, length, ◌<◌, Option, Some, None}
use Rattle.std.specs.BTreeMap.{insert_entry, is_at}
use Rattle.std.specs.List.{All, fold}
use Rattle.std.specs.Map.{lookup, set_value}
use Rattle.dq_base.specs.Answers.{cell_of, keys, rows_with}
use Rattle.dq_base.specs.Filters.{kept}
use Rattle.dq_base.specs.Orders.{key_cmp}
use Rattle.dq_base.specs.declared.value.Value.{Value}
use Rattle.dq_base.specs.declared.cell.Cell.{Cell}
use Rattle.dq_base.specs.declared.query.Query.{Query}
use Rattle.dq_fold.specs.Tallies.{Mergeable, count_in, merged_all, tally_cell, tally_of}
use Rattle.dq_fold.specs.declared.tally.Tally.{Tally}

-- a query, its groups by key with a tally for each measure, how many rows were added, and whether an addition failed
pub record Folded : Type 0 where
  pub key : Query
  pub groups : List (List Value × List Tally)
  pub rows : ℕ
  pub spent : Bool

-- each key with what f gives of it
abbrev pub entries_by : {K X : Type 0} → (K → X) → List K → List (K × X)
entries_by {K} {X} f ks = map {B = K × X} (λ k. (k, f k)) ks

-- the tallies of a key's rows
abbrev pub tallies_of : Query → List (List Value) → List Value → List Tally
tallies_of q rows key = map (tally_of (rows_with q.dims key rows)) q.measures

-- each key of the rows that are kept, with the tallies of its rows
abbrev pub groups_of : Query → List (List Value) → List (List Value × List Tally)
groups_of q rows = entries_by (tallies_of q (kept q rows)) (keys q rows)

-- a group's row of the answer
abbrev pub group_cells : List Value × List Tally → List Cell
group_cells e = map cell_of e.0 ++ map tally_cell e.1

-- what a key's fold holds over rows
abbrev pub folded : Query → List (List Value) → Folded
folded q rows = record { key = q; groups = groups_of q rows; rows = length rows; spent = false }

-- unless it is spent, a fold holds what it holds over some rows, at most 2^23
abbrev pub IsFolding : Folded → Type 0
IsFolding f = f.spent ≡ false → (rows : List (List Value)) × (f ≡ folded f.key rows) × (f.rows ≤ 2 ^ 23)

-- the groups are those of some rows, fewer than 2^23
abbrev pub IsGroups : Query → List (List Value × List Tally) → Type 0
IsGroups q es = (rows : List (List Value)) × (es ≡ groups_of q rows) × (length rows < 2 ^ 23)

-- no tally counts more than 2^23
abbrev pub AllSmall : List (List Value × List Tally) → Type 0
AllSmall [] = Unit {0}
AllSmall (e ∷ es) = All (λ t. count_in t ≤ 2 ^ 23) e.1 × AllSmall es

-- the groups with one more, by the tallies that its key has: none, or those that its own are merged into
abbrev pub merged_by : Option (List Tally) → List (List Value × List Tally) → List Value → List Tally → List (List Value × List Tally)
merged_by None es key us = insert_entry key_cmp es key us
merged_by (Some ts) es key us = set_value (is_at (key_cmp key)) es (merged_all ts us)

abbrev pub merged_in : List (List Value × List Tally) → List Value × List Tally → List (List Value × List Tally)
merged_in es e = merged_by (lookup (is_at (key_cmp e.0)) es) es e.0 e.1

-- the groups with each of others
abbrev pub merged_groups : List (List Value × List Tally) → List (List Value × List Tally) → List (List Value × List Tally)
merged_groups es others = fold merged_in es others

-- the tallies that a key has are mergeable with others
abbrev pub IsMergeable : List (List Value × List Tally) → List Value × List Tally → Type 0
IsMergeable es e = (ts : List Tally) → lookup (is_at (key_cmp e.0)) es ≡ Some ts → Mergeable ts e.1

-- so are those of each of other groups, when its turn comes
abbrev pub AreMergeable : List (List Value × List Tally) → List (List Value × List Tally) → Type 0
AreMergeable es [] = Unit {0}
AreMergeable es (e ∷ others) = IsMergeable es e × AreMergeable (merged_in es e) others

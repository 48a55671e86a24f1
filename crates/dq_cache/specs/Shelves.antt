-- The index of the intelligent cache: which entries are of a source and a stamp.
use Rattle.std.specs.Prelude.{◌≡◌, ℕ, ◌&&◌, Bool, nat_eq, List, [], ◌∷◌, map, filter, Option, Some, None}
use Rattle.std.specs.declared.cmp.Ordering.{Ordering}
use Rattle.std.specs.Ordering.{nat_cmp, ordering_then}
use Rattle.std.specs.BTreeMap.{BTreeMap, get}
use Rattle.dq_cache.specs.Entries.{EntryOf}
use Rattle.dq_cache.specs.declared.shelf.Shelf.{Shelf}

-- a source, and a stamp
abbrev pub Place : Type 0
Place = ℕ × ℕ

abbrev pub place_cmp : Place → Place → Ordering
place_cmp a b = ordering_then (nat_cmp a.0 b.0) (nat_cmp a.1 b.1)

abbrev pub place_of : EntryOf → Place
place_of e = (e.key.source, e.stamp)

abbrev pub is_on : Place → (ℕ × EntryOf) → Bool
is_on place e = nat_eq e.1.key.source place.0 && nat_eq e.1.stamp place.1

abbrev pub on_shelf : Place → List (ℕ × EntryOf) → List (ℕ × EntryOf)
on_shelf place es = filter (is_on place) es

-- the flights and the numbers of entries; there is no empty shelf
abbrev pub shelf_of : List (ℕ × EntryOf) → Option Shelf
shelf_of [] = None
shelf_of (e ∷ es) = Some (record { flights = map (λ f. f.1.flight) (e ∷ es); numbers = map (λ f. f.0) (e ∷ es) })

-- each source and stamp has its entries' shelf
abbrev pub IsIndex : BTreeMap Place Shelf → List (ℕ × EntryOf) → Type 0
IsIndex index es = (place : Place) → get place_cmp index place ≡ shelf_of (on_shelf place es)

-- What stands behind the intelligent cache.
use Rattle.std.specs.Prelude.{ℕ, Bool, false, List, nat_eq}
use Rattle.std.specs.BTreeMap.{BTreeMap}
use Rattle.std.specs.Map.{lookup}
use Rattle.std.specs.Option.{option_map_or}
use Rattle.lru.specs.LruCache.{LruCache}
use Rattle.dq_base.specs.declared.query.Query.{Query}
use Rattle.dq_cache.specs.Entries.{EntryOf}
use Rattle.dq_cache.specs.Shelves.{Place, IsIndex}
use Rattle.dq_cache.specs.Stacks.{IsStack, all_below}
use Rattle.dq_cache.specs.declared.shelf.Shelf.{Shelf}

pub record IsClever (cache : LruCache ℕ EntryOf) (index : BTreeMap Place Shelf) (next total : ℕ) : Type 0 where
  pub stack : IsStack (λ e. e) cache total
  pub below : all_below next cache.entries
  pub indexed : IsIndex index cache.entries

-- a test of the entry of a number
abbrev pub passes_at : (Query → Bool) → List (ℕ × EntryOf) → ℕ → Bool
passes_at test es number = option_map_or (λ e. test e.key) (lookup (nat_eq number) es) false

-- What stands behind a cache: entries under running numbers.
use Rattle.std.specs.Prelude.{◌≡◌, ℕ, ◌-◌, ◌^◌, ◌<◌, Bool, true, List, [], ◌∷◌, sum_by, nat_le, Option, Some, None, if◌then◌else◌}
use Rattle.std.specs.List.{list_all}
use Rattle.lru.specs.LruCache.{LruCache}
use Rattle.dq_cache.specs.Entries.{EntryOf, BodiedOf, most_cells}

-- the number of the first entry that passes
abbrev pub number_in : {T : Type 0} → (T → Bool) → List (ℕ × T) → Option ℕ
number_in test [] = None
number_in test (e ∷ es) = if test e.1 then Some e.0 else number_in test es

-- each number is below the next
abbrev pub all_below : {T : Type 0} → ℕ → List (ℕ × T) → Type 0
all_below n [] = Unit {0}
all_below n (e ∷ es) = (e.0 < n) × all_below n es

abbrev pub total_of : {T : Type 0} → (T → EntryOf) → List (ℕ × T) → ℕ
total_of entry es = sum_by (λ e. (entry e.1).weight) es

abbrev pub are_small : {T : Type 0} → (T → EntryOf) → List (ℕ × T) → Bool
are_small entry es = list_all (λ e. nat_le (entry e.1).weight most_cells) es

-- nothing is dropped by itself, and the weights are small and add up
pub record IsStack {T : Type 0} (entry : T → EntryOf) (cache : LruCache ℕ T) (total : ℕ) : Type 0 where
  pub cap : cache.cap ≡ 2 ^ 64 - 1
  pub total_is : total ≡ total_of entry cache.entries
  pub small : are_small entry cache.entries ≡ true

-- behind the literal cache
pub record IsLiteral (cache : LruCache ℕ BodiedOf) (next total : ℕ) : Type 0 where
  pub stack : IsStack (λ b. b.entry) cache total
  pub below : all_below next cache.entries

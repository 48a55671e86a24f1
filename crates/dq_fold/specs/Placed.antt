-- Groups that stand in slots, and the place of each key's slot.
use Rattle.std.specs.Prelude.{◌≡◌, ℕ, List, [], map, slice_get, slice_set, Option, Some, None}
use Rattle.std.specs.BTreeMap.{is_at}
use Rattle.std.specs.List.{AllByRecursion}
use Rattle.std.specs.Map.{lookup}
use Rattle.dq_base.specs.Orders.{key_cmp}
use Rattle.dq_base.specs.declared.value.Value.{Value}
use Rattle.dq_fold.specs.declared.slots.Slot.{Slot}
use Rattle.dq_fold.specs.declared.tally.Tally.{Tally}

abbrev pub tallies_in : Option Slot → List Tally
tallies_in None = []
tallies_in (Some s) = s.tallies

-- a key with the tallies of the slot at its place
abbrev pub entry_at : List Slot → List Value × ℕ → List Value × List Tally
entry_at slots e = (e.0, tallies_in (slice_get slots e.1))

-- the groups in the order of keys
abbrev pub entries_at : List Slot → List (List Value × ℕ) → List (List Value × List Tally)
entries_at slots places = map (entry_at slots) places

abbrev pub slot_keys : List Slot → List (List Value)
slot_keys slots = map (λ s. s.key) slots

-- each entry's place is that of its key among these, and each of these is entered with its place
abbrev pub AreNumbered : List (List Value) → List (List Value × ℕ) → Type 0
AreNumbered keys places =
    AllByRecursion (λ e. slice_get keys e.1 ≡ Some e.0) places
    × ((place : ℕ) (key : List Value) → slice_get keys place ≡ Some key → lookup (is_at (key_cmp key)) places ≡ Some place)

-- the tallies of the slot at a place are other ones, of which P holds; all else stays
abbrev pub SetsTallies : List Slot → List Slot → ℕ → (List Tally → List Tally → Type 0) → Type 0
SetsTallies slots after place P = (s : Slot) → slice_get slots place ≡ Some s → (us : List Tally) × (after ≡ slice_set slots place (record s { tallies = us })) × P s.tallies us

-- the slot at a place, if it is there, has no tallies
abbrev pub emptied_by : Option Slot → List Slot → ℕ → List Slot
emptied_by None slots place = slots
emptied_by (Some s) slots place = slice_set slots place (record s { tallies = [] })

abbrev pub emptied : List Slot → ℕ → List Slot
emptied slots place = emptied_by (slice_get slots place) slots place

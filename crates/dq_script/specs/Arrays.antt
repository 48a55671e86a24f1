-- Arrays, whose items are read in order.
use Rattle.std.specs.Prelude.{ℕ, ◌+◌, List, [], ◌∷◌, ◌++◌, Ok}
use Rattle.std.specs.Fmt.{decimal}
use Rattle.serde_json.specs.Data.{Data, Items, no_items, item}
use Rattle.serde_json.specs.Find.{as_array}
use Rattle.dq_script.specs.Readings.{Reading, given, within, mapped, and_then}

-- items that are taken into what was read before them, the first of them standing at this place
abbrev pub items_after : {S : Type 0} → (S → Data → Reading S) → ℕ → S → Items → Reading S
items_after next place s no_items = Ok s
items_after next place s (item d ds) = and_then (λ t. items_after next (place + 1) t ds) (within (decimal place) (next s d))

-- an array, whose items are taken in one after another
abbrev pub array_after : {S : Type 0} → (S → Data → Reading S) → S → Data → Reading S
array_after next s d = and_then (items_after next 0 s) (given (as_array d))

abbrev pub next_item : {A : Type 0} → (Data → Reading A) → List A → Data → Reading (List A)
next_item read xs d = mapped (λ x. xs ++ x ∷ []) (read d)

-- an array, each item read so
abbrev pub array_of : {A : Type 0} → (Data → Reading A) → Data → Reading (List A)
array_of read d = array_after (next_item read) [] d

-- Objects with certain members and no others.
use Rattle.std.specs.Prelude.{ℕ, ◌==◌, List, [], ◌∷◌, Bool, not, Option, Some, None, is_some, Ok, Err, if◌then◌else◌}
use Rattle.std.specs.List.{list_any, flat_map}
use Rattle.std.specs.Str.{bytes_eq}
use Rattle.serde_json.specs.Data.{Data, Members, no_members, member}
use Rattle.serde_json.specs.Find.{as_object, get}
use Rattle.dq_script.specs.Readings.{Reading, given, provided, within, mapped, and_then}

-- a name that is one of these
abbrev pub is_among : List (List ℕ) → List ℕ → Bool
is_among names name = list_any (λ other. bytes_eq other name) names

abbrev pub is_object : Data → Bool
is_object d = is_some (as_object d)

-- an object that has a member of this name
abbrev pub has : List ℕ → Data → Bool
has name d = is_some (get name d)

-- a byte of a member's name in a path: `~` is spelled `~0`, and `/` is spelled `~1`
abbrev pub escaped : ℕ → List ℕ
escaped b = if b == 126 then 126 ∷ 48 ∷ [] else if b == 47 then 126 ∷ 49 ∷ [] else b ∷ []

-- the first member that has none of these names; members stand in byte order
abbrev pub stranger : List (List ℕ) → Members → Option (List ℕ)
stranger names no_members = None
stranger names (member name d ms) = if is_among names name then stranger names ms else Some name

abbrev pub stranger_of : List (List ℕ) → Option Members → Option (List ℕ)
stranger_of names None = None
stranger_of names (Some ms) = stranger names ms

abbrev pub unless_stranger : Option (List ℕ) → Reading (Unit {0})
unless_stranger None = Ok tt
unless_stranger (Some name) = within (flat_map escaped name) (Err [])

-- no member has another name than these
abbrev pub no_strangers : List (List ℕ) → Data → Reading (Unit {0})
no_strangers names d = unless_stranger (stranger_of names (as_object d))

-- an object: first its parts, and then that no member has another name than these
abbrev pub object_of : {A : Type 0} → List (List ℕ) → Reading A → Data → Reading A
object_of names parts d = provided (is_object d) (and_then (λ x. mapped (λ u. x) (no_strangers names d)) parts)

-- a member that is wanted; one that is missing is told by the path that it would have
abbrev pub wanted : {A : Type 0} → List ℕ → (Data → Reading A) → Data → Reading A
wanted name read d = within name (and_then read (given (get name d)))

abbrev pub read_or : {A : Type 0} → A → (Data → Reading A) → Option Data → Reading A
read_or other read None = Ok other
read_or other read (Some d) = read d

-- a member that may be missing, and then means this
abbrev pub optional : {A : Type 0} → A → List ℕ → (Data → Reading A) → Data → Reading A
optional other name read d = within name (read_or other read (get name d))

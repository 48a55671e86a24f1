-- What an admission hands out of the caches.
use Rattle.std.specs.Prelude.{◌≡◌, true, List, [], ◌∷◌, map, Option, Some, None}
use Rattle.std.specs.List.{AllByRecursion}
use Rattle.dq_base.specs.Headings.{Heading}
use Rattle.dq_base.specs.declared.query.Query.{Query}
use Rattle.dq_cache.specs.Entries.{BodiedOf, CleverOf, EntryOf, LiteralOf}
use Rattle.dq_cache.specs.declared.entry.Found.{Found}
use Rattle.dq_journal.specs.declared.entry.Met.{Met}
use Rattle.dq_journal.specs.declared.entry.Met.TheVariants as met
use Rattle.dq_machine.specs.Admitting.{Looked, looked}
use Rattle.dq_machine.specs.Preparing.{is_valid}
use Rattle.dq_machine.specs.State.{Flown, Publication, Shelves}
use Rattle.dq_desk.specs.Admissions.{IsFound}
use Rattle.dq_desk.specs.Kept.{IsBodied, IsTable, shelved_in, shelved_of}

-- the key is valid, and the table its answer
pub record IsSound (schemas : List Heading) (versions : List Publication) (e : EntryOf) : Type 0 where
  pub valid : is_valid schemas e.key ≡ true
  pub table : IsTable versions e

-- and it is found by its text
pub record IsSoundBodied (schemas : List Heading) (versions : List Publication) (b : BodiedOf) : Type 0 where
  pub valid : is_valid schemas b.entry.key ≡ true
  pub bodied : IsBodied versions b

-- what a query met in a cache is handed out, and nothing else
abbrev pub HandedFor : List Heading → List Publication → Query → Option Met → Option Found → Type 0
HandedFor schemas versions q None None = Unit {0}
HandedFor schemas versions q None (Some f) = ⊥
HandedFor schemas versions q (Some (met.Hit flight)) None = ⊥
HandedFor schemas versions q (Some (met.Hit flight)) (Some f) = IsFound schemas versions q flight f
HandedFor schemas versions q (Some (met.Literal flight)) None = ⊥
HandedFor schemas versions q (Some (met.Literal flight)) (Some f) = IsFound schemas versions q flight f
HandedFor schemas versions q (Some (met.Join flight)) None = Unit {0}
HandedFor schemas versions q (Some (met.Join flight)) (Some f) = ⊥
HandedFor schemas versions q (Some (met.Group flight)) None = Unit {0}
HandedFor schemas versions q (Some (met.Group flight)) (Some f) = ⊥

-- to each query
abbrev pub AllHanded : List Heading → List Publication → List Query → List (Option Met) → List (Option Found) → Type 0
AllHanded schemas versions [] [] [] = Unit {0}
AllHanded schemas versions [] [] (h ∷ held) = ⊥
AllHanded schemas versions [] (f ∷ found) held = ⊥
AllHanded schemas versions (q ∷ queries) [] held = ⊥
AllHanded schemas versions (q ∷ queries) (f ∷ found) [] = ⊥
AllHanded schemas versions (q ∷ queries) (f ∷ found) (h ∷ held) = HandedFor schemas versions q f h × AllHanded schemas versions queries found held

-- what was met in a cache stands in place of what was open
abbrev pub filled : Option Met → Met → Met
filled None m = m
filled (Some (met.Hit flight)) m = met.Hit flight
filled (Some (met.Literal flight)) m = met.Literal flight
filled (Some (met.Join flight)) m = m
filled (Some (met.Group flight)) m = m

abbrev pub all_filled : List (Option Met) → List Met → List Met
all_filled [] ms = []
all_filled (f ∷ found) [] = []
all_filled (f ∷ found) (m ∷ ms) = filled f m ∷ all_filled found ms

abbrev pub shelves_in : CleverOf → LiteralOf → Shelves
shelves_in clever literal = record { clever = map shelved_of clever.entries; literal = map shelved_in literal.entries }

-- the caches are as the look-ups of these queries leave them
pub record AreMoved (schemas : List Heading) (versions : List Publication) (l : Looked) (clever clever' : CleverOf) (literal literal' : LiteralOf) : Type 0 where
  pub shelves : shelves_in clever' literal' ≡ l.shelves
  pub clever_sound : AllByRecursion (IsSound schemas versions) clever'.entries
  pub literal_sound : AllByRecursion (IsSoundBodied schemas versions) literal'.entries
  pub clever_bound : clever'.bound ≡ clever.bound
  pub literal_bound : literal'.bound ≡ literal.bound

-- and what these queries met, and is handed out
pub record AreHandedOut (schemas : List Heading) (versions : List Publication) (queries : List Query) (l : Looked) (clever clever' : CleverOf) (literal literal' : LiteralOf)
    (otherwise met : List Met) (held : List (Option Found)) : Type 0 where
  pub moved : AreMoved schemas versions l clever clever' literal literal'
  pub met_are : met ≡ all_filled l.found otherwise
  pub held_are : AllHanded schemas versions queries l.found held

abbrev pub looked_in : List Flown → List Publication → CleverOf → LiteralOf → List Query → Looked
looked_in flown versions clever literal queries = looked flown versions (shelves_in clever literal) queries

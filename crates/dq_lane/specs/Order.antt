-- That the places of a lane's steps tell its entries.
use Rattle.std.specs.Prelude.{ℕ, ◌+◌, Bool, true, false, ◌&&◌, List, [], ◌∷◌, Option, Some, None}
use Rattle.dq_base.specs.Scripts.{numbered}
use Rattle.dq_base.specs.declared.script.Step.{Step}
use Rattle.dq_base.specs.declared.script.Step.TheVariants as step
use Rattle.dq_journal.specs.declared.entry.Entry.{Entry}
use Rattle.dq_machine.specs.Order.{admits, publishes}

-- the numbers of the steps that weren't refused
abbrev pub named_from : ℕ → List (Option ℕ) → List ℕ
named_from number [] = []
named_from number (None ∷ places) = named_from (number + 1) places
named_from number (Some place ∷ places) = number ∷ named_from (number + 1) places

-- the entry at the place is that of the step
abbrev pub place_tells : List Entry → ℕ → ℕ → Step → Option ℕ → Bool
place_tells journal lane number s None = true
place_tells journal lane number (step.Publish source how file) (Some place) = publishes lane number (numbered journal place)
place_tells journal lane number (step.Batch zones) (Some place) = admits lane number (numbered journal place)

-- of the first steps, one for each place, from this number on
abbrev pub places_tell : List Entry → ℕ → ℕ → List Step → List (Option ℕ) → Bool
places_tell journal lane number steps [] = true
places_tell journal lane number [] (p ∷ places) = false
places_tell journal lane number (s ∷ steps) (p ∷ places) = place_tells journal lane number s p && places_tell journal lane (number + 1) steps places

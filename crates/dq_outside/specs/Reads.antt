-- What a folder answers.
use Rattle.std.specs.Prelude.{◌≡◌, ⊤, ℕ, ◌+◌, ◌-◌, ◌^◌, ◌<◌, ◌≤◌, min, List, length, Option, Some, None, IfSome, Result, Ok, Err}
use Rattle.dq_base.specs.Causes.{Rose, RoseBy}
use Rattle.dq_outside.specs.declared.folder.FolderFault.{FolderFault}
use Rattle.dq_outside.specs.declared.folder.FolderFault.TheVariants as fault

-- what a folder holds by name
abbrev pub Files : Type 0
Files = List ℕ → Option (List ℕ)

-- the file is held and is longer than room
abbrev pub IsLonger : Option (List ℕ) → ℕ → Type 0
IsLonger None room = ⊥
IsLonger (Some bytes) room = room < length bytes

-- the file, if it is held, is at most room long
abbrev pub FitsRoom : Option (List ℕ) → ℕ → Type 0
FitsRoom None room = ⊤
FitsRoom (Some bytes) room = length bytes ≤ room

-- the answer where the file of the asked name, if one is held, is told
abbrev pub AnswersAsTold : Option (List ℕ) → ℕ → Result (List ℕ) FolderFault → Type 0
AnswersAsTold file room (Ok bytes) = file ≡ Some bytes
AnswersAsTold file room (Err fault.TooLong) = IsLonger file room
AnswersAsTold file room (Err fault.Failed) = FitsRoom file room
AnswersAsTold file room (Err fault.Memory) = ⊤

-- the name of the last fault, where it is told: the asked one after a fault, and otherwise as before
abbrev pub NamesLastFault : List ℕ → Option (List ℕ) → Option (List ℕ) → Result (List ℕ) FolderFault → Type 0
NamesLastFault name before now (Ok bytes) = now ≡ before
NamesLastFault name before now (Err fault.TooLong) = now ≡ before
NamesLastFault name before now (Err fault.Failed) = IfSome now (λ n. n ≡ name)
NamesLastFault name before now (Err fault.Memory) = now ≡ before

-- how the count of faults moves
pub record CountsFaults (before now : ℕ) (result : Result (List ℕ) FolderFault) : Type 0 where
  pub later : before ≤ now
  pub failed : result ≡ Err fault.Failed → Rose before now

-- the bytes that an answer owes to the count of bytes taken
abbrev pub OwesBytes : ℕ → ℕ → ℕ → Result (List ℕ) FolderFault → Type 0
OwesBytes room before now (Ok bytes) = (length bytes ≤ room) × RoseBy (length bytes) before now
OwesBytes room before now (Err fault.TooLong) = RoseBy (room + 1) before now
OwesBytes room before now (Err fault.Failed) = ⊤
OwesBytes room before now (Err fault.Memory) = ⊤

-- the last fault's name, where each is told: the asked one after a fault, and otherwise as before
abbrev pub TellsLastFault : List ℕ → Option (List ℕ) → Option (List ℕ) → Result (List ℕ) FolderFault → Type 0
TellsLastFault name before now (Ok bytes) = now ≡ before
TellsLastFault name before now (Err fault.TooLong) = now ≡ before
TellsLastFault name before now (Err fault.Failed) = now ≡ Some name
TellsLastFault name before now (Err fault.Memory) = now ≡ before

-- the count of faults is one more after a fault, and otherwise as before
abbrev pub CountsEachFault : ℕ → ℕ → Result (List ℕ) FolderFault → Type 0
CountsEachFault before now (Ok bytes) = now ≡ before
CountsEachFault before now (Err fault.TooLong) = now ≡ before
CountsEachFault before now (Err fault.Failed) = now ≡ min (before + 1) (2 ^ 64 - 1)
CountsEachFault before now (Err fault.Memory) = now ≡ before

-- the count of bytes taken grows by the answer's bytes, or by the room and one where they were too many
abbrev pub CountsEachByte : ℕ → ℕ → ℕ → Result (List ℕ) FolderFault → Type 0
CountsEachByte room before now (Ok bytes) = now ≡ min (before + length bytes) (2 ^ 64 - 1)
CountsEachByte room before now (Err fault.TooLong) = now ≡ min (before + (room + 1)) (2 ^ 64 - 1)
CountsEachByte room before now (Err fault.Failed) = now ≡ before
CountsEachByte room before now (Err fault.Memory) = now ≡ before

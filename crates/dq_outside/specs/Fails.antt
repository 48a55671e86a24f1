-- Where what stands in memory fails: in the calls whose numbers were given.
use Rattle.std.specs.Prelude.{◌≡◌, ⊤, ℕ, ◌+◌, ◌-◌, ◌^◌, min, Bool, true, false, nat_eq, List, Option, Some, None, Result, Ok, Err}
use Rattle.std.specs.List.{list_any}
use Rattle.dq_outside.specs.declared.folder.FolderFault.{FolderFault}
use Rattle.dq_outside.specs.declared.folder.FolderFault.TheVariants as folder
use Rattle.dq_outside.specs.declared.sink.SinkFault.{SinkFault}
use Rattle.dq_outside.specs.declared.sink.SinkFault.TheVariants as sink

-- the number of the next call, which stands still at the last value of u64
abbrev pub next_call : ℕ → ℕ
next_call calls = min (calls + 1) (2 ^ 64 - 1)

-- the call's number is among those that fail
abbrev pub is_listed : List ℕ → ℕ → Bool
is_listed fails call = list_any (nat_eq call) fails

-- a read fails in a listed call, and where the name isn't held
abbrev pub read_fails : Bool → Option (List ℕ) → Bool
read_fails listed None = true
read_fails listed (Some bytes) = listed

-- a read's answer is a fault exactly there, but for a file that is too long
abbrev pub ReadFailsWhere : Bool → Result (List ℕ) FolderFault → Type 0
ReadFailsWhere fails (Ok bytes) = fails ≡ false
ReadFailsWhere fails (Err folder.Failed) = fails ≡ true
ReadFailsWhere fails (Err folder.TooLong) = ⊤
ReadFailsWhere fails (Err folder.Memory) = fails ≡ false

-- a write's answer is a fault exactly there
abbrev pub WriteFailsWhere : Bool → Result ℕ SinkFault → Type 0
WriteFailsWhere fails (Ok count) = fails ≡ false
WriteFailsWhere fails (Err sink.Failed) = fails ≡ true
WriteFailsWhere fails (Err sink.Memory) = fails ≡ false

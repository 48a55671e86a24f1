-- How the counts of links and dialers move.
use Rattle.std.specs.Prelude.{◌≡◌, ℕ, ◌+◌, ◌^◌, ◌<◌, ◌≤◌, Option, Some, None, Result, Ok, Err, slice_index_or}
use Rattle.dq_base.specs.Causes.{Rose}
use Rattle.dq_base.specs.declared.script.Fails.{Fails}
use Rattle.dq_link.specs.Mounts.{Holdings, Mounts}
use Rattle.dq_link.specs.declared.fault.LinkFault.{LinkFault}
use Rattle.dq_link.specs.declared.fault.LinkFault.TheVariants as fault

-- there is room for one more call
abbrev pub HasRoom : ℕ → ℕ → Type 0
HasRoom runs calls = (runs < 2 ^ 40) × (calls < 2 ^ 40)

-- the faults of a link rise in a call that failed, and in no other
abbrev pub CountsFaults : {T : Type 0} → ℕ → ℕ → Result T LinkFault → Type 0
CountsFaults before now (Ok done) = now ≡ before
CountsFaults before now (Err fault.Failed) = (before ≤ now) × Rose before now
CountsFaults before now (Err fault.Memory) = now ≡ before

-- the faults of a dialer never fall, and rise in a dial that failed
abbrev pub CountsDials : {T : Type 0} → ℕ → ℕ → Result T LinkFault → Type 0
CountsDials before now (Ok link) = before ≤ now
CountsDials before now (Err fault.Failed) = (before ≤ now) × Rose before now
CountsDials before now (Err fault.Memory) = before ≤ now

-- one more link is given in a dial that is answered by a link, and in no other
abbrev pub CountsGiven : {T : Type 0} → ℕ → ℕ → Result T LinkFault → Type 0
CountsGiven before now (Ok link) = now ≡ before + 1
CountsGiven before now (Err e) = now ≡ before

-- nothing is mounted or put, and all counts are 0
pub record IsFresh (mounts : Mounts) (tables : Holdings) (faults runs calls : ℕ) : Type 0 where
  pub unmounted : (s : ℕ) → mounts s ≡ None
  pub unput : (n : ℕ) → tables n ≡ None
  pub unfaulted : faults ≡ 0
  pub unrun : runs ≡ 0
  pub uncalled : calls ≡ 0

-- the call that is planned to fail of the link given after so many others, where the plan is told: 0 for none
abbrev pub planned_call : Option Fails → ℕ → Option ℕ
planned_call None others = None
planned_call (Some plan) others = Some (slice_index_or plan.links others 0)

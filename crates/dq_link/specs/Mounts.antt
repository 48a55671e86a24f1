-- What stands on a link, and how a call's answer leaves it.
use Rattle.std.specs.Prelude.{◌≡◌, ⊤, ◌⊎◌, ℕ, nat_eq, List, Option, Some, IfSome, Result, Ok, Err, if◌then◌else◌}
use Rattle.dq_base.specs.Versions.{Version}
use Rattle.dq_base.specs.declared.value.Value.{Value}
use Rattle.dq_link.specs.declared.fault.LinkFault.{LinkFault}
use Rattle.dq_link.specs.declared.fault.LinkFault.TheVariants as fault

-- a version and its stamp
pub record Mounted : Type 0 where
  pub stamp : ℕ
  pub version : Version

-- what is mounted for each source
abbrev pub Mounts : Type 0
Mounts = ℕ → Option Mounted

-- the list in each table, by the table's number
abbrev pub Holdings : Type 0
Holdings = ℕ → Option (List Value)

-- all is as before
abbrev pub Same : {X : Type 0} → (ℕ → X) → (ℕ → X) → Type 0
Same before now = (n : ℕ) → now n ≡ before n

-- x at that number, and all else as before
abbrev pub SetAt : {X : Type 0} → ℕ → X → (ℕ → X) → (ℕ → X) → Type 0
SetAt at x before now = (n : ℕ) → now n ≡ (if nat_eq n at then x else before n)

-- a call that sets x at that number: of a fault nothing is told
abbrev pub SetsAs : {X T : Type 0} → ℕ → X → (ℕ → X) → (ℕ → X) → Result T LinkFault → Type 0
SetsAs at x before now (Ok done) = SetAt at x before now
SetsAs at x before now (Err fault.Failed) = ⊤
SetsAs at x before now (Err fault.Memory) = Same before now

-- a call that changes nothing: of a fault nothing is told
abbrev pub KeepsAs : {X T : Type 0} → (ℕ → X) → (ℕ → X) → Result T LinkFault → Type 0
KeepsAs before now (Ok done) = Same before now
KeepsAs before now (Err fault.Failed) = ⊤
KeepsAs before now (Err fault.Memory) = Same before now

-- where a version of that stamp is mounted for the source, it is this one
abbrev pub StandsFor : Mounts → ℕ → Mounted → Type 0
StandsFor mounts source m = IfSome (mounts source) (λ x. x.stamp ≡ m.stamp → x ≡ m)

-- all is as before, but that this version may be mounted for the source
abbrev pub MayMount : ℕ → Mounted → Mounts → Mounts → Type 0
MayMount source m before now = (s : ℕ) → (now s ≡ before s) ⊎ ((s ≡ source) × (now s ≡ Some m))

-- a version is mounted, or may be where memory was wanting
abbrev pub MountsAs : {T : Type 0} → ℕ → Mounted → Mounts → Mounts → Result T LinkFault → Type 0
MountsAs source m before now (Ok done) = SetAt source (Some m) before now
MountsAs source m before now (Err fault.Failed) = ⊤
MountsAs source m before now (Err fault.Memory) = MayMount source m before now

-- each mounted version has P
abbrev pub EachMounted : (ℕ → Mounted → Type 0) → Mounts → Type 0
EachMounted P mounts = (s : ℕ) → IfSome (mounts s) (P s)

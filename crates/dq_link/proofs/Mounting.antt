-- What is mounted after the calls that make a link ready.
use Rattle.std.proofs.Common.{◌≡◌, ℕ, Bool, true, false, cond, ◌⊎◌, inl, inr, Some, Result, Ok, Err, refl, arith, sym, ◌∙◌, ap, subst, eq-eqb}
use Rattle.std.proofs.lemmas.Bool.Decides.{nat_tests}
use Rattle.std.specs.Prelude.{nat_eq, IfSome}
use Rattle.dq_link.specs.Mounts.{EachMounted, KeepsAs, MayMount, Mounted, Mounts, MountsAs, SetAt, SetsAs}
use Rattle.dq_link.specs.declared.fault.LinkFault.{LinkFault}
use Rattle.dq_link.specs.declared.fault.LinkFault.TheVariants as fault

numbers_same : (a b : ℕ) → nat_eq a b ≡ true → a ≡ b
numbers_same a b e = grind (arith, nat_tests)

pub set_may_mount : (source : ℕ) (m : Mounted) (before now : Mounts) → SetAt source (Some m) before now → MayMount source m before now
set_may_mount source m before now h s =
    let by : (b : Bool) → nat_eq s source ≡ b → now s ≡ cond b (Some m) (before s) → (now s ≡ before s) ⊎ ((s ≡ source) × (now s ≡ Some m)) =
    elim [
      | true ↦ λ (e : nat_eq s source ≡ true) (k : now s ≡ Some m). inr (numbers_same s source e, k)
      | false ↦ λ (e : nat_eq s source ≡ false) (k : now s ≡ before s). inl k
    ] in
    by (nat_eq s source) refl (h s)

-- what held of every mounted version, and holds of the one that may be mounted, holds of every one afterwards
pub each_may_mount : (P : ℕ → Mounted → Type 0) (source : ℕ) (m : Mounted) (before now : Mounts) → MayMount source m before now → EachMounted P before → P source m → EachMounted P now
each_may_mount P source m before now h each here s =
    elim (h s) [
      | inl e ↦ subst (λ o. IfSome o (P s)) (sym e) (each s)
      | inr k ↦ subst (λ o. IfSome o (P s)) (sym k.1) (subst (λ n. P n m) (sym k.0) here)
    ]

pub mounts_fault : (T U : Type 0) (e : LinkFault) (source : ℕ) (m : Mounted) (before now : Mounts) → SetsAs {T = T} source (Some m) before now (Err e) → MountsAs {T = U} source m before now (Err e)
mounts_fault T U fault.Failed source m before now h = tt
mounts_fault T U fault.Memory source m before now h = λ s. inl (h s)

pub mounts_after : {T : Type 0} (result : Result T LinkFault) (source : ℕ) (m : Mounted) (before mid now : Mounts) → SetAt source (Some m) before mid → KeepsAs mid now result → MountsAs source m before now result
mounts_after (Ok done) source m before mid now h k = λ s. k s ∙ h s
mounts_after (Err fault.Failed) source m before mid now h k = tt
mounts_after (Err fault.Memory) source m before mid now h k = set_may_mount source m before now (λ s. k s ∙ h s)

pub set_here : {X : Type 0} (at : ℕ) (x : X) (before now : ℕ → X) → SetAt at x before now → now at ≡ x
set_here at x before now h = h at ∙ ap (λ b. cond b x (before at)) (eq-eqb at at refl)

-- What making a pooled link ready answers.
use Rattle.std.specs.Prelude.{◌≡◌, ⊤, ℕ, ◌+◌, ◌<◌, ◌≤◌, Option, Some}
use Rattle.dq_base.specs.Spelling.{Bytes}
use Rattle.dq_text.specs.declared.statement.Statement.{Statement}
use Rattle.dq_base.specs.Causes.{Rose}
use Rattle.dq_link.specs.Mounts.{Mounted, Mounts, MayMount, SetAt}
use Rattle.dq_link.specs.Views.{PooledLink}
use Rattle.dq_link.specs.declared.ready.Readied.{Readied}
use Rattle.dq_link.specs.declared.ready.Readied.TheVariants.{Ready, Memory, Failed}

module _ {L : Type 0} where
  -- P of the number and of the link, whatever the answer
  abbrev pub OfAny : (ℕ → L → Type 0) → Readied L → Type 0
  OfAny P (Ready p s) = P p.number p.link
  OfAny P (Memory p) = P p.number p.link
  OfAny P (Failed w) = P w.number w.link

  -- P of the link and the statement where the link is ready
  abbrev pub OfReady : (PooledLink L → Statement → Type 0) → Readied L → Type 0
  OfReady P (Ready p s) = P p s
  OfReady P (Memory p) = ⊤
  OfReady P (Failed w) = ⊤

  -- the calls rose by as many as it takes; by no more where memory was wanting, and by one at least after a fault
  abbrev pub CallsAs : ℕ → (L → ℕ) → ℕ → Readied L → Type 0
  CallsAs needed calls before (Ready p s) = calls p.link ≡ before + needed
  CallsAs needed calls before (Memory p) = (before ≤ calls p.link) × (calls p.link ≤ before + needed)
  CallsAs needed calls before (Failed w) = (before < calls w.link) × (calls w.link ≤ before + needed)

  -- this version is mounted, or may be where memory was wanting, and no other mount changed
  abbrev pub MountedAs : ℕ → Mounted → (L → Mounts) → Mounts → Readied L → Type 0
  MountedAs source m mounts before (Ready p s) = SetAt source (Some m) before (mounts p.link)
  MountedAs source m mounts before (Memory p) = MayMount source m before (mounts p.link)
  MountedAs source m mounts before (Failed w) = ⊤

  -- the faults rose where a call failed
  abbrev pub RoseAs : (L → ℕ) → ℕ → Readied L → Type 0
  RoseAs faults before (Ready p s) = ⊤
  RoseAs faults before (Memory p) = ⊤
  RoseAs faults before (Failed w) = Rose before (faults w.link)

  -- the text that was run last stays
  abbrev pub LastAs : Option Bytes → Readied L → Type 0
  LastAs last (Ready p s) = p.last ≡ last
  LastAs last (Memory p) = p.last ≡ last
  LastAs last (Failed w) = ⊤

-- What running a statement on a pooled link answers.
use Rattle.std.specs.Prelude.{◌≡◌, ⊤, ℕ, ◌+◌, ◌≤◌, Some, nat_eq, if◌then◌else◌, List}
use Rattle.dq_base.specs.Spelling.{Bytes}
use Rattle.dq_base.specs.declared.cell.Cell.{Cell}
use Rattle.dq_base.specs.Causes.{Rose}
use Rattle.dq_link.specs.Views.{PooledLink}
use Rattle.dq_link.specs.declared.run.Ran.{Ran}
use Rattle.dq_link.specs.declared.run.Ran.TheVariants.{Done, Memory, Failed}

module _ {L : Type 0} where
  -- P of the number and of the link, whatever the answer
  abbrev pub OfAny : (ℕ → L → Type 0) → Ran L → Type 0
  OfAny P (Done p t) = P p.number p.link
  OfAny P (Memory p) = P p.number p.link
  OfAny P (Failed w) = P w.number w.link

  -- P of the table where there is one
  abbrev pub OfDone : (List (List Cell) → Type 0) → Ran L → Type 0
  OfDone P (Done p t) = P t
  OfDone P (Memory p) = ⊤
  OfDone P (Failed w) = ⊤

  -- P of the link where it had no fault
  abbrev pub OfKept : (PooledLink L → Type 0) → Ran L → Type 0
  OfKept P (Done p t) = P p
  OfKept P (Memory p) = P p
  OfKept P (Failed w) = ⊤

  -- the link was run once, but where memory was wanting for the text
  abbrev pub CountsAs : (L → ℕ) → (L → ℕ) → L → Ran L → Type 0
  CountsAs runs calls before (Done p t) = (runs p.link ≡ runs before + 1) × (calls p.link ≡ calls before + 1)
  CountsAs runs calls before (Memory p) = (n : ℕ) × (n ≤ 1) × (runs p.link ≡ runs before + n) × (calls p.link ≡ calls before + n)
  CountsAs runs calls before (Failed w) = (runs w.link ≡ runs before + 1) × (calls w.link ≡ calls before + 1)

  -- the faults rose where the run failed
  abbrev pub RoseAs : (L → ℕ) → ℕ → Ran L → Type 0
  RoseAs faults before (Done p t) = ⊤
  RoseAs faults before (Memory p) = ⊤
  RoseAs faults before (Failed w) = Rose before (faults w.link)

  -- the text that was run last is this one where the runs rose
  abbrev pub LastAs : (L → ℕ) → PooledLink L → Bytes → Ran L → Type 0
  LastAs runs before text (Done p t) = p.last ≡ Some text
  LastAs runs before text (Memory p) = p.last ≡ (if nat_eq (runs p.link) (runs before.link) then before.last else Some text)
  LastAs runs before text (Failed w) = ⊤

-- What running a statement on a link that was made ready comes to.
use Rattle.std.specs.Prelude.{◌≡◌, ℕ, ◌+◌, Bool, true, false, List, Some}
use Rattle.dq_base.specs.Spelling.{Bytes}
use Rattle.dq_base.specs.declared.cell.Cell.{Cell}
use Rattle.dq_link.specs.Meanings.{Means}
use Rattle.dq_link.specs.Mounts.{Holdings, Mounts, Same}
use Rattle.dq_link.specs.Views.{LostLink, PooledLink}
use Rattle.dq_trial.specs.declared.trying.Tried.{Tried}
use Rattle.dq_trial.specs.declared.trying.Tried.TheVariants.{Answered, Wanting, Lost}

-- one more where the link was called
abbrev pub rise : Bool → ℕ
rise true = 1
rise false = 0

module _ {L : Type 0} (runs calls : L → ℕ) (mounts : L → Mounts) (tables : L → Holdings) (ready : PooledLink L) (text : Bytes) where
  -- it stands on the link what stood, and the counts and the text tell whether it ran
  pub record Stays (ran : Bool) (p : PooledLink L) : Type 0 where
    pub number : p.number ≡ ready.number
    pub ran_so : runs p.link ≡ runs ready.link + rise ran
    pub called_so : calls p.link ≡ calls ready.link + rise ran
    pub mirror : p.mirror ≡ ready.mirror
    pub stands : Same (mounts ready.link) (mounts p.link)
    pub last : ran ≡ true → p.last ≡ Some text

  pub record Breaks (w : LostLink L) : Type 0 where
    pub number : w.number ≡ ready.number
    pub ran_so : runs w.link ≡ runs ready.link + 1
    pub called_so : calls w.link ≡ calls ready.link + 1

  pub record Brings (p : PooledLink L) (rows : List (List Cell)) : Type 0 where
    pub stays : Stays true p
    pub means : Means (mounts ready.link) (tables ready.link) text rows

  abbrev pub RunsAs : Tried L → Type 0
  RunsAs (Answered p table) = Brings p table
  RunsAs (Wanting p ran) = Stays ran p
  RunsAs (Lost w ran) = (ran ≡ true) × Breaks w

module _ {L : Type 0} where
  -- P of the link, whatever came of it
  abbrev pub OfTried : (L → Type 0) → Tried L → Type 0
  OfTried P (Answered p table) = P p.link
  OfTried P (Wanting p ran) = P p.link
  OfTried P (Lost w ran) = P w.link

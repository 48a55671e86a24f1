-- What trying a flight on a link comes to.
use Rattle.std.specs.Prelude.{◌≡◌, true, Bool, List, Some}
use Rattle.dq_base.specs.Answers.{answer}
use Rattle.dq_base.specs.declared.cell.Cell.{Cell}
use Rattle.dq_extract.specs.Loads.{LoadedFiles}
use Rattle.dq_link.specs.Views.{LostLink, PooledLink}
use Rattle.dq_machine.specs.Leasing.{given_as, lost_as, reach}
use Rattle.dq_machine.specs.Publishing.{rows_at}
use Rattle.dq_machine.specs.State.{Flown, LinkOf, Publication}
use Rattle.dq_trial.specs.Links.{AreNamed, IsPlanned, LinkTells, MirrorAs, RanAs}
use Rattle.dq_trial.specs.declared.trying.Tried.{Tried}
use Rattle.dq_trial.specs.declared.trying.Tried.TheVariants.{Answered, Wanting, Lost}

-- the script, what was published, the machine's link, and the flight
pub record Trial : Type 0 where
  pub loaded : LoadedFiles
  pub versions : List Publication
  pub link : LinkOf
  pub flight : Flown

module _ {L : Type 0} (tells : LinkTells L) (t : Trial) where
  -- the link may be given back, after it ran the statement or didn't
  pub record Gives (ran : Bool) (p : PooledLink L) : Type 0 where
    pub number : p.number ≡ t.link.number
    pub counts : given_as ran t.link (reach t.link (Some t.flight)) (tells.runs p.link) (tells.calls p.link) ≡ true
    pub named : AreNamed t.loaded.script.schemas t.versions (tells.mounts p.link)
    pub mirror : MirrorAs ran p.mirror t.link (Some t.flight)
    pub text : RanAs ran p.mirror p.last (Some t.flight)
    pub planned : IsPlanned t.loaded.script.fails (tells.planned p.link)

  -- the link is lost, in the statement or before
  pub record Loses (ran : Bool) (w : LostLink L) : Type 0 where
    pub number : w.number ≡ t.link.number
    pub counts : lost_as ran t.link (reach t.link (Some t.flight)) (tells.runs w.link) (tells.calls w.link) ≡ true
    pub planned : IsPlanned t.loaded.script.fails (tells.planned w.link)

  -- the table is the flight's answer
  pub record Answers (p : PooledLink L) (rows : List (List Cell)) : Type 0 where
    pub gives : Gives true p
    pub table : rows ≡ answer t.flight.key (rows_at t.versions t.flight.stamp)

  abbrev pub TriedAs : Tried L → Type 0
  TriedAs (Answered p table) = Answers p table
  TriedAs (Wanting p ran) = Gives ran p
  TriedAs (Lost w ran) = Loses ran w

-- What trying a flight on a link leaves to be told.
use Rattle.std.specs.Prelude.{◌≡◌, true, List, None, IfSome}
use Rattle.std.specs.Arc.{arc_value}
use Rattle.dq_base.specs.declared.cell.Cell.{Cell}
use Rattle.dq_base.specs.declared.query.Query.{Query}
use Rattle.dq_link.specs.declared.pooled.Lost.TheVariants as lost
use Rattle.dq_text.specs.Statements.{body}
use Rattle.dq_trial.specs.declared.trying.Tried.{Tried}
use Rattle.dq_trial.specs.declared.trying.Tried.TheVariants.{Answered, Wanting, Lost}
use Rattle.dq_bring.specs.declared.phase.Answer.{Answer}
use Rattle.dq_bring.specs.declared.phase.Phase.{Phase}
use Rattle.dq_bring.specs.declared.phase.Phase.TheVariants as phase

-- the table, and the text of its query
pub record AnswersAs (key : Query) (rows : List (List Cell)) (a : Answer) : Type 0 where
  pub body : a.body ≡ body key
  pub table : arc_value a.table ≡ rows
  pub further : arc_value a.further ≡ rows

module _ {L : Type 0} where
  abbrev pub TriedTo : Query → Tried L → Phase L → Type 0
  TriedTo key (Answered p table) phase.New = ⊥
  TriedTo key (Answered p table) (phase.Idle q) = ⊥
  TriedTo key (Answered p table) (phase.Dial number) = ⊥
  TriedTo key (Answered p table) (phase.Back q ran answered) = (q ≡ p) × (ran ≡ true) × IfSome answered (AnswersAs key table)
  TriedTo key (Answered p table) (phase.Lost number what) = ⊥
  TriedTo key (Answered p table) phase.Undialled = ⊥
  TriedTo key (Answered p table) (phase.Landing a) = ⊥
  TriedTo key (Answered p table) phase.Falling = ⊥
  TriedTo key (Wanting p before) phase.New = ⊥
  TriedTo key (Wanting p before) (phase.Idle q) = ⊥
  TriedTo key (Wanting p before) (phase.Dial number) = ⊥
  TriedTo key (Wanting p before) (phase.Back q ran answered) = (q ≡ p) × (ran ≡ before) × (answered ≡ None)
  TriedTo key (Wanting p before) (phase.Lost number what) = ⊥
  TriedTo key (Wanting p before) phase.Undialled = ⊥
  TriedTo key (Wanting p before) (phase.Landing a) = ⊥
  TriedTo key (Wanting p before) phase.Falling = ⊥
  TriedTo key (Lost w ran) phase.New = ⊥
  TriedTo key (Lost w ran) (phase.Idle q) = ⊥
  TriedTo key (Lost w ran) (phase.Dial number) = ⊥
  TriedTo key (Lost w ran) (phase.Back q before answered) = ⊥
  TriedTo key (Lost w ran) (phase.Lost number what) = (number ≡ w.number) × (what ≡ lost.Link w ran)
  TriedTo key (Lost w ran) phase.Undialled = ⊥
  TriedTo key (Lost w ran) (phase.Landing a) = ⊥
  TriedTo key (Lost w ran) phase.Falling = ⊥

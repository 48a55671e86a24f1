-- How a batch that is over is closed.
use Rattle.std.specs.Prelude.{◌≡◌, ℕ, true, List, ◌++◌}
use Rattle.dq_base.specs.Scripts.{step_of, zones_of}
use Rattle.dq_batch.specs.Views.{BatchOf}
use Rattle.dq_journal.specs.Steps.{AreRefused}
use Rattle.dq_journal.specs.Standing.{stand}
use Rattle.dq_journal.specs.declared.entry.Entry.{Entry}
use Rattle.dq_journal.specs.declared.result.StepResult.{StepResult}
use Rattle.dq_journal.specs.declared.result.StepResult.TheVariants.{Published, Unpublished, Admitted, Unadmitted}
use Rattle.dq_journal.specs.declared.result.ZoneResult.{ZoneResult}
use Rattle.dq_machine.specs.Machine.{legal}
use Rattle.dq_machine.specs.Owning.{origins}
use Rattle.dq_machine.specs.Right.{AreOutcomes}
use Rattle.dq_base.specs.declared.query.Query.{Query}

abbrev pub zones_in : BatchOf → List Query
zones_in b = zones_of (step_of b.loaded.script.lanes b.lane b.step)

-- the result is that of a refused batch
abbrev pub CanCloseIn : BatchOf → StepResult → Type 0
CanCloseIn b (Published place) = ⊥
CanCloseIn b Unpublished = ⊥
CanCloseIn b (Admitted place outcomes) = ⊥
CanCloseIn b (Unadmitted outcomes) = AreRefused b.loaded.script.schemas (zones_in b) outcomes

-- the outcomes are right for every legal journal that goes on
pub record AreFinal (b : BatchOf) (outcomes : List ZoneResult) : Type 0 where
  pub on : (more : List Entry) → legal b.loaded (b.seen ++ more) ≡ true → AreOutcomes b.loaded.script.schemas (stand b.loaded (b.seen ++ more) b.place) (b.seen ++ more)
      (origins b.loaded.script.schemas (b.seen ++ more) b.lane b.place (zones_in b)) (zones_in b) outcomes

abbrev pub HasClosedAs : BatchOf → StepResult → Type 0
HasClosedAs b (Published place) = ⊥
HasClosedAs b Unpublished = ⊥
HasClosedAs b (Admitted place outcomes) = (place ≡ b.place) × AreFinal b outcomes
HasClosedAs b (Unadmitted outcomes) = ⊥

abbrev pub HasClosed : BatchOf → StepResult → StepResult → Type 0
HasClosed b old new = HasClosedAs b new

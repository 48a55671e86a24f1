-- What the verdict's own types mean.
use Rattle.dq_machine.specs.Owning.{Fate, Answered, Failed, Wanting}
use Rattle.dq_check.specs.declared.due.Fated.{Fated}
use Rattle.dq_check.specs.declared.due.Fated.TheVariants as fated

abbrev pub fate_of : Fated → Fate
fate_of fated.Answered = Answered
fate_of fated.Failed = Failed
fate_of fated.Wanting = Wanting

-- What the machine's parts mean.
use Rattle.dq_machine.specs.State.{Course, Running, Landed, Fallen, Phase, New, Leased, Given}
use Rattle.dq_machine.specs.declared.flown.Course.{Course as Held}
use Rattle.dq_machine.specs.declared.flown.Course.TheVariants as held
use Rattle.dq_machine.specs.declared.links.Phase.{Phase as HeldPhase}
use Rattle.dq_machine.specs.declared.links.Phase.TheVariants as phase

abbrev pub course_of : Held → Course
course_of held.Running = Running
course_of held.Landed = Landed
course_of held.Fallen = Fallen

abbrev pub phase_of : HeldPhase → Phase
phase_of (phase.New losses) = New losses
phase_of (phase.Leased losses fresh k) = Leased losses fresh k
phase_of (phase.Given ran) = Given ran

-- A publish step that may come refreshes what stands.
use Rattle.std.proofs.Common.{◌≡◌, ℕ, ◌<◌, ◌≤◌, true, length}
use Rattle.dq_base.specs.Scripts.{step_of}
use Rattle.dq_extract.specs.Loads.{LoadedFiles, IsLoaded, segment_of}
use Rattle.dq_machine.proofs.Begins.{publish_above, publish_kind}
use Rattle.dq_machine.proofs.Bounds.{IsBounded-reached}
use Rattle.dq_machine.proofs.Standing.{CanRefresh-next}
use Rattle.dq_machine.specs.Machine.{may_publish}
use Rattle.dq_machine.specs.Parts.{AreParts, PartsOf}
use Rattle.dq_machine.specs.Refreshing.{CanRefresh}
use Rattle.dq_machine.specs.State.{work_of}

pub CanRefresh-parts : (l : LoadedFiles) (p : PartsOf) (lane number : ℕ) → IsLoaded l → AreParts l p → 0 < lane → lane ≤ length p.state.works
    → may_publish l (work_of p.state lane) lane number ≡ true → CanRefresh p.stands (step_of l.script.lanes lane number) (segment_of l lane number)
CanRefresh-parts l p lane number loaded h above within may =
    CanRefresh-next l p.state.versions p.state.works p.stands lane number loaded above within
    (publish_above l (work_of p.state lane) lane number may) (IsBounded-reached l p.state loaded h.reached) h.standing
    (publish_kind l (work_of p.state lane) lane number may)

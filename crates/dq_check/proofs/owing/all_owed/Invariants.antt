use Rattle.std.proofs.Common.{◌≡◌, ◌++◌, List, drop}
use Rattle.dq_check.specs.Dues.{DueOf}
use Rattle.dq_check.specs.Owed.{AreOwed}
use Rattle.dq_check.proofs.owing.all_owed.Given as goal

abbrev pub invariant-loop-zone : goal.invariant-loop-zone
invariant-loop-zone l =
    (rest : List DueOf) → AreOwed l.schemas l.machine.state.versions l.losses l.origins_left l.stamps_left (drop l.zone-index l.zones) rest
    → AreOwed l.schemas l.machine.state.versions l.losses l.origins l.stamps l.zones (l.dues.items ++ rest)

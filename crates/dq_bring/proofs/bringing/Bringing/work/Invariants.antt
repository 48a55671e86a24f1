use Rattle.dq_machine.specs.Machine.{after}
use Rattle.dq_bring.specs.Flights.{standing_at}
use Rattle.dq_bring.proofs.bringing.Bringing.work.Given as goal

abbrev pub ghost-work_on : goal.ghost-work_on
ghost-work_on g a =
    let b = a.bearings.now in
    let l = b.loaded.value in
    standing_at l (after l b.seen.value.entries) b.lane a.key.now a.stood.now.stamp b.losses

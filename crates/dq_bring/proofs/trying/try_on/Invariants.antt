use Rattle.dq_bring.specs.Phases.{link_in, trial_on}
use Rattle.dq_bring.proofs.trying.try_on.Given as goal

abbrev pub ghost-try_flight : goal.ghost-try_flight
ghost-try_flight g a = trial_on g.at (link_in g.at.course)

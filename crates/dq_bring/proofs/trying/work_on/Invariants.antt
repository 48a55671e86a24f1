use Rattle.dq_bring.proofs.trying.work_on.Given as goal

abbrev pub ghost-try_on : goal.ghost-try_on
ghost-try_on g a = g.at

abbrev pub ghost-dial_and_try : goal.ghost-dial_and_try
ghost-dial_and_try g a = g.at

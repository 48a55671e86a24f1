use Rattle.dq_bring.proofs.trying.dial_and_try.Given as goal

abbrev pub ghost-try_on : goal.ghost-try_on
ghost-try_on g a = g.at

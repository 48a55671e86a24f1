use Rattle.dq_bring.proofs.Moves.{begins}
use Rattle.dq_bring.proofs.bringing.Bringing.new.Goals as goal

pub invariant_of-result : goal.invariant_of-result
invariant_of-result g c = rw (c.of.ensures, c.of-2.ensures) (begins _ c.args.loaded.now c.args.lane c.args.flight _ c.requires.legal c.requires.lane c.requires.first c.requires.begins)

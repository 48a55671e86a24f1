use Rattle.std.proofs.Common.{drop}
use Rattle.dq_script.proofs.Tallied.{TurnsSo}
use Rattle.dq_script.proofs.making.make_turns.Given as goal

abbrev pub invariant-loop-turn : goal.invariant-loop-turn
invariant-loop-turn l = TurnsSo l.turns l.numbers (drop l.turn-index l.turns)

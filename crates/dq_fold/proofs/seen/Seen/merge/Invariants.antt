use Rattle.std.proofs.Common.{◌≡◌}
use Rattle.dq_fold.specs.Tallies.{all_seen}
use Rattle.dq_fold.proofs.seen.Seen.merge.Given as goal

abbrev pub invariant-loop-v : goal.invariant-loop-v
invariant-loop-v l = all_seen l.self l.v-iterator ≡ all_seen l.fn.self l.other

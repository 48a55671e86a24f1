use Rattle.std.proofs.Common.{arith, [], ◌<◌, ◌^◌}
use Rattle.dq_fold.specs.Tallies.{count_in, tally_of}
use Rattle.dq_fold.specs.declared.tally.Tally.{Tally}
use Rattle.dq_fold.proofs.Tallied.{all_map, count_small}
use Rattle.dq_fold.proofs.groups.add_group.Goals as goal

pub add_to-requires : goal.add_to-requires
add_to-requires c =
    rw c.in_ok-tallies.ensures (all_map (λ (t : Tally). count_in t < 2 ^ 23) (tally_of []) (λ m. omega (arith, count_small [] m)) c.args.measures.now)

use Rattle.std.proofs.Common.{◌≡◌}
use Rattle.dq_rehearse.specs.Turns.{HavePlayedRounds, turns_left}
use Rattle.dq_rehearse.proofs.playing.play_rounds.Given as goal

abbrev pub invariant-loop-alloc : goal.invariant-loop-alloc
invariant-loop-alloc g l = record {
  loaded : l.desk.loaded ≡ l.fn.desk.loaded;
  played : HavePlayedRounds l.fn.desk.loaded l.fn.desk.journal l.fn.lanes.items l.desk.journal l.lanes.items;
}

abbrev pub decreases-loop-alloc : goal.decreases-loop-alloc
decreases-loop-alloc g l = turns_left l.fn.desk.loaded l.desk.journal l.lanes.items

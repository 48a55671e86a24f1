use Rattle.std.proofs.Common.{◌≡◌, take}
use Rattle.dq_rehearse.specs.Turns.{HavePlayed}
use Rattle.dq_rehearse.proofs.playing.play_schedule.Given as goal

abbrev pub invariant-loop-number : goal.invariant-loop-number
invariant-loop-number g l = record {
  loaded : l.desk.loaded ≡ l.fn.desk.loaded;
  played : HavePlayed l.fn.desk.loaded (take l.number-index l.schedule) l.fn.desk.journal l.fn.lanes.items l.desk.journal l.lanes.items;
}

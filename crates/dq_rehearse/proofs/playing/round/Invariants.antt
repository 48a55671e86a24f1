use Rattle.std.proofs.Common.{◌≡◌, ◌<◌, ◌≤◌, true, false}
use Rattle.std.specs.List.{range_with_len}
use Rattle.dq_rehearse.specs.Turns.{ArePassing, HavePlayed, turns_left}
use Rattle.dq_rehearse.proofs.playing.round.Given as goal

abbrev pub invariant-loop-place : goal.invariant-loop-place
invariant-loop-place g l = record {
  loaded : l.desk.loaded ≡ l.fn.desk.loaded;
  played : HavePlayed l.fn.desk.loaded (range_with_len 1 l.place) l.fn.desk.journal l.fn.lanes.items l.desk.journal l.lanes.items;
  no_more : turns_left l.fn.desk.loaded l.desk.journal l.lanes.items ≤ turns_left l.fn.desk.loaded l.fn.desk.journal l.fn.lanes.items;
  less : l.moved ≡ true → turns_left l.fn.desk.loaded l.desk.journal l.lanes.items < turns_left l.fn.desk.loaded l.fn.desk.journal l.fn.lanes.items;
  passing : l.moved ≡ false → ArePassing l.fn.desk.loaded l.desk.journal l.lanes.items l.place;
}

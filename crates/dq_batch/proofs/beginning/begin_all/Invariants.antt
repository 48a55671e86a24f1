use Rattle.std.proofs.Common.{◌≡◌, ◌++◌, length, drop, take}
use Rattle.dq_batch.specs.Beginning.{all_begun}
use Rattle.dq_batch.proofs.beginning.begin_all.Given as goal

abbrev pub invariant-loop-place : goal.invariant-loop-place
invariant-loop-place l = record {
  held : length l.held ≡ length l.met;
  fetches : length l.fetches ≡ length l.met;
  whole : all_begun l.met l.fn.held ≡ take l.place l.fetches ++ all_begun (drop l.place l.met) (drop l.place l.held);
}

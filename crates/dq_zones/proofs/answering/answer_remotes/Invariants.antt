use Rattle.std.proofs.Common.{◌≡◌, length}
use Rattle.dq_zones.specs.Answering.{AreFetched, BatchOf, IsBatch, rank}
use Rattle.dq_zones.proofs.answering.answer_remotes.Given as goal

abbrev pub invariant-loop-place : goal.invariant-loop-place
invariant-loop-place l = record {
  next : l.next ≡ rank l.prepared.roles l.place;
  count : length l.outcomes ≡ length l.fn.outcomes;
  right : (b : BatchOf) → IsBatch b l.prepared l.fetches → AreFetched b 0 l.fn.outcomes → AreFetched b l.place l.outcomes;
}

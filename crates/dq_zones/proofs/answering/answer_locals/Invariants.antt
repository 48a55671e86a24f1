use Rattle.std.proofs.Common.{◌≡◌, List, length}
use Rattle.dq_zones.specs.Answering.{AreRolled, BatchOf, IsBatch}
use Rattle.dq_zones.specs.declared.fetch.Fetch.{Fetch}
use Rattle.dq_zones.proofs.answering.answer_locals.Given as goal

abbrev pub invariant-loop-place : goal.invariant-loop-place
invariant-loop-place l = record {
  count : length l.outcomes ≡ length l.fn.outcomes;
  right : (b : BatchOf) (fetches : List Fetch) → IsBatch b l.prepared fetches → AreRolled b 0 l.fn.outcomes → AreRolled b l.place l.outcomes;
}

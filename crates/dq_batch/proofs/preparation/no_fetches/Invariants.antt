use Rattle.std.proofs.Common.{◌≡◌, replicate}
use Rattle.dq_zones.specs.declared.fetch.Fetch.TheVariants as fetch
use Rattle.dq_batch.proofs.preparation.no_fetches.Given as goal

abbrev pub invariant-loop-place : goal.invariant-loop-place
invariant-loop-place l = l.fetches ≡ replicate l.place fetch.Memory

use Rattle.std.proofs.Common.{◌≡◌, take}
use Rattle.dq_rollup.specs.Pairs.{Paired}
use Rattle.dq_rollup.specs.Sources.{IsSource}
use Rattle.dq_rollup.proofs.sources.sources_of.Given as goal

abbrev pub invariant-loop-m : goal.invariant-loop-m
invariant-loop-m l = (l.m-items ≡ l.q.measures) × Paired (IsSource l.p l.q) (take l.m-index l.m-items) l.sources

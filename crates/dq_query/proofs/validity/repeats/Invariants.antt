use Rattle.std.proofs.Common.{◌≡◌, length}
use Rattle.dq_base.specs.Validity as valid
use Rattle.dq_query.proofs.validity.repeats.Given as goal

abbrev pub invariant-loop-first : goal.invariant-loop-first
invariant-loop-first l = valid.repeats l.rest ≡ valid.repeats l.dims

abbrev pub decreases-loop-first : goal.decreases-loop-first
decreases-loop-first l = length l.rest

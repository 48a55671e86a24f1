use Rattle.std.proofs.Common.{◌∷◌, [], refl}
use Rattle.std.proofs.lemmas.Result.{err_from_is_err_and}
use Rattle.dq_reading.proofs.Readings.{passed_on, trail_read, trail_none, trail_missing}
use Rattle.dq_parse.proofs.entries.read_place.Goals as goal

pub returns-in_err-read_marked : goal.returns-in_err-read_marked
returns-in_err-read_marked c = passed_on _ _ _ (err_from_is_err_and c.from_residual.result c.from_residual.ensures.1) c.in_err-read_marked.ensures (λ t. trail_none (32 ∷ []) t (λ r. refl))

pub returns-then-not-skip : goal.returns-then-not-skip
returns-then-not-skip c = trail_missing (32 ∷ []) c.in_ok-read_marked.ensures c.if-not-skip.ensures.1 (λ r. refl)

pub returns : goal.returns
returns c = trail_read (32 ∷ []) c.in_ok-read_marked.ensures c.if-not-skip.ensures (λ r. refl)

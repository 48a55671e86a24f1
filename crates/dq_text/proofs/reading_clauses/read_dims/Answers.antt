use Rattle.std.proofs.Common.{codes, refl}
use Rattle.dq_text.specs.Reading.{After}
use Rattle.dq_text.specs.Sizes.{IsSizedDim}
use Rattle.dq_text.specs.Statements.{dim_text}
use Rattle.dq_text.proofs.Behind.{clause_reads, later_apart}
use Rattle.dq_text.proofs.reading_clauses.read_dims.Goals as goal

pub returns : goal.returns
returns c = clause_reads IsSizedDim (After 2) dim_text _ _ _ (codes " by ") c.read_some_dims.result c.if-not-skip.ensures (later_apart 2 (codes " by ") (λ m. refl)) c.read_some_dims.ensures

use Rattle.std.proofs.Common.{codes, refl}
use Rattle.dq_text.specs.Reading.{After}
use Rattle.dq_text.specs.Sizes.{IsSizedMeasure}
use Rattle.dq_text.specs.Statements.{measure_text}
use Rattle.dq_text.proofs.Behind.{clause_reads, later_apart}
use Rattle.dq_text.proofs.reading_clauses.read_measures.Goals as goal

pub returns : goal.returns
returns c = clause_reads IsSizedMeasure (After 3) measure_text _ _ _ (codes " show ") c.read_some_measures.result c.if-not-skip.ensures (later_apart 3 (codes " show ") (λ m. refl)) c.read_some_measures.ensures

use Rattle.std.proofs.Common.{codes, refl}
use Rattle.dq_text.specs.Reading.{After}
use Rattle.dq_text.specs.Sizes.{IsSizedKey}
use Rattle.dq_text.specs.Statements.{key_text}
use Rattle.dq_text.proofs.Behind.{clause_reads, later_apart}
use Rattle.dq_text.proofs.reading_clauses.read_order.Goals as goal

pub returns : goal.returns
returns c = clause_reads IsSizedKey (After 4) key_text _ _ _ (codes " order ") c.read_keys.result c.if-not-skip.ensures (later_apart 4 (codes " order ") (λ m. refl)) c.read_keys.ensures

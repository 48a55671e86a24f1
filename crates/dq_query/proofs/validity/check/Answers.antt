use Rattle.std.proofs.Common.{ap, ◌∙◌, List, Option}
use Rattle.std.specs.Prelude.{slice_get}
use Rattle.dq_base.specs.Headings.{Heading}
use Rattle.dq_base.specs.Validity as valid
use Rattle.dq_base.specs.declared.schema.Sort.{Sort}
use Rattle.dq_query.proofs.validity.check.Goals as goal

pub returns-in-Some : goal.returns-in-Some
returns-in-Some c =
    c.first_reason.ensures ∙ ap (λ (s : List Sort). valid.first_reason s c.args.q.now) c.sorts.ensures.sorts
    ∙ ap (λ (o : Option Heading). valid.reason_at o c.args.q.now) c.in-Some.ensures
    ∙ ap (λ n. valid.reason_at (slice_get c.args.schemas.now n) c.args.q.now) c.from.ensures

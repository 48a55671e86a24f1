use Rattle.std.proofs.Common.{◌∙◌, ap, sym, Some}
use Rattle.dq_base.specs.Headings.{Heading}
use Rattle.dq_top.proofs.loading.load_file.Goals as goal

pub returns-in-Ok-with_segment-clause-progress : goal.returns-in-Ok-with_segment-clause-progress
returns-in-Ok-with_segment-clause-progress g c = λ schemas sources source under before.
    c.in-Ok-with_segment.ensures.progress schemas sources source (under ∙ ap (λ (h : Heading). Some h) (sym c.in-Ok-load.ensures.answer.0)) before

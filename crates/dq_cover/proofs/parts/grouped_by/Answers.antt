use Rattle.std.proofs.Common.{sym, ◌∙◌, ◌&&◌, nat_eq}
use Rattle.dq_base.specs.Dims.{is_plain}
use Rattle.dq_cover.proofs.Marked.{none_taken, unmarked}
use Rattle.dq_cover.proofs.parts.grouped_by.Goals as goal

pub loop-d-init : goal.loop-d-init
loop-d-init c = (c.as_slice-d-items.ensures, λ k h. unmarked 64 k ∙ sym (none_taken (λ d. nat_eq k d.column && is_plain d) c.as_slice-d-items.result.now))

use Rattle.std.proofs.Common.{◌≡◌, ◌∙◌, ap, subst}
use Rattle.dq_check.specs.Grounds.{JudgesLanes}
use Rattle.dq_check.proofs.Assembled.{right_shown}
use Rattle.dq_check.proofs.judging.judge_zones.Goals as goal

pub returns-in-None : goal.returns-in-None
returns-in-None c =
    let l = c.args.loaded.now in
    let lanes = c.as_slice-lanes.ensures ∙ ap (λ s. s.lanes) c.script.ensures.script in
    let judged : JudgesLanes l c.args.journal.now l.script.lanes c.args.shown.now c.in_ok-wrong_zone.field-0 = rw (lanes, c.as_slice.ensures) at c.in_ok-wrong_zone.ensures in (
      c.requires.order,
      c.requires.walk.legal,
      right_shown l c.args.journal.now c.args.shown.now c.requires.order
          (subst (JudgesLanes l c.args.journal.now l.script.lanes c.args.shown.now) c.in-None.is judged),
    )

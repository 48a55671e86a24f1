use Rattle.std.proofs.Common.{◌≡◌, ◌+◌, ◌∙◌, Some, ap, arith, subst, sym}
use Rattle.dq_base.specs.Scripts.{numbered}
use Rattle.dq_machine.specs.Order.{tell_places}
use Rattle.dq_check.specs.Grounds.{JudgesSteps}
use Rattle.dq_check.specs.Verdicts.{IsWrongLane}
use Rattle.dq_check.proofs.Judged.{keeps_here, lane_fine, lane_wrong, lanes_end, lanes_start, lanes_within, numbered_item}
use Rattle.dq_check.proofs.judging.wrong_zone.Goals as goal

pub loop-place-init : goal.loop-place-init
loop-place-init c = lanes_start c.args.loaded.now c.args.journal.now c.args.lanes.now c.args.told.now c.requires.told

pub bounds-told-place : goal.bounds-told-place
bounds-told-place c = lanes_within c.args.loaded.now c.args.journal.now c.args.lanes.now c.args.told.now c.loop-place.place c.loop-place.invariant c.loop-place-test.true

pub wrong_in_lane-requires-clause-told : goal.wrong_in_lane-requires-clause-told
wrong_in_lane-requires-clause-told c =
    ap (λ ss. tell_places c.args.journal.now (c.loop-place.place + 1) 1 ss c.as_slice-told.result.now) c.as_slice.ensures
    ∙ ap (tell_places c.args.journal.now (c.loop-place.place + 1) 1 c.index-lanes-place.result) c.as_slice-told.ensures
    ∙ keeps_here c.args.loaded.now c.args.journal.now c.args.lanes.now c.args.told.now c.loop-place.place c.index-lanes-place.result c.index-told-place.result
    c.loop-place.invariant c.loop-place-test.true c.index-lanes-place.is c.index-told-place.is

pub wrong_in_lane-requires-clause-named : goal.wrong_in_lane-requires-clause-named
wrong_in_lane-requires-clause-named c =
    ap (λ ls. numbered ls (c.loop-place.place + 1)) (sym c.requires.lanes)
    ∙ numbered_item c.args.lanes.now c.loop-place.place c.index-lanes-place.result c.loop-place-test.true c.index-lanes-place.is ∙ ap Some (sym c.as_slice.ensures)

pub returns-in-Some : goal.returns-in-Some
returns-in-Some c =
    let l = c.args.loaded.now in
    let number = c.loop-place.place + 1 in
    let judged : JudgesSteps l c.args.journal.now number c.index-lanes-place.result c.index-told-place.result c.in_ok-step.field-0 =
    rw (c.as_slice.ensures, c.as_slice-told.ensures) at c.in_ok-step.ensures in
    let wrong =
    lane_wrong l c.args.journal.now c.args.lanes.now c.args.told.now c.loop-place.place c.index-lanes-place.result c.index-told-place.result
    c.loop-place.invariant c.loop-place-test.true c.index-lanes-place.is c.index-told-place.is c.in-Some.step c.in-Some.zone
    (subst (JudgesSteps l c.args.journal.now number c.index-lanes-place.result c.index-told-place.result) c.in-Some.is judged) in
    subst (λ n. IsWrongLane l c.args.journal.now 1 c.args.lanes.now c.args.told.now n c.in-Some.step c.in-Some.zone) (sym c.in-Ok.ensures.1) wrong

pub loop-place-preserved : goal.loop-place-preserved
loop-place-preserved c =
    let l = c.args.loaded.now in
    let number = c.loop-place.place + 1 in
    let judged : JudgesSteps l c.args.journal.now number c.index-lanes-place.result c.index-told-place.result c.in_ok-step.field-0 =
    rw (c.as_slice.ensures, c.as_slice-told.ensures) at c.in_ok-step.ensures in
    lane_fine l c.args.journal.now c.args.lanes.now c.args.told.now c.loop-place.place c.index-lanes-place.result c.index-told-place.result
    c.loop-place.invariant c.loop-place-test.true c.index-lanes-place.is c.index-told-place.is
    (subst (JudgesSteps l c.args.journal.now number c.index-lanes-place.result c.index-told-place.result) c.in_default.is judged)

pub returns : goal.returns
returns c = lanes_end c.args.loaded.now c.args.journal.now c.args.lanes.now c.args.told.now c.loop-place.place c.loop-place.invariant c.loop-place-test.false

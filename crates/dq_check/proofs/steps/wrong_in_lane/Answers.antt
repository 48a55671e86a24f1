use Rattle.std.proofs.Common.{◌≡◌, ◌+◌, ◌∙◌, ap, arith, subst, sym}
use Rattle.std.specs.Option.{option_and_then}
use Rattle.dq_base.specs.Scripts.{numbered}
use Rattle.dq_check.specs.Grounds.{JudgesStep}
use Rattle.dq_check.specs.Verdicts.{IsWrongStep}
use Rattle.dq_check.proofs.Judged.{numbered_item, step_fine, step_wrong, steps_end, steps_start, steps_within, told_here}
use Rattle.dq_check.proofs.steps.wrong_in_lane.Goals as goal

pub loop-place-init : goal.loop-place-init
loop-place-init c = steps_start c.args.loaded.now c.args.journal.now c.args.lane c.args.steps.now c.args.told.now c.requires.told

pub bounds-told-place : goal.bounds-told-place
bounds-told-place c = steps_within c.args.loaded.now c.args.journal.now c.args.lane c.args.steps.now c.args.told.now c.loop-place.place c.loop-place.invariant c.loop-place-test.true

pub wrong_in_step-requires-clause-told : goal.wrong_in_step-requires-clause-told
wrong_in_step-requires-clause-told c =
    told_here c.args.loaded.now c.args.journal.now c.args.lane c.args.steps.now c.args.told.now c.loop-place.place c.index-steps-place.result c.index-told-place.result
    c.loop-place.invariant c.loop-place-test.true c.index-steps-place.is c.index-told-place.is

pub wrong_in_step-requires-clause-named : goal.wrong_in_step-requires-clause-named
wrong_in_step-requires-clause-named c =
    ap (option_and_then (λ ss. numbered ss (c.loop-place.place + 1))) c.requires.named ∙ numbered_item c.args.steps.now c.loop-place.place c.index-steps-place.result c.loop-place-test.true c.index-steps-place.is

pub returns-in-Some : goal.returns-in-Some
returns-in-Some c =
    let l = c.args.loaded.now in
    let number = c.loop-place.place + 1 in
    let judged = subst (JudgesStep l c.args.journal.now c.args.lane number c.index-steps-place.result c.index-told-place.result) c.in-Some.is c.in_ok-zone.ensures in
    let wrong =
    step_wrong l c.args.journal.now c.args.lane c.args.steps.now c.args.told.now c.loop-place.place c.index-steps-place.result c.index-told-place.result
    c.loop-place.invariant c.loop-place-test.true c.index-steps-place.is c.index-told-place.is c.in-Some.zone judged in
    subst (λ n. IsWrongStep l c.args.journal.now c.args.lane 1 c.args.steps.now c.args.told.now n c.in-Some.zone) (sym c.in-Ok.ensures.1) wrong

pub loop-place-preserved : goal.loop-place-preserved
loop-place-preserved c =
    let l = c.args.loaded.now in
    let number = c.loop-place.place + 1 in
    step_fine l c.args.journal.now c.args.lane c.args.steps.now c.args.told.now c.loop-place.place c.index-steps-place.result c.index-told-place.result
    c.loop-place.invariant c.loop-place-test.true c.index-steps-place.is c.index-told-place.is
    (subst (JudgesStep l c.args.journal.now c.args.lane number c.index-steps-place.result c.index-told-place.result) c.in_default.is c.in_ok-zone.ensures)

pub returns : goal.returns
returns c = steps_end c.args.loaded.now c.args.journal.now c.args.lane c.args.steps.now c.args.told.now c.loop-place.place c.loop-place.invariant c.loop-place-test.false

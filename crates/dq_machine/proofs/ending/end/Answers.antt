use Rattle.std.proofs.Common.{◌≡◌, ap, ◌∙◌, sym, Some, position, get_or}
use Rattle.dq_flight.proofs.Replacing.{replaced_none}
use Rattle.dq_machine.specs.Landing.{over}
use Rattle.dq_machine.specs.State.{Flown, is_numbered}
use Rattle.dq_machine.specs.Views.{course_of}
use Rattle.dq_machine.proofs.Replaced.{ended_kept, ended_out}
use Rattle.dq_machine.proofs.ending.end.Goals as goal

pub returns-in_default : goal.returns-in_default
returns-in_default c =
    replaced_none (is_numbered c.args.number) (over (course_of c.args.course)) c.args.flown.now (rw c.as_slice.ensures at (sym c.in_default.ensures))

pub returns-then-flight-eq0 : goal.returns-then-flight-eq0
returns-then-flight-eq0 c =
    let f = c.index-as_slice-place.result in
    let at : position (is_numbered c.args.number) c.args.flown.now ≡ Some c.in-Some.place = rw c.as_slice.ensures at (sym c.in-Some.ensures) in
    let is : f ≡ get_or c.args.flown.now c.in-Some.place f = rw c.as_slice-2.ensures at c.index-as_slice-place.is in
    let none : f.joiners ≡ 0 = sym (ap (λ (g : Flown). g.joiners) c.flight.view_is) ∙ c.if-flight-eq0.true in
    c.in_ok-take_out.ensures ∙ ended_out c.args.number c.args.flown.now c.in-Some.place f at is (course_of c.args.course) none

pub returns : goal.returns
returns c =
    let f = c.index-as_slice-place.result in
    let at : position (is_numbered c.args.number) c.args.flown.now ≡ Some c.in-Some.place = rw c.as_slice.ensures at (sym c.in-Some.ensures) in
    let is : f ≡ get_or c.args.flown.now c.in-Some.place f = rw c.as_slice-2.ensures at c.index-as_slice-place.is in
    rw c.set_course.ensures
    (ended_kept c.args.number c.args.flown.now c.in-Some.place f at is (course_of c.args.course) c.item_mut.result.now c.item_mut.ensures.value
    (λ e. c.if-flight-eq0.false (ap (λ (g : Flown). g.joiners) c.flight.view_is ∙ e)))

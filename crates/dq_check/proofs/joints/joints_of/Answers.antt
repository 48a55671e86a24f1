use Rattle.std.proofs.Common.{◌≡◌, ◌+◌, ◌++◌, [], ◌∷◌, drop, ap, sym, ◌∙◌, arith, append_assoc}
use Rattle.dq_journal.specs.Shown.{joint_at}
use Rattle.dq_check.specs.Grounds.{joints_over}
use Rattle.dq_check.proofs.Joined.{joints_step}
use Rattle.dq_check.proofs.joints.joints_of.Goals as goal

pub loop-place-preserved : goal.loop-place-preserved
loop-place-preserved c =
    let at = joint_at c.args.script.now c.args.lane c.args.step in
    let place = c.loop-place.place in
    let rest = joints_over at (place + 1 + 1) (drop (place + 1) c.args.zones.now) in
    let here = c.loop-place.joints.items ++ c.in_ok-joint_at.field-0 ∷ [] in
    c.loop-place.invariant ∙ ap (λ xs. c.loop-place.joints.items ++ xs) (joints_step at (place + 1) place c.args.zones.now (omega arith))
    ∙ ap (λ j. c.loop-place.joints.items ++ j ∷ rest) (sym c.in_ok-joint_at.ensures)
    ∙ sym (append_assoc c.loop-place.joints.items (c.in_ok-joint_at.field-0 ∷ []) rest)
    ∙ ap (λ xs. xs ++ rest) (sym c.in_ok-push.ensures.items)

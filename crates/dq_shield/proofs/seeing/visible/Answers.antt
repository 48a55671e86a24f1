use Rattle.std.proofs.Common.{sym, ap, ◌∙◌}
use Rattle.dq_shield.proofs.Seen.{visible_more}
use Rattle.dq_shield.proofs.seeing.visible.Goals as goal

pub loop-place-preserved : goal.loop-place-preserved
loop-place-preserved c =
    visible_more c.args.filters.now c.segments-segments.result.now c.loop-place.place _ c.rows.result.now c.loop-place.rows c.copy_visible.new.copies
    (sym c.in-Some.ensures) (c.rows.ensures ∙ ap (λ v. v.rows) c.deref.ensures) c.loop-place.invariant c.in_ok-copy_visible.ensures

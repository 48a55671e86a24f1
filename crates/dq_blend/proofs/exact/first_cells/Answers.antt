use Rattle.std.proofs.Common.{sym}
use Rattle.dq_blend.proofs.Agreeing.{take_next}
use Rattle.dq_blend.proofs.exact.first_cells.Goals as goal

pub loop-place-preserved : goal.loop-place-preserved
loop-place-preserved c = (
  take_next c.args.row.now c.loop-place.place c.in-Some.cell.now c.in_ok-cell.cell c.loop-place.key c.push.new.self (sym c.in-Some.ensures) c.loop-place.invariant.0 c.in_ok-cell.ensures c.in_ok-push.ensures.ok,
  c.loop-place.invariant.1,
)

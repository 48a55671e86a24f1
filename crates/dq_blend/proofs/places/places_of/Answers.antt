use Rattle.std.proofs.Common.{◌<◌, length, get_or, ap, ◌∙◌, arith}
use Rattle.dq_blend.proofs.Entered.{one_more}
use Rattle.dq_blend.proofs.places.places_of.Goals as goal

pub loop-place-preserved : goal.loop-place-preserved
loop-place-preserved c =
    let within : c.loop-place.place < length c.args.table.now = omega (arith, ap length c.as_slice-row-items.ensures) in (
      one_more c.args.count c.args.table.now c.loop-place.place c.row-item.result c.in_ok-first_cells.field-0 c.loop-place.places.entries c.keep_first.new.places.entries within
          (c.row-item.is ∙ ap (λ rows. get_or rows c.loop-place.place c.row-item.result) c.as_slice-row-items.ensures)
          c.in_ok-first_cells.ensures c.loop-place.invariant.0 c.in_ok-keep_first.ensures,
      c.loop-place.invariant.1,
    )

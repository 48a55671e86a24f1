use Rattle.std.proofs.Common.{◌++◌, ◌∷◌, [], List, if◌then◌else◌, ap, sym, ◌∙◌}
use Rattle.dq_base.specs.declared.cell.Cell.{Cell}
use Rattle.dq_rollup.specs.Derived.{Plan, is_kept}
use Rattle.dq_rollup.specs.Grouped.{first_keys, grouped, key_at, kept_places}
use Rattle.dq_rollup.specs.Keys.{made_key}
use Rattle.dq_rollup.proofs.Grouping.{below_more, first_ascends, row_is}
use Rattle.dq_rollup.proofs.groups.group_rows.Goals as goal

pub loop-place-preserved : goal.loop-place-preserved
loop-place-preserved c =
    let plan : Plan = record { made = c.args.made.now; filters = c.args.filters.now; places = c.args.spots.now } in
    let held = c.args.held.now in
    let i = c.loop-place.place in
    let row = row_is c.as_slice-row-items.result.now held i c.row-item.result c.loop-place.invariant.0 c.loop-place-test.true c.row-item.is in (
      c.loop-place.invariant.0,
      below_more plan held i c.add_row.new.groups.entries
          (c.in_ok-add_row.ensures (key_at plan held) (first_keys c.args.made.now) (kept_places plan held i) (first_ascends c.args.made.now) (ap (made_key c.args.made.now) row) c.loop-place.invariant.1
          ∙ ap (λ (r : List Cell). grouped (key_at plan held) (first_keys c.args.made.now) (if is_kept plan r then kept_places plan held i ++ i ∷ [] else kept_places plan held i)) (sym row)),
    )

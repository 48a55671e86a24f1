use Rattle.std.proofs.Common.{◌≡◌, drop}
use Rattle.serde_json.specs.View.{items_view}
use Rattle.dq_script.specs.Arrays.{items_after}
use Rattle.dq_script.proofs.arrays.take_items.Given as goal

abbrev pub invariant-loop-place : goal.invariant-loop-place
invariant-loop-place g l =
    items_after (g.R.Takes.next l.reader) 0 l.fn.state (items_view l.items) ≡ items_after (g.R.Takes.next l.reader) l.place l.all (items_view (drop l.place l.items))

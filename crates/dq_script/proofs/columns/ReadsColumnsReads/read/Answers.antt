use Rattle.std.proofs.Common.{ap, length, ◌∙◌}
use Rattle.serde_json.specs.View.{items_view}
use Rattle.dq_script.proofs.Kept.{columns-paired}
use Rattle.dq_script.proofs.columns.ReadsColumnsReads.read.Goals as goal

pub new-requires : goal.new-requires
new-requires c =
    let read = rw c.no_columns.ensures at c.in_ok-columns.ensures in
    ap length c.into_list.ensures ∙ (columns-paired (items_view c.in-Some.items.now) c.in_ok-columns.columns read).paired

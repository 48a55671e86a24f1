use Rattle.std.proofs.Common.{Bool, List, rules}
use Rattle.std.proofs.lemmas.Fn.{always_returns_same}
use Rattle.std.specs.Ordering.{is_lt}
use Rattle.dq_base.specs.Answers.{row_cmp}
use Rattle.dq_base.specs.declared.cell.Cell.{Cell}
use Rattle.dq_base.proofs.RowOrder.{row_weak}
use Rattle.dq_base.proofs.StableSort.{sorted_is_ascending, rises_from_sorted}
use Rattle.dq_rollup.proofs.order.sort_rows.Goals as goal

pub returns-clause-ok : goal.returns-clause-ok
returns-clause-ok c =
    let lt : List Cell → List Cell → Bool = λ a b. is_lt (row_cmp c.args.q.now a b) in
    let weak = row_weak c.args.q.now in
    sorted_is_ascending (row_cmp c.args.q.now) weak c.args.rows.now.items c.sort_by.new.self.items
    (rises_from_sorted lt weak c.sort_by.new.self.items (c.in_ok-sort_by.ensures.sorted lt weak (always_returns_same _ _ _ (λ a r g h. search rules))))
    (c.in_ok-sort_by.ensures.stable lt weak (always_returns_same _ _ _ (λ a r g h. search rules)))

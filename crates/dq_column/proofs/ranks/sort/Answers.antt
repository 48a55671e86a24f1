use Rattle.std.proofs.Common.{◌∙◌, ap, map}
use Rattle.std.proofs.lemmas.Cmp.{nat_list_cmp_total}
use Rattle.std.proofs.lemmas.List.MinMax.{ranks_by}
use Rattle.std.specs.Ordering.{is_lt}
use Rattle.std.specs.String.{string_bytes, string_cmp}
use Rattle.dq_base.proofs.StableSort.{rises_from_sorted, sorted_is_ascending}
use Rattle.dq_column.specs.Stored.{text_cmp}
use Rattle.dq_column.proofs.Sorting.{ascending_map}
use Rattle.dq_column.proofs.ranks.sort.Goals as goal

pub returns : goal.returns
returns c =
    let weak = ranks_by nat_list_cmp_total string_bytes in
    ap (map string_bytes) (sorted_is_ascending string_cmp weak c.args.texts.now.items c.sort.new.self.items
    (rises_from_sorted (λ x y. is_lt (string_cmp x y)) weak c.sort.new.self.items c.in_ok-sort.ensures.sorted) c.in_ok-sort.ensures.stable)
    ∙ ascending_map string_bytes text_cmp c.args.texts.now.items

use Rattle.std.proofs.Common.{◌≡◌, ◌++◌, take}
use Rattle.std.specs.List.{flat_map}
use Rattle.dq_text.specs.Statements as form
use Rattle.dq_text.proofs.printing_filters.put_filters.Given as goal

abbrev pub invariant-loop-predicate : goal.invariant-loop-predicate
invariant-loop-predicate l = l.text ≡ l.initial.text ++ flat_map form.plain_where (take l.predicate-index l.filters)

use Rattle.std.proofs.Common.{◌≡◌, ◌++◌, take}
use Rattle.std.specs.List.{flat_map}
use Rattle.dq_text.specs.Statements as form
use Rattle.dq_text.proofs.printing_filters.put_further_values.Given as goal

abbrev pub invariant-loop-value : goal.invariant-loop-value
invariant-loop-value l = l.text ≡ l.initial.text ++ flat_map (form.after_comma form.value_text) (take l.value-index l.values)

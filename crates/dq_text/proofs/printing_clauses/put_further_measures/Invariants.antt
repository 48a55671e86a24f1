use Rattle.std.proofs.Common.{◌≡◌, ◌++◌, take}
use Rattle.std.specs.List.{flat_map}
use Rattle.dq_text.specs.Statements as form
use Rattle.dq_text.proofs.printing_clauses.put_further_measures.Given as goal

abbrev pub invariant-loop-measure : goal.invariant-loop-measure
invariant-loop-measure l = l.text ≡ l.initial.text ++ flat_map (form.after_comma form.measure_text) (take l.measure-index l.measures)

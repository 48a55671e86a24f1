use Rattle.std.proofs.Common.{◌≡◌, ◌++◌, take}
use Rattle.std.specs.List.{flat_map}
use Rattle.dq_text.specs.Statements as form
use Rattle.dq_text.proofs.printing_clauses.put_further_dims.Given as goal

abbrev pub invariant-loop-dim : goal.invariant-loop-dim
invariant-loop-dim l = l.text ≡ l.initial.text ++ flat_map (form.after_comma form.dim_text) (take l.dim-index l.dims)

use Rattle.std.proofs.Common.{◌≡◌, ◌++◌, take}
use Rattle.std.specs.List.{flat_map}
use Rattle.dq_text.specs.Statements as form
use Rattle.dq_text.proofs.printing_clauses.put_further_keys.Given as goal

abbrev pub invariant-loop-key : goal.invariant-loop-key
invariant-loop-key l = l.text ≡ l.initial.text ++ flat_map (form.after_comma form.key_text) (take l.key-index l.keys)

use Rattle.std.proofs.Common.{◌≡◌, ◌++◌, take}
use Rattle.std.specs.List.{flat_map}
use Rattle.dq_report.specs.Report as form
use Rattle.dq_report.proofs.entries.put_meets.Given as goal

abbrev pub invariant-loop-met : goal.invariant-loop-met
invariant-loop-met l = l.text ≡ l.initial.text ++ flat_map form.met_text (take l.met-index l.meets)

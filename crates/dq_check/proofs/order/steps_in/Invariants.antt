use Rattle.std.proofs.Common.{◌≡◌, ◌++◌, ◌≤◌, IfOk, OnOk, drop, length, nat_eq, ℕ, ◌+◌, ◌-◌, ◌*◌, ◌<◌}
use Rattle.std.specs.List.{flat_map}
use Rattle.std.specs.Option.{option_copied}
use Rattle.std.specs.Cmp.Lexicographic.{pointwise}
use Rattle.dq_base.specs.Scripts.{numbered, step_of}
use Rattle.dq_journal.specs.Journals as journals
use Rattle.dq_journal.specs.Steps as named
use Rattle.dq_journal.specs.Steps.{done_from, entries_of, steps_named}
use Rattle.dq_machine.specs.Order as specified
use Rattle.dq_machine.specs.State.{none_left}
use Rattle.dq_check.proofs.order.steps_in.Given as goal

abbrev pub invariant-loop-entry : goal.invariant-loop-entry
invariant-loop-entry l =
    flat_map named.step_in (entries_of l.lane l.journal) ≡ l.steps ++ flat_map named.step_in (entries_of l.lane (drop l.entry-index l.journal))

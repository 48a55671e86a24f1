use Rattle.std.proofs.Common.{◌≡◌, ◌++◌, ◌≤◌, IfOk, OnOk, drop, length, nat_eq, ℕ, ◌+◌, ◌-◌, ◌*◌, ◌<◌}
use Rattle.std.specs.List.{flat_map}
use Rattle.std.specs.Option.{option_copied}
use Rattle.std.specs.Cmp.Lexicographic.{pointwise}
use Rattle.dq_base.specs.Scripts.{numbered, step_of}
use Rattle.dq_journal.specs.Journals as journals
use Rattle.dq_journal.specs.Steps as named
use Rattle.dq_journal.specs.Steps.{done_from, entries_of, steps_named}
use Rattle.dq_machine.specs.Order as specified
use Rattle.dq_machine.specs.State.{none_left}
use Rattle.dq_check.proofs.order.tell_places.Given as goal

abbrev pub invariant-loop-place : goal.invariant-loop-place
invariant-loop-place l =
    specified.tell_places l.journal l.lane 1 l.steps l.told ≡ specified.tell_places l.journal l.lane (l.place + 1) (drop l.place l.steps) (drop l.place l.told)

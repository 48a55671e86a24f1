use Rattle.std.proofs.Common.{arith, ◌+◌, ◌<◌, ◌≡◌, length, sym, ◌∙◌}
use Rattle.std.specs.Prelude.{slice_get, Some, None}
use Rattle.dq_machine.proofs.Removing.{pulled, there}
use Rattle.dq_machine.proofs.ending.pull.Goals as goal

pub returns-in_default-clause-removed : goal.returns-in_default-clause-removed
returns-in_default-clause-removed c =
    let none : slice_get c.args.flown.now (c.args.place + 1) ≡ None = sym c.in_default.ensures in
    absurd (there c.args.flown.now (c.args.place + 1) c.requires none)

pub returns-clause-removed : goal.returns-clause-removed
returns-clause-removed c =
    let next : slice_get c.args.flown.now (c.args.place + 1) ≡ Some c.in_ok-copy.copy = rw c.in_ok-copy.ensures (sym c.in-Some.ensures) in
    pulled c.args.flown.now c.args.place c.in_ok-copy.copy next c.requires

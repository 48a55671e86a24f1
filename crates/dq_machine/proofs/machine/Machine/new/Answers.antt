use Rattle.std.proofs.Common.{◌≡◌, length, map, replicate}
use Rattle.std.specs.Arc.{arc_value}
use Rattle.dq_machine.proofs.Advanced.{AreParts-start}
use Rattle.dq_machine.specs.Refreshing.{no_stand}
use Rattle.dq_machine.specs.State.{no_work}
use Rattle.dq_machine.proofs.machine.Machine.new.Goals as goal

pub invariant_of-result : goal.invariant_of-result
invariant_of-result c =
    let l = arc_value c.args.loaded in
    let stands : c.in_ok-stands.stands.items ≡ map no_stand l.script.schemas = rw (c.script.ensures.script, c.deref.ensures) at c.in_ok-stands.ensures in
    let works : c.in_ok-works.works ≡ replicate (length l.script.lanes) no_work = rw (c.len.ensures, c.script-2.ensures.script, c.deref-2.ensures) at c.in_ok-works.ensures in
    rw (c.new.ensures, c.new-2.ensures, c.new-3.ensures, c.new-4.ensures, c.new-5.ensures) (AreParts-start l c.in_ok-works.works c.in_ok-stands.stands.items works stands)

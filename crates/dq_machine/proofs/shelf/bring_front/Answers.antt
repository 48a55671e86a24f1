use Rattle.std.proofs.Common.{◌∙◌, sym, ap, arith, ◌<◌, length, Some}
use Rattle.dq_machine.proofs.Fronts.{front_step, front_carried}
use Rattle.dq_machine.proofs.shelf.bring_front.Goals as goal

pub loop-i-preserved : goal.loop-i-preserved
loop-i-preserved c =
    let lt : c.loop-i.i < length c.args.shelf.now = omega arith in (
      front_step c.args.entry c.args.entry c.args.shelf.now c.loop-i.shelf c.loop-i.i c.replace-carried.new.dest lt c.loop-i.invariant.0 (c.replace-carried.ensures.after ∙ c.loop-i.invariant.1),
      front_carried c.args.entry c.args.entry c.args.shelf.now c.loop-i.shelf c.loop-i.i c.replace-carried.result lt c.loop-i.invariant.0 (c.item_mut.ensures.value ∙ ap Some (sym c.replace-carried.ensures.value)),
    )

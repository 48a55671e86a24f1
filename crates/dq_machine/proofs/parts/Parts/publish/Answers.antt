use Rattle.dq_machine.proofs.Refreshes.{CanRefresh-parts}
use Rattle.dq_machine.proofs.parts.Parts.publish.Goals as goal

pub publish_step-requires-clause-refresh : goal.publish_step-requires-clause-refresh
publish_step-requires-clause-refresh c =
    let can = CanRefresh-parts c.args.loaded.now c.args.self.now c.args.lane c.args.step c.script-script.ensures.loaded c.requires.parts c.requires.above c.requires.within c.requires.may in
    rw (← c.self.view_is) at can

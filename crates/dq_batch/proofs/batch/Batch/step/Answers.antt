use Rattle.dq_batch.proofs.Opens.{view_open}
use Rattle.dq_batch.proofs.batch.Batch.step.Goals as goal

pub turn-turned-requires-clause-open : goal.turn-turned-requires-clause-open
turn-turned-requires-clause-open g c =
    view_open c.args.self.now c.self.inside.loaded.value c.args.loaded.now c.args.desk.now.loaded c.self.inside.seen.value.entries c.args.desk.now.journal c.self.inside.open c.self.view_is c.requires.loaded
    c.requires.same c.requires.goes_on c.journal.ensures.legal c.self.invariant.held

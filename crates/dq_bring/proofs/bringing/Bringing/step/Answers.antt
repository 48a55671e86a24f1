use Rattle.std.proofs.Common.{◌≡◌}
use Rattle.dq_bring.proofs.Moves.{IsBringing-on}
use Rattle.dq_bring.proofs.bringing.Bringing.step.Goals as goal

pub tell-requires-clause-bringing : goal.tell-requires-clause-bringing
tell-requires-clause-bringing g c =
    let b = c.self.inside.bearings in
    let same : c.args.desk.now.loaded ≡ b.loaded.value = rw (← c.self.view_is) at c.requires.same in
    let on = rw (← c.self.view_is) at c.requires.goes_on in
    let lawful = rw same at c.journal-journal.ensures.legal in
    rw same (IsBringing-on _ b.loaded.value b.lane b.flight b.losses b.seen.value.entries c.args.desk.now.journal c.self.inside.phase c.self.invariant lawful on)

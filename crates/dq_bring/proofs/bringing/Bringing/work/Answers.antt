use Rattle.std.proofs.Common.{refl}
use Rattle.dq_bring.proofs.Moves.{bringing-asked, phase-asked}
use Rattle.dq_bring.proofs.bringing.Bringing.work.Goals as goal

pub work_on-requires : goal.work_on-requires
work_on-requires g c κs within =
    let b = c.self.inside.bearings in
    let key = rw (← c.self.view_is) at c.requires.key in
    let phase = rw (← c.replace-phase.ensures.value) at (phase-asked _ b.loaded.value b.lane b.flight b.seen.value.entries b.losses c.self.inside.phase c.args.key.now c.args.stood.now.stamp c.self.invariant key) in
    (within.0, (within.1.0, (within.1.1, (phase, (refl {a = c.args.key.now}, (refl {a = c.args.stood.now.stamp}, (rw (← c.self.view_is) at c.requires.stood, (rw (← c.self.view_is) at c.requires.valid, rw (← c.self.view_is) at c.requires.plan))))))))

pub invariant_of-self : goal.invariant_of-self
invariant_of-self g c =
    let b = c.self.inside.bearings in
    let key = rw (← c.self.view_is) at c.requires.key in
    bringing-asked _ b.loaded.value b.lane b.flight b.seen.value.entries b.losses c.self.inside.phase c.work_on.result c.args.key.now c.args.stood.now.stamp c.self.invariant key c.work_on.ensures.phase

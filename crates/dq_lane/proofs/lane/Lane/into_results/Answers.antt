use Rattle.std.proofs.Common.{◌≡◌, true}
use Rattle.std.specs.Arc.{arc_value}
use Rattle.dq_lane.proofs.Final.{dials_are, right_from, right_so_far}
use Rattle.dq_lane.proofs.lane.Lane.into_results.Goals as goal

pub returns-clause-so_far : goal.returns-clause-so_far
returns-clause-so_far g c =
    let i = c.self.inside in
    rw (c.into_closed.ensures, ← c.self.view_is) (right_so_far (arc_value i.loaded) i.number i.seen.value.entries i.course _ _ c.self.invariant)

pub returns-clause-right : goal.returns-clause-right
returns-clause-right g c =
    let i = c.self.inside in
    rw (c.into_closed.ensures, ← c.self.view_is) (right_from (arc_value i.loaded) i.number i.seen.value.entries i.course _ _ c.self.invariant)

pub returns-clause-dials : goal.returns-clause-dials
returns-clause-dials g c =
    let i = c.self.inside in
    rw (← c.self.view_is) (dials_are (arc_value i.loaded) i.number i.seen.value.entries i.course _ _ c.self.invariant)

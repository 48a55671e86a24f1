use Rattle.std.specs.Arc.{arc_value}
use Rattle.dq_lane.specs.Courses.{HasPrepared}
use Rattle.dq_lane.proofs.Worked.{can_end, ended_lane, prepared_lane, work_view, worked_lane}
use Rattle.dq_lane.proofs.lane.Lane.work.Goals as goal

pub end-requires : goal.end-requires
end-requires g c =
    let i = c.self.inside in
    let l = arc_value i.loaded in
    can_end l i.number i.seen.value.entries c.fly.new.self _ _
    (worked_lane l i.number i.seen.value.entries i.course c.fly.new.self _ _ _ _ c.self.invariant c.fly.ensures.worked c.fly.ensures.dials c.fly.ensures.plan)

pub invariant_of-self : goal.invariant_of-self
invariant_of-self g c =
    let i = c.self.inside in
    let l = arc_value i.loaded in
    let has : HasPrepared l i.number c.end.new.self c.prepare.new.self = rw c.deref.ensures at c.prepare.ensures in
    let flown = worked_lane l i.number i.seen.value.entries i.course c.fly.new.self _ _ _ _ c.self.invariant c.fly.ensures.worked c.fly.ensures.dials c.fly.ensures.plan in
    prepared_lane l i.number i.seen.value.entries c.end.new.self c.prepare.new.self _ _ (ended_lane l i.number i.seen.value.entries c.fly.new.self c.end.new.self _ _ flown c.end.ensures) has

pub returns : goal.returns
returns g c =
    let i = c.self.inside in
    let l = arc_value i.loaded in
    let has : HasPrepared l i.number c.end.new.self c.prepare.new.self = rw c.deref.ensures at c.prepare.ensures in
    let flown = worked_lane l i.number i.seen.value.entries i.course c.fly.new.self _ _ _ _ c.self.invariant c.fly.ensures.worked c.fly.ensures.dials c.fly.ensures.plan in
    rw (← c.self.view_is) (work_view l i.number i.seen.value.entries i.course c.fly.new.self c.end.new.self c.prepare.new.self _ _ flown c.fly.ensures.worked c.end.ensures has)

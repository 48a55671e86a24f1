use Rattle.std.proofs.Common.{arith, ◌≡◌, ◌≤◌, length, ap, refl}
use Rattle.std.specs.Arc.{arc_value}
use Rattle.dq_desk.proofs.Events.{published-few}
use Rattle.dq_desk.proofs.Publishes.{CanRefresh-desk, IsDesk-publish, publish-within}
use Rattle.dq_desk.proofs.desk.Desk.publish.Goals as goal

pub refresh_by_step-requires : goal.refresh_by_step-requires
refresh_by_step-requires g c =
    rw (c.deref.ensures, c.as_slice.ensures.value) (CanRefresh-desk _ _ _ _ c.self.invariant c.args.lane c.args.step (rw (← c.self.view_is) at c.requires))

pub overflow_add-self : goal.overflow_add-self
overflow_add-self g c =
    omega (
      arith,
      published-few _ _ _ _ c.self.invariant,
      c.in-Some.ensures,
      c.len-place.ensures.len,
      c.len-place.ensures.room,
      c.in_ok-reserve.ensures.ok,
      ap length c.in_ok-reserve.ensures.entries,
    )

pub index_mut-requires : goal.index_mut-requires
index_mut-requires g c =
    let fresh = rw (c.deref.ensures, c.as_slice.ensures.value) at c.in_ok-source.ensures in
    let within = publish-within _ _ _ _ c.self.invariant c.args.lane c.args.step c.in_ok-source.field-0.source (arc_value c.in_ok-source.field-0.extract) fresh in
    omega (arith, within.1, c.self.inside.stamps.ok)

pub index_mut-requires-2 : goal.index_mut-requires-2
index_mut-requires-2 g c =
    let fresh = rw (c.deref.ensures, c.as_slice.ensures.value) at c.in_ok-source.ensures in
    let within = publish-within _ _ _ _ c.self.invariant c.args.lane c.args.step c.in_ok-source.field-0.source (arc_value c.in_ok-source.field-0.extract) fresh in
    omega (arith, within.0, c.as_slice.ensures.len)

pub invariant_of-self-2 : goal.invariant_of-self-2
invariant_of-self-2 g c =
    let i = c.self.inside in
    let may = rw (← c.self.view_is) at c.requires in
    let fresh = rw (c.deref.ensures, c.as_slice.ensures.value) at c.in_ok-source.ensures in
    let fits : i.owed ≤ c.push.new.self.spare = omega (arith, c.push.ensures.room, c.in_ok-reserve.ensures.ok, c.in-Some.ensures) in
    let entries = rw c.in_ok-reserve.ensures.entries at c.push.ensures.entries in
    rw c.new.ensures
    (IsDesk-publish _ _ _ _ c.self.invariant c.args.lane c.args.step c.in_ok-source.field-0.source (arc_value c.in_ok-source.field-0.extract) c.push.new.self.entries _ may fresh entries
    fits refl refl refl refl refl c.drop_source.ensures.entries c.drop_source.ensures.bound c.drop_source-2.ensures.entries c.drop_source-2.ensures.bound refl refl refl refl refl)

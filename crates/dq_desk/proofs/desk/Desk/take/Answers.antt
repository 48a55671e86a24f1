use Rattle.std.proofs.Common.{◌∙◌, ◌+◌, arith, refl}
use Rattle.dq_desk.proofs.Takes.{IsDesk-fallen, IsDesk-landed, IsDesk-look, fallen-above, first-join, has-landed, is-fallen, is-running, looks-fallen, looks-landed, looks-running, some-joiners, started-few, waits-at}
use Rattle.dq_desk.proofs.desk.Desk.take.Goals as goal

pub take-requires : goal.take-requires
take-requires g c =
    some-joiners _ _ _ _ c.self.invariant c.args.lane c.args.flight (waits-at _ _ _ _ c.self.invariant c.args.lane c.args.flight (rw (← c.self.view_is) at c.requires))

pub invariant_of-self : goal.invariant_of-self
invariant_of-self g c =
    let q = waits-at _ _ _ _ c.self.invariant c.args.lane c.args.flight (rw (← c.self.view_is) at c.requires) in
    let is = is-running _ _ _ _ c.self.invariant c.args.lane c.args.flight q c.in-Running.ensures.look in
    IsDesk-look _ _ _ _ c.self.invariant c.args.lane c.args.flight q _ is c.in-Running.ensures.flights c.in-Running.ensures.room

pub returns-in-Running-clause-looks : goal.returns-in-Running-clause-looks
returns-in-Running-clause-looks g c =
    let q = waits-at _ _ _ _ c.self.invariant c.args.lane c.args.flight (rw (← c.self.view_is) at c.requires) in
    let is = is-running _ _ _ _ c.self.invariant c.args.lane c.args.flight q c.in-Running.ensures.look in
    rw (← c.self.view_is) (looks-running _ _ _ _ c.self.invariant c.args.lane c.args.flight q is)

pub invariant_of-self-in-Landed : goal.invariant_of-self-in-Landed
invariant_of-self-in-Landed g c =
    let q = waits-at _ _ _ _ c.self.invariant c.args.lane c.args.flight (rw (← c.self.view_is) at c.requires) in
    let is = has-landed _ _ _ _ c.self.invariant c.args.lane c.args.flight q c.in-Landed.share c.in-Landed.ensures.look in
    IsDesk-landed _ _ _ _ c.self.invariant c.args.lane c.args.flight _ q is.rows _ _ _ is.is c.in-Landed.ensures.flights c.in-Landed.ensures.room c.take_first-join.ensures.left
    c.push.ensures.room c.push.ensures.entries

pub returns-in-Landed-clause-looks : goal.returns-in-Landed-clause-looks
returns-in-Landed-clause-looks g c =
    let q = waits-at _ _ _ _ c.self.invariant c.args.lane c.args.flight (rw (← c.self.view_is) at c.requires) in
    let is = has-landed _ _ _ _ c.self.invariant c.args.lane c.args.flight q c.in-Landed.share c.in-Landed.ensures.look in
    rw (← c.self.view_is) (looks-landed _ _ _ _ c.self.invariant c.args.lane c.args.flight q c.in-Landed.share is)

pub overflow_add-number : goal.overflow_add-number
overflow_add-number g c = let few = started-few _ _ _ _ c.self.invariant in omega (arith, few)

pub start-requires-clause-above : goal.start-requires-clause-above
start-requires-clause-above g c =
    let q = waits-at _ _ _ _ c.self.invariant c.args.lane c.args.flight (rw (← c.self.view_is) at c.requires) in
    let is = is-fallen _ _ _ _ c.self.invariant c.args.lane c.args.flight q c.in-Fallen.ensures.look in
    fallen-above _ _ _ _ c.self.invariant c.args.lane c.args.flight (c.self.inside.started + 1) q c.take.new.self is refl c.in-Fallen.ensures.flights

pub invariant_of-self-in-Fallen : goal.invariant_of-self-in-Fallen
invariant_of-self-in-Fallen g c =
    let q = waits-at _ _ _ _ c.self.invariant c.args.lane c.args.flight (rw (← c.self.view_is) at c.requires) in
    let is = is-fallen _ _ _ _ c.self.invariant c.args.lane c.args.flight q c.in-Fallen.ensures.look in
    let this = c.join.view_is ∙ first-join _ _ _ _ c.self.invariant c.args.lane c.args.flight q c.in-Some.join c.in-Some.ensures.first in
    IsDesk-fallen _ _ _ _ c.self.invariant c.args.lane c.args.flight (c.self.inside.started + 1) _ q _ _ _ _ _ is refl this (rw c.deref.ensures at c.is_sized_key.ensures)
    c.in-Fallen.ensures.flights c.in-Fallen.ensures.room c.start.ensures.flights c.start.ensures.room c.take_first.ensures.left
    c.push-in-Fallen.ensures.room c.push-in-Fallen.ensures.entries

pub returns-in-Fallen-clause-looks : goal.returns-in-Fallen-clause-looks
returns-in-Fallen-clause-looks g c =
    let q = waits-at _ _ _ _ c.self.invariant c.args.lane c.args.flight (rw (← c.self.view_is) at c.requires) in
    let is = is-fallen _ _ _ _ c.self.invariant c.args.lane c.args.flight q c.in-Fallen.ensures.look in
    rw (← c.self.view_is) (looks-fallen _ _ _ _ c.self.invariant c.args.lane c.args.flight (c.self.inside.started + 1) q is refl)

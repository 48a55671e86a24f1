use Rattle.std.proofs.Common.{◌≡◌, ◌≤◌, ◌∙◌, [], length, map, replicate, refl}
use Rattle.std.specs.Arc.{arc_value}
use Rattle.dq_extract.specs.Loads.{IsLoaded}
use Rattle.dq_machine.specs.Refreshing.{no_stand}
use Rattle.dq_desk.proofs.Kept.{IsDesk-new}
use Rattle.dq_desk.proofs.desk.Desk.new.Goals as goal

pub invariant_of-result : goal.invariant_of-result
invariant_of-result g c =
    let l = arc_value c.args.loaded in
    let loaded : IsLoaded l = rw c.deref.ensures at c.script.ensures.loaded in
    let lanes : c.len-owed.result ≡ length l.script.lanes = rw (c.script.ensures.script, c.deref.ensures) at c.len-owed.ensures in
    rw (c.in_ok-reserve.ensures.entries, c.new-journal.ensures) (IsDesk-new _ l _ (record {
      lanes = lanes;
      entries = c.in_ok-reserve.ensures.ok;
      published = refl;
      stamps = rw (c.len.ensures, c.script-2.ensures.script, c.deref-2.ensures) at c.in_ok-stamps.ensures;
      stands = rw (c.script-3.ensures.script, c.deref-3.ensures) at c.in_ok-stands.ensures;
      joins = rw lanes at c.in_ok-joins.ensures;
      clever = rw (c.script-4.ensures.script, c.deref-4.ensures) at c.in_ok-clever.ensures;
      literal = rw (c.script-5.ensures.script, c.deref-5.ensures) at c.in_ok-literal.ensures;
      flights = c.in_ok-reserve-2.ensures.flights ∙ c.new-flights.ensures.flights;
      flights_room = c.in_ok-reserve-2.ensures.ok;
      started = refl;
      idle = c.in_ok-reserve-4.ensures.items ∙ c.new-idle.ensures;
      idle_room = c.in_ok-reserve-4.ensures.ok;
      fresh = refl;
      wrecks = c.in_ok-reserve-3.ensures.items ∙ c.new-wrecks.ensures;
      wrecks_room = c.in_ok-reserve-3.ensures.ok;
    }) loaded)

-- What a turn leaves of what a lane keeps.
use Rattle.std.proofs.Common.{◌≡◌, ℕ, ◌+◌, ◌<◌, ◌≤◌, ◌^◌, Bool, true, false, List, length, Option, None, Some, refl, sym, ◌∙◌, arith}
use Rattle.dq_base.specs.Scripts.{is_lane}
use Rattle.dq_base.specs.declared.script.Fails.{Fails}
use Rattle.dq_batch.specs.Turns.{IsTurned}
use Rattle.dq_batch.specs.Views.{BatchOf}
use Rattle.dq_batch.specs.declared.open.Turned.{Turned}
use Rattle.dq_batch.specs.declared.open.Turned.TheVariants as turned
use Rattle.dq_extract.specs.Loads.{LoadedFiles}
use Rattle.dq_fates.specs.GoingOn.{GoesOn}
use Rattle.dq_journal.specs.declared.entry.Entry.{Entry}
use Rattle.dq_laws.specs.Lengths.{most_entries_of_journal}
use Rattle.dq_machine.proofs.Reached.{reached-works}
use Rattle.dq_machine.specs.Machine.{after, legal}
use Rattle.dq_machine.specs.State.{work_of}
use Rattle.dq_fates.proofs.GoingOn.{work_stays}
use Rattle.dq_lane.specs.Courses.{CanSettle, GoesOnAs, HasGoneOn, HasNoBatch, IsShut, StandsAt, settled}
use Rattle.dq_lane.specs.Events.{CanBegin, IsEvent}
use Rattle.dq_lane.specs.Kept.{IsLane}
use Rattle.dq_lane.specs.Turns.{IsTurn}
use Rattle.dq_lane.specs.View.{lane_view}
use Rattle.dq_lane.specs.declared.course.Course.{Course}
use Rattle.dq_lane.specs.declared.event.Event.{Event}
use Rattle.dq_lane.specs.declared.event.Event.TheVariants as event
use Rattle.dq_lane.specs.declared.lane.Stepped.TheVariants.{Moved}
use Rattle.dq_lane.specs.declared.progress.Progress.TheVariants as progress
use Rattle.dq_lane.proofs.Final.{done_shut}
use Rattle.dq_lane.proofs.Kept.{IsLane-on}
use Rattle.dq_lane.proofs.Limits.{lane_above}
use Rattle.dq_lane.proofs.Settled.{can_settle, free, settled_lane, turn_of}
use Rattle.dq_lane.proofs.Worked.{moved_lane, waits_lane}

-- what is settled takes the progress from the event
settled_from : {L : Type 0} (c : Course L) (e : Event L) → settled (record c { progress = progress.Fresh }) e ≡ settled c e
settled_from c event.Refused = refl
settled_from c (event.Published place) = refl
settled_from c (event.Admitted b) = refl
settled_from c event.Ended = refl

settles_from : {L : Type 0} (c : Course L) (e : Event L) → CanSettle c e → CanSettle (record c { progress = progress.Fresh }) e
settles_from c event.Refused h = h
settles_from c (event.Published place) h = h
settles_from c (event.Admitted b) h = h
settles_from c event.Ended h = h

module _ {L : Type 0} (l : LoadedFiles) (lane : ℕ) (seen old : List Entry) (c : Course L) (faults : ℕ) (plan : Option Fails) (h : IsLane l lane seen c faults plan)
    (on : GoesOn lane seen old) (lawful : legal l old ≡ true) (few : length old ≤ most_entries_of_journal) where
  -- its end stands, or not
  pub ended_at : (work_of (after l old) lane).ended ≡ c.done
  ended_at =
      let w = work_stays l lane seen old lawful (lane_above (length l.script.lanes) lane h.is_lane) on in
      rw w h.told.ended

  -- it had ended before
  pub done_step : c.done ≡ true → IsLane l lane old c faults plan
  done_step done = IsLane-on l lane seen old c faults plan h (done_shut l lane seen c.taken c.progress (rw done at h.progress)) on lawful few

  -- the batch under way had its turn
  gone_step : (new : List Entry) (d : Course L) (t : Turned) → HasGoneOn c old d new t → length new ≤ most_entries_of_journal → IsLane l lane new d faults plan
  gone_step new d turned.Moved g short =
      rw g.is (moved_lane l lane seen c g.before g.behind faults plan h g.was old new on lawful g.turned g.stands short)
  gone_step new d (turned.Waits flight) g short =
      rw g.is (waits_lane l lane seen c g.before g.behind faults plan h g.was old new on lawful flight g.turned short)

  pub open_step : (new : List Entry) (d : Course L) (t : Turned) → GoesOnAs c old d new (Some t) → length new ≤ most_entries_of_journal → IsLane l lane new d faults plan
  open_step new d t g short = gone_step new d t g short

  -- there is none
  module _ (shut : IsShut c.progress) (going : c.done ≡ false) where
    here : IsLane l lane old c faults plan
    here = IsLane-on l lane seen old c faults plan h shut on lawful few

    pub can_begin : CanBegin l lane (c.taken + 1) (after l old)
    can_begin = record {
      known = rw (reached-works l (after l old) (record { journal = old; legal = lawful; after = refl })) h.is_lane;
      free = free l lane old c faults plan here shut going;
      above = omega (arith, here.last);
    }

    pub event_settles : (new : List Entry) (e : Event L) → IsEvent l lane (c.taken + 1) old new e → CanSettle (record c { progress = progress.Fresh }) e
    event_settles new e ev = settles_from c e (can_settle l lane old c faults plan here shut going new e ev)

    pub event_step : (new : List Entry) (e : Event L) → IsEvent l lane (c.taken + 1) old new e → legal l new ≡ true → length new ≤ most_entries_of_journal
        → IsLane l lane new (settled (record c { progress = progress.Fresh }) e) faults plan
    event_step new e ev later short = rw (settled_from c e) (settled_lane l lane old c faults plan here shut going new later short e ev)

    pub event_turn : (new : List Entry) (e : Event L) → IsEvent l lane (c.taken + 1) old new e → legal l new ≡ true → length new ≤ most_entries_of_journal
        → IsTurn Moved (lane_view l lane seen c) (lane_view l lane new (settled (record c { progress = progress.Fresh }) e)) old new
    event_turn new e ev later short = rw (settled_from c e) (turn_of l lane old c faults plan here shut going new later short seen e ev)

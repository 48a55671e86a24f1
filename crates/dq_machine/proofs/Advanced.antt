-- The parts after an entry.
use Rattle.std.proofs.Common.{◌≡◌, ℕ, ◌<◌, ◌≤◌, true, false, List, length, map, replicate, refl, arith}
use Rattle.std.proofs.lemmas.Bool.Decides.{nat_tests}
use Rattle.std.specs.Prelude.{nat_lt, nat_le}
use Rattle.dq_base.specs.Scripts.{is_lane}
use Rattle.dq_base.specs.Versions.{Version}
use Rattle.dq_extract.specs.Loads.{LoadedFiles}
use Rattle.dq_journal.specs.Journals.{lane_of}
use Rattle.dq_journal.specs.declared.entry.Entry.{Entry}
use Rattle.dq_machine.proofs.Reached.{IsReached-next, IsReached-start, and_both, and_first, and_second}
use Rattle.dq_machine.proofs.Standing.{AreStanding-start}
use Rattle.dq_machine.specs.Machine.{allowed, may, next}
use Rattle.dq_machine.specs.Parts.{AreParts, PartsOf, Takes}
use Rattle.dq_machine.specs.Refreshing.{no_stand}
use Rattle.dq_machine.specs.State.{Work, no_work, start, work_of}

pub lane_above : (count lane : ℕ) → is_lane count lane ≡ true → 0 < lane
lane_above count lane known = let above : nat_lt 0 lane ≡ true = and_first (nat_lt 0 lane) (nat_le lane count) known in grind (arith, nat_tests)

pub lane_within : (count lane : ℕ) → is_lane count lane ≡ true → lane ≤ count
lane_within count lane known = let within : nat_le lane count ≡ true = and_second (nat_lt 0 lane) (nat_le lane count) known in grind (arith, nat_tests)

pub allowed-taken : (l : LoadedFiles) (old new : PartsOf) (e : Entry) → is_lane (length old.state.works) (lane_of e) ≡ true → Takes l old new e → allowed l old.state e ≡ true
allowed-taken l old new e known t = and_both (is_lane (length old.state.works) (lane_of e)) (may l old.state (work_of old.state (lane_of e)) e) known t.may

pub barred-taken : (l : LoadedFiles) (old : PartsOf) (e : Entry) → is_lane (length old.state.works) (lane_of e) ≡ true
    → may l old.state (work_of old.state (lane_of e)) e ≡ false → allowed l old.state e ≡ false
barred-taken l old e known not_may = rw (known, not_may) refl

pub AreParts-next : (l : LoadedFiles) (old new : PartsOf) (e : Entry) → AreParts l old → is_lane (length old.state.works) (lane_of e) ≡ true → Takes l old new e → AreParts l new
AreParts-next l old new e h known t = record {
  reached = rw t.next (IsReached-next l old.state e h.reached (allowed-taken l old new e known t));
  standing = t.standing;
}

pub AreParts-start : (l : LoadedFiles) (works : List Work) (stands : List Version) → works ≡ replicate (length l.script.lanes) no_work → stands ≡ map no_stand l.script.schemas
    → AreParts l (record { state = record (start l) { works = works }; stands = stands })
AreParts-start l works stands works_are stands_are =
    rw (works_are, stands_are) (record { reached = IsReached-start l; standing = AreStanding-start l.script.schemas })

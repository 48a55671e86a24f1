-- As long as some lane hasn't ended, some lane that hasn't doesn't wait.
use Rattle.std.proofs.Common.{◌≡◌, ℕ, ◌-◌, ◌<◌, ◌≤◌, Bool, true, false, ◌&&◌, List, [], ◌∷◌, length, refl, arith}
use Rattle.std.proofs.lemmas.Bool.Decides.{nat_tests}
use Rattle.std.specs.Prelude.{Option, Some, None, nat_lt, nat_le}
use Rattle.dq_base.specs.Scripts.{is_lane}
use Rattle.dq_extract.specs.Loads.{LoadedFiles}
use Rattle.dq_journal.specs.declared.entry.Entry.{Entry}
use Rattle.dq_machine.proofs.Reached.{and_both, and_second, reached-works}
use Rattle.dq_machine.specs.Machine.{IsReached, after, legal}
use Rattle.dq_machine.specs.State.{Flown, Joined, State, Work, flight_at, is_numbered, none_left, work_of}
use Rattle.dq_machine.specs.Taking.{waits, waits_at, waits_for}
use Rattle.dq_laws.specs.Going.{SomeGoesOn}
use Rattle.dq_laws.proofs.Each.{each-found}
use Rattle.dq_laws.proofs.Owned.{Among, IsDone, IsHeld, IsOwned, Owns, IsOwned-reached}

pub legal_reached : (l : LoadedFiles) (journal : List Entry) → legal l journal ≡ true → IsReached l (after l journal)
legal_reached l journal h = record { journal = journal; legal = h; after = refl }

pub lane_there : (lanes lane : ℕ) → 0 < lane → lane ≤ lanes → is_lane lanes lane ≡ true
lane_there lanes lane above within =
    let first : nat_lt 0 lane ≡ true = grind (arith, nat_tests) in
    let second : nat_le lane lanes ≡ true = grind (arith, nat_tests) in
    and_both (nat_lt 0 lane) (nat_le lane lanes) first second

some_left : (own : List ℕ) (n : ℕ) → Among n own → none_left own ≡ false
some_left [] n a = absurd a
some_left (m ∷ own) n a = refl

first_false : (a b : Bool) → a ≡ false → (a && b) ≡ false
first_false true b h = cc
first_false false b h = refl

owner_unended : (w : Work) (n : ℕ) (b : Bool) → IsDone w → Among n w.own → w.ended ≡ b → w.ended ≡ false
owner_unended w n true done a e = let none = done.own e in let no : ⊥ = rw none at a in absurd no
owner_unended w n false done a e = e

module _ (l : LoadedFiles) (s : State) (r : IsReached l s) (h : IsOwned s.works s.flights.started s.flights.flown) where
  by_owner : (lane number : ℕ) → Owns s.works lane number → SomeGoesOn l s
  by_owner lane number o = record {
    lane = lane;
    within = lane_there (length l.script.lanes) lane o.above (omega (arith, o.within, reached-works l s r));
    unended = owner_unended (work_of s lane) number (work_of s lane).ended (h.done (lane - 1)) o.among refl;
    goes = first_false (none_left (work_of s lane).own) (waits_at s (work_of s lane).joins) (some_left (work_of s lane).own number o.among);
  }

  by_flight : (number : ℕ) (o : Option Flown) → flight_at s number ≡ o → waits_for o ≡ true → SomeGoesOn l s
  by_flight number None at waiting = let no : ⊥ = cc in absurd no
  by_flight number (Some f) at waiting = by_owner f.lane f.number (each-found (IsHeld s.works) (is_numbered number) s.flights.flown f at h.held waiting)

  by_joins : (joins : List Joined) → waits_at s joins ≡ true → SomeGoesOn l s
  by_joins [] waiting = let no : ⊥ = cc in absurd no
  by_joins (j ∷ joins) waiting = by_flight j.flight (flight_at s j.flight) refl waiting

  by_lane : (lane : ℕ) (b : Bool) → is_lane (length l.script.lanes) lane ≡ true → (work_of s lane).ended ≡ false → waits s (work_of s lane) ≡ b → SomeGoesOn l s
  by_lane lane true within unended waiting = by_joins (work_of s lane).joins (and_second (none_left (work_of s lane).own) (waits_at s (work_of s lane).joins) waiting)
  by_lane lane false within unended goes = record { lane = lane; within = within; unended = unended; goes = goes }

pub some_goes : (l : LoadedFiles) (journal : List Entry) (lane : ℕ) → legal l journal ≡ true → is_lane (length l.script.lanes) lane ≡ true
    → (work_of (after l journal) lane).ended ≡ false → SomeGoesOn l (after l journal)
some_goes l journal lane legal within unended =
    let r = legal_reached l journal legal in
    by_lane l (after l journal) r (IsOwned-reached l (after l journal) r) lane (waits (after l journal) (work_of (after l journal) lane)) within unended refl

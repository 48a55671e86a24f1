-- Flights that no lane brings any more.
use Rattle.std.specs.Prelude.{◌≡◌, ℕ, ◌≤◌, Bool, false, nat_eq}
use Rattle.std.specs.List.{list_any}
use Rattle.dq_journal.specs.declared.entry.Entry.{Entry}
use Rattle.dq_journal.specs.declared.entry.Entry.TheVariants.{Publish, Admit, Lease, Give, Lose, Land, Fall, Take, End}
use Rattle.dq_machine.specs.State.{State, work_of}

-- the entry is a step on the way of this flight, which some lane brings
abbrev pub brings : ℕ → Entry → Bool
brings flight (Publish lane step) = false
brings flight (Admit lane step met) = false
brings flight (Lease lane f link fresh) = nat_eq f flight
brings flight (Give lane f link ran runs calls) = nat_eq f flight
brings flight (Lose lane f link dialled ran runs calls) = nat_eq f flight
brings flight (Land lane f cells clever literal) = nat_eq f flight
brings flight (Fall lane f cause) = nat_eq f flight
brings flight (Take lane f next) = false
brings flight (End lane) = false

-- the flight was started, and is none of those that some lane still has to bring
pub record IsOver (s : State) (flight : ℕ) : Type 0 where
  pub started : flight ≤ s.flights.started
  pub left : (lane : ℕ) → list_any (nat_eq flight) (work_of s lane).own ≡ false

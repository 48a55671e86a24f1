-- What is known of a flight that its lane brings, and what its links depend on.
use Rattle.std.proofs.Common.{◌≡◌, ℕ, Bool, true, false, ◌&&◌, List, length, refl, sym, ◌∙◌}
use Rattle.std.specs.Prelude.{Option, Some, None}
use Rattle.dq_base.specs.Scripts.{is_lane}
use Rattle.dq_base.specs.Spelling.{Bytes}
use Rattle.dq_base.specs.declared.query.Query.{Query}
use Rattle.dq_extract.specs.Loads.{LoadedFiles}
use Rattle.dq_journal.specs.declared.entry.Entry.{Entry}
use Rattle.dq_laws.proofs.Goes.{legal_reached}
use Rattle.dq_link.specs.Mirrors.{Mirror, readied}
use Rattle.dq_machine.proofs.Reached.{and_both, reached-works}
use Rattle.dq_machine.specs.Admitting.{taking_off}
use Rattle.dq_machine.specs.Leasing.{mirror_for, reach}
use Rattle.dq_machine.specs.Machine.{after}
use Rattle.dq_machine.specs.State.{Flown, LinkOf, State, is_first, work_of}
use Rattle.dq_trial.specs.Links.{LinkTells, MirrorAs, RanAs}
use Rattle.dq_bring.specs.Flights.{IsBringing, KeyAt}
use Rattle.dq_bring.specs.declared.phase.Phase.{Phase}

-- what a link's calls are depends on the flight's key and stamp alone

abbrev pub asking : ℕ → Query → Flown
asking stamp key = taking_off 0 0 stamp key

module _ (key : Query) (stamp : ℕ) where
  pub reach_so : (k : LinkOf) (o : Option Flown) → KeyAt o key stamp → reach k o ≡ reach k (Some (asking stamp key))
  reach_so k None at = absurd at
  reach_so k (Some f) at = rw (at.0, at.1) refl

  mirror_same : (m : Mirror) (o : Option Flown) → KeyAt o key stamp → mirror_for m o ≡ readied m stamp key
  mirror_same m None at = absurd at
  mirror_same m (Some f) at = rw (at.0, at.1) refl

  pub mirror_so : (ran : Bool) (mirror : Mirror) (k : LinkOf) (o : Option Flown) → KeyAt o key stamp → MirrorAs ran mirror k (Some (asking stamp key)) → MirrorAs ran mirror k o
  mirror_so false mirror k o at h = tt
  mirror_so true mirror k o at h = λ sure. h sure ∙ sym (mirror_same k.mirror o at)

  pub text_so : (ran : Bool) (mirror : Mirror) (last : Option Bytes) (o : Option Flown) → KeyAt o key stamp → RanAs ran mirror last (Some (asking stamp key)) → RanAs ran mirror last o
  text_so false mirror last o at h = tt
  text_so true mirror last None at h = absurd at
  text_so true mirror last (Some f) at h = rw (at.0, at.1) h

-- the lane is there

module _ {L : Type 0} (tells : LinkTells L) (l : LoadedFiles) (lane flight losses : ℕ) (journal : List Entry) (p : Phase L) (h : IsBringing tells l lane flight losses journal p) where
  abbrev s : State
  s = after l journal

  pub lane_there : is_lane (length s.works) lane ≡ true
  lane_there = rw (reached-works l s (legal_reached l journal h.legal)) h.there

  -- an entry of the flight may come if its own row allows it
  pub flight_may : (row : Bool) → row ≡ true → (is_lane (length s.works) lane && (is_first (work_of s lane).own flight && row)) ≡ true
  flight_may row is =
      and_both (is_lane (length s.works) lane) (is_first (work_of s lane).own flight && row) lane_there (and_both (is_first (work_of s lane).own flight) row h.first is)

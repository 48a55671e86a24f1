-- How flights end, and what is left of them.
use Rattle.std.specs.Prelude.{◌≡◌, ℕ, ◌≤◌, List, [], ◌∷◌, Some}
use Rattle.dq_journal.specs.declared.entry.Cause.{Cause}
use Rattle.dq_journal.specs.declared.entry.Cause.TheVariants as cause
use Rattle.dq_journal.specs.declared.entry.Entry.{Entry}
use Rattle.dq_journal.specs.declared.entry.Entry.TheVariants.{Publish, Admit, Lease, Give, Lose, Land, Fall, Take, End}
use Rattle.dq_laws.specs.Settled.{IsOver}
use Rattle.dq_machine.specs.Owning.{Fate, Answered, Failed, Wanting, fate, losses_of}
use Rattle.dq_machine.specs.State.{Phase, New, Leased, Given, State}

-- a lane whose link was given back has a first own flight, which lost one link before at most
abbrev pub GaveFew : List Entry → Phase → List ℕ → Type 0
GaveFew journal (New losses) own = Unit {0}
GaveFew journal (Leased losses fresh k) own = Unit {0}
GaveFew journal (Given ran) [] = ⊥
GaveFew journal (Given ran) (f ∷ own) = losses_of journal f ≤ 1

-- what becomes of a flight that falls
abbrev pub fate_fallen : Cause → Fate
fate_fallen cause.BackEnd = Failed
fate_fallen cause.Memory = Wanting

-- what has become of a flight, where the entry ends it
abbrev pub EndsAsTold : List Entry → Entry → Type 0
EndsAsTold journal (Publish lane step) = Unit {0}
EndsAsTold journal (Admit lane step met) = Unit {0}
EndsAsTold journal (Lease lane flight link fresh) = Unit {0}
EndsAsTold journal (Give lane flight link ran runs calls) = Unit {0}
EndsAsTold journal (Lose lane flight link dialled ran runs calls) = Unit {0}
EndsAsTold journal (Land lane flight cells clever literal) = fate journal (Some flight) ≡ Answered
EndsAsTold journal (Fall lane flight cause) = fate journal (Some flight) ≡ fate_fallen cause
EndsAsTold journal (Take lane flight next) = Unit {0}
EndsAsTold journal (End lane) = Unit {0}

-- the flight is over, where the entry ends it
abbrev pub EndsOver : State → Entry → Type 0
EndsOver s (Publish lane step) = Unit {0}
EndsOver s (Admit lane step met) = Unit {0}
EndsOver s (Lease lane flight link fresh) = Unit {0}
EndsOver s (Give lane flight link ran runs calls) = Unit {0}
EndsOver s (Lose lane flight link dialled ran runs calls) = Unit {0}
EndsOver s (Land lane flight cells clever literal) = IsOver s flight
EndsOver s (Fall lane flight cause) = IsOver s flight
EndsOver s (Take lane flight next) = Unit {0}
EndsOver s (End lane) = Unit {0}

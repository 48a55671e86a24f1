-- What was brought for each remote query of a batch, as the journal has it.
use Rattle.std.specs.Prelude.{◌≡◌, ℕ, true, nat_eq, List, [], ◌∷◌, ◌++◌, drop, Option, Some, None}
use Rattle.std.specs.List.{list_any}
use Rattle.std.specs.Arc.{arc_value}
use Rattle.dq_base.specs.Answers.{answer}
use Rattle.dq_base.specs.Covering.{covers}
use Rattle.dq_base.specs.declared.query.Query.{Query}
use Rattle.dq_journal.specs.declared.entry.Met.{Met}
use Rattle.dq_journal.specs.declared.entry.Met.TheVariants as meet
use Rattle.dq_journal.specs.declared.entry.Entry.{Entry}
use Rattle.dq_laws.specs.Settled.{IsOver}
use Rattle.dq_machine.specs.Owning.{Fate, Answered, Failed, Wanting, fate}
use Rattle.dq_machine.specs.Publishing.{rows_in, stamp_in}
use Rattle.dq_machine.specs.State.{Flown, Joined, Publication, State, flight_at, work_of}
use Rattle.dq_zones.specs.declared.fetch.Fetch.{Fetch}
use Rattle.dq_zones.specs.declared.fetch.Fetch.TheVariants as fetch

-- the flight is there, its key covers the query, and it has the stamp that stood of the query's source
abbrev pub CoversAt : List Publication → Query → Option Flown → Type 0
CoversAt versions q None = ⊥
CoversAt versions q (Some f) = (covers f.key q ≡ true) × (f.stamp ≡ stamp_in versions q.source)

-- the back end didn't fail twice
abbrev pub HasNotFailed : Fate → Type 0
HasNotFailed Answered = Unit {0}
HasNotFailed Failed = ⊥
HasNotFailed Wanting = Unit {0}

-- no later entry changes what became of the flight, if there is one
abbrev pub IsSettled : State → Option ℕ → Type 0
IsSettled s None = Unit {0}
IsSettled s (Some flight) = IsOver s flight

-- behind a journal that leads to this state, of a batch of the lane before whose admission this was published
module _ (journal : List Entry) (s : State) (lane : ℕ) (versions : List Publication) where
  -- of a query that has that own flight, or none, and that doesn't wait
  abbrev pub IsFetch : Option ℕ → Query → Fetch → Type 0
  IsFetch own q (fetch.Waiting flight) = ⊥
  IsFetch own q (fetch.Flying flight) =
      (own ≡ Some flight) × (list_any (nat_eq flight) (work_of s lane).own ≡ true) × CoversAt versions q (flight_at s flight)
  IsFetch own q (fetch.Brought key table) =
      (fate journal own ≡ Answered) × IsSettled s own × (covers (arc_value key) q ≡ true) × (arc_value table ≡ answer (arc_value key) (rows_in versions q.source))
  IsFetch own q fetch.BackEnd = (fate journal own ≡ Failed) × IsSettled s own
  IsFetch own q fetch.Memory = HasNotFailed (fate journal own) × IsSettled s own

  -- of one that waits for that flight
  abbrev pub IsWait : ℕ → Query → Fetch → Type 0
  IsWait flight q (fetch.Waiting number) = (number ≡ flight) × CoversAt versions q (flight_at s flight)
  IsWait flight q (fetch.Flying number) = ⊥
  IsWait flight q (fetch.Brought key table) = ⊥
  IsWait flight q fetch.BackEnd = ⊥
  IsWait flight q fetch.Memory = ⊥

  -- of one that joined a flight: it waits until its Take
  abbrev pub IsJoin : ℕ → List (Option ℕ) → Query → Fetch → Type 0
  IsJoin flight [] q x = IsWait flight q x
  IsJoin flight (own ∷ takes) q x = IsFetch own q x

  -- of each query, by what it met, where the lane's Takes since the admission started these
  abbrev pub AreFetches : List Met → List (Option ℕ) → List Query → List Fetch → Type 0
  AreFetches [] takes [] [] = takes ≡ []
  AreFetches [] takes [] (x ∷ xs) = ⊥
  AreFetches [] takes (q ∷ queries) xs = ⊥
  AreFetches (m ∷ met) takes [] xs = ⊥
  AreFetches (m ∷ met) takes (q ∷ queries) [] = ⊥
  AreFetches (meet.Hit flight ∷ met) takes (q ∷ queries) (x ∷ xs) = IsFetch None q x × AreFetches met takes queries xs
  AreFetches (meet.Literal flight ∷ met) takes (q ∷ queries) (x ∷ xs) = IsFetch None q x × AreFetches met takes queries xs
  AreFetches (meet.Join flight ∷ met) takes (q ∷ queries) (x ∷ xs) = IsJoin flight takes q x × AreFetches met (drop 1 takes) queries xs
  AreFetches (meet.Group flight ∷ met) takes (q ∷ queries) (x ∷ xs) = IsFetch (Some flight) q x × AreFetches met takes queries xs

-- the join of a query that waits
abbrev pub wait_of : List Publication → Query → Fetch → List Joined
wait_of versions q (fetch.Waiting flight) = record { flight = flight; query = q; stamp = stamp_in versions q.source } ∷ []
wait_of versions q (fetch.Flying flight) = []
wait_of versions q (fetch.Brought key table) = []
wait_of versions q fetch.BackEnd = []
wait_of versions q fetch.Memory = []

-- of all that wait, in order
abbrev pub waits_of : List Publication → List Query → List Fetch → List Joined
waits_of versions [] xs = []
waits_of versions (q ∷ queries) [] = []
waits_of versions (q ∷ queries) (x ∷ xs) = wait_of versions q x ++ waits_of versions queries xs

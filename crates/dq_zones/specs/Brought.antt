-- What is brought for the remote queries of a batch.
use Rattle.std.specs.Prelude.{◌≡◌, ℕ, true, List, [], ◌∷◌, Option}
use Rattle.std.specs.Arc.{arc_value}
use Rattle.dq_base.specs.Answers.{answer}
use Rattle.dq_base.specs.Covering.{covers}
use Rattle.dq_base.specs.declared.query.Query.{Query}
use Rattle.dq_journal.specs.Standing.{Rows}
use Rattle.dq_journal.specs.declared.entry.Entry.{Entry}
use Rattle.dq_machine.specs.Owning.{Fate, Answered, Failed, Wanting, fate}
use Rattle.dq_zones.specs.declared.fetch.Fetch.{Fetch}
use Rattle.dq_zones.specs.declared.fetch.Fetch.TheVariants.{Waiting, Flying, Brought, BackEnd, Memory}

-- what may have been brought for a query of that fate: an answer to one that covers it, or a refusal
abbrev pub IsBrought : Fate → Rows → Query → Fetch → Type 0
IsBrought Answered rows q (Waiting flight) = ⊥
IsBrought Answered rows q (Flying flight) = ⊥
IsBrought Answered rows q (Brought key table) = (covers (arc_value key) q ≡ true) × (arc_value table ≡ answer (arc_value key) rows)
IsBrought Answered rows q BackEnd = ⊥
IsBrought Answered rows q Memory = Unit {0}
IsBrought Failed rows q (Waiting flight) = ⊥
IsBrought Failed rows q (Flying flight) = ⊥
IsBrought Failed rows q (Brought key table) = ⊥
IsBrought Failed rows q BackEnd = Unit {0}
IsBrought Failed rows q Memory = ⊥
IsBrought Wanting rows q (Waiting flight) = ⊥
IsBrought Wanting rows q (Flying flight) = ⊥
IsBrought Wanting rows q (Brought key table) = ⊥
IsBrought Wanting rows q BackEnd = ⊥
IsBrought Wanting rows q Memory = Unit {0}

-- one for each remote query, whose own flight, if it has one, is given
abbrev pub AreBrought : (ℕ → Rows) → List Entry → List (Option ℕ) → List Query → List Fetch → Type 0
AreBrought rows journal [] [] [] = Unit {0}
AreBrought rows journal [] [] (f ∷ fetches) = ⊥
AreBrought rows journal [] (q ∷ queries) [] = ⊥
AreBrought rows journal [] (q ∷ queries) (f ∷ fetches) = ⊥
AreBrought rows journal (own ∷ owns) [] [] = ⊥
AreBrought rows journal (own ∷ owns) [] (f ∷ fetches) = ⊥
AreBrought rows journal (own ∷ owns) (q ∷ queries) [] = ⊥
AreBrought rows journal (own ∷ owns) (q ∷ queries) (f ∷ fetches) = IsBrought (fate journal own) (rows q.source) q f × AreBrought rows journal owns queries fetches

-- What the dialers of all lanes have counted and planned.
use Rattle.std.specs.Prelude.{◌≡◌, ℕ, ◌+◌, ◌≤◌, List, [], ◌∷◌, length, Option}
use Rattle.dq_base.specs.declared.script.Fails.{Fails}
use Rattle.dq_bring.specs.Dials.{IsPlanOf}
use Rattle.dq_extract.specs.Loads.{LoadedFiles}
use Rattle.dq_fates.specs.Dials.{lost_dials}
use Rattle.dq_journal.specs.declared.entry.Entry.{Entry}

-- one count of faults for each lane, from this number on to the last: the dials that the journal tells to have failed in the lane are
-- at most as many
abbrev pub AreDialled : LoadedFiles → List Entry → ℕ → List ℕ → Type 0
AreDialled l journal lane [] = lane ≡ length l.script.lanes + 1
AreDialled l journal lane (f ∷ faults) = (lost_dials lane journal ≤ f) × AreDialled l journal (lane + 1) faults

-- one plan for each lane, from this number on to the last: it is what the script wants to fail in the lane, where a dialer tells one
abbrev pub ArePlans : LoadedFiles → ℕ → List (Option Fails) → Type 0
ArePlans l lane [] = lane ≡ length l.script.lanes + 1
ArePlans l lane (p ∷ plans) = IsPlanOf l lane p × ArePlans l (lane + 1) plans

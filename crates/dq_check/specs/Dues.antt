-- What is due to the zones of one step, and how far what is shown of it may be shown so.
use Rattle.std.specs.Prelude.{◌≡◌, ℕ, suc, ◌+◌, ◌<◌, Bool, true, false, List, [], ◌∷◌, length, slice_get, is_some, Option, Some, None, option_and_then, MatchOption, if◌then◌else◌}
use Rattle.std.specs.Option.{option_flatten}
use Rattle.dq_base.specs.Answers.{answer}
use Rattle.dq_base.specs.Headings.{Heading}
use Rattle.dq_base.specs.Scripts.{numbered}
use Rattle.dq_base.specs.Validity.{invalid_by}
use Rattle.dq_base.specs.declared.cell.Cell.{Cell}
use Rattle.dq_base.specs.declared.invalid.Invalid.{Invalid}
use Rattle.dq_base.specs.declared.query.Query.{Query}
use Rattle.dq_journal.specs.Shown.{Joint}
use Rattle.dq_journal.specs.Standing.{Rows}
use Rattle.dq_journal.specs.declared.entry.Entry.{Entry}
use Rattle.dq_journal.specs.declared.result.ZoneResult.{ZoneResult}
use Rattle.dq_machine.specs.Owning.{Fate, Origin, Wanting, fate, no_origin}
use Rattle.dq_machine.specs.Right.{IsLed, IsOutcome}
use Rattle.dq_check.specs.Verdicts.{AreShownTo}

-- why a zone is refused as invalid, if it is; what became of its flight; its answer; the place of the zone from which it is computed, if there is one, from 0
pub record DueOf : Type 0 where
  pub reason : Option Invalid
  pub fate : Fate
  pub want : List (List Cell)
  pub leader : Option ℕ

abbrev pub IsDue : DueOf → ZoneResult → Type 0
IsDue d z = IsOutcome d.reason d.fate d.want z

-- one outcome for each zone, in order
abbrev pub AreEachDue : List DueOf → List ZoneResult → Type 0
AreEachDue [] [] = Unit {0}
AreEachDue [] (z ∷ zs) = ⊥
AreEachDue (d ∷ dues) [] = ⊥
AreEachDue (d ∷ dues) (z ∷ zs) = IsDue d z × AreEachDue dues zs

-- where memory was wanting for a zone, it is wanting for those that are computed from it
abbrev pub AreDueLed : List ZoneResult → List DueOf → List ZoneResult → Type 0
AreDueLed all [] zs = Unit {0}
AreDueLed all (d ∷ dues) [] = Unit {0}
AreDueLed all (d ∷ dues) (z ∷ zs) = IsLed (option_and_then (slice_get all) d.leader) z × AreDueLed all dues zs

pub record AreDue (dues : List DueOf) (outcomes : List ZoneResult) : Type 0 where
  pub each : AreEachDue dues outcomes
  pub led : AreDueLed outcomes dues outcomes

-- what is due to a zone of an admitted batch, over the rows of its source, and to the zones of one, in order
abbrev pub due_of : List Heading → (ℕ → Rows) → List Entry → Query → Origin → DueOf
due_of schemas rows journal q o = record { reason = invalid_by schemas q; fate = fate journal o.own; want = answer q (rows q.source); leader = o.leader }

abbrev pub dues_of : List Heading → (ℕ → Rows) → List Entry → List Query → List Origin → List DueOf
dues_of schemas rows journal [] origins = []
dues_of schemas rows journal (q ∷ zones) [] = due_of schemas rows journal q no_origin ∷ dues_of schemas rows journal zones []
dues_of schemas rows journal (q ∷ zones) (o ∷ origins) = due_of schemas rows journal q o ∷ dues_of schemas rows journal zones origins

-- to a zone of a batch that was refused for memory
abbrev pub refused_due : List Heading → Query → DueOf
refused_due schemas q = record { reason = invalid_by schemas q; fate = Wanting; want = []; leader = None }

-- there are due outcomes of which the first so many are shown
pub record Explained (dues : List DueOf) (at : ℕ → Option Joint) (shown : List ZoneResult) (count : ℕ) : Type 0 where
  pub outcomes : List ZoneResult
  pub due : AreDue dues outcomes
  pub shows : AreShownTo count at 1 None outcomes shown

-- the blend that begins at the zone of that number, where each zone's is given in order
abbrev pub joint_in : List (Option Joint) → ℕ → Option Joint
joint_in joints zone = option_flatten (numbered joints zone)

-- how many outcomes are shown of these, where those of a blend are shown as one; its first may be behind already
abbrev pub due_count : (ℕ → Option Joint) → ℕ → Bool → List DueOf → ℕ
due_count at zone false [] = 0
due_count at zone true [] = 1
due_count at zone true (d ∷ dues) = suc (due_count at (zone + 1) false dues)
due_count at zone false (d ∷ dues) = if is_some (at zone) then due_count at (zone + 1) true dues else suc (due_count at (zone + 1) false dues)

-- a valid zone of the same fate, which has no such zone itself
abbrev pub IsLeader : DueOf → Option DueOf → Type 0
IsLeader d None = ⊥
IsLeader d (Some e) = (d.reason ≡ None) × (e.reason ≡ None) × (e.fate ≡ d.fate) × (e.leader ≡ None)

abbrev pub HasLeader : List DueOf → DueOf → Type 0
HasLeader all d = MatchOption d.leader (Unit {0}) (λ place. IsLeader d (slice_get all place))

abbrev pub HaveLeaders : List DueOf → List DueOf → Type 0
HaveLeaders all [] = Unit {0}
HaveLeaders all (d ∷ dues) = HasLeader all d × HaveLeaders all dues

-- all that is shown is explained; or the outcome at this place, from 0, is the first that isn't
abbrev pub IsFirstUnexplained : List DueOf → (ℕ → Option Joint) → List ZoneResult → Option ℕ → Type 0
IsFirstUnexplained dues at shown None = Explained dues at shown (length shown)
IsFirstUnexplained dues at shown (Some place) =
    (place < length shown) × Explained dues at shown place × (Explained dues at shown (suc place) → ⊥)

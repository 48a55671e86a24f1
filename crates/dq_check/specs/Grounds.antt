-- What a verdict on zones stands on.
use Rattle.std.specs.Prelude.{◌≡◌, ℕ, zero, suc, ◌+◌, ◌<◌, Bool, true, false, List, [], ◌∷◌, length, nat_eq, is_some, Option, Some, None, if◌then◌else◌}
use Rattle.dq_base.specs.declared.query.Query.{Query}
use Rattle.dq_base.specs.declared.script.Step.{Step}
use Rattle.dq_extract.specs.Loads.{LoadedFiles}
use Rattle.dq_journal.specs.Shown.{Joint}
use Rattle.dq_journal.specs.declared.entry.Entry.{Entry}
use Rattle.dq_journal.specs.declared.result.StepResult.{StepResult}
use Rattle.dq_journal.specs.declared.result.ZoneResult.{ZoneResult}
use Rattle.dq_shown.specs.Showing.{LeadFrom}
use Rattle.dq_check.specs.AllExplained.{AreLanesExplained}
use Rattle.dq_check.specs.Dues.{DueOf, Explained, joint_in}
use Rattle.dq_check.specs.Losses.{AreLosses}
use Rattle.dq_check.specs.declared.grounds.Grounds.{Grounds}
use Rattle.dq_check.specs.Verdicts.{AreExplained, IsExplained, IsWrongLane, IsWrongStep, IsWrongZone}
use Rattle.dq_check.specs.Walks.{IsLegalWalk}

-- where a legal journal leads, what became of its flights, and where the script's blends begin
pub record AreGrounds (l : LoadedFiles) (journal : List Entry) (g : Grounds) : Type 0 where
  pub walk : IsLegalWalk l journal g.history
  pub losses : AreLosses journal g.losses
  pub starts : LeadFrom 0 l.script.blends g.starts.entries

-- the blends that begin at zones from this one on
abbrev pub joints_over : (ℕ → Option Joint) → ℕ → List Query → List (Option Joint)
joints_over at zone [] = []
joints_over at zone (q ∷ zones) = at zone ∷ joints_over at (zone + 1) zones

-- how many outcomes are shown of so many zones, where those of a blend are shown as one; its first may be behind already
abbrev pub joined_count : Bool → List (Option Joint) → ℕ
joined_count false [] = 0
joined_count true [] = 1
joined_count true (j ∷ joints) = suc (joined_count false joints)
joined_count false (j ∷ joints) = if is_some j then joined_count true joints else suc (joined_count false joints)

-- all that is shown of zones may be shown; or another number is shown; or the outcome of that number, from 1, is the first that may not
abbrev pub IsWrongAmong : List (Option Joint) → List DueOf → List ZoneResult → Option ℕ → Type 0
IsWrongAmong joints dues shown None = (nat_eq (length shown) (joined_count false joints) ≡ true) × Explained dues (joint_in joints) shown (length shown)
IsWrongAmong joints dues shown (Some zero) = nat_eq (length shown) (joined_count false joints) ≡ false
IsWrongAmong joints dues shown (Some (suc before)) =
    (nat_eq (length shown) (joined_count false joints) ≡ true)
    × (before < length shown) × Explained dues (joint_in joints) shown before × (Explained dues (joint_in joints) shown (suc before) → ⊥)

-- the step is explained, or the zone of that number is the first of it that is wrong
abbrev pub JudgesStep : LoadedFiles → List Entry → ℕ → ℕ → Step → StepResult → Option ℕ → Type 0
JudgesStep l journal lane number s shown None = IsExplained l journal lane number s shown
JudgesStep l journal lane number s shown (Some zone) = IsWrongZone l journal lane number s shown zone

-- the lane's steps are explained, or that zone of that step is the first that is wrong
abbrev pub JudgesSteps : LoadedFiles → List Entry → ℕ → List Step → List StepResult → Option (ℕ × ℕ) → Type 0
JudgesSteps l journal lane steps shown None = AreExplained l journal lane 1 steps shown
JudgesSteps l journal lane steps shown (Some p) = IsWrongStep l journal lane 1 steps shown p.0 p.1

-- all lanes' steps are explained, or that zone of that step of that lane is the first that is wrong
abbrev pub JudgesLanes : LoadedFiles → List Entry → List (List Step) → List (List StepResult) → Option (ℕ × ℕ × ℕ) → Type 0
JudgesLanes l journal lanes shown None = AreLanesExplained l journal 1 lanes shown
JudgesLanes l journal lanes shown (Some p) = IsWrongLane l journal 1 lanes shown p.0 p.1 p.2

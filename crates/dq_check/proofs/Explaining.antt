-- The outcomes that explain what is shown of a step are those that are due to its zones.
use Rattle.std.proofs.Common.{◌≡◌, ℕ, zero, suc, ◌+◌, ◌<◌, Bool, true, false, List, [], ◌∷◌, length, map, refl, sym, ap, ◌∙◌, subst, arith}
use Rattle.std.specs.Prelude.{Option, Some, None, MatchOption, is_some, if◌then◌else◌}
use Rattle.dq_base.specs.declared.query.Query.{Query}
use Rattle.dq_base.specs.declared.script.Step.TheVariants as step
use Rattle.dq_extract.specs.Loads.{LoadedFiles}
use Rattle.dq_journal.specs.Shown.{FirstIs, IsBlend, IsSame, Joint, joint_at}
use Rattle.dq_journal.specs.Standing.{stand}
use Rattle.dq_journal.specs.declared.entry.Entry.{Entry}
use Rattle.dq_journal.specs.declared.result.ZoneResult.{ZoneResult}
use Rattle.dq_journal.specs.declared.result.StepResult.TheVariants.{Admitted, Unadmitted}
use Rattle.dq_machine.specs.Owning.{origins, met_in, started_behind}
use Rattle.dq_check.specs.Dues.{AreEachDue, DueOf, Explained, due_count, dues_of, refused_due}
use Rattle.dq_check.specs.Verdicts.{AreShownTo, Explains, shown_count}
use Rattle.dq_check.proofs.DuesMade.{due_outcomes, due_refused, outcomes_due, refused_due_are}

-- the same blends begin at as many zones, from this one on
abbrev pub BeginAlike : {X : Type 0} → (ℕ → Option Joint) → (ℕ → Option Joint) → ℕ → List X → Type 0
BeginAlike at there zone [] = Unit {0}
BeginAlike at there zone (x ∷ xs) = (at zone ≡ there zone) × BeginAlike at there (zone + 1) xs

first_along : (Is : ZoneResult → Type 0) (Rest Other : List ZoneResult → Type 0) (shown : List ZoneResult) → ((ws : List ZoneResult) → Rest ws → Other ws) → FirstIs Is Rest shown → FirstIs Is Other shown
first_along Is Rest Other [] along is = is
first_along Is Rest Other (w ∷ ws) along is = (is.0, along ws is.1)

shown_along : (at there : ℕ → Option Joint) (n zone : ℕ) (pending : Option (Joint × ZoneResult)) (zs shown : List ZoneResult)
    → BeginAlike at there zone zs → AreShownTo n at zone pending zs shown → AreShownTo n there zone pending zs shown
shown_along at there zero zone pending zs shown alike is = tt
shown_along at there (suc n) zone None [] shown alike is = is
shown_along at there (suc n) zone None (z ∷ zs) shown alike is =
    let By : Option Joint → Type 0 = λ o.
    MatchOption o (FirstIs (IsSame z) (AreShownTo n there (zone + 1) None zs) shown) (λ j. AreShownTo (suc n) there (zone + 1) (Some (j, z)) zs shown) in
    subst By alike.0 (by_start at there n zone z zs shown (at zone) (λ ws more. shown_along at there n (zone + 1) None zs ws alike.1 more)
    (λ j more. shown_along at there (suc n) (zone + 1) (Some (j, z)) zs shown alike.1 more) is)
  where
    by_start : (at there : ℕ → Option Joint) (n zone : ℕ) (z : ZoneResult) (zs shown : List ZoneResult) (o : Option Joint)
        → ((ws : List ZoneResult) → AreShownTo n at (zone + 1) None zs ws → AreShownTo n there (zone + 1) None zs ws)
        → ((j : Joint) → AreShownTo (suc n) at (zone + 1) (Some (j, z)) zs shown → AreShownTo (suc n) there (zone + 1) (Some (j, z)) zs shown)
        → MatchOption o (FirstIs (IsSame z) (AreShownTo n at (zone + 1) None zs) shown) (λ j. AreShownTo (suc n) at (zone + 1) (Some (j, z)) zs shown)
        → MatchOption o (FirstIs (IsSame z) (AreShownTo n there (zone + 1) None zs) shown) (λ j. AreShownTo (suc n) there (zone + 1) (Some (j, z)) zs shown)
    by_start at there n zone z zs shown None one begun is = first_along (IsSame z) (AreShownTo n at (zone + 1) None zs) (AreShownTo n there (zone + 1) None zs) shown one is
    by_start at there n zone z zs shown (Some j) one begun is = begun j is
shown_along at there (suc n) zone (Some p) [] shown alike is = is
shown_along at there (suc n) zone (Some p) (z ∷ zs) shown alike is =
    first_along (IsBlend p.0 p.1 z) (AreShownTo n at (zone + 1) None zs) (AreShownTo n there (zone + 1) None zs) shown
    (λ ws more. shown_along at there n (zone + 1) None zs ws alike.1 more) is

alike_each : (at there : ℕ → Option Joint) (zone : ℕ) (dues : List DueOf) (zs : List ZoneResult) → AreEachDue dues zs → BeginAlike at there zone dues → BeginAlike at there zone zs
alike_each at there zone [] [] due alike = tt
alike_each at there zone [] (z ∷ zs) due alike = absurd due
alike_each at there zone (d ∷ dues) [] due alike = tt
alike_each at there zone (d ∷ dues) (z ∷ zs) due alike = (alike.0, alike_each at there (zone + 1) dues zs due.1 alike.1)

pub explained_along : (at there : ℕ → Option Joint) (dues : List DueOf) (shown : List ZoneResult) (count : ℕ)
    → BeginAlike at there 1 dues → Explained dues at shown count → Explained dues there shown count
explained_along at there dues shown count alike e = record {
  outcomes = e.outcomes;
  due = e.due;
  shows = shown_along at there count 1 None e.outcomes shown (alike_each at there 1 dues e.outcomes e.due.each alike) e.shows;
}

-- as many outcomes are shown of the zones as of what is due to them
less_one : (m n : ℕ) → suc m ≡ suc n → m ≡ n
less_one m n e = omega arith

pub counted : (at : ℕ → Option Joint) (zone : ℕ) (begun : Bool) (dues : List DueOf) (zones : List Query)
    → length dues ≡ length zones → due_count at zone begun dues ≡ shown_count at zone begun zones
counted at zone false [] [] long = refl
counted at zone true [] [] long = refl
counted at zone begun [] (q ∷ zones) long = absurd (omega arith)
counted at zone begun (d ∷ dues) [] long = absurd (omega arith)
counted at zone true (d ∷ dues) (q ∷ zones) long = ap suc (counted at (zone + 1) false dues zones (less_one (length dues) (length zones) long))
counted at zone false (d ∷ dues) (q ∷ zones) long =
    count_by (is_some (at zone)) (due_count at (zone + 1) true dues) (shown_count at (zone + 1) true zones) (due_count at (zone + 1) false dues) (shown_count at (zone + 1) false zones)
    (counted at (zone + 1) true dues zones (less_one (length dues) (length zones) long)) (counted at (zone + 1) false dues zones (less_one (length dues) (length zones) long))
  where
    count_by : (b : Bool) (m n i j : ℕ) → m ≡ n → i ≡ j → (if b then m else suc i) ≡ (if b then n else suc j)
    count_by true m n i j e f = e
    count_by false m n i j e f = ap suc f

-- of an admitted batch

pub explains_admitted : (l : LoadedFiles) (journal : List Entry) (lane number place count : ℕ) (zones : List Query) (told : List ZoneResult)
    → length (origins l.script.schemas journal lane place zones) ≡ length zones
    → Explained (dues_of l.script.schemas (stand l journal place) journal zones (origins l.script.schemas journal lane place zones)) (joint_at l.script lane number) told count
    → Explains l journal lane number (step.Batch zones) (Admitted place told) count
explains_admitted l journal lane number place count zones told long e = record {
  outcomes = e.outcomes;
  right = outcomes_due l.script.schemas (stand l journal place) journal (origins l.script.schemas journal lane place zones) zones e.outcomes long e.due;
  shows = e.shows;
}

pub admitted_explained : (l : LoadedFiles) (journal : List Entry) (lane number place count : ℕ) (zones : List Query) (told : List ZoneResult)
    → Explains l journal lane number (step.Batch zones) (Admitted place told) count
    → Explained (dues_of l.script.schemas (stand l journal place) journal zones (origins l.script.schemas journal lane place zones)) (joint_at l.script lane number) told count
admitted_explained l journal lane number place count zones told e = record {
  outcomes = e.outcomes;
  due = due_outcomes l.script.schemas (stand l journal place) journal (origins l.script.schemas journal lane place zones) zones e.outcomes e.right;
  shows = e.shows;
}

-- of one that was refused for memory

pub explains_refused : (l : LoadedFiles) (journal : List Entry) (lane number count : ℕ) (zones : List Query) (told : List ZoneResult)
    → Explained (map (refused_due l.script.schemas) zones) (joint_at l.script lane number) told count → Explains l journal lane number (step.Batch zones) (Unadmitted told) count
explains_refused l journal lane number count zones told e =
    record { outcomes = e.outcomes; right = refused_due_are l.script.schemas zones e.outcomes e.due; shows = e.shows }

pub refused_explained : (l : LoadedFiles) (journal : List Entry) (lane number count : ℕ) (zones : List Query) (told : List ZoneResult)
    → Explains l journal lane number (step.Batch zones) (Unadmitted told) count → Explained (map (refused_due l.script.schemas) zones) (joint_at l.script lane number) told count
refused_explained l journal lane number count zones told e =
    record { outcomes = e.outcomes; due = due_refused l.script.schemas zones e.outcomes e.right; shows = e.shows }

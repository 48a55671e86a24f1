-- Where each step is explained, there are right results that are shown so.
use Rattle.std.proofs.Common.{◌≡◌, ℕ, zero, suc, ◌+◌, Bool, true, false, ◌&&◌, List, [], ◌∷◌, ◌++◌, length, refl, sym, ap, ◌∙◌, subst, arith}
use Rattle.std.proofs.lemmas.Bool.{eqb-true}
use Rattle.std.specs.Prelude.{Option, Some, None, MatchOption, is_some, nat_eq, if◌then◌else◌}
use Rattle.std.specs.List.{flat_map, list_all}
use Rattle.std.specs.Cmp.Lexicographic.{pointwise}
use Rattle.dq_base.specs.Headings.{Heading}
use Rattle.dq_base.specs.declared.query.Query.{Query}
use Rattle.dq_base.specs.declared.script.Step.{Step}
use Rattle.dq_base.specs.declared.script.Step.TheVariants as step
use Rattle.dq_extract.specs.Loads.{LoadedFiles}
use Rattle.dq_journal.specs.Steps.{AreRefused, done_from, entries_of, step_in, unless_refused}
use Rattle.dq_journal.specs.Shown.{AreLanesShown, AreShown, AreStepsShown, FirstIs, IsBlend, IsSame, IsStepShown, Joint, joint_at}
use Rattle.dq_journal.specs.Standing.{Rows, stand}
use Rattle.dq_journal.specs.declared.entry.Entry.{Entry}
use Rattle.dq_journal.specs.declared.result.ZoneResult.{ZoneResult}
use Rattle.dq_journal.specs.declared.result.StepResult.{StepResult}
use Rattle.dq_journal.specs.declared.result.StepResult.TheVariants.{Published, Unpublished, Admitted, Unadmitted}
use Rattle.dq_machine.specs.Order.{ends_once, is_known, keeps_order, lane_keeps, lanes_keep, tell_places, tells_place}
use Rattle.dq_machine.specs.Owning.{Origin, origins}
use Rattle.dq_machine.specs.Right.{AreEach, AreLanes, AreResults, IsResult}
use Rattle.dq_check.specs.AllExplained.{AreLanesExplained}
use Rattle.dq_check.specs.Verdicts.{AreExplained, AreShownTo, IsExplained, IsRightShown, shown_count, with_outcomes}

first_true : (a b : Bool) → (a && b) ≡ true → a ≡ true
first_true true b e = refl
first_true false b e = cc

second_true : (a b : Bool) → (a && b) ≡ true → b ≡ true
second_true true b e = e
second_true false b e = cc

less_one : (m n : ℕ) → suc m ≡ suc n → m ≡ n
less_one m n e = omega arith

-- batches: what is shown of all outcomes, as many as there are to show, is what is shown

some_begun : (at : ℕ → Option Joint) (zone : ℕ) (zones : List Query) → shown_count at zone true zones ≡ 0 → ⊥
some_begun at zone [] e = omega arith
some_begun at zone (q ∷ zones) e = omega arith

-- what is shown from a zone on, by the blend that begins there
abbrev Given : (o : Option Joint) (at : ℕ → Option Joint) (zone : ℕ) (z : ZoneResult) (zs shown : List ZoneResult) → Type 0
Given o at zone z zs [] = Unit {0}
Given o at zone z zs (w ∷ ws) =
    MatchOption o (FirstIs (IsSame z) (AreShownTo (length ws) at (zone + 1) None zs) (w ∷ ws)) (λ j. AreShownTo (suc (length ws)) at (zone + 1) (Some (j, z)) zs (w ∷ ws))

given : (at : ℕ → Option Joint) (zone : ℕ) (z : ZoneResult) (zs shown : List ZoneResult) → AreShownTo (length shown) at zone None (z ∷ zs) shown → Given (at zone) at zone z zs shown
given at zone z zs [] is = tt
given at zone z zs (w ∷ ws) is = is

by_start : (at : ℕ → Option Joint) (zone : ℕ) (z : ZoneResult) (zs : List ZoneResult) (zones : List Query) (shown : List ZoneResult) (o : Option Joint)
    → (if is_some o then shown_count at (zone + 1) true zones else suc (shown_count at (zone + 1) false zones)) ≡ length shown
    → ((ws : List ZoneResult) → shown_count at (zone + 1) false zones ≡ length ws → AreShownTo (length ws) at (zone + 1) None zs ws → AreShown at (zone + 1) None zs ws)
    → ((j : Joint) → shown_count at (zone + 1) true zones ≡ length shown → AreShownTo (length shown) at (zone + 1) (Some (j, z)) zs shown → AreShown at (zone + 1) (Some (j, z)) zs shown)
    → Given o at zone z zs shown
    → MatchOption o (FirstIs (IsSame z) (AreShown at (zone + 1) None zs) shown) (λ j. AreShown at (zone + 1) (Some (j, z)) zs shown)
by_start at zone z zs zones [] None count one begun is = absurd (omega arith)
by_start at zone z zs zones (w ∷ ws) None count one begun is = (is.0, one ws (less_one (shown_count at (zone + 1) false zones) (length ws) count) is.1)
by_start at zone z zs zones [] (Some j) count one begun is = absurd (some_begun at (zone + 1) zones count)
by_start at zone z zs zones (w ∷ ws) (Some j) count one begun is = begun j count is

all_shown : (at : ℕ → Option Joint) (zone : ℕ) (pending : Option (Joint × ZoneResult)) (zs : List ZoneResult) (zones : List Query) (shown : List ZoneResult)
    → length zs ≡ length zones → shown_count at zone (is_some pending) zones ≡ length shown → AreShownTo (length shown) at zone pending zs shown → AreShown at zone pending zs shown
all_shown at zone pending [] (q ∷ zones) shown long count is = absurd (omega arith)
all_shown at zone pending (z ∷ zs) [] shown long count is = absurd (omega arith)
all_shown at zone None [] [] [] long count is = refl
all_shown at zone None [] [] (w ∷ ws) long count is = absurd (omega arith)
all_shown at zone None (z ∷ zs) (q ∷ zones) shown long count is =
    by_start at zone z zs zones shown (at zone) count
    (λ ws rest more. all_shown at (zone + 1) None zs zones ws (less_one (length zs) (length zones) long) rest more)
    (λ j rest more. all_shown at (zone + 1) (Some (j, z)) zs zones shown (less_one (length zs) (length zones) long) rest more) (given at zone z zs shown is)
all_shown at zone (Some p) [] [] [] long count is = absurd (omega arith)
all_shown at zone (Some p) [] [] (w ∷ []) long count is = (is.0, refl)
all_shown at zone (Some p) [] [] (w ∷ v ∷ ws) long count is = absurd (omega arith)
all_shown at zone (Some p) (z ∷ zs) (q ∷ zones) [] long count is = absurd (omega arith)
all_shown at zone (Some p) (z ∷ zs) (q ∷ zones) (w ∷ ws) long count is =
    (is.0, all_shown at (zone + 1) None zs zones ws (less_one (length zs) (length zones) long) (less_one (shown_count at (zone + 1) false zones) (length ws) count) is.1)

long_each : (schemas : List Heading) (rows : ℕ → Rows) (journal : List Entry) (os : List Origin) (zones : List Query) (zs : List ZoneResult)
    → AreEach schemas rows journal os zones zs → length zs ≡ length zones
long_each schemas rows journal os [] [] each = refl
long_each schemas rows journal os [] (z ∷ zs) each = absurd each
long_each schemas rows journal os (q ∷ zones) [] each = absurd each
long_each schemas rows journal [] (q ∷ zones) (z ∷ zs) each = absurd each
long_each schemas rows journal (o ∷ os) (q ∷ zones) (z ∷ zs) each = ap suc (long_each schemas rows journal os zones zs each.1)

long_refused : (schemas : List Heading) (zones : List Query) (zs : List ZoneResult) → AreRefused schemas zones zs → length zs ≡ length zones
long_refused schemas [] [] are = refl
long_refused schemas [] (z ∷ zs) are = absurd are
long_refused schemas (q ∷ zones) [] are = absurd are
long_refused schemas (q ∷ zones) (z ∷ zs) are = ap suc (long_refused schemas zones zs are.1)

-- steps

-- a right result of the step, in the place of what is shown of it
record StepFound (l : LoadedFiles) (journal : List Entry) (lane number : ℕ) (s : Step) (r : StepResult) : Type 0 where
  result : StepResult
  right : IsResult l journal lane s result
  shows : IsStepShown (joint_at l.script lane number) result r
  tells : tells_place journal lane number s result ≡ tells_place journal lane number s r
  done : unless_refused number result ≡ unless_refused number r

step_found : (l : LoadedFiles) (journal : List Entry) (lane number : ℕ) (s : Step) (r : StepResult) → IsExplained l journal lane number s r → StepFound l journal lane number s r
step_found l journal lane number (step.Publish source how file) (Published place) e = record { result = Published place; right = tt; shows = refl; tells = refl; done = refl }
step_found l journal lane number (step.Publish source how file) Unpublished e = record { result = Unpublished; right = tt; shows = tt; tells = refl; done = refl }
step_found l journal lane number (step.Publish source how file) (Admitted place shown) e = absurd e.whole.right
step_found l journal lane number (step.Publish source how file) (Unadmitted shown) e = absurd e.whole.right
step_found l journal lane number (step.Batch zones) (Published place) e = absurd e.whole.right
step_found l journal lane number (step.Batch zones) Unpublished e = absurd e.whole.right
step_found l journal lane number (step.Batch zones) (Admitted place shown) e =
    let at = joint_at l.script lane number in
    record {
      result = Admitted place e.whole.outcomes;
      right = e.whole.right;
      shows = (
        refl,
        all_shown at 1 None e.whole.outcomes zones shown
            (long_each l.script.schemas (stand l journal place) journal (origins l.script.schemas journal lane place zones) zones e.whole.outcomes e.whole.right.each)
            (sym (eqb-true (length shown) (shown_count at 1 false zones) e.count)) e.whole.shows,
      );
      tells = refl;
      done = refl;
    }
step_found l journal lane number (step.Batch zones) (Unadmitted shown) e =
    let at = joint_at l.script lane number in
    record {
      result = Unadmitted e.whole.outcomes;
      right = e.whole.right;
      shows = all_shown at 1 None e.whole.outcomes zones shown (long_refused l.script.schemas zones e.whole.outcomes e.whole.right)
          (sym (eqb-true (length shown) (shown_count at 1 false zones) e.count)) e.whole.shows;
      tells = refl;
      done = refl;
    }

-- lanes

record LaneFound (l : LoadedFiles) (journal : List Entry) (lane number : ℕ) (steps : List Step) (rs : List StepResult) : Type 0 where
  results : List StepResult
  right : AreResults l journal lane steps results
  shows : AreStepsShown (joint_at l.script lane) number results rs
  tells : tell_places journal lane number steps results ≡ tell_places journal lane number steps rs
  done : done_from number results ≡ done_from number rs

lane_found : (l : LoadedFiles) (journal : List Entry) (lane number : ℕ) (steps : List Step) (rs : List StepResult)
    → tell_places journal lane number steps rs ≡ true → AreExplained l journal lane number steps rs → LaneFound l journal lane number steps rs
lane_found l journal lane number [] [] tell are = record { results = []; right = tt; shows = refl; tells = refl; done = refl }
lane_found l journal lane number [] (r ∷ rs) tell are = cc
lane_found l journal lane number (s ∷ steps) [] tell are = cc
lane_found l journal lane number (s ∷ steps) (r ∷ rs) tell are =
    let one = step_found l journal lane number s r are.0 in
    let more = lane_found l journal lane (number + 1) steps rs (second_true (tells_place journal lane number s r) (tell_places journal lane (number + 1) steps rs) tell) are.1 in
    let First : Bool → Bool = λ b. b && tell_places journal lane (number + 1) steps more.results in
    let Second : Bool → Bool = λ b. tells_place journal lane number s r && b in
    let Here : List ℕ → List ℕ = λ ns. ns ++ done_from (number + 1) more.results in
    let Later : List ℕ → List ℕ = λ ns. unless_refused number r ++ ns in
    record {
      results = one.result ∷ more.results;
      right = (one.right, more.right);
      shows = (one.shows, more.shows);
      tells = ap First one.tells ∙ ap Second more.tells;
      done = ap Here one.done ∙ ap Later more.done;
    }

record LanesFound (l : LoadedFiles) (journal : List Entry) (lane : ℕ) (lanes : List (List Step)) (shown : List (List StepResult)) : Type 0 where
  results : List (List StepResult)
  right : AreLanes l journal lane lanes results
  shows : AreLanesShown (joint_at l.script) lane results shown
  keeps : lanes_keep journal lane lanes results ≡ lanes_keep journal lane lanes shown

lanes_found : (l : LoadedFiles) (journal : List Entry) (lane : ℕ) (lanes : List (List Step)) (shown : List (List StepResult))
    → lanes_keep journal lane lanes shown ≡ true → AreLanesExplained l journal lane lanes shown → LanesFound l journal lane lanes shown
lanes_found l journal lane [] [] keep are = record { results = []; right = tt; shows = refl; keeps = refl }
lanes_found l journal lane [] (rs ∷ shown) keep are = cc
lanes_found l journal lane (steps ∷ lanes) [] keep are = cc
lanes_found l journal lane (steps ∷ lanes) (rs ∷ shown) keep are =
    let own = first_true (lane_keeps journal lane steps rs) (lanes_keep journal (lane + 1) lanes shown) keep in
    let Same : List StepResult → Bool = λ r. pointwise nat_eq (flat_map step_in (entries_of lane journal)) (done_from 1 r) in
    let ends = ends_once (entries_of lane journal) in
    let tell = first_true (tell_places journal lane 1 steps rs) (Same rs) (first_true (tell_places journal lane 1 steps rs && Same rs) ends own) in
    let one = lane_found l journal lane 1 steps rs tell are.0 in
    let more = lanes_found l journal (lane + 1) lanes shown (second_true (lane_keeps journal lane steps rs) (lanes_keep journal (lane + 1) lanes shown) keep) are.1 in
    let Keeps : Bool → Bool = λ b. lane_keeps journal lane steps one.results && b in
    let Told : Bool → Bool = λ b. b && Same one.results && ends in
    let Done : List ℕ → Bool = λ ns. tell_places journal lane 1 steps rs && pointwise nat_eq (flat_map step_in (entries_of lane journal)) ns && ends in
    let Own : Bool → Bool = λ b. b && lanes_keep journal (lane + 1) lanes shown in
    let same : lane_keeps journal lane steps one.results ≡ lane_keeps journal lane steps rs = ap Told one.tells ∙ ap Done one.done in
    record {
      results = one.results ∷ more.results;
      right = (one.right, more.right);
      shows = (one.shows, more.shows);
      keeps = ap Keeps more.keeps ∙ ap Own same;
    }

-- all of it
pub right_shown : (l : LoadedFiles) (journal : List Entry) (shown : List (List StepResult))
    → keeps_order l journal shown ≡ true → AreLanesExplained l journal 1 l.script.lanes shown → IsRightShown l journal shown
right_shown l journal shown keep are =
    let known = list_all (is_known l.script.lanes) journal in
    let found = lanes_found l journal 1 l.script.lanes shown (first_true (lanes_keep journal 1 l.script.lanes shown) known keep) are in
    let Known : Bool → Bool = λ b. b && known in
    record {
      results = found.results;
      right = record { order = ap Known found.keeps ∙ keep; zones = found.right };
      shows = found.shows;
    }

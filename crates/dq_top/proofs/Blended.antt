-- Where nothing that is shown wants memory, some outcome that is shown is refused exactly where some result is.
use Rattle.std.proofs.Common.{◌≡◌, ℕ, ◌+◌, Bool, true, false, ◌||◌, List, [], ◌∷◌, refl, sym, ap, ◌∙◌}
use Rattle.std.specs.Prelude.{Option, Some, None, MatchOption}
use Rattle.std.specs.List.{list_any}
use Rattle.dq_base.specs.declared.cell.Cell.{Cell}
use Rattle.dq_extract.specs.Loads.{LoadedFiles}
use Rattle.dq_journal.specs.Shown.{AreLanesShown, AreRows, AreShown, AreStepsShown, FirstIs, IsBlend, IsSame, IsStepShown, Joint, Shown, joint_at}
use Rattle.dq_journal.specs.declared.result.ZoneResult.{ZoneResult}
use Rattle.dq_journal.specs.declared.result.ZoneResult.TheVariants.{Rows, Invalid, BackEnd, Memory}
use Rattle.dq_journal.specs.declared.result.StepResult.{StepResult}
use Rattle.dq_journal.specs.declared.result.StepResult.TheVariants.{Published, Unpublished, Admitted, Unadmitted}
use Rattle.dq_top.specs.Outcomes.{any_refused, any_wanting, is_refused, is_wanting, step_refused, step_wanting}

pub first_false : (a b : Bool) → (a || b) ≡ false → a ≡ false
first_false true b e = e
first_false false b e = refl

pub second_false : (a b : Bool) → (a || b) ≡ false → b ≡ false
second_false true b e = cc
second_false false b e = e

or_grouped : (a b c : Bool) → ((a || b) || c) ≡ (a || (b || c))
or_grouped true b c = refl
or_grouped false b c = refl

or_both : (a b c d : Bool) → a ≡ c → b ≡ d → (a || b) ≡ (c || d)
or_both a b c d e f = ap (λ x. x || b) e ∙ ap (λ x. c || x) f

-- outcomes

same_refused : (z w : ZoneResult) → IsSame z w → is_refused w ≡ is_refused z
same_refused (Rows t) (Rows u) is = refl
same_refused (Rows t) (Invalid told) is = absurd is
same_refused (Rows t) BackEnd is = absurd is
same_refused (Rows t) Memory is = absurd is
same_refused (Invalid reason) (Rows u) is = absurd is
same_refused (Invalid reason) (Invalid told) is = refl
same_refused (Invalid reason) BackEnd is = absurd is
same_refused (Invalid reason) Memory is = absurd is
same_refused BackEnd (Rows u) is = absurd is
same_refused BackEnd (Invalid told) is = absurd is
same_refused BackEnd BackEnd is = refl
same_refused BackEnd Memory is = absurd is
same_refused Memory (Rows u) is = absurd is
same_refused Memory (Invalid told) is = absurd is
same_refused Memory BackEnd is = absurd is
same_refused Memory Memory is = refl

memory_wants : (w : ZoneResult) → IsSame Memory w → is_wanting w ≡ true
memory_wants (Rows u) is = absurd is
memory_wants (Invalid told) is = absurd is
memory_wants BackEnd is = absurd is
memory_wants Memory is = refl

no_memory : (w : ZoneResult) → IsSame Memory w → is_wanting w ≡ false → ⊥
no_memory w is calm = let both : true ≡ false = sym (memory_wants w is) ∙ calm in cc

rows_refused : (want : List (List Cell)) (w : ZoneResult) → AreRows want w → is_wanting w ≡ false → is_refused w ≡ false
rows_refused want (Rows table) is calm = refl
rows_refused want (Invalid told) is calm = absurd is
rows_refused want BackEnd is calm = absurd is
rows_refused want Memory is calm = cc

blend_refused : (j : Joint) (y z w : ZoneResult) → IsBlend j y z w → is_wanting w ≡ false → is_refused w ≡ (is_refused y || is_refused z)
blend_refused j (Rows t) (Rows u) w is calm = rows_refused _ w is calm
blend_refused j (Rows t) (Invalid reason) w is calm = same_refused (Invalid reason) w is
blend_refused j (Rows t) BackEnd w is calm = same_refused BackEnd w is
blend_refused j (Rows t) Memory w is calm = absurd (no_memory w is calm)
blend_refused j (Invalid reason) z w is calm = same_refused (Invalid reason) w is
blend_refused j BackEnd z w is calm = same_refused BackEnd w is
blend_refused j Memory z w is calm = absurd (no_memory w is calm)

-- batches

abbrev pending_refused : Option (Joint × ZoneResult) → Bool
pending_refused None = false
pending_refused (Some p) = is_refused p.1

first_refused : (Is : ZoneResult → Type 0) (Rest : List ZoneResult → Type 0) (here there : Bool) (shown : List ZoneResult)
    → ((w : ZoneResult) → Is w → is_wanting w ≡ false → is_refused w ≡ here) → ((ws : List ZoneResult) → Rest ws → list_any is_wanting ws ≡ false → list_any is_refused ws ≡ there)
    → FirstIs Is Rest shown → list_any is_wanting shown ≡ false → list_any is_refused shown ≡ (here || there)
first_refused Is Rest here there [] one more is calm = absurd is
first_refused Is Rest here there (w ∷ ws) one more is calm =
    or_both (is_refused w) (list_any is_refused ws) here there (one w is.0 (first_false (is_wanting w) (list_any is_wanting ws) calm))
    (more ws is.1 (second_false (is_wanting w) (list_any is_wanting ws) calm))

by_start : (o : Option Joint) (z : ZoneResult) (there : Bool) (shown : List ZoneResult) (Rest : List ZoneResult → Type 0) (Begun : Joint → Type 0)
    → ((ws : List ZoneResult) → Rest ws → list_any is_wanting ws ≡ false → list_any is_refused ws ≡ there)
    → ((j : Joint) → Begun j → list_any is_wanting shown ≡ false → list_any is_refused shown ≡ (is_refused z || there))
    → MatchOption o (FirstIs (IsSame z) Rest shown) Begun → list_any is_wanting shown ≡ false → list_any is_refused shown ≡ (is_refused z || there)
by_start None z there shown Rest Begun more begun is calm = first_refused (IsSame z) Rest (is_refused z) there shown (λ w same quiet. same_refused z w same) more is calm
by_start (Some j) z there shown Rest Begun more begun is calm = begun j is calm

none_behind : (ws : List ZoneResult) → ws ≡ [] → list_any is_refused ws ≡ false
none_behind ws e = ap (list_any is_refused) e

zones_refused : (at : ℕ → Option Joint) (zone : ℕ) (pending : Option (Joint × ZoneResult)) (zs shown : List ZoneResult)
    → AreShown at zone pending zs shown → list_any is_wanting shown ≡ false → list_any is_refused shown ≡ (pending_refused pending || list_any is_refused zs)
zones_refused at zone None [] shown is calm = ap (list_any is_refused) is
zones_refused at zone None (z ∷ zs) shown is calm =
    by_start (at zone) z (list_any is_refused zs) shown (AreShown at (zone + 1) None zs) (λ j. AreShown at (zone + 1) (Some (j, z)) zs shown)
    (λ ws more quiet. zones_refused at (zone + 1) None zs ws more quiet) (λ j more quiet. zones_refused at (zone + 1) (Some (j, z)) zs shown more quiet) is calm
zones_refused at zone (Some p) [] shown is calm =
    first_refused (IsSame p.1) (λ ws. ws ≡ []) (is_refused p.1) false shown (λ w same quiet. same_refused p.1 w same) (λ ws none quiet. none_behind ws none) is calm
zones_refused at zone (Some p) (z ∷ zs) shown is calm =
    first_refused (IsBlend p.0 p.1 z) (AreShown at (zone + 1) None zs) (is_refused p.1 || is_refused z) (list_any is_refused zs) shown
    (λ w blend quiet. blend_refused p.0 p.1 z w blend quiet) (λ ws more quiet. zones_refused at (zone + 1) None zs ws more quiet) is calm
    ∙ or_grouped (is_refused p.1) (is_refused z) (list_any is_refused zs)

-- steps and lanes

step_shown : (at : ℕ → Option Joint) (r w : StepResult) → IsStepShown at r w → step_wanting w ≡ false → step_refused w ≡ step_refused r
step_shown at (Published place) (Published told) is calm = refl
step_shown at (Published place) Unpublished is calm = absurd is
step_shown at (Published place) (Admitted told shown) is calm = absurd is
step_shown at (Published place) (Unadmitted shown) is calm = absurd is
step_shown at Unpublished (Published told) is calm = absurd is
step_shown at Unpublished Unpublished is calm = refl
step_shown at Unpublished (Admitted told shown) is calm = absurd is
step_shown at Unpublished (Unadmitted shown) is calm = absurd is
step_shown at (Admitted place outcomes) (Published told) is calm = absurd is
step_shown at (Admitted place outcomes) Unpublished is calm = absurd is
step_shown at (Admitted place outcomes) (Admitted told shown) is calm = zones_refused at 1 None outcomes shown is.1 calm
step_shown at (Admitted place outcomes) (Unadmitted shown) is calm = absurd is
step_shown at (Unadmitted outcomes) (Published told) is calm = absurd is
step_shown at (Unadmitted outcomes) Unpublished is calm = absurd is
step_shown at (Unadmitted outcomes) (Admitted told shown) is calm = absurd is
step_shown at (Unadmitted outcomes) (Unadmitted shown) is calm = cc

steps_shown : (at : ℕ → ℕ → Option Joint) (number : ℕ) (rs shown : List StepResult) → AreStepsShown at number rs shown → list_any step_wanting shown ≡ false
    → list_any step_refused shown ≡ list_any step_refused rs
steps_shown at number [] shown is calm = ap (list_any step_refused) is
steps_shown at number (r ∷ rs) [] is calm = absurd is
steps_shown at number (r ∷ rs) (w ∷ shown) is calm =
    or_both (step_refused w) (list_any step_refused shown) (step_refused r) (list_any step_refused rs)
    (step_shown (at number) r w is.0 (first_false (step_wanting w) (list_any step_wanting shown) calm))
    (steps_shown at (number + 1) rs shown is.1 (second_false (step_wanting w) (list_any step_wanting shown) calm))

lanes_shown : (at : ℕ → ℕ → ℕ → Option Joint) (lane : ℕ) (results shown : List (List StepResult)) → AreLanesShown at lane results shown → any_wanting shown ≡ false
    → any_refused shown ≡ any_refused results
lanes_shown at lane [] shown is calm = ap any_refused is
lanes_shown at lane (rs ∷ results) [] is calm = absurd is
lanes_shown at lane (rs ∷ results) (ws ∷ shown) is calm =
    or_both (list_any step_refused ws) (any_refused shown) (list_any step_refused rs) (any_refused results)
    (steps_shown (at lane) 1 rs ws is.0 (first_false (list_any step_wanting ws) (any_wanting shown) calm))
    (lanes_shown at (lane + 1) results shown is.1 (second_false (list_any step_wanting ws) (any_wanting shown) calm))

pub shown_refused : (l : LoadedFiles) (results shown : List (List StepResult)) → Shown l results shown → any_wanting shown ≡ false → any_refused shown ≡ any_refused results
shown_refused l results shown is calm = lanes_shown (joint_at l.script) 1 results shown is calm

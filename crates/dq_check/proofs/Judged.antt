-- The first step and the first lane of which a zone is wrong.
use Rattle.std.proofs.Common.{◌≡◌, ◌≢◌, ℕ, suc, ◌+◌, ◌-◌, ◌<◌, ◌≤◌, Bool, true, false, ◌&&◌, eqb, List, [], ◌∷◌, length, drop, Some, None, Option, refl, ap, sym, ◌∙◌, subst, arith, inl, inr, ◌⊎◌, slice_index_or, add-one, drop-cons, length-drop}
use Rattle.std.proofs.Math.ListN.{drop_of_length-le}
use Rattle.std.proofs.lemmas.Bool.Decides.{eqb_tells, nat_tests}
use Rattle.std.proofs.lemmas.Option.{slice_get-get_or}
use Rattle.std.specs.Prelude.{nat_eq, MatchBool, if◌then◌else◌, slice_get}
use Rattle.dq_base.specs.Scripts.{numbered}
use Rattle.dq_base.specs.declared.script.Step.{Step}
use Rattle.dq_extract.specs.Loads.{LoadedFiles}
use Rattle.dq_journal.specs.declared.entry.Entry.{Entry}
use Rattle.dq_journal.specs.declared.result.StepResult.{StepResult}
use Rattle.dq_machine.specs.Order.{lane_keeps, lanes_keep, tells_place, tell_places}
use Rattle.dq_check.specs.AllExplained.{AreLanesExplained}
use Rattle.dq_check.specs.Verdicts.{AreExplained, IsExplained, IsWrongLane, IsWrongStep, IsWrongZone}

-- steps

step_above : (l : LoadedFiles) (journal : List Entry) (lane number : ℕ) (steps : List Step) (shown : List StepResult) (wrong zone : ℕ)
    → IsWrongStep l journal lane number steps shown wrong zone → number ≤ wrong
step_above l journal lane number [] shown wrong zone h = absurd h
step_above l journal lane number (s ∷ steps) [] wrong zone h = absurd h
step_above l journal lane number (s ∷ steps) (r ∷ shown) wrong zone h = by (eqb_tells number wrong) (step_above l journal lane (number + 1) steps shown wrong zone)
  where
    by : ((eqb number wrong ≡ true) × (number ≡ wrong)) ⊎ ((eqb number wrong ≡ false) × (number ≢ wrong))
        → (IsWrongStep l journal lane (number + 1) steps shown wrong zone → number + 1 ≤ wrong) → number ≤ wrong
    by (inl (told, same)) above = omega arith
    by (inr (told, apart)) above =
        let later : IsExplained l journal lane number s r × IsWrongStep l journal lane (number + 1) steps shown wrong zone = rw told at h in
        omega (arith, above later.1)

pub step_here : (l : LoadedFiles) (journal : List Entry) (lane number : ℕ) (s : Step) (steps : List Step) (r : StepResult) (shown : List StepResult) (zone : ℕ)
    → IsWrongZone l journal lane number s r zone → IsWrongStep l journal lane number (s ∷ steps) (r ∷ shown) number zone
step_here l journal lane number s steps r shown zone h = by (eqb_tells number number)
  where
    by : ((eqb number number ≡ true) × (number ≡ number)) ⊎ ((eqb number number ≡ false) × (number ≢ number)) → IsWrongStep l journal lane number (s ∷ steps) (r ∷ shown) number zone
    by (inl (told, same)) = rw told h
    by (inr (told, apart)) = absurd (apart refl)

pub step_later : (l : LoadedFiles) (journal : List Entry) (lane number : ℕ) (s : Step) (steps : List Step) (r : StepResult) (shown : List StepResult) (wrong zone : ℕ)
    → IsExplained l journal lane number s r → IsWrongStep l journal lane (number + 1) steps shown wrong zone → IsWrongStep l journal lane number (s ∷ steps) (r ∷ shown) wrong zone
step_later l journal lane number s steps r shown wrong zone e h = by (eqb_tells number wrong)
  where
    by : ((eqb number wrong ≡ true) × (number ≡ wrong)) ⊎ ((eqb number wrong ≡ false) × (number ≢ wrong)) → IsWrongStep l journal lane number (s ∷ steps) (r ∷ shown) wrong zone
    by (inl (told, same)) = absurd (omega (arith, step_above l journal lane (number + 1) steps shown wrong zone h))
    by (inr (told, apart)) = rw told (e, h)

-- lanes

lane_above : (l : LoadedFiles) (journal : List Entry) (lane : ℕ) (lanes : List (List Step)) (shown : List (List StepResult)) (wrong step zone : ℕ)
    → IsWrongLane l journal lane lanes shown wrong step zone → lane ≤ wrong
lane_above l journal lane [] shown wrong step zone h = absurd h
lane_above l journal lane (steps ∷ lanes) [] wrong step zone h = absurd h
lane_above l journal lane (steps ∷ lanes) (rs ∷ shown) wrong step zone h = by (eqb_tells lane wrong) (lane_above l journal (lane + 1) lanes shown wrong step zone)
  where
    by : ((eqb lane wrong ≡ true) × (lane ≡ wrong)) ⊎ ((eqb lane wrong ≡ false) × (lane ≢ wrong))
        → (IsWrongLane l journal (lane + 1) lanes shown wrong step zone → lane + 1 ≤ wrong) → lane ≤ wrong
    by (inl (told, same)) above = omega arith
    by (inr (told, apart)) above =
        let later : AreExplained l journal lane 1 steps rs × IsWrongLane l journal (lane + 1) lanes shown wrong step zone = rw told at h in
        omega (arith, above later.1)

pub lane_here : (l : LoadedFiles) (journal : List Entry) (lane : ℕ) (steps : List Step) (lanes : List (List Step)) (rs : List StepResult) (shown : List (List StepResult)) (step zone : ℕ)
    → IsWrongStep l journal lane 1 steps rs step zone → IsWrongLane l journal lane (steps ∷ lanes) (rs ∷ shown) lane step zone
lane_here l journal lane steps lanes rs shown step zone h = by (eqb_tells lane lane)
  where
    by : ((eqb lane lane ≡ true) × (lane ≡ lane)) ⊎ ((eqb lane lane ≡ false) × (lane ≢ lane)) → IsWrongLane l journal lane (steps ∷ lanes) (rs ∷ shown) lane step zone
    by (inl (told, same)) = rw told h
    by (inr (told, apart)) = absurd (apart refl)

pub lane_later : (l : LoadedFiles) (journal : List Entry) (lane : ℕ) (steps : List Step) (lanes : List (List Step)) (rs : List StepResult) (shown : List (List StepResult)) (wrong step zone : ℕ)
    → AreExplained l journal lane 1 steps rs → IsWrongLane l journal (lane + 1) lanes shown wrong step zone → IsWrongLane l journal lane (steps ∷ lanes) (rs ∷ shown) wrong step zone
lane_later l journal lane steps lanes rs shown wrong step zone e h = by (eqb_tells lane wrong)
  where
    by : ((eqb lane wrong ≡ true) × (lane ≡ wrong)) ⊎ ((eqb lane wrong ≡ false) × (lane ≢ wrong)) → IsWrongLane l journal lane (steps ∷ lanes) (rs ∷ shown) wrong step zone
    by (inl (told, same)) = absurd (omega (arith, lane_above l journal (lane + 1) lanes shown wrong step zone h))
    by (inr (told, apart)) = rw told (e, h)

-- items

both : (a b : Bool) → (a && b) ≡ true → (a ≡ true) × (b ≡ true)
both true b h = (refl, h)
both false b h = cc

-- the items from a place on
drop_item : {X : Type 0} (xs : List X) (place : ℕ) (x : X) → place < length xs → x ≡ slice_index_or xs place x → drop place xs ≡ x ∷ drop (place + 1) xs
drop_item xs place x h e = rw add-one (drop-cons xs place x h ∙ ap (λ y. y ∷ drop (suc place) xs) (sym e))

-- an item by its number
pub numbered_item : {X : Type 0} (xs : List X) (place : ℕ) (x : X) → place < length xs → x ≡ slice_index_or xs place x → numbered xs (place + 1) ≡ Some x
numbered_item xs place x h e =
    let off : nat_eq (place + 1) 0 ≡ false = grind (arith, nat_tests) in
    let back : place + 1 - 1 ≡ place = omega arith in
    ap (λ b. if b then None else slice_get xs (place + 1 - 1)) off ∙ ap (slice_get xs) back ∙ slice_get-get_or xs place x h ∙ ap Some (sym e)

even_places : (journal : List Entry) (lane number : ℕ) (steps : List Step) (told : List StepResult) → tell_places journal lane number steps told ≡ true → length steps ≡ length told
even_places journal lane number [] [] h = refl
even_places journal lane number [] (r ∷ told) h = cc
even_places journal lane number (s ∷ steps) [] h = cc
even_places journal lane number (s ∷ steps) (r ∷ told) h =
    ap suc (even_places journal lane (number + 1) steps told (both (tells_place journal lane number s r) (tell_places journal lane (number + 1) steps told) h).1)

even_lanes : (journal : List Entry) (lane : ℕ) (lanes : List (List Step)) (told : List (List StepResult)) → lanes_keep journal lane lanes told ≡ true → length lanes ≡ length told
even_lanes journal lane [] [] h = refl
even_lanes journal lane [] (r ∷ told) h = cc
even_lanes journal lane (s ∷ lanes) [] h = cc
even_lanes journal lane (s ∷ lanes) (r ∷ told) h =
    ap suc (even_lanes journal (lane + 1) lanes told (both (lane_keeps journal lane s r) (lanes_keep journal (lane + 1) lanes told) h).1)

-- a lane, of which the steps before a place are explained

pub record StepsLeft (l : LoadedFiles) (journal : List Entry) (lane : ℕ) (steps : List Step) (shown : List StepResult) (place : ℕ) : Type 0 where
  pub told : tell_places journal lane (place + 1) (drop place steps) (drop place shown) ≡ true
  pub wrong : (number zone : ℕ) → IsWrongStep l journal lane (place + 1) (drop place steps) (drop place shown) number zone → IsWrongStep l journal lane 1 steps shown number zone
  pub fine : AreExplained l journal lane (place + 1) (drop place steps) (drop place shown) → AreExplained l journal lane 1 steps shown

pub steps_start : (l : LoadedFiles) (journal : List Entry) (lane : ℕ) (steps : List Step) (shown : List StepResult) → tell_places journal lane 1 steps shown ≡ true → StepsLeft l journal lane steps shown 0
steps_start l journal lane steps shown h = record { told = h; wrong = λ number zone w. w; fine = λ e. e }

pub steps_within : (l : LoadedFiles) (journal : List Entry) (lane : ℕ) (steps : List Step) (shown : List StepResult) (place : ℕ)
    → StepsLeft l journal lane steps shown place → place < length steps → place < length shown
steps_within l journal lane steps shown place k h =
    omega (arith, even_places journal lane (place + 1) (drop place steps) (drop place shown) k.told, length-drop place steps, length-drop place shown)

module _ (l : LoadedFiles) (journal : List Entry) (lane : ℕ) (steps : List Step) (shown : List StepResult) (place : ℕ) (s : Step) (r : StepResult)
    (k : StepsLeft l journal lane steps shown place) (h : place < length steps) (si : s ≡ slice_index_or steps place s) (ri : r ≡ slice_index_or shown place r) where
  steps_are : drop place steps ≡ s ∷ drop (place + 1) steps
  steps_are = drop_item steps place s h si

  shown_are : drop place shown ≡ r ∷ drop (place + 1) shown
  shown_are = drop_item shown place r (steps_within l journal lane steps shown place k h) ri

  told_both : (tells_place journal lane (place + 1) s r && tell_places journal lane (place + 1 + 1) (drop (place + 1) steps) (drop (place + 1) shown)) ≡ true
  told_both = ap (λ rs. tell_places journal lane (place + 1) (s ∷ drop (place + 1) steps) rs) (sym shown_are)
      ∙ ap (λ ss. tell_places journal lane (place + 1) ss (drop place shown)) (sym steps_are) ∙ k.told

  pub told_here : tells_place journal lane (place + 1) s r ≡ true
  told_here = (both (tells_place journal lane (place + 1) s r) (tell_places journal lane (place + 1 + 1) (drop (place + 1) steps) (drop (place + 1) shown)) told_both).0

  back_wrong : (number zone : ℕ) → IsWrongStep l journal lane (place + 1) (s ∷ drop (place + 1) steps) (r ∷ drop (place + 1) shown) number zone → IsWrongStep l journal lane 1 steps shown number zone
  back_wrong number zone w =
      k.wrong number zone (subst (λ ss. IsWrongStep l journal lane (place + 1) ss (drop place shown) number zone) (sym steps_are)
      (subst (λ rs. IsWrongStep l journal lane (place + 1) (s ∷ drop (place + 1) steps) rs number zone) (sym shown_are) w))

  back_fine : AreExplained l journal lane (place + 1) (s ∷ drop (place + 1) steps) (r ∷ drop (place + 1) shown) → AreExplained l journal lane 1 steps shown
  back_fine e =
      k.fine (subst (λ ss. AreExplained l journal lane (place + 1) ss (drop place shown)) (sym steps_are)
      (subst (λ rs. AreExplained l journal lane (place + 1) (s ∷ drop (place + 1) steps) rs) (sym shown_are) e))

  pub step_wrong : (zone : ℕ) → IsWrongZone l journal lane (place + 1) s r zone → IsWrongStep l journal lane 1 steps shown (place + 1) zone
  step_wrong zone w = back_wrong (place + 1) zone (step_here l journal lane (place + 1) s (drop (place + 1) steps) r (drop (place + 1) shown) zone w)

  pub step_fine : IsExplained l journal lane (place + 1) s r → StepsLeft l journal lane steps shown (place + 1)
  step_fine e = record {
    told = (both (tells_place journal lane (place + 1) s r) (tell_places journal lane (place + 1 + 1) (drop (place + 1) steps) (drop (place + 1) shown)) told_both).1;
    wrong = λ number zone w. back_wrong number zone (step_later l journal lane (place + 1) s (drop (place + 1) steps) r (drop (place + 1) shown) number zone e w);
    fine = λ more. back_fine (e, more);
  }

pub steps_end : (l : LoadedFiles) (journal : List Entry) (lane : ℕ) (steps : List Step) (shown : List StepResult) (place : ℕ)
    → StepsLeft l journal lane steps shown place → length steps ≤ place → AreExplained l journal lane 1 steps shown
steps_end l journal lane steps shown place k h =
    k.fine (subst (λ ss. AreExplained l journal lane (place + 1) ss (drop place shown)) (sym (drop_of_length-le steps h)) tt)

-- all lanes, of which those before a place are explained

pub record LanesLeft (l : LoadedFiles) (journal : List Entry) (lanes : List (List Step)) (shown : List (List StepResult)) (place : ℕ) : Type 0 where
  pub told : lanes_keep journal (place + 1) (drop place lanes) (drop place shown) ≡ true
  pub wrong : (lane step zone : ℕ) → IsWrongLane l journal (place + 1) (drop place lanes) (drop place shown) lane step zone → IsWrongLane l journal 1 lanes shown lane step zone
  pub fine : AreLanesExplained l journal (place + 1) (drop place lanes) (drop place shown) → AreLanesExplained l journal 1 lanes shown

pub lanes_start : (l : LoadedFiles) (journal : List Entry) (lanes : List (List Step)) (shown : List (List StepResult)) → lanes_keep journal 1 lanes shown ≡ true → LanesLeft l journal lanes shown 0
lanes_start l journal lanes shown h = record { told = h; wrong = λ lane step zone w. w; fine = λ e. e }

pub lanes_within : (l : LoadedFiles) (journal : List Entry) (lanes : List (List Step)) (shown : List (List StepResult)) (place : ℕ)
    → LanesLeft l journal lanes shown place → place < length lanes → place < length shown
lanes_within l journal lanes shown place k h =
    omega (arith, even_lanes journal (place + 1) (drop place lanes) (drop place shown) k.told, length-drop place lanes, length-drop place shown)

module _ (l : LoadedFiles) (journal : List Entry) (lanes : List (List Step)) (shown : List (List StepResult)) (place : ℕ) (steps : List Step) (rs : List StepResult)
    (k : LanesLeft l journal lanes shown place) (h : place < length lanes) (si : steps ≡ slice_index_or lanes place steps) (ri : rs ≡ slice_index_or shown place rs) where
  lanes_are : drop place lanes ≡ steps ∷ drop (place + 1) lanes
  lanes_are = drop_item lanes place steps h si

  results_are : drop place shown ≡ rs ∷ drop (place + 1) shown
  results_are = drop_item shown place rs (lanes_within l journal lanes shown place k h) ri

  kept_both : (lane_keeps journal (place + 1) steps rs && lanes_keep journal (place + 1 + 1) (drop (place + 1) lanes) (drop (place + 1) shown)) ≡ true
  kept_both = ap (λ xs. lanes_keep journal (place + 1) (steps ∷ drop (place + 1) lanes) xs) (sym results_are)
      ∙ ap (λ xs. lanes_keep journal (place + 1) xs (drop place shown)) (sym lanes_are) ∙ k.told

  pub keeps_here : tell_places journal (place + 1) 1 steps rs ≡ true
  keeps_here =
      let one = (both (lane_keeps journal (place + 1) steps rs) (lanes_keep journal (place + 1 + 1) (drop (place + 1) lanes) (drop (place + 1) shown)) kept_both).0 in
      (both _ _ (both _ _ one).0).0

  back_lane : (lane step zone : ℕ) → IsWrongLane l journal (place + 1) (steps ∷ drop (place + 1) lanes) (rs ∷ drop (place + 1) shown) lane step zone → IsWrongLane l journal 1 lanes shown lane step zone
  back_lane lane step zone w =
      k.wrong lane step zone (subst (λ xs. IsWrongLane l journal (place + 1) xs (drop place shown) lane step zone) (sym lanes_are)
      (subst (λ xs. IsWrongLane l journal (place + 1) (steps ∷ drop (place + 1) lanes) xs lane step zone) (sym results_are) w))

  back_lanes : AreLanesExplained l journal (place + 1) (steps ∷ drop (place + 1) lanes) (rs ∷ drop (place + 1) shown) → AreLanesExplained l journal 1 lanes shown
  back_lanes e =
      k.fine (subst (λ xs. AreLanesExplained l journal (place + 1) xs (drop place shown)) (sym lanes_are)
      (subst (λ xs. AreLanesExplained l journal (place + 1) (steps ∷ drop (place + 1) lanes) xs) (sym results_are) e))

  pub lane_wrong : (step zone : ℕ) → IsWrongStep l journal (place + 1) 1 steps rs step zone → IsWrongLane l journal 1 lanes shown (place + 1) step zone
  lane_wrong step zone w = back_lane (place + 1) step zone (lane_here l journal (place + 1) steps (drop (place + 1) lanes) rs (drop (place + 1) shown) step zone w)

  pub lane_fine : AreExplained l journal (place + 1) 1 steps rs → LanesLeft l journal lanes shown (place + 1)
  lane_fine e = record {
    told = (both (lane_keeps journal (place + 1) steps rs) (lanes_keep journal (place + 1 + 1) (drop (place + 1) lanes) (drop (place + 1) shown)) kept_both).1;
    wrong = λ lane step zone w. back_lane lane step zone (lane_later l journal (place + 1) steps (drop (place + 1) lanes) rs (drop (place + 1) shown) lane step zone e w);
    fine = λ more. back_lanes (e, more);
  }

pub lanes_end : (l : LoadedFiles) (journal : List Entry) (lanes : List (List Step)) (shown : List (List StepResult)) (place : ℕ)
    → LanesLeft l journal lanes shown place → length lanes ≤ place → AreLanesExplained l journal 1 lanes shown
lanes_end l journal lanes shown place k h =
    k.fine (subst (λ xs. AreLanesExplained l journal (place + 1) xs (drop place shown)) (sym (drop_of_length-le lanes h)) tt)

-- What is shown, one outcome after another.
use Rattle.std.proofs.Common.{◌≡◌, ℕ, zero, suc, ◌+◌, ◌<◌, ◌≤◌, Bool, true, false, cond, List, [], ◌∷◌, ◌++◌, length, take, drop, get_or, refl, sym, ap, ◌∙◌, subst, append_assoc, drop-cons, add-one, arith}
use Rattle.std.proofs.lemmas.List.{append-nil, drop_all}
use Rattle.std.specs.Prelude.{Option, Some, None, MatchOption, slice_get, option_and_then, if◌then◌else◌}
use Rattle.std.specs.List.{find}
use Rattle.dq_base.specs.declared.script.Blend.{Blend}
use Rattle.dq_base.specs.declared.script.Script.{Script}
use Rattle.dq_journal.specs.Shown.{AreLanesShown, AreShown, AreStepsShown, FirstIs, IsBlend, IsSame, IsStepShown, Joint, joint_at}
use Rattle.dq_journal.specs.declared.result.ZoneResult.{ZoneResult}
use Rattle.dq_journal.specs.declared.result.StepResult.{StepResult}

-- the rest of a list from a place on

rest_at : {X : Type 0} (xs : List X) (i : ℕ) (x d : X) → i < length xs → x ≡ get_or xs i d → drop i xs ≡ x ∷ drop (i + 1) xs
rest_at xs i x d lt is = drop-cons xs i d lt ∙ ap (λ y. y ∷ drop (suc i) xs) (sym is) ∙ ap (λ n. x ∷ drop n xs) (sym (add-one i))

-- a batch's outcomes so far: whatever is shown of those that are left is shown behind
pub record Showing (at : ℕ → Option Joint) (all : List ZoneResult) (place : ℕ) (pending : Option (Joint × ZoneResult)) (shown : List ZoneResult) : Type 0 where
  pub go : (rest : List ZoneResult) → AreShown at (place + 1) pending (drop place all) rest → AreShown at 1 None all (shown ++ rest)

pub showing_none : (at : ℕ → Option Joint) (all : List ZoneResult) → Showing at all 0 None []
showing_none at all = record { go = λ rest is. is }

pub showing_more : (at : ℕ → Option Joint) (all : List ZoneResult) (place : ℕ) (z d : ZoneResult) (pending next : Option (Joint × ZoneResult)) (old more new : List ZoneResult)
    → place < length all → z ≡ get_or all place d → new ≡ old ++ more
    → ((zs rest : List ZoneResult) → AreShown at (place + 1 + 1) next zs rest → AreShown at (place + 1) pending (z ∷ zs) (more ++ rest))
    → Showing at all place pending old → Showing at all (place + 1) next new
showing_more at all place z d pending next old more new lt is grew one so_far = record {
  go = λ rest left.
      let here : AreShown at (place + 1) pending (drop place all) (more ++ rest) =
      subst (λ zs. AreShown at (place + 1) pending zs (more ++ rest)) (sym (rest_at all place z d lt is)) (one (drop (place + 1) all) rest left) in
      subst (λ ws. AreShown at 1 None all ws) (sym (append_assoc old more rest) ∙ ap (λ ws. ws ++ rest) (sym grew)) (so_far.go (more ++ rest) here);
}

-- at the end nothing is left
pub shown_whole : (at : ℕ → Option Joint) (all : List ZoneResult) (place : ℕ) (shown : List ZoneResult) → length all ≤ place → Showing at all place None shown → AreShown at 1 None all shown
shown_whole at all place shown past so_far =
    subst (λ ws. AreShown at 1 None all ws) (append-nil shown)
    (so_far.go [] (subst (λ zs. AreShown at (place + 1) None zs []) (sym (drop_all place all past)) refl))

pub shown_first : (at : ℕ → Option Joint) (all : List ZoneResult) (place : ℕ) (j : Joint) (z w : ZoneResult) (old new : List ZoneResult) → length all ≤ place → new ≡ old ++ w ∷ [] → IsSame z w
    → Showing at all place (Some (j, z)) old → AreShown at 1 None all new
shown_first at all place j z w old new past grew same so_far =
    subst (λ ws. AreShown at 1 None all ws) (sym grew)
    (so_far.go (w ∷ []) (subst (λ zs. AreShown at (place + 1) (Some (j, z)) zs (w ∷ [])) (sym (drop_all place all past)) (same, refl)))

-- one outcome

first_of : (o : Option Joint) (z w : ZoneResult) (Rest : List ZoneResult → Type 0) (Begun : Joint → Type 0) (rest : List ZoneResult)
    → o ≡ None → IsSame z w → Rest rest → MatchOption o (FirstIs (IsSame z) Rest (w ∷ rest)) Begun
first_of o z w Rest Begun rest none same more = subst (λ (p : Option Joint). MatchOption p (FirstIs (IsSame z) Rest (w ∷ rest)) Begun) (sym none) (same, more)

begun_of : (o : Option Joint) (j : Joint) (First : Type 0) (Begun : Joint → Type 0) → o ≡ Some j → Begun j → MatchOption o First Begun
begun_of o j First Begun some more = subst (λ (p : Option Joint). MatchOption p First Begun) (sym some) more

pub shows_same : (at : ℕ → Option Joint) (zone : ℕ) (z w : ZoneResult) (zs rest : List ZoneResult) → at zone ≡ None → IsSame z w
    → AreShown at (zone + 1) None zs rest → AreShown at zone None (z ∷ zs) (w ∷ rest)
shows_same at zone z w zs rest none same more = first_of (at zone) z w (AreShown at (zone + 1) None zs) (λ j. AreShown at (zone + 1) (Some (j, z)) zs (w ∷ rest)) rest none same more

pub shows_begun : (at : ℕ → Option Joint) (zone : ℕ) (z : ZoneResult) (j : Joint) (zs rest : List ZoneResult) → at zone ≡ Some j
    → AreShown at (zone + 1) (Some (j, z)) zs rest → AreShown at zone None (z ∷ zs) rest
shows_begun at zone z j zs rest some more =
    begun_of (at zone) j (FirstIs (IsSame z) (AreShown at (zone + 1) None zs) rest) (λ k. AreShown at (zone + 1) (Some (k, z)) zs rest) some more

-- steps and lanes

pub record StepsShowing (at : ℕ → ℕ → Option Joint) (all : List StepResult) (place : ℕ) (shown : List StepResult) : Type 0 where
  pub go : (rest : List StepResult) → AreStepsShown at (place + 1) (drop place all) rest → AreStepsShown at 1 all (shown ++ rest)

pub steps_none : (at : ℕ → ℕ → Option Joint) (all : List StepResult) → StepsShowing at all 0 []
steps_none at all = record { go = λ rest is. is }

pub steps_more : (at : ℕ → ℕ → Option Joint) (all : List StepResult) (place : ℕ) (r d w : StepResult) (old new : List StepResult)
    → place < length all → r ≡ get_or all place d → new ≡ old ++ w ∷ [] → IsStepShown (at (place + 1)) r w → StepsShowing at all place old → StepsShowing at all (place + 1) new
steps_more at all place r d w old new lt is grew one so_far = record {
  go = λ rest left.
      let here : AreStepsShown at (place + 1) (drop place all) (w ∷ rest) =
      subst (λ rs. AreStepsShown at (place + 1) rs (w ∷ rest)) (sym (rest_at all place r d lt is)) (one, left) in
      subst (λ ws. AreStepsShown at 1 all ws) (sym (append_assoc old (w ∷ []) rest) ∙ ap (λ ws. ws ++ rest) (sym grew)) (so_far.go (w ∷ rest) here);
}

pub steps_whole : (at : ℕ → ℕ → Option Joint) (all : List StepResult) (place : ℕ) (shown : List StepResult) → length all ≤ place → StepsShowing at all place shown → AreStepsShown at 1 all shown
steps_whole at all place shown past so_far =
    subst (λ ws. AreStepsShown at 1 all ws) (append-nil shown) (so_far.go [] (subst (λ rs. AreStepsShown at (place + 1) rs []) (sym (drop_all place all past)) refl))

pub record LanesShowing (at : ℕ → ℕ → ℕ → Option Joint) (all : List (List StepResult)) (place : ℕ) (shown : List (List StepResult)) : Type 0 where
  pub go : (rest : List (List StepResult)) → AreLanesShown at (place + 1) (drop place all) rest → AreLanesShown at 1 all (shown ++ rest)

pub lanes_none : (at : ℕ → ℕ → ℕ → Option Joint) (all : List (List StepResult)) → LanesShowing at all 0 []
lanes_none at all = record { go = λ rest is. is }

pub lanes_more : (at : ℕ → ℕ → ℕ → Option Joint) (all : List (List StepResult)) (place : ℕ) (r d w : List StepResult) (old new : List (List StepResult))
    → place < length all → r ≡ get_or all place d → new ≡ old ++ w ∷ [] → AreStepsShown (at (place + 1)) 1 r w → LanesShowing at all place old → LanesShowing at all (place + 1) new
lanes_more at all place r d w old new lt is grew one so_far = record {
  go = λ rest left.
      let here : AreLanesShown at (place + 1) (drop place all) (w ∷ rest) =
      subst (λ rs. AreLanesShown at (place + 1) rs (w ∷ rest)) (sym (rest_at all place r d lt is)) (one, left) in
      subst (λ ws. AreLanesShown at 1 all ws) (sym (append_assoc old (w ∷ []) rest) ∙ ap (λ ws. ws ++ rest) (sym grew)) (so_far.go (w ∷ rest) here);
}

pub lanes_whole : (at : ℕ → ℕ → ℕ → Option Joint) (all : List (List StepResult)) (place : ℕ) (shown : List (List StepResult)) → length all ≤ place → LanesShowing at all place shown → AreLanesShown at 1 all shown
lanes_whole at all place shown past so_far =
    subst (λ ws. AreLanesShown at 1 all ws) (append-nil shown) (so_far.go [] (subst (λ rs. AreLanesShown at (place + 1) rs []) (sym (drop_all place all past)) refl))

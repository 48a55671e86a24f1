-- Lists that aren't of one length.
use Rattle.std.proofs.Common.{◌≡◌, ℕ, suc, ◌+◌, Bool, true, false, ◌&&◌, nat_eq, List, [], ◌∷◌, length, refl, ap, ◌∙◌}
use Rattle.std.specs.Cmp.Lexicographic.{pointwise}
use Rattle.dq_base.specs.declared.script.Step.{Step}
use Rattle.dq_journal.specs.declared.entry.Entry.{Entry}
use Rattle.dq_journal.specs.declared.result.StepResult.{StepResult}
use Rattle.dq_machine.specs.Order.{tells_place, tell_places, lane_keeps, lanes_keep}

and_false : (b : Bool) → (b && false) ≡ false
and_false true = refl
and_false false = refl

pub uneven_places : (journal : List Entry) (lane number : ℕ) (steps : List Step) (told : List StepResult)
    → (length steps ≡ length told → ⊥) → tell_places journal lane number steps told ≡ false
uneven_places journal lane number [] [] e = absurd (e refl)
uneven_places journal lane number [] (r ∷ told) e = refl
uneven_places journal lane number (s ∷ steps) [] e = refl
uneven_places journal lane number (s ∷ steps) (r ∷ told) e =
    ap (λ b. tells_place journal lane number s r && b) (uneven_places journal lane (number + 1) steps told (λ h. e (ap suc h))) ∙ and_false (tells_place journal lane number s r)

pub uneven_lanes : (journal : List Entry) (lane : ℕ) (lanes : List (List Step)) (told : List (List StepResult))
    → (length lanes ≡ length told → ⊥) → lanes_keep journal lane lanes told ≡ false
uneven_lanes journal lane [] [] e = absurd (e refl)
uneven_lanes journal lane [] (r ∷ told) e = refl
uneven_lanes journal lane (s ∷ lanes) [] e = refl
uneven_lanes journal lane (s ∷ lanes) (r ∷ told) e =
    ap (λ b. lane_keeps journal lane s r && b) (uneven_lanes journal (lane + 1) lanes told (λ h. e (ap suc h))) ∙ and_false (lane_keeps journal lane s r)

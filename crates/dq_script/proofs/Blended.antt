-- The blends of a script name pairs of its zones, in order.
use Rattle.std.proofs.Common.{◌≡◌, ℕ, suc, ◌+◌, ◌-◌, ◌<◌, ◌≤◌, List, [], ◌∷◌, ◌++◌, Bool, true, false, length, map, Option, Some, None, refl, ap, sym, ◌∙◌, subst, arith, length-append, append_assoc}
use Rattle.std.specs.Prelude.{◌&&◌, ◌||◌, nat_le, nat_lt, nat_eq}
use Rattle.std.specs.List.{list_all}
use Rattle.std.proofs.lemmas.Bool.{le-leb, leb-true, lt-ltb, eq-eqb, eqb-true}
use Rattle.dq_base.specs.Blends.{are_apart, stands_before, stands_before_next}
use Rattle.dq_base.specs.Numbered.{numbered}
use Rattle.dq_base.specs.Scripts.{zones_of, step_of, links_within, blend_fits}
use Rattle.dq_base.specs.declared.script.Blend.{Blend}
use Rattle.dq_base.specs.declared.script.Step.{Step}
use Rattle.dq_script.proofs.Chains.{first_holds, second_holds}
use Rattle.dq_script.proofs.Numbers.{both_hold, all-join, all-weaker, numbered-behind}
use Rattle.dq_script.proofs.Paired.{is_pair, next_apart, pairs_apart, step_has, steps_have, lanes_have}
use Rattle.dq_script.specs.Scripts.{blend_with, blends_in, blends_from}
use Rattle.dq_script.specs.declared.batch.Pair.{Pair}

-- each blend fits

pairs-fit : (lanes : List (List Step)) (lane step : ℕ) (s : Step) (ps : List Pair) → step_of lanes lane step ≡ Some s → list_all (is_pair (zones_of (Some s))) ps ≡ true
    → list_all (blend_fits lanes) (map (blend_with lane step) ps) ≡ true
pairs-fit lanes lane step s [] at e = refl
pairs-fit lanes lane step s (p ∷ ps) at e =
    let here : blend_fits lanes (blend_with lane step p) ≡ true = ap (λ o. links_within (blend_with lane step p) (zones_of o)) at ∙ first_holds (is_pair (zones_of (Some s)) p) (list_all (is_pair (zones_of (Some s))) ps) e in
    both_hold (blend_fits lanes (blend_with lane step p)) (list_all (blend_fits lanes) (map (blend_with lane step) ps)) here
    (pairs-fit lanes lane step s ps at (second_holds (is_pair (zones_of (Some s)) p) (list_all (is_pair (zones_of (Some s))) ps) e))

steps-fit : (lanes : List (List Step)) (lane step : ℕ) (all done ss : List Step) (pss : List (List Pair))
    → numbered lanes lane ≡ Some all → all ≡ done ++ ss → step ≡ length done + 1 → steps_have ss pss ≡ true → list_all (blend_fits lanes) (blends_in lane step pss) ≡ true
steps-fit lanes lane step all done [] [] at is count e = refl
steps-fit lanes lane step all done [] (ps ∷ pss) at is count e = absurd (cc e)
steps-fit lanes lane step all done (s ∷ ss) [] at is count e = absurd (cc e)
steps-fit lanes lane step all done (s ∷ ss) (ps ∷ pss) at is count e =
    let there : numbered (done ++ s ∷ ss) step ≡ Some s = numbered-behind done (s ∷ ss) 0 step (omega arith) in
    let found : step_of lanes lane step ≡ Some s = rw (at, is) there in
    let has : step_has s ps ≡ true = first_holds (step_has s ps) (steps_have ss pss) e in
    let longer : length (done ++ s ∷ []) ≡ length done + 1 = length-append done (s ∷ []) in
    let next : all ≡ (done ++ s ∷ []) ++ ss = is ∙ sym (append_assoc done (s ∷ []) ss) in
    let more : step + 1 ≡ length (done ++ s ∷ []) + 1 = omega arith in
    all-join (blend_fits lanes) (map (blend_with lane step) ps) (blends_in lane (step + 1) pss) (pairs-fit lanes lane step s ps found (first_holds _ _ has))
    (steps-fit lanes lane (step + 1) all (done ++ s ∷ []) ss pss at next more (second_holds (step_has s ps) (steps_have ss pss) e))

lanes-fit : (lanes done sss : List (List Step)) (lane : ℕ) (psss : List (List (List Pair)))
    → lanes ≡ done ++ sss → lane ≡ length done + 1 → lanes_have sss psss ≡ true → list_all (blend_fits lanes) (blends_from lane psss) ≡ true
lanes-fit lanes done [] lane [] is count e = refl
lanes-fit lanes done [] lane (pss ∷ psss) is count e = absurd (cc e)
lanes-fit lanes done (ss ∷ sss) lane [] is count e = absurd (cc e)
lanes-fit lanes done (ss ∷ sss) lane (pss ∷ psss) is count e =
    let there : numbered (done ++ ss ∷ sss) lane ≡ Some ss = numbered-behind done (ss ∷ sss) 0 lane (omega arith) in
    let at : numbered lanes lane ≡ Some ss = rw is there in
    let longer : length (done ++ ss ∷ []) ≡ length done + 1 = length-append done (ss ∷ []) in
    let next : lanes ≡ (done ++ ss ∷ []) ++ sss = is ∙ sym (append_assoc done (ss ∷ []) sss) in
    let more : lane + 1 ≡ length (done ++ ss ∷ []) + 1 = omega arith in
    all-join (blend_fits lanes) (blends_in lane 1 pss) (blends_from (lane + 1) psss)
    (steps-fit lanes lane 1 ss [] ss pss at refl refl (first_holds (steps_have ss pss) (lanes_have sss psss) e))
    (lanes-fit lanes (done ++ ss ∷ []) sss (lane + 1) psss next more (second_holds (steps_have ss pss) (lanes_have sss psss) e))

pub blends-fit : (lanes : List (List Step)) (psss : List (List (List Pair))) → lanes_have lanes psss ≡ true → list_all (blend_fits lanes) (blends_from 1 psss) ≡ true
blends-fit lanes psss e = lanes-fit lanes [] lanes 1 psss refl refl e

-- the blends stand in order

second_or : (a b : Bool) → b ≡ true → (a || b) ≡ true
second_or true b e = refl
second_or false b e = e

first_or : (a b : Bool) → a ≡ true → (a || b) ≡ true
first_or a b e = rw e refl

before-next : (x y : Blend) (xs ys : List Blend) → stands_before_next x (y ∷ xs) ≡ true → stands_before_next x ((y ∷ xs) ++ ys) ≡ true
before-next x y xs ys e = e

apart-join : (xs ys : List Blend) → are_apart xs ≡ true → are_apart ys ≡ true → list_all (λ a. stands_before_next a ys) xs ≡ true → are_apart (xs ++ ys) ≡ true
apart-join [] ys e f g = f
apart-join (x ∷ []) ys e f g = both_hold (stands_before_next x ys) (are_apart ys) (first_holds (stands_before_next x ys) true g) f
apart-join (x ∷ y ∷ xs) ys e f g =
    both_hold (stands_before x y) (are_apart ((y ∷ xs) ++ ys)) (first_holds (stands_before x y) (are_apart (y ∷ xs)) e)
    (apart-join (y ∷ xs) ys (second_holds (stands_before x y) (are_apart (y ∷ xs)) e) f (second_holds (stands_before_next x ys) (list_all (λ a. stands_before_next a ys) (y ∷ xs)) g))

same-step : (lane step : ℕ) (p q : Pair) → nat_le (p.zone + 2) q.zone ≡ true → stands_before (blend_with lane step p) (blend_with lane step q) ≡ true
same-step lane step p q e =
    second_or (nat_lt lane lane) (nat_eq lane lane && (nat_lt step step || (nat_eq step step && nat_le (p.zone + 2) q.zone)))
    (both_hold (nat_eq lane lane) (nat_lt step step || (nat_eq step step && nat_le (p.zone + 2) q.zone)) (eq-eqb lane lane refl)
    (second_or (nat_lt step step) (nat_eq step step && nat_le (p.zone + 2) q.zone) (both_hold (nat_eq step step) (nat_le (p.zone + 2) q.zone) (eq-eqb step step refl) e)))

pairs-next : (lane step : ℕ) (p : Pair) (ps : List Pair) → next_apart p ps ≡ true → stands_before_next (blend_with lane step p) (map (blend_with lane step) ps) ≡ true
pairs-next lane step p [] e = refl
pairs-next lane step p (q ∷ ps) e = same-step lane step p q e

pairs-stand : (lane step : ℕ) (ps : List Pair) → pairs_apart ps ≡ true → are_apart (map (blend_with lane step) ps) ≡ true
pairs-stand lane step [] e = refl
pairs-stand lane step (p ∷ ps) e = both_hold (stands_before_next (blend_with lane step p) (map (blend_with lane step) ps)) (are_apart (map (blend_with lane step) ps))
    (pairs-next lane step p ps (first_holds (next_apart p ps) (pairs_apart ps) e)) (pairs-stand lane step ps (second_holds (next_apart p ps) (pairs_apart ps) e))

-- a blend of this lane, from this step on
abbrev from_step : ℕ → ℕ → Blend → Bool
from_step lane step b = nat_eq b.lane lane && nat_le step b.step

-- a blend from this lane on
abbrev from_lane : ℕ → Blend → Bool
from_lane lane b = nat_le lane b.lane

pairs-from : (lane step : ℕ) (ps : List Pair) → list_all (from_step lane step) (map (blend_with lane step) ps) ≡ true
pairs-from lane step [] = refl
pairs-from lane step (p ∷ ps) = both_hold (from_step lane step (blend_with lane step p)) (list_all (from_step lane step) (map (blend_with lane step) ps))
    (both_hold (nat_eq lane lane) (nat_le step step) (eq-eqb lane lane refl) (le-leb step step (omega arith))) (pairs-from lane step ps)

earlier-step : (lane step : ℕ) (b : Blend) → from_step lane (step + 1) b ≡ true → from_step lane step b ≡ true
earlier-step lane step b e =
    let after : step + 1 ≤ b.step = leb-true (step + 1) b.step (second_holds (nat_eq b.lane lane) (nat_le (step + 1) b.step) e) in
    both_hold (nat_eq b.lane lane) (nat_le step b.step) (first_holds (nat_eq b.lane lane) (nat_le (step + 1) b.step) e) (le-leb step b.step (omega arith))

steps-from : (lane step : ℕ) (pss : List (List Pair)) → list_all (from_step lane step) (blends_in lane step pss) ≡ true
steps-from lane step [] = refl
steps-from lane step (ps ∷ pss) = all-join (from_step lane step) (map (blend_with lane step) ps) (blends_in lane (step + 1) pss) (pairs-from lane step ps)
    (all-weaker (from_step lane (step + 1)) (from_step lane step) (earlier-step lane step) (blends_in lane (step + 1) pss) (steps-from lane (step + 1) pss))

before-step : (lane step : ℕ) (p : Pair) (b : Blend) → from_step lane (step + 1) b ≡ true → stands_before (blend_with lane step p) b ≡ true
before-step lane step p b e =
    let same : b.lane ≡ lane = eqb-true b.lane lane (first_holds (nat_eq b.lane lane) (nat_le (step + 1) b.step) e) in
    let after : step + 1 ≤ b.step = leb-true (step + 1) b.step (second_holds (nat_eq b.lane lane) (nat_le (step + 1) b.step) e) in
    second_or (nat_lt lane b.lane) (nat_eq lane b.lane && (nat_lt step b.step || (nat_eq step b.step && nat_le (p.zone + 2) b.zone)))
    (both_hold (nat_eq lane b.lane) (nat_lt step b.step || (nat_eq step b.step && nat_le (p.zone + 2) b.zone)) (eq-eqb lane b.lane (sym same))
    (first_or (nat_lt step b.step) (nat_eq step b.step && nat_le (p.zone + 2) b.zone) (lt-ltb step b.step (omega arith))))

before-steps : (lane step : ℕ) (p : Pair) (bs : List Blend) → list_all (from_step lane (step + 1)) bs ≡ true → stands_before_next (blend_with lane step p) bs ≡ true
before-steps lane step p [] e = refl
before-steps lane step p (b ∷ bs) e = before-step lane step p b (first_holds (from_step lane (step + 1) b) (list_all (from_step lane (step + 1)) bs) e)

pairs-before : (lane step : ℕ) (ps : List Pair) (bs : List Blend) → list_all (from_step lane (step + 1)) bs ≡ true → list_all (λ a. stands_before_next a bs) (map (blend_with lane step) ps) ≡ true
pairs-before lane step [] bs e = refl
pairs-before lane step (p ∷ ps) bs e = both_hold (stands_before_next (blend_with lane step p) bs) (list_all (λ a. stands_before_next a bs) (map (blend_with lane step) ps)) (before-steps lane step p bs e) (pairs-before lane step ps bs e)

steps-stand : (lane step : ℕ) (ss : List Step) (pss : List (List Pair)) → steps_have ss pss ≡ true → are_apart (blends_in lane step pss) ≡ true
steps-stand lane step [] [] e = refl
steps-stand lane step [] (ps ∷ pss) e = absurd (cc e)
steps-stand lane step (s ∷ ss) [] e = absurd (cc e)
steps-stand lane step (s ∷ ss) (ps ∷ pss) e =
    let has : step_has s ps ≡ true = first_holds (step_has s ps) (steps_have ss pss) e in
    apart-join (map (blend_with lane step) ps) (blends_in lane (step + 1) pss) (pairs-stand lane step ps (second_holds _ _ (second_holds _ _ has)))
    (steps-stand lane (step + 1) ss pss (second_holds (step_has s ps) (steps_have ss pss) e))
    (pairs-before lane step ps (blends_in lane (step + 1) pss) (steps-from lane (step + 1) pss))

before-lane : (lane step : ℕ) (a b : Blend) → from_step lane step a ≡ true → from_lane (lane + 1) b ≡ true → stands_before a b ≡ true
before-lane lane step a b e f =
    let same : a.lane ≡ lane = eqb-true a.lane lane (first_holds (nat_eq a.lane lane) (nat_le step a.step) e) in
    let after : lane + 1 ≤ b.lane = leb-true (lane + 1) b.lane f in
    first_or (nat_lt a.lane b.lane) (nat_eq a.lane b.lane && (nat_lt a.step b.step || (nat_eq a.step b.step && nat_le (a.zone + 2) b.zone))) (lt-ltb a.lane b.lane (omega arith))

before-lanes : (lane step : ℕ) (a : Blend) (bs : List Blend) → from_step lane step a ≡ true → list_all (from_lane (lane + 1)) bs ≡ true → stands_before_next a bs ≡ true
before-lanes lane step a [] e f = refl
before-lanes lane step a (b ∷ bs) e f = before-lane lane step a b e (first_holds (from_lane (lane + 1) b) (list_all (from_lane (lane + 1)) bs) f)

step-from-lane : (lane step : ℕ) (b : Blend) → from_step lane step b ≡ true → from_lane lane b ≡ true
step-from-lane lane step b e =
    let same : b.lane ≡ lane = eqb-true b.lane lane (first_holds (nat_eq b.lane lane) (nat_le step b.step) e) in
    le-leb lane b.lane (omega arith)

lanes-from : (lane : ℕ) (psss : List (List (List Pair))) → list_all (from_lane lane) (blends_from lane psss) ≡ true
lanes-from lane [] = refl
lanes-from lane (pss ∷ psss) = all-join (from_lane lane) (blends_in lane 1 pss) (blends_from (lane + 1) psss)
    (all-weaker (from_step lane 1) (from_lane lane) (step-from-lane lane 1) (blends_in lane 1 pss) (steps-from lane 1 pss))
    (all-weaker (from_lane (lane + 1)) (from_lane lane) (λ b e. let after : lane + 1 ≤ b.lane = leb-true (lane + 1) b.lane e in le-leb lane b.lane (omega arith)) (blends_from (lane + 1) psss) (lanes-from (lane + 1) psss))

lanes-stand : (lane : ℕ) (sss : List (List Step)) (psss : List (List (List Pair))) → lanes_have sss psss ≡ true → are_apart (blends_from lane psss) ≡ true
lanes-stand lane [] [] e = refl
lanes-stand lane [] (pss ∷ psss) e = absurd (cc e)
lanes-stand lane (ss ∷ sss) [] e = absurd (cc e)
lanes-stand lane (ss ∷ sss) (pss ∷ psss) e =
    apart-join (blends_in lane 1 pss) (blends_from (lane + 1) psss) (steps-stand lane 1 ss pss (first_holds (steps_have ss pss) (lanes_have sss psss) e))
    (lanes-stand (lane + 1) sss psss (second_holds (steps_have ss pss) (lanes_have sss psss) e))
    (all-weaker (from_step lane 1) (λ a. stands_before_next a (blends_from (lane + 1) psss)) (λ a f. before-lanes lane 1 a (blends_from (lane + 1) psss) f (lanes-from (lane + 1) psss)) (blends_in lane 1 pss) (steps-from lane 1 pss))

pub blends-apart : (lanes : List (List Step)) (psss : List (List (List Pair))) → lanes_have lanes psss ≡ true → are_apart (blends_from 1 psss) ≡ true
blends-apart lanes psss e = lanes-stand 1 lanes psss e

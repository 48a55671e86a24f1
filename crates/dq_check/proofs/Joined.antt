-- The blends that begin at a batch's zones, one for each.
use Rattle.std.proofs.Common.{◌≡◌, ℕ, zero, suc, ◌+◌, ◌-◌, ◌<◌, ◌≤◌, Bool, true, false, drop, List, [], ◌∷◌, ◌++◌, length, Some, None, Option, refl, ap, sym, ◌∙◌, subst, arith}
use Rattle.std.proofs.lemmas.Bool.Decides.{nat_tests}
use Rattle.std.specs.Option.{option_flatten}
use Rattle.std.specs.Prelude.{nat_eq, is_some, if◌then◌else◌, slice_get}
use Rattle.dq_base.specs.Scripts.{numbered}
use Rattle.dq_base.specs.declared.query.Query.{Query}
use Rattle.dq_journal.specs.Shown.{Joint}
use Rattle.dq_check.specs.Dues.{DueOf, due_count, joint_in}
use Rattle.dq_check.specs.Grounds.{joined_count, joints_over}
use Rattle.dq_check.specs.Verdicts.{shown_count}
use Rattle.dq_check.proofs.Explaining.{BeginAlike}

pub long_joints : (at : ℕ → Option Joint) (zone : ℕ) (zones : List Query) → length (joints_over at zone zones) ≡ length zones
long_joints at zone [] = refl
long_joints at zone (q ∷ zones) = ap suc (long_joints at (zone + 1) zones)

-- as many outcomes are shown
pub joined_shown : (at : ℕ → Option Joint) (zone : ℕ) (begun : Bool) (zones : List Query) → joined_count begun (joints_over at zone zones) ≡ shown_count at zone begun zones
joined_shown at zone false [] = refl
joined_shown at zone true [] = refl
joined_shown at zone true (q ∷ zones) = ap suc (joined_shown at (zone + 1) false zones)
joined_shown at zone false (q ∷ zones) = by (is_some (at zone)) (joined_shown at (zone + 1) true zones) (joined_shown at (zone + 1) false zones)
  where
    by : (b : Bool) → joined_count true (joints_over at (zone + 1) zones) ≡ shown_count at (zone + 1) true zones → joined_count false (joints_over at (zone + 1) zones) ≡ shown_count at (zone + 1) false zones
        → (if b then joined_count true (joints_over at (zone + 1) zones) else suc (joined_count false (joints_over at (zone + 1) zones)))
        ≡ (if b then shown_count at (zone + 1) true zones else suc (shown_count at (zone + 1) false zones))
    by true begun none = begun
    by false begun none = ap suc none

-- a joint by its number
joint_next : (joints : List (Option Joint)) (place : ℕ) (j : Option Joint) → slice_get joints place ≡ Some j → joint_in joints (place + 1) ≡ j
joint_next joints place j h =
    let off : nat_eq (place + 1) 0 ≡ false = grind (arith, nat_tests) in
    let back : place + 1 - 1 ≡ place = omega arith in
    ap (λ b. option_flatten (if b then None else slice_get joints (place + 1 - 1))) off ∙ ap (λ n. option_flatten (slice_get joints n)) back ∙ ap option_flatten h

at_place : (first : List (Option Joint)) (j : Option Joint) (rest : List (Option Joint)) → slice_get (first ++ j ∷ rest) (length first) ≡ Some j
at_place [] j rest = refl
at_place (x ∷ first) j rest = at_place first j rest

one_more : (first : List (Option Joint)) (j : Option Joint) (rest : List (Option Joint)) → first ++ j ∷ rest ≡ (first ++ j ∷ []) ++ rest
one_more [] j rest = refl
one_more (x ∷ first) j rest = ap (λ (xs : List (Option Joint)). x ∷ xs) (one_more first j rest)

longer : (first : List (Option Joint)) (j : Option Joint) → length (first ++ j ∷ []) ≡ length first + 1
longer [] j = refl
longer (x ∷ first) j = let more = longer first j in omega arith

-- of as many zones as dues
alike_from : {X : Type 0} (at : ℕ → Option Joint) (first : List (Option Joint)) (zone : ℕ) (zones : List Query) (dues : List X)
    → zone ≡ length first + 1 → length dues ≡ length zones → BeginAlike (joint_in (first ++ joints_over at zone zones)) at zone dues
alike_from at first zone zones [] z n = tt
alike_from at first zone [] (d ∷ dues) z n = absurd (omega arith)
alike_from at first zone (q ∷ zones) (d ∷ dues) z n =
    let all : List (Option Joint) = first ++ at zone ∷ joints_over at (zone + 1) zones in
    let here : joint_in all zone ≡ at zone = ap (joint_in all) z ∙ joint_next all (length first) (at zone) (at_place first (at zone) (joints_over at (zone + 1) zones)) in
    let next : zone + 1 ≡ length (first ++ at zone ∷ []) + 1 = omega (arith, longer first (at zone)) in
    let fewer : length dues ≡ length zones = omega arith in
    let more = alike_from at (first ++ at zone ∷ []) (zone + 1) zones dues next fewer in
    (here, subst (λ (xs : List (Option Joint)). BeginAlike (joint_in xs) at (zone + 1) dues) (sym (one_more first (at zone) (joints_over at (zone + 1) zones))) more)

pub joints_alike : {X : Type 0} (at : ℕ → Option Joint) (zones : List Query) (dues : List X) → length dues ≡ length zones → BeginAlike (joint_in (joints_over at 1 zones)) at 1 dues
joints_alike at zones dues n = alike_from at [] 1 zones dues refl n

pub alike_back : {X : Type 0} (at there : ℕ → Option Joint) (zone : ℕ) (xs : List X) → BeginAlike at there zone xs → BeginAlike there at zone xs
alike_back at there zone [] h = tt
alike_back at there zone (x ∷ xs) h = (sym h.0, alike_back at there (zone + 1) xs h.1)

-- as many outcomes are shown of what is due

moved : (first joints : List (Option Joint)) (j : Option Joint) (zone : ℕ) (b : Bool) (dues : List DueOf)
    → due_count (joint_in ((first ++ j ∷ []) ++ joints)) zone b dues ≡ joined_count b joints → due_count (joint_in (first ++ j ∷ joints)) zone b dues ≡ joined_count b joints
moved first joints j zone b dues e = ap (λ (xs : List (Option Joint)). due_count (joint_in xs) zone b dues) (one_more first j joints) ∙ e

chosen : (first joints : List (Option Joint)) (j : Option Joint) (zone : ℕ) (dues : List DueOf) → joint_in (first ++ j ∷ joints) zone ≡ j
    → due_count (joint_in (first ++ j ∷ joints)) (zone + 1) true dues ≡ joined_count true joints → due_count (joint_in (first ++ j ∷ joints)) (zone + 1) false dues ≡ joined_count false joints
    → (if is_some (joint_in (first ++ j ∷ joints) zone) then due_count (joint_in (first ++ j ∷ joints)) (zone + 1) true dues else suc (due_count (joint_in (first ++ j ∷ joints)) (zone + 1) false dues))
    ≡ (if is_some j then joined_count true joints else suc (joined_count false joints))
chosen first joints j zone dues here begun none =
    ap (λ o. if is_some o then due_count (joint_in (first ++ j ∷ joints)) (zone + 1) true dues else suc (due_count (joint_in (first ++ j ∷ joints)) (zone + 1) false dues)) here
    ∙ by (is_some j)
  where
    by : (b : Bool) → (if b then due_count (joint_in (first ++ j ∷ joints)) (zone + 1) true dues else suc (due_count (joint_in (first ++ j ∷ joints)) (zone + 1) false dues))
        ≡ (if b then joined_count true joints else suc (joined_count false joints))
    by true = begun
    by false = ap suc none

count_from : (first joints : List (Option Joint)) (zone : ℕ) (begun : Bool) (dues : List DueOf)
    → zone ≡ length first + 1 → length dues ≡ length joints → due_count (joint_in (first ++ joints)) zone begun dues ≡ joined_count begun joints
count_from first [] zone false [] z n = refl
count_from first [] zone true [] z n = refl
count_from first [] zone false (d ∷ dues) z n = absurd (omega arith)
count_from first [] zone true (d ∷ dues) z n = absurd (omega arith)
count_from first (j ∷ joints) zone false [] z n = absurd (omega arith)
count_from first (j ∷ joints) zone true [] z n = absurd (omega arith)
count_from first (j ∷ joints) zone true (d ∷ dues) z n =
    let next : zone + 1 ≡ length (first ++ j ∷ []) + 1 = omega (arith, longer first j) in
    let fewer : length dues ≡ length joints = omega arith in
    ap suc (moved first joints j (zone + 1) false dues (count_from (first ++ j ∷ []) joints (zone + 1) false dues next fewer))
count_from first (j ∷ joints) zone false (d ∷ dues) z n =
    let next : zone + 1 ≡ length (first ++ j ∷ []) + 1 = omega (arith, longer first j) in
    let fewer : length dues ≡ length joints = omega arith in
    let here : joint_in (first ++ j ∷ joints) zone ≡ j = ap (joint_in (first ++ j ∷ joints)) z ∙ joint_next (first ++ j ∷ joints) (length first) j (at_place first j joints) in
    chosen first joints j zone dues here
    (moved first joints j (zone + 1) true dues (count_from (first ++ j ∷ []) joints (zone + 1) true dues next fewer))
    (moved first joints j (zone + 1) false dues (count_from (first ++ j ∷ []) joints (zone + 1) false dues next fewer))

pub joined_due : (joints : List (Option Joint)) (dues : List DueOf) → length dues ≡ length joints → due_count (joint_in joints) 1 false dues ≡ joined_count false joints
joined_due joints dues n = count_from [] joints 1 false dues refl n

-- the blends that begin from a place on
pub joints_step : (at : ℕ → Option Joint) (zone place : ℕ) (zones : List Query) → place < length zones
    → joints_over at zone (drop place zones) ≡ at zone ∷ joints_over at (zone + 1) (drop (place + 1) zones)
joints_step at zone zero [] h = absurd (omega arith)
joints_step at zone zero (q ∷ zones) h = refl
joints_step at zone (suc n) [] h = absurd (omega arith)
joints_step at zone (suc n) (q ∷ zones) h =
    let more : joints_over at zone (drop n zones) ≡ at zone ∷ joints_over at (zone + 1) (drop (n + 1) zones) = joints_step at zone n zones (omega arith) in
    let next : suc n + 1 ≡ suc (n + 1) = omega arith in
    more ∙ ap (λ k. at zone ∷ joints_over at (zone + 1) (drop k (q ∷ zones))) (sym next)

-- Lists that are changed from the front, item by item.
use Rattle.std.proofs.Common.{◌≡◌, ℕ, zero, suc, ◌+◌, ◌<◌, List, [], ◌∷◌, ◌++◌, map, take, drop, length, length-append, length-drop, refl, sym, ap, ◌∙◌, add-one, arith, Some}
use Rattle.std.specs.Prelude.{slice_get, slice_set}
use Rattle.std.proofs.lemmas.List.{length-take}
use Rattle.std.proofs.lemmas.Option.{same_Some}
use Rattle.dq_base.specs.Sessions.{shielded_lanes, shielded_step}
use Rattle.dq_base.specs.declared.script.Session.{Session}
use Rattle.dq_base.specs.declared.script.Step.{Step}

set_mapped : {X : Type 0} (f : X → X) (xs : List X) (i : ℕ) (x : X) → slice_get (map f (take i xs) ++ drop i xs) i ≡ Some x
    → slice_set (map f (take i xs) ++ drop i xs) i (f x) ≡ map f (take (suc i) xs) ++ drop (suc i) xs
set_mapped f [] zero x e = cc
set_mapped f [] (suc i) x e = cc
set_mapped f (z ∷ zs) zero x e = ap (λ y. f y ∷ zs) (sym (same_Some z x e))
set_mapped f (z ∷ zs) (suc i) x e = ap (λ ys. f z ∷ ys) (set_mapped f zs i x e)

-- the next item
pub next_mapped : {X : Type 0} (f : X → X) (xs items : List X) (i : ℕ) (x y : X) → items ≡ map f (take i xs) ++ drop i xs → slice_get items i ≡ Some x → y ≡ f x
    → slice_set items i y ≡ map f (take (i + 1) xs) ++ drop (i + 1) xs
next_mapped f xs items i x y held is new =
    rw add-one (ap (λ t. slice_set t i y) held ∙ ap (λ w. slice_set (map f (take i xs) ++ drop i xs) i w) new ∙ set_mapped f xs i x (ap (λ t. slice_get t i) (sym held) ∙ is))

set_lane : (sessions : List Session) (lanes : List (List Step)) (lane i number : ℕ) (steps : List Step) → number ≡ lane + i
    → slice_get (shielded_lanes sessions lane (take i lanes) ++ drop i lanes) i ≡ Some steps
    → slice_set (shielded_lanes sessions lane (take i lanes) ++ drop i lanes) i (map (shielded_step sessions number) steps)
    ≡ shielded_lanes sessions lane (take (suc i) lanes) ++ drop (suc i) lanes
set_lane sessions [] lane zero number steps n e = cc
set_lane sessions [] lane (suc i) number steps n e = cc
set_lane sessions (first ∷ lanes) lane zero number steps n e =
    let same : number ≡ lane = omega arith in
    ap (λ k. map (shielded_step sessions k) steps ∷ lanes) same ∙ ap (λ s. map (shielded_step sessions lane) s ∷ lanes) (sym (same_Some first steps e))
set_lane sessions (first ∷ lanes) lane (suc i) number steps n e =
    ap (λ ys. map (shielded_step sessions lane) first ∷ ys) (set_lane sessions lanes (lane + 1) i number steps (omega arith) e)

-- the shielded lanes are as many

pub count_lanes : (sessions : List Session) (lane : ℕ) (lanes : List (List Step)) → length (shielded_lanes sessions lane lanes) ≡ length lanes
count_lanes sessions lane [] = refl
count_lanes sessions lane (steps ∷ lanes) = ap suc (count_lanes sessions (lane + 1) lanes)

pub lane_there : (sessions : List Session) (lanes items : List (List Step)) (i : ℕ) → items ≡ shielded_lanes sessions 1 (take i lanes) ++ drop i lanes → i < length lanes → i < length items
lane_there sessions lanes items i held lt =
    omega (arith, ap length held, length-append (shielded_lanes sessions 1 (take i lanes)) (drop i lanes), count_lanes sessions 1 (take i lanes), length-take i lanes, length-drop i lanes)

-- the next lane
pub next_lane : (sessions : List Session) (lanes items : List (List Step)) (i : ℕ) (before after : List Step)
    → items ≡ shielded_lanes sessions 1 (take i lanes) ++ drop i lanes → slice_get items i ≡ Some before → after ≡ map (shielded_step sessions (i + 1)) before
    → slice_set items i after ≡ shielded_lanes sessions 1 (take (i + 1) lanes) ++ drop (i + 1) lanes
next_lane sessions lanes items i before after held is new =
    let number : i + 1 ≡ 1 + i = omega arith in
    let more : suc i ≡ i + 1 = omega arith in
    ap (λ t. slice_set t i after) held ∙ ap (λ w. slice_set (shielded_lanes sessions 1 (take i lanes) ++ drop i lanes) i w) new
    ∙ set_lane sessions lanes 1 i (i + 1) before number (ap (λ t. slice_get t i) (sym held) ∙ is)
    ∙ ap (λ k. shielded_lanes sessions 1 (take k lanes) ++ drop k lanes) more

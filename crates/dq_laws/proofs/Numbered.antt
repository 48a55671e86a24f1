-- The flights stand in the order of their numbers, which are at most as many as were started.
use Rattle.std.proofs.Common.{◌≡◌, ℕ, suc, ◌+◌, ◌-◌, ◌<◌, ◌≤◌, Bool, true, false, List, [], ◌∷◌, ◌++◌, length, arith}
use Rattle.std.specs.Prelude.{nat_eq, if◌then◌else◌}
use Rattle.dq_base.specs.Batches.{Group}
use Rattle.dq_flight.specs.Flights.{replaced}
use Rattle.dq_machine.specs.Admitting.{group_flights, joined_by, with_joiner}
use Rattle.dq_machine.specs.Landing.{ended, over}
use Rattle.dq_machine.specs.State.{Course, Flown, Joined, Publication, is_numbered}
use Rattle.dq_machine.specs.Taking.{let_go, own_flight, without_joiner}
use Rattle.dq_laws.proofs.Each.{Each, each-weaker}

-- each number is above the one before it, the first above the low bound, and the last no higher than the high one
abbrev pub Ascend : ℕ → ℕ → List Flown → Type 0
Ascend low high [] = low ≤ high
Ascend low high (f ∷ flown) = (low < f.number) × Ascend f.number high flown

ascend-below : (least low high : ℕ) (flown : List Flown) → least ≤ low → Ascend low high flown → Ascend least high flown
ascend-below least low high [] le h = omega arith
ascend-below least low high (f ∷ flown) le h = (omega (arith, h.0), h.1)

pub ascend-append : (low middle high : ℕ) (xs ys : List Flown) → Ascend low middle xs → Ascend middle high ys → Ascend low high (xs ++ ys)
ascend-append low middle high [] ys h more = ascend-below low middle high ys h more
ascend-append low middle high (x ∷ xs) ys h more = (h.0, ascend-append x.number middle high xs ys h.1 more)

ascend-either : (low high : ℕ) (b : Bool) (xs ys : List Flown) → Ascend low high xs → Ascend low high ys → Ascend low high (if b then xs else ys)
ascend-either low high true xs ys here elsewhere = here
ascend-either low high false xs ys here elsewhere = elsewhere

-- a flight is replaced by itself or by none
ascend-replaced : (p : Flown → Bool) (g : Flown → List Flown) → ((f : Flown) (low : ℕ) → low < f.number → Ascend low f.number (g f))
    → (low high : ℕ) (flown : List Flown) → Ascend low high flown → Ascend low high (replaced p g flown)
ascend-replaced p g by low high [] h = h
ascend-replaced p g by low high (f ∷ flown) h =
    ascend-either low high (p f) (g f ++ flown) (f ∷ replaced p g flown) (ascend-append low f.number high (g f) flown (by f low h.0) h.1)
    (h.0, ascend-replaced p g by f.number high flown h.1)

over_ascends : (course : Course) (f : Flown) (low : ℕ) → low < f.number → Ascend low f.number (over course f)
over_ascends course f low lt =
    ascend-either low f.number (nat_eq f.joiners 0) [] (record f { course = course } ∷ []) (omega arith) (lt, omega arith)

less_ascends : (f : Flown) (low : ℕ) → low < f.number → Ascend low f.number (without_joiner f)
less_ascends f low lt =
    ascend-either low f.number (nat_eq (f.joiners - 1) 0) [] (record f { joiners = f.joiners - 1 } ∷ []) (omega arith) (lt, omega arith)

pub ascend-joined : (low high : ℕ) (flown : List Flown) (joins : List Joined) → Ascend low high flown → Ascend low high (joined_by flown joins)
ascend-joined low high flown [] h = h
ascend-joined low high flown (j ∷ joins) h =
    ascend-joined low high (replaced (is_numbered j.flight) with_joiner flown) joins
    (ascend-replaced (is_numbered j.flight) with_joiner (λ f low lt. (lt, omega arith)) low high flown h)

pub ascend-ended : (low high : ℕ) (course : Course) (flight : ℕ) (flown : List Flown) → Ascend low high flown → Ascend low high (ended course flight flown)
ascend-ended low high course flight flown h = ascend-replaced (is_numbered flight) (over course) (over_ascends course) low high flown h

pub ascend-let_go : (low high flight : ℕ) (flown : List Flown) → Ascend low high flown → Ascend low high (let_go flight flown)
ascend-let_go low high flight flown h = ascend-replaced (is_numbered flight) without_joiner less_ascends low high flown h

pub ascend-groups : (versions : List Publication) (lane started : ℕ) (gs : List Group) → Ascend started (started + length gs) (group_flights versions lane (started + 1) gs)
ascend-groups versions lane started [] = omega arith
ascend-groups versions lane started (g ∷ gs) =
    let n : started + 1 + length gs ≡ started + suc (length gs) = omega arith in
    (omega arith, rw (← n) (ascend-groups versions lane (started + 1) gs))

pub ascend-own : (number lane started : ℕ) (joins : List Joined) → number ≡ started + 1 → Ascend started number (own_flight number lane joins)
ascend-own number lane started [] is = omega arith
ascend-own number lane started (j ∷ joins) is = (omega arith, omega arith)

-- what that comes to

ascend-bounds : (low high : ℕ) (flown : List Flown) → Ascend low high flown → low ≤ high
ascend-bounds low high [] h = h
ascend-bounds low high (f ∷ flown) h = omega (arith, h.0, ascend-bounds f.number high flown h.1)

pub ascend-numbers : (low high : ℕ) (flown : List Flown) → Ascend low high flown → Each (λ f. (low < f.number) × (f.number ≤ high)) flown
ascend-numbers low high [] h = tt
ascend-numbers low high (f ∷ flown) h = (
  (h.0, ascend-bounds f.number high flown h.1),
  each-weaker (λ f'. (f.number < f'.number) × (f'.number ≤ high)) (λ f'. (low < f'.number) × (f'.number ≤ high)) (λ f' p. (omega (arith, h.0, p.0), p.1)) flown
      (ascend-numbers f.number high flown h.1),
)

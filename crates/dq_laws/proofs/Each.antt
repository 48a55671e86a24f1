-- Lists each of whose items has a property.
use Rattle.std.proofs.Common.{◌≡◌, Bool, true, false, cond, List, [], ◌∷◌, ◌++◌, arith}
use Rattle.std.specs.Prelude.{All, filter, take, drop, zero, suc, ℕ, Option, Some, find, if◌then◌else◌}
use Rattle.dq_flight.specs.Flights.{replaced}

abbrev pub Each : {X : Type 0} → (X → Type 0) → List X → Type 0
Each P [] = Unit {0}
Each P (x ∷ xs) = P x × Each P xs

module _ {X : Type 0} where
  pub each-append : (P : X → Type 0) (xs ys : List X) → Each P xs → Each P ys → Each P (xs ++ ys)
  each-append P [] ys h more = more
  each-append P (x ∷ xs) ys h more = (h.0, each-append P xs ys h.1 more)

  pub each-either : (P : X → Type 0) (b : Bool) (xs ys : List X) → Each P xs → Each P ys → Each P (if b then xs else ys)
  each-either P true xs ys here elsewhere = here
  each-either P false xs ys here elsewhere = elsewhere

  pub each-weaker : (P Q : X → Type 0) → ((x : X) → P x → Q x) → (xs : List X) → Each P xs → Each Q xs
  each-weaker P Q weaker [] h = tt
  each-weaker P Q weaker (x ∷ xs) h = (weaker x h.0, each-weaker P Q weaker xs h.1)

  pub each-replaced : (P Q : X → Type 0) (p : X → Bool) (g : X → List X) → ((x : X) → P x → Q x) → ((x : X) → P x → Each Q (g x))
      → (xs : List X) → Each P xs → Each Q (replaced p g xs)
  each-replaced P Q p g kept by [] h = tt
  each-replaced P Q p g kept by (x ∷ xs) h =
      each-either Q (p x) (g x ++ xs) (x ∷ replaced p g xs) (each-append Q (g x) xs (by x h.0) (each-weaker P Q kept xs h.1))
      (kept x h.0, each-replaced P Q p g kept by xs h.1)

  find_step : (P : X → Type 0) (b : Bool) (x y : X) (o : Option X) → cond b (Some x) o ≡ Some y → P x → (o ≡ Some y → P y) → P y
  find_step P true x y o e here there = let same : x ≡ y = cc in rw (← same) here
  find_step P false x y o e here there = there e

  pub each-found : (P : X → Type 0) (p : X → Bool) (xs : List X) (y : X) → find p xs ≡ Some y → Each P xs → P y
  each-found P p [] y e h = let no : ⊥ = cc in absurd no
  each-found P p (x ∷ xs) y e h = find_step P (p x) x y (find p xs) e h.0 (λ e. each-found P p xs y e h.1)

  pub each-drop : (P : X → Type 0) (xs : List X) → Each P xs → Each P (drop 1 xs)
  each-drop P [] h = tt
  each-drop P (x ∷ xs) h = h.1

  pub each-take : (P : X → Type 0) (n : ℕ) (xs : List X) → Each P xs → Each P (take n xs)
  each-take P zero [] h = tt
  each-take P zero (x ∷ xs) h = tt
  each-take P (suc n) [] h = tt
  each-take P (suc n) (x ∷ xs) h = (h.0, each-take P n xs h.1)

  pub each-filter : (P : X → Type 0) (p : X → Bool) (xs : List X) → Each P xs → Each P (filter p xs)
  each-filter P p [] h = tt
  each-filter P p (x ∷ xs) h = each-either P (p x) (x ∷ filter p xs) (filter p xs) (h.0, each-filter P p xs h.1) (each-filter P p xs h.1)

  pub all_each : (P : X → Type 0) (xs : List X) → Each P xs → All P xs
  all_each P [] h k d lt = absurd (omega arith)
  all_each P (x ∷ xs) h zero d lt = h.0
  all_each P (x ∷ xs) h (suc k) d lt = all_each P xs h.1 k d (omega arith)

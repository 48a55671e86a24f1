-- One joiner more of a flight.
use Rattle.std.proofs.Common.{◌≡◌, ℕ, zero, suc, ◌+◌, ◌<◌, Bool, true, false, List, [], ◌∷◌, ◌++◌, length, get_or, drop, All, sym, ap, ◌∙◌, subst, arith, drop-cons, length-drop}
use Rattle.std.specs.Prelude.{if◌then◌else◌}
use Rattle.dq_flight.specs.Flights.{replaced}
use Rattle.dq_machine.specs.Admitting.{joined_by, with_joiner}
use Rattle.dq_machine.specs.State.{Flown, Joined, is_numbered}

-- so many joiners more may come
abbrev pub AreFew : ℕ → ℕ → List Flown → Type 0
AreFew most n flown = All (λ (f : Flown). f.joiners + n < most) flown

module _ (test : Flown → Bool) (most n : ℕ) where
  first_few : (x : Flown) (xs : List Flown) → x.joiners + n < most → AreFew most n xs → AreFew most n (x ∷ xs)
  first_few x xs h rest zero d l = h
  first_few x xs h rest (suc k) d l = rest k d (omega arith)

  fewer : (xs : List Flown) → AreFew most (n + 1) xs → AreFew most n xs
  fewer xs h = λ k d l. let g = h k d l in omega (arith, g)

  few_by : (b : Bool) (x : Flown) (xs rest : List Flown) → x.joiners + (n + 1) < most → AreFew most n xs → AreFew most n rest → AreFew most n (if b then with_joiner x ++ xs else x ∷ rest)
  few_by true x xs rest h same more = first_few (record x { joiners = x.joiners + 1 }) xs (omega (arith, h)) same
  few_by false x xs rest h same more = first_few x rest (omega (arith, h)) more

  pub few_joined : (xs : List Flown) → AreFew most (n + 1) xs → AreFew most n (replaced test with_joiner xs)
  few_joined [] h = λ k d l. absurd (omega arith)
  few_joined (x ∷ xs) h =
      let rest : AreFew most (n + 1) xs = λ k d l. h (suc k) d (omega arith) in
      few_by (test x) x xs (replaced test with_joiner xs) (h zero x (omega arith)) (fewer xs rest) (few_joined xs rest)

-- one join more
pub joins_more : (flown after : List Flown) (joins : List Joined) (i : ℕ) (j : Joined) (whole : List Flown) → i < length joins → j ≡ get_or joins i j
    → whole ≡ joined_by flown (drop i joins) → after ≡ replaced (is_numbered j.flight) with_joiner flown → whole ≡ joined_by after (drop (i + 1) joins)
joins_more flown after joins i j whole l e is more =
    let n : suc i ≡ i + 1 = omega arith in
    is
    ∙ ap (joined_by flown) (drop-cons joins i j l ∙ ap (λ x. x ∷ drop (suc i) joins) (sym e))
    ∙ ap (λ fs. joined_by fs (drop (suc i) joins)) (sym more)
    ∙ ap (λ k. joined_by after (drop k joins)) n

pub few_more : (most : ℕ) (flown after : List Flown) (joins : List Joined) (i : ℕ) (j : Joined) → i < length joins
    → AreFew most (length (drop i joins)) flown → after ≡ replaced (is_numbered j.flight) with_joiner flown → AreFew most (length (drop (i + 1) joins)) after
few_more most flown after joins i j l few more =
    let n : length (drop i joins) ≡ length (drop (i + 1) joins) + 1 = omega (arith, length-drop i joins, length-drop (i + 1) joins) in
    let P : ℕ → Type 0 = λ k. AreFew most k flown in
    let Q : List Flown → Type 0 = λ fs. AreFew most (length (drop (i + 1) joins)) fs in
    subst Q (sym more) (few_joined (is_numbered j.flight) most (length (drop (i + 1) joins)) flown (subst P n few))

-- Lists of pairs, and what is looked up in them.
use Rattle.std.proofs.Common.{◌≡◌, ℕ, ◌+◌, ◌<◌, ◌≤◌, true, false, not, cond, List, [], ◌∷◌, ◌++◌, Some, None, refl, arith}
use Rattle.std.proofs.lemmas.Bool.Decides.{nat_tests}
use Rattle.std.specs.Prelude.{nat_eq, if◌then◌else◌}
use Rattle.dq_base.specs.declared.value.Value.{Value}
use Rattle.dq_text.specs.Said.{Tables}
use Rattle.dq_link.specs.Mirrors.{AreNumbered}
use Rattle.dq_link.specs.Pairs.{lookup, with_pair, without}

pub lookup-without : {X : Type 0} (ps : List (ℕ × X)) (n m : ℕ) → lookup (without ps n) m ≡ (if nat_eq m n then None else lookup ps m)
lookup-without [] n m = grind (arith, nat_tests)
lookup-without (p ∷ ps) n m = grind (arith, nat_tests, lookup-without ps n m)

-- one pair more, of a number that no pair has
pub lookup-push : {X : Type 0} (ps : List (ℕ × X)) (n : ℕ) (x : X) (m : ℕ) → lookup ps n ≡ None → lookup (ps ++ (n, x) ∷ []) m ≡ (if nat_eq m n then Some x else lookup ps m)
lookup-push [] n x m h = grind (arith, nat_tests)
lookup-push (p ∷ ps) n x m h = grind (arith, nat_tests, lookup-push ps n x m)

numbers-low : (low first end : ℕ) (ts : Tables) → low ≤ first → AreNumbered first end ts → AreNumbered low end ts
numbers-low low first end [] h k = omega arith
numbers-low low first end (t ∷ ts) h k = (omega arith, k.1)

-- a table less
pub numbers-without : (first end n : ℕ) (ts : Tables) → AreNumbered first end ts → AreNumbered first end (without ts n)
numbers-without first end n [] k = k
numbers-without first end n (t ∷ ts) k =
    let rest : AreNumbered (t.0 + 1) end (without ts n) = numbers-without (t.0 + 1) end n ts k.1 in
    elim (not (nat_eq t.0 n)) as (λ b. AreNumbered first end (cond b (t ∷ without ts n) (without ts n)))
    [ true ↦ (k.0, rest) | false ↦ numbers-low first (t.0 + 1) end (without ts n) (omega arith) rest ]

-- a table more, under the next number
pub numbers-push : (first end : ℕ) (ts : Tables) (list : List Value) → AreNumbered first end ts → AreNumbered first (end + 1) (ts ++ (end, list) ∷ [])
numbers-push first end [] list k = (k, omega arith)
numbers-push first end (t ∷ ts) list k = (k.0, numbers-push (t.0 + 1) end ts list k.1)

numbers-end : (first end : ℕ) (ts : Tables) → AreNumbered first end ts → first ≤ end
numbers-end first end [] k = k
numbers-end first end (t ∷ ts) k = omega (arith, numbers-end (t.0 + 1) end ts k.1)

-- no table has a number that is out of range
pub unnumbered : (first end n : ℕ) (ts : Tables) → AreNumbered first end ts → end ≤ n → lookup ts n ≡ None
unnumbered first end n [] k h = refl
unnumbered first end n (t ∷ ts) k h = grind (arith, nat_tests, unnumbered (t.0 + 1) end n ts k.1 h, numbers-end (t.0 + 1) end ts k.1)

pub unnumbered_below : (first end n : ℕ) (ts : Tables) → AreNumbered first end ts → n < first → lookup ts n ≡ None
unnumbered_below first end n [] k h = refl
unnumbered_below first end n (t ∷ ts) k h =
    let below : n < t.0 + 1 = omega arith in grind (arith, nat_tests, unnumbered_below (t.0 + 1) end n ts k.1 below)

pub lookup-with : {X : Type 0} (ps : List (ℕ × X)) (n : ℕ) (x : X) (m : ℕ) → lookup (with_pair ps n x) m ≡ (if nat_eq m n then Some x else lookup ps m)
lookup-with ps n x m =
    let gone : lookup (without ps n) n ≡ None = grind (arith, nat_tests, lookup-without ps n n) in
    grind (arith, nat_tests, lookup-push (without ps n) n x m gone, lookup-without ps n m)

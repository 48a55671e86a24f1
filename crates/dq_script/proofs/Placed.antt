-- Keys and their places.
use Rattle.std.proofs.Common.{◌≡◌, ℕ, suc, ◌+◌, List, [], ◌∷◌, ◌++◌, length, Bool, true, false, Option, Some, None, refl, ap, sym, ◌∙◌, subst, arith}
use Rattle.std.specs.Prelude.{cond}
use Rattle.std.specs.List.{position_from}
use Rattle.std.specs.Ordering.{is_eq}
use Rattle.std.specs.declared.cmp.Ordering.{Ordering}
use Rattle.dq_script.specs.Places.{place_of}
use Rattle.dq_script.specs.Readings.{or_else, kept_if}

one : (b : Bool) (n : ℕ) → cond b (Some n) None ≡ or_else None (kept_if b (n + 0))
one true n = ap Some (omega arith)
one false n = refl

first : (b : Bool) (n : ℕ) (o p : Option ℕ) (q : Option ℕ) → o ≡ or_else p q → cond b (Some n) o ≡ or_else (cond b (Some n) p) q
first true n o p q e = refl
first false n o p q e = e

from-append : {K : Type 0} (p : K → Bool) (n : ℕ) (xs : List K) (x : K) → position_from p n (xs ++ x ∷ []) ≡ or_else (position_from p n xs) (kept_if (p x) (n + length xs))
from-append p n [] x = one (p x) n
from-append p n (y ∷ ys) x =
    let more : n + 1 + length ys ≡ n + suc (length ys) = omega arith in
    let rest : position_from p (n + 1) (ys ++ x ∷ []) ≡ or_else (position_from p (n + 1) ys) (kept_if (p x) (n + 1 + length ys)) = from-append p (n + 1) ys x in
    first (p y) n (position_from p (n + 1) (ys ++ x ∷ [])) (position_from p (n + 1) ys) (kept_if (p x) (n + suc (length ys))) (rest ∙ ap (λ m. or_else (position_from p (n + 1) ys) (kept_if (p x) m)) more)

-- one more key has the place behind the others, where no equal one has a place
pub place_of-append : {K : Type 0} (cmp : K → K → Ordering) (xs : List K) (x key : K) → place_of cmp (xs ++ x ∷ []) key ≡ or_else (place_of cmp xs key) (kept_if (is_eq (cmp x key)) (length xs))
place_of-append cmp xs x key =
    let none : 0 + length xs ≡ length xs = omega arith in
    from-append (λ k. is_eq (cmp k key)) 0 xs x ∙ ap (λ n. or_else (place_of cmp xs key) (kept_if (is_eq (cmp x key)) n)) none

pub placed-so : {K : Type 0} (cmp : K → K → Ordering) (old new : K → Option ℕ) (xs ys : List K) (x y : K) (n : ℕ)
    → ((k : K) → new k ≡ or_else (old k) (kept_if (is_eq (cmp y k)) n)) → ((k : K) → old k ≡ place_of cmp xs k) → y ≡ x → n ≡ length xs → ys ≡ xs ++ x ∷ []
    → (k : K) → new k ≡ place_of cmp ys k
placed-so {K = K} cmp old new xs ys x y n news olds same count is k =
    let P : K → Type 0 = λ z. new k ≡ or_else (place_of cmp xs k) (kept_if (is_eq (cmp z k)) (length xs)) in
    let from : new k ≡ or_else (place_of cmp xs k) (kept_if (is_eq (cmp y k)) (length xs)) = rw (← olds k, ← count) (news k) in
    subst P same from ∙ (sym (place_of-append cmp xs x k) ∙ ap (λ zs. place_of cmp zs k) (sym is))

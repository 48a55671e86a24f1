-- Items by their numbers, and tests of whole lists.
use Rattle.std.proofs.Common.{◌≡◌, ℕ, zero, suc, ◌+◌, ◌-◌, List, [], ◌∷◌, ◌++◌, Bool, true, false, length, Option, Some, None, refl, ap, ◌∙◌, subst, arith}
use Rattle.std.specs.Prelude.{◌&&◌, ◌||◌, slice_get, nat_eq, if◌then◌else◌}
use Rattle.std.specs.List.{list_all}
use Rattle.std.proofs.lemmas.Bool.{ne_eqb}
use Rattle.dq_base.specs.Numbered.{numbered}
use Rattle.dq_script.proofs.Chains.{first_holds, second_holds}

pub both_hold : (a b : Bool) → a ≡ true → b ≡ true → (a && b) ≡ true
both_hold a b e f = rw (e, f) refl

pub all-with : {A : Type 0} (p : A → Bool) (xs : List A) (x : A) → list_all p xs ≡ true → p x ≡ true → list_all p (xs ++ x ∷ []) ≡ true
all-with p [] x all one = rw one refl
all-with p (y ∷ ys) x all one = rw (first_holds (p y) (list_all p ys) all) (all-with p ys x (second_holds (p y) (list_all p ys) all) one)

pub all-join : {A : Type 0} (p : A → Bool) (xs ys : List A) → list_all p xs ≡ true → list_all p ys ≡ true → list_all p (xs ++ ys) ≡ true
all-join p [] ys all more = more
all-join p (x ∷ xs) ys all more = rw (first_holds (p x) (list_all p xs) all) (all-join p xs ys (second_holds (p x) (list_all p xs) all) more)

pub all-weaker : {A : Type 0} (p q : A → Bool) → ((x : A) → p x ≡ true → q x ≡ true) → (xs : List A) → list_all p xs ≡ true → list_all q xs ≡ true
all-weaker p q weaker [] e = refl
all-weaker p q weaker (x ∷ xs) e = rw (weaker x (first_holds (p x) (list_all p xs) e)) (all-weaker p q weaker xs (second_holds (p x) (list_all p xs) e))

pub all-both : {A : Type 0} (p q r : A → Bool) → ((x : A) → p x ≡ true → q x ≡ true → r x ≡ true) → (xs : List A) → list_all p xs ≡ true → list_all q xs ≡ true → list_all r xs ≡ true
all-both p q r both [] e f = refl
all-both p q r both (x ∷ xs) e f =
    rw (both x (first_holds (p x) (list_all p xs) e) (first_holds (q x) (list_all q xs) f)) (all-both p q r both xs (second_holds (p x) (list_all p xs) e) (second_holds (q x) (list_all q xs) f))

get-more : {A : Type 0} (xs ys : List A) (i : ℕ) (x : A) → slice_get xs i ≡ Some x → slice_get (xs ++ ys) i ≡ Some x
get-more [] ys i x e = absurd (cc e)
get-more (z ∷ xs) ys zero x e = e
get-more (z ∷ xs) ys (suc i) x e = get-more xs ys i x e

get-behind : {A : Type 0} (xs ys : List A) (i : ℕ) → slice_get (xs ++ ys) (length xs + i) ≡ slice_get ys i
get-behind [] ys i = let e : 0 + i ≡ i = omega arith in rw e refl
get-behind (z ∷ xs) ys i = let e : suc (length xs) + i ≡ suc (length xs + i) = omega arith in rw e (get-behind xs ys i)

more-if : {A : Type 0} (b : Bool) (o p : Option A) (x : A) → (o ≡ Some x → p ≡ Some x) → (if b then None else o) ≡ Some x → (if b then None else p) ≡ Some x
more-if true o p x more e = absurd (cc e)
more-if false o p x more e = more e

-- more items behind leave the numbers
pub numbered-more : {A : Type 0} (xs ys : List A) (n : ℕ) (x : A) → numbered xs n ≡ Some x → numbered (xs ++ ys) n ≡ Some x
numbered-more xs ys n x e = more-if (nat_eq n 0) (slice_get xs (n - 1)) (slice_get (xs ++ ys) (n - 1)) x (get-more xs ys (n - 1) x) e

-- the item behind so many others
pub numbered-behind : {A : Type 0} (xs ys : List A) (i n : ℕ) → n ≡ length xs + i + 1 → numbered (xs ++ ys) n ≡ slice_get ys i
numbered-behind xs ys i n e =
    let some : nat_eq (length xs + i + 1) 0 ≡ false = ne_eqb (length xs + i + 1) 0 (λ is. absurd (omega arith)) in
    let place : length xs + i + 1 - 1 ≡ length xs + i = omega arith in
    rw (e, some, place) (get-behind xs ys i)

-- How many items of a list are from 1 on.
use Rattle.std.proofs.Common.{◌≡◌, ℕ, zero, suc, ◌+◌, ◌≤◌, true, false, List, [], ◌∷◌, ◌++◌, cond, ap, ◌∙◌, arith}
use Rattle.std.proofs.lemmas.List.FromFn.{length-range_with_len}
use Rattle.std.proofs.lemmas.List.Sums.{count_by-le-length, sum_by_push}
use Rattle.std.specs.List.{count_by, range_with_len}
use Rattle.dq_base.specs.Causes.{Rose}
use Rattle.dq_backend.specs.Dialled.{is_item, items_up_to}

range_more : (a n j : ℕ) → a + n ≡ j → range_with_len a (n + 1) ≡ range_with_len a n ++ j ∷ []
range_more a zero j h = ap (λ x. x ∷ []) (omega arith)
range_more a (suc n) j h =
    let on : suc n + 1 ≡ suc (n + 1) = omega arith in
    ap (range_with_len a) on ∙ ap (λ r. a ∷ r) (range_more (a + 1) n j (omega arith))

items_next : (list : List ℕ) (n : ℕ) → items_up_to list (n + 1) ≡ items_up_to list n + cond (is_item list (n + 1)) 1 0
items_next list n =
    ap (count_by (is_item list)) (range_more 1 n (n + 1) (omega arith)) ∙ sum_by_push (λ x. cond (is_item list x) 1 0) (range_with_len 1 n) (n + 1)

-- the next number is an item
pub one_more : (list : List ℕ) (n : ℕ) → is_item list (n + 1) ≡ true → items_up_to list (n + 1) ≡ items_up_to list n + 1
one_more list n h = items_next list n ∙ ap (λ b. items_up_to list n + cond b 1 0) h

-- it is none
pub no_more : (list : List ℕ) (n : ℕ) → is_item list (n + 1) ≡ false → items_up_to list (n + 1) ≡ items_up_to list n
no_more list n h =
    let e : items_up_to list (n + 1) ≡ items_up_to list n + 0 = items_next list n ∙ ap (λ b. items_up_to list n + cond b 1 0) h in omega (arith, e)

pub items_few : (list : List ℕ) (n : ℕ) → items_up_to list n ≤ n
items_few list n = omega (arith, count_by-le-length (is_item list) (range_with_len 1 n), length-range_with_len 1 n)

pub risen : (before now : ℕ) → now ≡ before + 1 → (before ≤ now) × Rose before now
risen before now e = (omega arith, omega arith)

-- Going over a numbered list.
use Rattle.std.proofs.Common.{◌≡◌, ℕ, zero, suc, ◌+◌, ◌<◌, ◌≤◌, Bool, true, false, ◌||◌, cond, List, [], ◌∷◌, ◌++◌, map, length, get_or, take, drop, find, refl, sym, ap, ◌∙◌, arith, Some, None}
use Rattle.std.specs.Prelude.{slice_get}
use Rattle.std.specs.List.{list_any, enumerate_from}

module _ {A B : Type 0} (f : A → B) where
  drop_from : (n : ℕ) (xs : List A) (i : ℕ) (x : A) → i < length xs → x ≡ get_or xs i x → drop i (enumerate_from n (map f xs)) ≡ (n + i, f x) ∷ drop (suc i) (enumerate_from n (map f xs))
  drop_from n [] i x l e = absurd (omega arith)
  drop_from n (y ∷ ys) zero x l e =
      let z : n ≡ n + 0 = omega arith in
      (λ j. (z j, f (sym e j)) ∷ enumerate_from (n + 1) (map f ys))
  drop_from n (y ∷ ys) (suc i) x l e =
      let z : n + 1 + i ≡ n + suc i = omega arith in
      drop_from (n + 1) ys i x (omega arith) e ∙ ap (λ k. (k, f x) ∷ drop (suc i) (enumerate_from (n + 1) (map f ys))) z

  -- the item of a turn, and those behind it
  pub drop_at : (xs : List A) (i : ℕ) (x : A) → i < length xs → x ≡ get_or xs i x → drop i (enumerate_from 0 (map f xs)) ≡ (i, f x) ∷ drop (i + 1) (enumerate_from 0 (map f xs))
  drop_at xs i x l e =
      let z : 0 + i ≡ i = omega arith in
      let s : suc i ≡ i + 1 = omega arith in
      drop_from 0 xs i x l e ∙ ap (λ k. (k, f x) ∷ drop (suc i) (enumerate_from 0 (map f xs))) z ∙ ap (λ k. (i, f x) ∷ drop k (enumerate_from 0 (map f xs))) s

  past_from : (n : ℕ) (xs : List A) (i : ℕ) → length xs ≤ i → drop i (enumerate_from n (map f xs)) ≡ []
  past_from n [] i l = drop_none i
    where
      drop_none : (k : ℕ) → drop k (enumerate_from n (map f [])) ≡ []
      drop_none zero = refl
      drop_none (suc k) = refl
  past_from n (y ∷ ys) zero l = absurd (omega arith)
  past_from n (y ∷ ys) (suc i) l = past_from (n + 1) ys i (omega arith)

  -- the end
  pub drop_end : (xs : List A) (i : ℕ) → length xs ≤ i → drop i (enumerate_from 0 (map f xs)) ≡ []
  drop_end xs i l = past_from 0 xs i l

  take_from : (n : ℕ) (xs : List A) (i : ℕ) (x : A) → i < length xs → x ≡ get_or xs i x → take (suc i) (enumerate_from n (map f xs)) ≡ take i (enumerate_from n (map f xs)) ++ (n + i, f x) ∷ []
  take_from n [] i x l e = absurd (omega arith)
  take_from n (y ∷ ys) zero x l e =
      let z : n ≡ n + 0 = omega arith in
      (λ j. (z j, f (sym e j)) ∷ [])
  take_from n (y ∷ ys) (suc i) x l e =
      let z : n + 1 + i ≡ n + suc i = omega arith in
      ap (λ zs. (n, f y) ∷ zs) (take_from (n + 1) ys i x (omega arith) e ∙ ap (λ k. take i (enumerate_from (n + 1) (map f ys)) ++ (k, f x) ∷ []) z)

  -- the items so far, and that of a turn
  pub take_at : (xs : List A) (i : ℕ) (x : A) → i < length xs → x ≡ get_or xs i x → take (i + 1) (enumerate_from 0 (map f xs)) ≡ take i (enumerate_from 0 (map f xs)) ++ (i, f x) ∷ []
  take_at xs i x l e =
      let z : 0 + i ≡ i = omega arith in
      let s : i + 1 ≡ suc i = omega arith in
      ap (λ k. take k (enumerate_from 0 (map f xs))) s ∙ take_from 0 xs i x l e ∙ ap (λ k. take i (enumerate_from 0 (map f xs)) ++ (k, f x) ∷ []) z

  whole_from : (n : ℕ) (xs : List A) (i : ℕ) → length xs ≤ i → take i (enumerate_from n (map f xs)) ≡ enumerate_from n (map f xs)
  whole_from n [] zero l = refl
  whole_from n [] (suc i) l = refl
  whole_from n (y ∷ ys) zero l = absurd (omega arith)
  whole_from n (y ∷ ys) (suc i) l = ap (λ zs. (n, f y) ∷ zs) (whole_from (n + 1) ys i (omega arith))

  pub take_end : (xs : List A) (i : ℕ) → length xs ≤ i → take i (enumerate_from 0 (map f xs)) ≡ enumerate_from 0 (map f xs)
  take_end xs i l = whole_from 0 xs i l

  -- what is mapped over all stands at the item's place
  mapped_from : {C : Type 0} (g : (ℕ × B) → C) (n : ℕ) (xs : List A) (i : ℕ) (x : A) (d : C) → i < length xs → x ≡ get_or xs i x → get_or (map g (enumerate_from n (map f xs))) i d ≡ g (n + i, f x)
  mapped_from g n [] i x d l e = absurd (omega arith)
  mapped_from g n (y ∷ ys) zero x d l e =
      let z : n ≡ n + 0 = omega arith in (λ j. g (z j, f (sym e j)))
  mapped_from g n (y ∷ ys) (suc i) x d l e =
      let z : n + 1 + i ≡ n + suc i = omega arith in
      mapped_from g (n + 1) ys i x d (omega arith) e ∙ ap (λ k. g (k, f x)) z

  pub mapped_at : {C : Type 0} (g : (ℕ × B) → C) (xs : List A) (i : ℕ) (x : A) (d : C) → i < length xs → x ≡ get_or xs i x → get_or (map g (enumerate_from 0 (map f xs))) i d ≡ g (i, f x)
  mapped_at g xs i x d l e =
      let z : 0 + i ≡ i = omega arith in
      mapped_from g 0 xs i x d l e ∙ ap (λ k. g (k, f x)) z

length_from : {B : Type 0} (n : ℕ) (xs : List B) → length (enumerate_from n xs) ≡ length xs
length_from n [] = refl
length_from n (x ∷ xs) = ap suc (length_from (n + 1) xs)

pub length_map : {B C : Type 0} (g : B → C) (xs : List B) → length (map g xs) ≡ length xs
length_map g [] = refl
length_map g (x ∷ xs) = ap suc (length_map g xs)

-- as many as there are items
pub length_mapped : {A B C : Type 0} (f : A → B) (g : (ℕ × B) → C) (xs : List A) → length (map g (enumerate_from 0 (map f xs))) ≡ length xs
length_mapped f g xs = length_map g (enumerate_from 0 (map f xs)) ∙ length_from 0 (map f xs) ∙ length_map f xs

-- what is got at a place is the item there
got_from : {B C : Type 0} (g : (ℕ × B) → C) (n : ℕ) (xs : List B) (i : ℕ) (y : B) (d : C) → slice_get xs i ≡ Some y → get_or (map g (enumerate_from n xs)) i d ≡ g (n + i, y)
got_from g n [] i y d h = cc
got_from g n (x ∷ xs) zero y d h =
    let z : n ≡ n + 0 = omega arith in
    let e : x ≡ y = cc in (λ j. g (z j, e j))
got_from g n (x ∷ xs) (suc i) y d h =
    let z : n + 1 + i ≡ n + suc i = omega arith in
    got_from g (n + 1) xs i y d h ∙ ap (λ k. g (k, y)) z

pub got_mapped : {B C : Type 0} (g : (ℕ × B) → C) (xs : List B) (i : ℕ) (y : B) (d : C) → slice_get xs i ≡ Some y → get_or (map g (enumerate_from 0 xs)) i d ≡ g (i, y)
got_mapped g xs i y d h =
    let z : 0 + i ≡ i = omega arith in
    got_from g 0 xs i y d h ∙ ap (λ k. g (k, y)) z

pub got_below : {B : Type 0} (xs : List B) (i : ℕ) (y : B) → slice_get xs i ≡ Some y → i < length xs
got_below [] i y h = cc
got_below (x ∷ xs) zero y h = omega arith
got_below (x ∷ xs) (suc i) y h = omega (arith, got_below xs i y h)

pub get_mapped : {A B : Type 0} (f : A → B) (xs : List A) (i : ℕ) (x : A) → i < length xs → x ≡ get_or xs i x → slice_get (map f xs) i ≡ Some (f x)
get_mapped f [] i x l e = absurd (omega arith)
get_mapped f (y ∷ ys) zero x l e = ap (λ z. Some (f z)) (sym e)
get_mapped f (y ∷ ys) (suc i) x l e = get_mapped f ys i x (omega arith) e

-- a test of the items, and a search among them, turn by turn
module _ {X : Type 0} (p : X → Bool) where
  pub any_here : (whole rest more : List X) (x : X) → list_any p rest ≡ list_any p whole → rest ≡ x ∷ more → p x ≡ true → true ≡ list_any p whole
  any_here whole rest more x h e t = sym (sym h ∙ ap (list_any p) e ∙ ap (λ b. b || list_any p more) t)

  pub any_on : (whole rest more : List X) (x : X) → list_any p rest ≡ list_any p whole → rest ≡ x ∷ more → p x ≡ false → list_any p more ≡ list_any p whole
  any_on whole rest more x h e t = sym (ap (list_any p) e ∙ ap (λ b. b || list_any p more) t) ∙ h

  pub any_end : (whole rest : List X) → list_any p rest ≡ list_any p whole → rest ≡ [] → false ≡ list_any p whole
  any_end whole rest h e = sym (ap (list_any p) e) ∙ h

  pub find_here : (whole rest more : List X) (x : X) → find p rest ≡ find p whole → rest ≡ x ∷ more → p x ≡ true → Some x ≡ find p whole
  find_here whole rest more x h e t = sym (sym h ∙ ap (find p) e ∙ ap (λ b. cond b (Some x) (find p more)) t)

  pub find_on : (whole rest more : List X) (x : X) → find p rest ≡ find p whole → rest ≡ x ∷ more → p x ≡ false → find p more ≡ find p whole
  find_on whole rest more x h e t = sym (ap (find p) e ∙ ap (λ b. cond b (Some x) (find p more)) t) ∙ h

  pub find_end : (whole rest : List X) → find p rest ≡ find p whole → rest ≡ [] → None ≡ find p whole
  find_end whole rest h e = sym (ap (find p) e) ∙ h

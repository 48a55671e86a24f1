-- The places of texts among the sorted ones.
use Rattle.std.proofs.Common.{◌≡◌, ℕ, zero, suc, ◌+◌, ◌<◌, ◌≤◌, Bool, true, false, not, cond, ◌||◌, List, [], ◌∷◌, map, length, slice_get, slice_set, Some, nat_lt, get_or, option_map, refl, sym, ap, ◌∙◌, subst, true≢false, arith}
use Rattle.std.specs.List.{list_any, position_or_len}
use Rattle.std.specs.Str.{bytes_eq}
use Rattle.std.specs.declared.cmp.Ordering.TheVariants.{Less}
use Rattle.std.proofs.lemmas.Cmp.{nat_list_cmp_total}
use Rattle.std.proofs.lemmas.Map.Lookups.{exact_bytes}
use Rattle.std.proofs.lemmas.Option.{slice_get-map, slice_get_cases, slice_get_read, slice_get_within}
use Rattle.dq_base.specs.Sets.{set_of}
use Rattle.dq_base.proofs.SetLaws.{Ascends, Each, ascends_set_of}
use Rattle.dq_base.proofs.SetTests.{any_set_of}
use Rattle.dq_column.specs.Stored.{AreDifferent, code_below, code_in, text_cmp}
use Rattle.dq_column.proofs.Marked.{length_map}
use Rattle.dq_column.proofs.Found.{eq_itself, eq_turned, or_none, passing, same_bytes}

apart_by : (b : Bool) (x y : List ℕ) → bytes_eq x y ≡ b → text_cmp x y ≡ Less → b ≡ false
apart_by true x y e l =
    let s : text_cmp x x ≡ Less = subst (λ z. text_cmp x z ≡ Less) (sym (same_bytes x y e)) l in
    let t = nat_list_cmp_total.antisymm x x in
    cc
apart_by false x y e l = refl

pub none_equal : (x : List ℕ) (ys : List (List ℕ)) → Each (λ y. text_cmp x y ≡ Less) ys → list_any (bytes_eq x) ys ≡ false
none_equal x [] e = refl
none_equal x (y ∷ ys) e = ap (λ b. b || list_any (bytes_eq x) ys) (apart_by (bytes_eq x y) x y refl e.0) ∙ none_equal x ys e.1

different_from : (ws : List (List ℕ)) → Ascends text_cmp ws → AreDifferent ws
different_from [] a = tt
different_from (w ∷ ws) a = (none_equal w ws a.0, different_from ws a.1)

pub different_set : (ts : List (List ℕ)) → AreDifferent (set_of text_cmp ts)
different_set ts = different_from (set_of text_cmp ts) (ascends_set_of text_cmp nat_list_cmp_total ts)

or_true : (b : Bool) → (b || true) ≡ true
or_true true = refl
or_true false = refl

-- a text that stands somewhere is among them
pub any_at : (ws : List (List ℕ)) (place : ℕ) (w : List ℕ) → slice_get ws place ≡ Some w → list_any (bytes_eq w) ws ≡ true
any_at [] place w e = cc
any_at (v ∷ ws) zero w e =
    let s : v ≡ w = cc in
    ap (λ u. bytes_eq w u || list_any (bytes_eq w) ws) s ∙ ap (λ b. b || list_any (bytes_eq w) ws) (eq_itself w)
any_at (v ∷ ws) (suc place) w e = ap (λ b. bytes_eq w v || b) (any_at ws place w e) ∙ or_true (bytes_eq w v)

-- the words have the texts of which they are the set
pub in_set : (ts : List (List ℕ)) (t : List ℕ) → list_any (bytes_eq t) (set_of text_cmp ts) ≡ list_any (bytes_eq t) ts
in_set ts t = any_set_of (bytes_eq t) text_cmp exact_bytes ts

first_step : (b : Bool) (place : ℕ) (w v : List ℕ) (ws : List (List ℕ)) → bytes_eq w v ≡ b → b ≡ false → position_or_len (bytes_eq w) ws ≡ place → cond (not b) (1 + position_or_len (bytes_eq w) ws) 0 ≡ suc place
first_step true place w v ws e n h = absurd (true≢false n)
first_step false place w v ws e n h = ap (λ k. 1 + k) h ∙ omega arith

-- a word's place among different ones is where it stands
pub place_is : (ws : List (List ℕ)) (place : ℕ) (w : List ℕ) → AreDifferent ws → slice_get ws place ≡ Some w → position_or_len (bytes_eq w) ws ≡ place
place_is [] place w d e = cc
place_is (v ∷ ws) zero w d e =
    let s : v ≡ w = cc in
    ap (λ u. cond (not (bytes_eq w u)) (1 + position_or_len (bytes_eq w) ws) 0) s ∙ ap (λ b. cond (not b) (1 + position_or_len (bytes_eq w) ws) 0) (eq_itself w)
place_is (v ∷ ws) (suc place) w d e =
    let n : bytes_eq w v ≡ false = eq_turned w v ∙ unlike (bytes_eq v w) refl in
    first_step (bytes_eq w v) place w v ws refl n (place_is ws place w d.1 e)
  where
    unlike : (b : Bool) → bytes_eq v w ≡ b → b ≡ false
    unlike true f = absurd (true≢false (sym (any_at ws place w e) ∙ ap (λ u. list_any (bytes_eq u) ws) (sym (same_bytes v w f)) ∙ d.0))
    unlike false f = refl

any_case : (b : Bool) (p : List ℕ → Bool) (x : List ℕ) (xs : List (List ℕ)) → p x ≡ b → (b || list_any p xs) ≡ true → (list_any p xs ≡ true → nat_lt (position_or_len p xs) (length xs) ≡ true)
    → nat_lt (cond (not b) (1 + position_or_len p xs) 0) (length (x ∷ xs)) ≡ true
any_case true p x xs e h go = grind arith
any_case false p x xs e h go = let g = go h in grind arith

pub any_within : (p : List ℕ → Bool) (xs : List (List ℕ)) → list_any p xs ≡ true → nat_lt (position_or_len p xs) (length xs) ≡ true
any_within p [] h = cc
any_within p (x ∷ xs) h = any_case (p x) p x xs refl h (any_within p xs)

module _ (words : List (List ℕ)) where
  place_tells : (place : ℕ) (w t : List ℕ) → slice_get words place ≡ Some w → position_or_len (bytes_eq t) words ≡ place → bytes_eq t w ≡ true
  place_tells place w t e f =
      let here : place < length words = slice_get_within words place w e in
      let r = passing (bytes_eq t) words place f (subst (λ k. k < length words) (sym f) here) (slice_get_cases words place).1 in
      let s : r.0 ≡ w = cc in
      ap (bytes_eq t) (sym s) ∙ r.2

  other_by : (b : Bool) (place q : ℕ) → nat_lt q place ≡ b → (q ≡ place → ⊥) → cond b (q + 1) 0 ≡ cond (nat_lt q (place + 1)) (q + 1) 0
  other_by true place q e n = let f : nat_lt q (place + 1) ≡ true = grind arith in ap (λ c. cond c (q + 1) 0) (sym f)
  other_by false place q e n = let f : nat_lt q (place + 1) ≡ false = grind arith in ap (λ c. cond c (q + 1) 0) (sym f)

  -- a text that isn't the word at a place has the same code below it and below the next one
  other_code : (place : ℕ) (w t : List ℕ) → slice_get words place ≡ Some w → bytes_eq t w ≡ false → code_below words place t ≡ code_below words (place + 1) t
  other_code place w t e n = other_by (nat_lt (position_or_len (bytes_eq t) words) place) place (position_or_len (bytes_eq t) words) refl
      (λ q. true≢false (sym (place_tells place w t e q) ∙ n))

  other_codes : (place : ℕ) (w : List ℕ) (ts : List (List ℕ)) → slice_get words place ≡ Some w → list_any (bytes_eq w) ts ≡ false → map (code_below words place) ts ≡ map (code_below words (place + 1)) ts
  other_codes place w [] e n = refl
  other_codes place w (t ∷ ts) e n =
      let r = or_none (bytes_eq w t) (list_any (bytes_eq w) ts) n in
      ap (λ c. c ∷ map (code_below words place) ts) (other_code place w t e (eq_turned t w ∙ r.0)) ∙ ap (λ cs. code_below words (place + 1) t ∷ cs) (other_codes place w ts e r.1)

  own_code : (place : ℕ) (w : List ℕ) → AreDifferent words → slice_get words place ≡ Some w → code_below words (place + 1) w ≡ place + 1
  own_code place w d e =
      let f : position_or_len (bytes_eq w) words ≡ place = place_is words place w d e in
      let g : nat_lt place (place + 1) ≡ true = grind arith in
      ap (λ q. cond (nat_lt q (place + 1)) (q + 1) 0) f ∙ ap (λ b. cond b (place + 1) 0) g

  -- with the code of one more word
  pub one_more : (place : ℕ) (w : List ℕ) (ts : List (List ℕ)) (k : ℕ) → AreDifferent words → slice_get words place ≡ Some w → AreDifferent ts → slice_get ts k ≡ Some w
      → slice_set (map (code_below words place) ts) k (place + 1) ≡ map (code_below words (place + 1)) ts
  one_more place w [] k d e a f = cc
  one_more place w (t ∷ ts) zero d e a f =
      let s : t ≡ w = cc in
      ap (λ c. c ∷ map (code_below words place) ts) (sym (own_code place w d e) ∙ ap (code_below words (place + 1)) (sym s))
      ∙ ap (λ cs. code_below words (place + 1) t ∷ cs) (other_codes place w ts e (ap (λ u. list_any (bytes_eq u) ts) (sym s) ∙ a.0))
  one_more place w (t ∷ ts) (suc k) d e a f =
      ap (λ c. c ∷ slice_set (map (code_below words place) ts) k (place + 1)) (other_code place w t e (unlike (bytes_eq t w) refl))
      ∙ ap (λ cs. code_below words (place + 1) t ∷ cs) (one_more place w ts k d e a.1 f)
    where
      unlike : (b : Bool) → bytes_eq t w ≡ b → b ≡ false
      unlike true g = absurd (true≢false (sym (any_at ts k w f) ∙ ap (λ u. list_any (bytes_eq u) ts) (sym (same_bytes t w g)) ∙ a.0))
      unlike false g = refl

  pub none_yet : {X : Type 0} (f : X → List ℕ) (xs : List X) → map (λ _. 0) xs ≡ map (code_below words 0) (map f xs)
  none_yet f [] = refl
  none_yet f (x ∷ xs) =
      let e : nat_lt (position_or_len (bytes_eq (f x)) words) 0 ≡ false = grind arith in
      ap (λ c. cond c (code_in words (f x)) 0 ∷ map (λ _. 0) xs) (sym e) ∙ ap (λ cs. code_below words 0 (f x) ∷ cs) (none_yet f xs)

  below_end : (place : ℕ) (t : List ℕ) → length words ≤ place → nat_lt (position_or_len (bytes_eq t) words) (length words) ≡ true → nat_lt (position_or_len (bytes_eq t) words) place ≡ true
  below_end place t h e = grind arith

  -- below the end each text that is among the words has its code
  pub all_codes : (place : ℕ) (ts : List (List ℕ)) → length words ≤ place → ((t : List ℕ) → list_any (bytes_eq t) ts ≡ true → list_any (bytes_eq t) words ≡ true)
      → map (code_below words place) ts ≡ map (code_in words) ts
  all_codes place [] end h = refl
  all_codes place (t ∷ ts) end h =
      ap (λ b. cond b (code_in words t) 0 ∷ map (code_below words place) ts) (below_end place t end (any_within (bytes_eq t) words (h t (ap (λ b. b || list_any (bytes_eq t) ts) (eq_itself t)))))
      ∙ ap (λ cs. code_in words t ∷ cs) (all_codes place ts end (λ u e. h u (ap (λ b. bytes_eq u t || b) e ∙ or_true (bytes_eq u t))))

-- a word is one of the texts of which the words are the set
pub is_among : (ts : List (List ℕ)) (place : ℕ) (w : List ℕ) → slice_get (set_of text_cmp ts) place ≡ Some w → list_any (bytes_eq w) ts ≡ true
is_among ts place w e = sym (in_set ts w) ∙ any_at (set_of text_cmp ts) place w e

-- the text of what stands at a place
pub word_at : {X : Type 0} (f : X → List ℕ) (xs : List X) (words : List (List ℕ)) (place : ℕ) (x : X) → map f xs ≡ words → place < length xs → x ≡ get_or xs place x → slice_get words place ≡ Some (f x)
word_at f xs words place x e h g = ap (λ ws. slice_get ws place) (sym e) ∙ slice_get-map f xs place ∙ ap (option_map f) (slice_get_read xs (length xs) place x refl h g)

pub as_many : {X : Type 0} (f : X → List ℕ) (xs : List X) (words : List (List ℕ)) → map f xs ≡ words → length words ≡ length xs
as_many f xs words e = ap length (sym e) ∙ length_map f xs

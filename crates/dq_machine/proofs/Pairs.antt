-- Going over two lists at once.
use Rattle.std.proofs.Common.{◌≡◌, ℕ, zero, suc, ◌+◌, ◌<◌, ◌≤◌, List, [], ◌∷◌, ◌++◌, drop, length, map, get_or, refl, sym, ap, ◌∙◌, arith, append_assoc, append-nil}
use Rattle.std.specs.Prelude.{Option, slice_get}
use Rattle.std.specs.List.{cons_option}

module _ {A B K Y : Type 0} (F : List A → List B → List Y) (none_left : (qs : List B) → F [] qs ≡ []) (none_right : (fs : List A) → F fs [] ≡ [])
    (both : (f : A) (fs : List A) (q : B) (qs : List B) → F (f ∷ fs) (q ∷ qs) ≡ F (f ∷ []) (q ∷ []) ++ F fs qs) (g : K → B) where
  alone : (q : B) (qs rest : List B) → F [] qs ≡ F [] (q ∷ []) ++ F [] rest
  alone q qs rest = none_left qs ∙ sym (none_left rest) ∙ ap (λ ys. ys ++ F [] rest) (sym (none_left (q ∷ [])))

  pair_by : (fs : List A) (ks : List K) (i : ℕ) (k : K) → i < length ks → k ≡ get_or ks i k
      → F (drop i fs) (map g (drop i ks)) ≡ F (cons_option (slice_get fs i) []) (g k ∷ []) ++ F (drop (suc i) fs) (map g (drop (suc i) ks))
  pair_by fs [] i k l e = absurd (omega arith)
  pair_by [] (y ∷ ys) zero k l e = alone (g k) (g y ∷ map g ys) (map g ys)
  pair_by [] (y ∷ ys) (suc i) k l e = alone (g k) (map g (drop i ys)) (map g (drop (suc i) ys))
  pair_by (f ∷ fs) (y ∷ ys) zero k l e = both f fs (g y) (map g ys) ∙ ap (λ z. F (f ∷ []) (g z ∷ []) ++ F fs (map g ys)) (sym e)
  pair_by (f ∷ fs) (y ∷ ys) (suc i) k l e = pair_by fs ys i k (omega arith) e

  -- one turn
  pub pair_more : (fs : List A) (ks : List K) (i : ℕ) (k : K) (o : Option A) (whole before after : List Y) → i < length ks → k ≡ get_or ks i k → o ≡ slice_get fs i
      → whole ≡ before ++ F (drop i fs) (map g (drop i ks)) → after ≡ before ++ F (cons_option o []) (g k ∷ [])
      → whole ≡ after ++ F (drop (i + 1) fs) (map g (drop (i + 1) ks))
  pair_more fs ks i k o whole before after l e at is more =
      let n : suc i ≡ i + 1 = omega arith in
      let rest = F (drop (suc i) fs) (map g (drop (suc i) ks)) in
      is
      ∙ ap (λ ys. before ++ ys) (pair_by fs ks i k l e)
      ∙ ap (λ p. before ++ (F (cons_option p []) (g k ∷ []) ++ rest)) (sym at)
      ∙ sym (append_assoc before (F (cons_option o []) (g k ∷ [])) rest)
      ∙ ap (λ ys. ys ++ rest) (sym more)
      ∙ ap (λ m. after ++ F (drop m fs) (map g (drop m ks))) n

  past : (ks : List K) (i : ℕ) → length ks ≤ i → drop i ks ≡ []
  past [] zero l = refl
  past [] (suc i) l = refl
  past (k ∷ ks) zero l = absurd (omega arith)
  past (k ∷ ks) (suc i) l = past ks i (omega arith)

  -- the end
  pub pair_end : (fs : List A) (ks : List K) (i : ℕ) (whole before : List Y) → length ks ≤ i → whole ≡ before ++ F (drop i fs) (map g (drop i ks)) → before ≡ whole
  pair_end fs ks i whole before l is =
      sym (is ∙ ap (λ xs. before ++ F (drop i fs) (map g xs)) (past ks i l) ∙ ap (λ ys. before ++ ys) (none_right (drop i fs)) ∙ append-nil before)

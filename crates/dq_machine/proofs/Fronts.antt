-- The first item that passes goes to the front of its list.
use Rattle.std.proofs.Common.{◌≡◌, ℕ, zero, suc, ◌+◌, ◌<◌, Bool, true, false, List, [], ◌∷◌, ◌++◌, take, drop, length, get_or, remove, find, position, refl, sym, ap, ◌∙◌, arith, slice_set, Option, Some, None}
use Rattle.std.specs.Prelude.{slice_get, if◌then◌else◌}
use Rattle.dq_cache.specs.Entries.{front_or, to_front, without_first}
use Rattle.dq_flight.specs.Flights.{replaced}
use Rattle.dq_flight.proofs.Replacing.{at_place, found, none_found, replaced_none, replaced_out}

module _ {X : Type 0} where
  front_set : (x d : X) (xs : List X) (i : ℕ) → i < length xs → slice_set (take i (x ∷ xs) ++ drop i xs) i (get_or (x ∷ xs) i d) ≡ take (suc i) (x ∷ xs) ++ drop (suc i) xs
  front_set x d [] i l = absurd (omega arith)
  front_set x d (y ∷ ys) zero l = refl
  front_set x d (y ∷ ys) (suc i) l = ap (λ zs. x ∷ zs) (front_set y d ys i (omega arith))

  -- what stands at the place is put there, and what stood there is carried on
  pub front_step : (x d : X) (xs list : List X) (i : ℕ) (v : X) → i < length xs → list ≡ take i (x ∷ xs) ++ drop i xs → v ≡ get_or (x ∷ xs) i d → slice_set list i v ≡ take (i + 1) (x ∷ xs) ++ drop (i + 1) xs
  front_step x d xs list i v l e f =
      let n : suc i ≡ i + 1 = omega arith in
      (λ j. slice_set (e j) i (f j)) ∙ front_set x d xs i l ∙ ap (λ k. take k (x ∷ xs) ++ drop k xs) n

  front_get : (x d : X) (xs : List X) (i : ℕ) → i < length xs → slice_get (take i (x ∷ xs) ++ drop i xs) i ≡ Some (get_or (x ∷ xs) (suc i) d)
  front_get x d [] i l = absurd (omega arith)
  front_get x d (y ∷ ys) zero l = refl
  front_get x d (y ∷ ys) (suc i) l = front_get y d ys i (omega arith)

  pub front_carried : (x d : X) (xs list : List X) (i : ℕ) (v : X) → i < length xs → list ≡ take i (x ∷ xs) ++ drop i xs → slice_get list i ≡ Some v → v ≡ get_or (x ∷ xs) (i + 1) d
  front_carried x d xs list i v l e f =
      let n : suc i ≡ i + 1 = omega arith in
      let s = sym f ∙ ap (λ ys. slice_get ys i) e ∙ front_get x d xs i l in
      let t : v ≡ get_or (x ∷ xs) (suc i) d = cc in
      t ∙ ap (λ k. get_or (x ∷ xs) k d) n

  some_at : (xs : List X) (i : ℕ) (d : X) → i < length xs → slice_get xs i ≡ Some (get_or xs i d)
  some_at [] i d l = absurd (omega arith)
  some_at (x ∷ xs) zero d l = refl
  some_at (x ∷ xs) (suc i) d l = some_at xs i d (omega arith)

  -- what stands at a place
  pub item_at : (xs : List X) (i : ℕ) (x : X) → i < length xs → slice_get xs i ≡ Some x → x ≡ get_or xs i x
  item_at xs i x l e = let s = sym e ∙ some_at xs i x l in cc

  pub there : (xs : List X) (i : ℕ) (x : X) → slice_get xs i ≡ Some x → i < length xs
  there [] i x e = cc
  there (y ∷ ys) zero x e = omega arith
  there (y ∷ ys) (suc i) x e = let l = there ys i x e in omega (arith, l)

  module _ (test : X → Bool) where
    out_step : (b : Bool) (x : X) (xs rest kept : List X) → rest ≡ kept → (if b then [] ++ xs else x ∷ rest) ≡ (if b then xs else x ∷ kept)
    out_step true x xs rest kept e = refl
    out_step false x xs rest kept e = ap (λ ys. x ∷ ys) e

    out_is : (xs : List X) → replaced test (λ y. []) xs ≡ without_first test xs
    out_is [] = refl
    out_is (x ∷ xs) = out_step (test x) x xs (replaced test (λ y. []) xs) (without_first test xs) (out_is xs)

    -- the first that passes stands at its place
    pub got : (xs : List X) (i : ℕ) → position test xs ≡ Some i → slice_get xs i ≡ find test xs
    got [] i h = cc
    got (x ∷ xs) i h =
        let a = at_place test (x ∷ xs) i h in
        let l : i < length (x ∷ xs) = omega (arith, a.0, a.1) in
        some_at (x ∷ xs) i x l ∙ sym (found test (x ∷ xs) i x h)

    pub below : (xs : List X) (i : ℕ) → position test xs ≡ Some i → i < length xs
    below xs i h = let a = at_place test xs i h in omega (arith, a.0, a.1)

    pub out : (xs : List X) (i : ℕ) (x : X) → position test xs ≡ Some i → remove xs i ≡ without_first test xs
    out xs i x h = replaced_out test (λ y. []) xs i x h refl ∙ out_is xs

    pub none_out : (xs : List X) → position test xs ≡ None → xs ≡ without_first test xs
    none_out xs h = replaced_none test (λ y. []) xs h ∙ out_is xs

    front_some : (xs rest : List X) (o : Option X) (x : X) → o ≡ Some x → x ∷ rest ≡ front_or o rest xs
    front_some xs rest None x e = cc
    front_some xs rest (Some y) x e = let s : x ≡ y = cc in ap (λ z. z ∷ rest) s

    front_none : (xs rest : List X) (o : Option X) → o ≡ None → xs ≡ front_or o rest xs
    front_none xs rest None e = refl
    front_none xs rest (Some y) e = cc

    pub fronted : (xs : List X) (i : ℕ) (x : X) → position test xs ≡ Some i → slice_get xs i ≡ Some x → x ∷ remove xs i ≡ to_front test xs
    fronted xs i x h e =
        ap (λ ys. x ∷ ys) (out xs i x h)
        ∙ front_some xs (without_first test xs) (find test xs) x (sym (got xs i h) ∙ e)

    pub stays : (xs : List X) → find test xs ≡ None → xs ≡ to_front test xs
    stays xs h = front_none xs (without_first test xs) (find test xs) h

    pub stays_by : (xs : List X) → position test xs ≡ None → xs ≡ to_front test xs
    stays_by xs h = stays xs (none_found test xs h)

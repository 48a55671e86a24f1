-- Look-ups in a list, and in one that is made of it.
use Rattle.std.proofs.Common.{◌≡◌, Bool, true, false, cond, List, [], ◌∷◌, map, find, refl, sym, ap, ◌∙◌, subst}
use Rattle.std.specs.List.{AllByRecursion}
use Rattle.std.specs.Option.{option_map}
use Rattle.std.specs.Prelude.{Option, Some, None, is_some, if◌then◌else◌}
use Rattle.dq_cache.specs.Entries.{front_or, to_front, without_first}

module _ {X Y : Type 0} (f : X → Y) (p : Y → Bool) (p' : X → Bool) where
  abbrev pub Alike : List X → Type 0
  Alike xs = AllByRecursion (λ x. p (f x) ≡ p' x) xs

  find_if : (b b' : Bool) (x : X) (o : Option Y) (o' : Option X) → b ≡ b' → o ≡ option_map f o' → cond b (Some (f x)) o ≡ option_map f (cond b' (Some x) o')
  find_if true true x o o' same more = refl
  find_if false false x o o' same more = more
  find_if true false x o o' same more = cc
  find_if false true x o o' same more = cc

  pub find_along : (xs : List X) → Alike xs → find p (map f xs) ≡ option_map f (find p' xs)
  find_along [] h = refl
  find_along (x ∷ xs) h = find_if (p (f x)) (p' x) x (find p (map f xs)) (find p' xs) h.0 (find_along xs h.1)

  out_if : (b b' : Bool) (x : X) (xs rest : List X) (ys : List Y) → b ≡ b' → ys ≡ map f rest → (if b then map f xs else f x ∷ ys) ≡ map f (if b' then xs else x ∷ rest)
  out_if true true x xs rest ys same more = refl
  out_if false false x xs rest ys same more = ap (λ zs. f x ∷ zs) more
  out_if true false x xs rest ys same more = cc
  out_if false true x xs rest ys same more = cc

  out_along : (xs : List X) → Alike xs → without_first p (map f xs) ≡ map f (without_first p' xs)
  out_along [] h = refl
  out_along (x ∷ xs) h = out_if (p (f x)) (p' x) x xs (without_first p' xs) (without_first p (map f xs)) h.0 (out_along xs h.1)

  front_by : (o : Option X) (rest all : List X) → front_or (option_map f o) (map f rest) (map f all) ≡ map f (front_or o rest all)
  front_by None rest all = refl
  front_by (Some x) rest all = refl

  pub front_along : (xs : List X) → Alike xs → to_front p (map f xs) ≡ map f (to_front p' xs)
  front_along xs h = (λ j. front_or (find_along xs h j) (out_along xs h j) (map f xs)) ∙ front_by (find p' xs) (without_first p' xs) xs

pub some_along : {X Y : Type 0} (f : X → Y) (o : Option X) → is_some (option_map f o) ≡ is_some o
some_along f None = refl
some_along f (Some x) = refl

module _ {X : Type 0} where
  pub all_of : (P : X → Type 0) → ((x : X) → P x) → (xs : List X) → AllByRecursion P xs
  all_of P each [] = tt
  all_of P each (x ∷ xs) = (each x, all_of P each xs)

  pub all_weaker : (P Q : X → Type 0) → ((x : X) → P x → Q x) → (xs : List X) → AllByRecursion P xs → AllByRecursion Q xs
  all_weaker P Q weaker [] h = tt
  all_weaker P Q weaker (x ∷ xs) h = (weaker x h.0, all_weaker P Q weaker xs h.1)

  found_if : (P : X → Type 0) (b : Bool) (x y : X) (o : Option X) → cond b (Some x) o ≡ Some y → P x → (o ≡ Some y → P y) → P y
  found_if P true x y o e here there = let same : x ≡ y = cc in subst P same here
  found_if P false x y o e here there = there e

  -- what is found
  pub found_is : (P : X → Type 0) (p : X → Bool) (xs : List X) (y : X) → find p xs ≡ Some y → AllByRecursion P xs → P y
  found_is P p [] y e h = absurd (no e)
    where
      no : None ≡ Some y → ⊥
      no e = cc
  found_is P p (x ∷ xs) y e h = found_if P (p x) x y (find p xs) e h.0 (λ e. found_is P p xs y e h.1)

  passes_if : (p : X → Bool) (b : Bool) (x y : X) (o : Option X) → p x ≡ b → cond b (Some x) o ≡ Some y → (o ≡ Some y → p y ≡ true) → p y ≡ true
  passes_if p true x y o is e more = let same : x ≡ y = cc in ap p (sym same) ∙ is
  passes_if p false x y o is e more = more e

  pub found_passes : (p : X → Bool) (xs : List X) (y : X) → find p xs ≡ Some y → p y ≡ true
  found_passes p [] y e = cc
  found_passes p (x ∷ xs) y e = passes_if p (p x) x y (find p xs) refl e (found_passes p xs y)

  all_if : (P : X → Type 0) (b : Bool) (x : X) (xs rest : List X) → P x → AllByRecursion P xs → AllByRecursion P rest → AllByRecursion P (if b then xs else x ∷ rest)
  all_if P true x xs rest one all more = all
  all_if P false x xs rest one all more = (one, more)

  all_out : (P : X → Type 0) (p : X → Bool) (xs : List X) → AllByRecursion P xs → AllByRecursion P (without_first p xs)
  all_out P p [] h = tt
  all_out P p (x ∷ xs) h = all_if P (p x) x xs (without_first p xs) h.0 h.1 (all_out P p xs h.1)

  front_all : (P : X → Type 0) (o : Option X) (rest all : List X) → ((x : X) → o ≡ Some x → P x) → AllByRecursion P rest → AllByRecursion P all → AllByRecursion P (front_or o rest all)
  front_all P None rest all found out h = h
  front_all P (Some x) rest all found out h = (found x refl, out)

  -- the first that passes goes to the front
  pub all_front : (P : X → Type 0) (p : X → Bool) (xs : List X) → AllByRecursion P xs → AllByRecursion P (to_front p xs)
  all_front P p xs h = front_all P (find p xs) (without_first p xs) xs (λ x e. found_is P p xs x e h) (all_out P p xs h) h

  -- it changes nothing of whether some item passes a test

  either_some : (test : X → Bool) (x y : X) (o r : Option X) → is_some (cond (test x) (Some x) r) ≡ is_some o → is_some (cond (test x) (Some x) (cond (test y) (Some y) r)) ≡ is_some (cond (test y) (Some y) o)
  either_some test x y o r same = by (test x) (test y) same
    where
      by : (a b : Bool) → is_some (cond a (Some x) r) ≡ is_some o → is_some (cond a (Some x) (cond b (Some y) r)) ≡ is_some (cond b (Some y) o)
      by true true same = refl
      by true false same = same
      by false true same = refl
      by false false same = same

  some_out : (p test : X → Bool) (xs : List X) (x : X) → find p xs ≡ Some x → is_some (find test (x ∷ without_first p xs)) ≡ is_some (find test xs)
  some_out p test [] x e = cc
  some_out p test (y ∷ xs) x e = by (p y) e (some_out p test xs x)
    where
      by : (b : Bool) → cond b (Some y) (find p xs) ≡ Some x → (find p xs ≡ Some x → is_some (find test (x ∷ without_first p xs)) ≡ is_some (find test xs))
          → is_some (find test (x ∷ (if b then xs else y ∷ without_first p xs))) ≡ is_some (find test (y ∷ xs))
      by true e more = let same : x ≡ y = cc in ap (λ z. is_some (find test (z ∷ xs))) same
      by false e more = either_some test x y (find test xs) (find test (without_first p xs)) (more e)

  pub some_front : (p test : X → Bool) (xs : List X) → is_some (find test (to_front p xs)) ≡ is_some (find test xs)
  some_front p test xs = by (find p xs) refl
    where
      by : (o : Option X) → find p xs ≡ o → is_some (find test (front_or o (without_first p xs) xs)) ≡ is_some (find test xs)
      by None e = refl
      by (Some x) e = some_out p test xs x e

-- Sums over lists, whatever is added: numbers, bounds, or tests.
use Rattle.std.proofs.Common.{◌≡◌, Bool, true, false, ◌||◌, cond, List, [], ◌∷◌, ◌++◌, map, refl, sym, ap, ◌∙◌}
use Rattle.std.specs.List.{filter, fold, list_all}
use Rattle.std.specs.declared.cmp.Ordering.{Ordering}
use Rattle.std.specs.declared.cmp.Ordering.TheVariants.{Less, Equal, Greater}
use Rattle.std.specs.Ordering.{is_eq}
use Rattle.std.specs.Cmp.{IsTotalOrder}
use Rattle.std.proofs.lemmas.Cmp.{eq_by_cmp_equiv}
use Rattle.dq_base.specs.Sets.{ascending, has, rank_by, ranked}
use Rattle.dq_base.proofs.SetLaws.{Ascends, Each}
use Rattle.dq_cover.proofs.CoverLaws.{and_left, and_right}

-- the order and the grouping of what is added don't matter
pub record Adds {M : Type 0} (op : M → M → M) (unit : M) : Type 0 where
  pub assoc : (a b c : M) → op (op a b) c ≡ op a (op b c)
  pub comm : (a b : M) → op a b ≡ op b a
  pub left : (a : M) → op unit a ≡ a

abbrev pub big : {M X : Type 0} → (M → M → M) → M → (X → M) → List X → M
big op unit f [] = unit
big op unit f (x ∷ xs) = op (f x) (big op unit f xs)

module _ {M : Type 0} (op : M → M → M) (unit : M) where
  pub big_map : {X Y : Type 0} (f : Y → M) (g : X → Y) (xs : List X) → big op unit f (map g xs) ≡ big op unit (λ x. f (g x)) xs
  big_map f g [] = refl
  big_map f g (x ∷ xs) = ap (op (f (g x))) (big_map f g xs)

  pub big_same : {X : Type 0} (f g : X → M) (xs : List X) → Each (λ x. f x ≡ g x) xs → big op unit f xs ≡ big op unit g xs
  big_same f g [] e = refl
  big_same f g (x ∷ xs) e = ap (λ m. op m (big op unit f xs)) e.0 ∙ ap (op (g x)) (big_same f g xs e.1)

  module _ (l : Adds op unit) where
    pub add_right : (a : M) → op a unit ≡ a
    add_right a = l.comm a unit ∙ l.left a

    pub swap_in : (a b c : M) → op a (op b c) ≡ op b (op a c)
    swap_in a b c = sym (l.assoc a b c) ∙ ap (λ m. op m c) (l.comm a b) ∙ l.assoc b a c

    pub big_unit : {X : Type 0} (xs : List X) → big op unit (λ (x : X). unit) xs ≡ unit
    big_unit [] = refl
    big_unit (x ∷ xs) = l.left (big op unit (λ y. unit) xs) ∙ big_unit xs

    pub big_op : {X : Type 0} (f g : X → M) (xs : List X) → big op unit (λ x. op (f x) (g x)) xs ≡ op (big op unit f xs) (big op unit g xs)
    big_op f g [] = sym (l.left unit)
    big_op f g (x ∷ xs) =
        ap (op (op (f x) (g x))) (big_op f g xs)
        ∙ l.assoc (f x) (g x) (op (big op unit f xs) (big op unit g xs))
        ∙ ap (op (f x)) (swap_in (g x) (big op unit f xs) (big op unit g xs))
        ∙ sym (l.assoc (f x) (big op unit f xs) (op (g x) (big op unit g xs)))

    filter_step : {X : Type 0} (b : Bool) (f : X → M) (x : X) (kept : List X) (rest : M) → big op unit f kept ≡ rest → big op unit f (cond b (x ∷ kept) kept) ≡ op (cond b (f x) unit) rest
    filter_step true f x kept rest e = ap (op (f x)) e
    filter_step false f x kept rest e = e ∙ sym (l.left rest)

    pub big_filter : {X : Type 0} (f : X → M) (p : X → Bool) (xs : List X) → big op unit f (filter p xs) ≡ big op unit (λ x. cond (p x) (f x) unit) xs
    big_filter f p [] = refl
    big_filter f p (x ∷ xs) = filter_step (p x) f x (filter p xs) (big op unit (λ y. cond (p y) (f y) unit) xs) (big_filter f p xs)

    pub big_append : {X : Type 0} (f : X → M) (xs ys : List X) → big op unit f (xs ++ ys) ≡ op (big op unit f xs) (big op unit f ys)
    big_append f [] ys = sym (l.left (big op unit f ys))
    big_append f (x ∷ xs) ys = ap (op (f x)) (big_append f xs ys) ∙ sym (l.assoc (f x) (big op unit f xs) (big op unit f ys))

    rank_step : {X : Type 0} (r : Ordering) (f : X → M) (x y : X) (ys more : List X) → big op unit f more ≡ op (f x) (big op unit f ys)
        → big op unit f (rank_by r x y ys more) ≡ op (f x) (op (f y) (big op unit f ys))
    rank_step Less f x y ys more e = refl
    rank_step Equal f x y ys more e = ap (op (f y)) e ∙ swap_in (f y) (f x) (big op unit f ys)
    rank_step Greater f x y ys more e = ap (op (f y)) e ∙ swap_in (f y) (f x) (big op unit f ys)

    big_ranked : {X : Type 0} (f : X → M) (cmp : X → X → Ordering) (x : X) (ys : List X) → big op unit f (ranked cmp x ys) ≡ op (f x) (big op unit f ys)
    big_ranked f cmp x [] = refl
    big_ranked f cmp x (y ∷ ys) = rank_step (cmp x y) f x y ys (ranked cmp x ys) (big_ranked f cmp x ys)

    big_ranked_all : {X : Type 0} (f : X → M) (cmp : X → X → Ordering) (sorted xs : List X) → big op unit f (fold (λ s x. ranked cmp x s) sorted xs) ≡ op (big op unit f xs) (big op unit f sorted)
    big_ranked_all f cmp sorted [] = sym (l.left (big op unit f sorted))
    big_ranked_all f cmp sorted (x ∷ xs) =
        big_ranked_all f cmp (ranked cmp x sorted) xs
        ∙ ap (op (big op unit f xs)) (big_ranked f cmp x sorted)
        ∙ swap_in (big op unit f xs) (f x) (big op unit f sorted)
        ∙ sym (l.assoc (f x) (big op unit f xs) (big op unit f sorted))

    -- in whatever order
    pub big_ascending : {X : Type 0} (f : X → M) (cmp : X → X → Ordering) (xs : List X) → big op unit f (ascending cmp xs) ≡ big op unit f xs
    big_ascending f cmp xs = big_ranked_all f cmp [] xs ∙ add_right (big op unit f xs)

    fold_from : {X : Type 0} (f : X → M) (a : M) (xs : List X) → fold (λ s x. op s (f x)) a xs ≡ op a (big op unit f xs)
    fold_from f a [] = sym (add_right a)
    fold_from f a (x ∷ xs) = fold_from f (op a (f x)) xs ∙ l.assoc a (f x) (big op unit f xs)

    pub fold_big : {X : Type 0} (f : X → M) (xs : List X) → fold (λ s x. op s (f x)) unit xs ≡ big op unit f xs
    fold_big f xs = fold_from f unit xs ∙ l.left (big op unit f xs)

    module _ {K : Type 0} (cmp : K → K → Ordering) (o : IsTotalOrder cmp) (exact : (x y : K) → cmp x y ≡ Equal → x ≡ y) where
      tied : (x y : K) → is_eq (cmp x y) ≡ is_eq (cmp y x)
      tied x y = (eq_by_cmp_equiv o).symm x y

      is_less : (x y : K) → cmp x y ≡ Less → is_eq (cmp y x) ≡ false
      is_less x y e = tied y x ∙ ap is_eq e

      equal_from : (r : Ordering) → is_eq r ≡ true → r ≡ Equal
      equal_from Less e = cc
      equal_from Equal e = refl
      equal_from Greater e = cc

      pub same_from : (x y : K) → is_eq (cmp x y) ≡ true → x ≡ y
      same_from x y e = exact x y (equal_from (cmp x y) e)

      none_later : (k x : K) (m : M) (ks : List K) → k ≡ x → Each (λ y. cmp k y ≡ Less) ks → big op unit (λ y. cond (is_eq (cmp y x)) m unit) ks ≡ unit
      none_later k x m [] e a = refl
      none_later k x m (y ∷ ks) e a =
          ap (λ b. op (cond b m unit) (big op unit (λ z. cond (is_eq (cmp z x)) m unit) ks)) (ap (λ z. is_eq (cmp y z)) (sym e) ∙ is_less k y a.0)
          ∙ l.left (big op unit (λ z. cond (is_eq (cmp z x)) m unit) ks)
          ∙ none_later k x m ks e a.1

      point_step : (b : Bool) (k x : K) (m : M) (ks : List K) → is_eq (cmp k x) ≡ b → Each (λ y. cmp k y ≡ Less) ks → big op unit (λ y. cond (is_eq (cmp y x)) m unit) ks ≡ cond (has cmp ks x) m unit
          → op (cond b m unit) (big op unit (λ y. cond (is_eq (cmp y x)) m unit) ks) ≡ cond (b || has cmp ks x) m unit
      point_step true k x m ks e a h = ap (op m) (none_later k x m ks (same_from k x e) a) ∙ add_right m
      point_step false k x m ks e a h = l.left (big op unit (λ y. cond (is_eq (cmp y x)) m unit) ks) ∙ h

      -- an ascending list has an item once at most
      pub point : (x : K) (m : M) (ks : List K) → Ascends cmp ks → big op unit (λ y. cond (is_eq (cmp y x)) m unit) ks ≡ cond (has cmp ks x) m unit
      point x m [] a = refl
      point x m (k ∷ ks) a = point_step (is_eq (cmp k x)) k x m ks refl a.0 (point x m ks a.1) ∙ ap (λ b. cond (b || has cmp ks x) m unit) (tied k x)

      either : (b : Bool) → cond b unit unit ≡ unit
      either true = refl
      either false = refl

      module _ {R : Type 0} (key : R → K) (h : R → M) (ok : K → Bool) where
        abbrev at : K → List R → List R
        at k rows = filter (λ r. is_eq (cmp k (key r))) rows

        here : (b c : Bool) (k : K) (r : R) (rest : List R) → ok k ≡ c → (b ≡ true → k ≡ key r)
            → cond c (big op unit h (cond b (r ∷ rest) rest)) unit ≡ op (cond b (cond (ok (key r)) (h r) unit) unit) (cond c (big op unit h rest) unit)
        here true true k r rest e s = ap (λ d. op (cond d (h r) unit) (big op unit h rest)) (sym e ∙ ap ok (s refl))
        here true false k r rest e s = sym (l.left unit) ∙ ap (λ d. op (cond d (h r) unit) unit) (sym e ∙ ap ok (s refl))
        here false c k r rest e s = sym (l.left (cond c (big op unit h rest) unit))

        one_more : (r : R) (rows : List R) (ks : List K)
            → Each (λ k. cond (ok k) (big op unit h (at k (r ∷ rows))) unit ≡ op (cond (is_eq (cmp k (key r))) (cond (ok (key r)) (h r) unit) unit) (cond (ok k) (big op unit h (at k rows)) unit)) ks
        one_more r rows [] = tt
        one_more r rows (k ∷ ks) = (here (is_eq (cmp k (key r))) (ok k) k r (at k rows) refl (same_from k (key r)), one_more r rows ks)

        none_more : (ks : List K) → Each (λ k. cond (ok k) unit unit ≡ unit) ks
        none_more [] = tt
        none_more (k ∷ ks) = (either (ok k), none_more ks)

      -- the groups of rows by their keys together have each row once
      pub partition : {R : Type 0} (key : R → K) (h : R → M) (ok : K → Bool) (ks : List K) → Ascends cmp ks → (rows : List R) → list_all (λ r. has cmp ks (key r)) rows ≡ true
          → big op unit (λ k. cond (ok k) (big op unit h (filter (λ r. is_eq (cmp k (key r))) rows)) unit) ks ≡ big op unit (λ r. cond (ok (key r)) (h r) unit) rows
      partition key h ok ks a [] e = big_same (λ k. cond (ok k) unit unit) (λ k. unit) ks (none_more key h ok ks) ∙ big_unit ks
      partition key h ok ks a (r ∷ rows) e =
          big_same _ _ ks (one_more key h ok r rows ks)
          ∙ big_op (λ k. cond (is_eq (cmp k (key r))) (cond (ok (key r)) (h r) unit) unit) (λ k. cond (ok k) (big op unit h (filter (λ s. is_eq (cmp k (key s))) rows)) unit) ks
          ∙ ap (λ m. op m (big op unit (λ k. cond (ok k) (big op unit h (filter (λ s. is_eq (cmp k (key s))) rows)) unit) ks)) (point (key r) (cond (ok (key r)) (h r) unit) ks a ∙ ap (λ b. cond b (cond (ok (key r)) (h r) unit) unit) (and_left (has cmp ks (key r)) (list_all (λ s. has cmp ks (key s)) rows) e))
          ∙ ap (op (cond (ok (key r)) (h r) unit)) (partition key h ok ks a rows (and_right (has cmp ks (key r)) _ e))

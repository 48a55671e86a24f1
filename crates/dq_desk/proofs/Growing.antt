-- Lists that grow with the items of another.
use Rattle.std.proofs.Common.{◌≡◌, ℕ, zero, suc, ◌+◌, ◌<◌, ◌≤◌, List, [], ◌∷◌, ◌++◌, take, length, map, get_or, refl, sym, ap, ◌∙◌, arith, subst}
use Rattle.std.proofs.lemmas.List.{take_more, map-append}
use Rattle.std.specs.List.{AllByRecursion}
use Rattle.std.specs.Prelude.{Option, Some, None, slice_get}
use Rattle.dq_base.specs.Batches.{Group}
use Rattle.dq_base.specs.Versions.{Version}
use Rattle.dq_base.specs.declared.query.Query.{Query}
use Rattle.dq_journal.specs.declared.entry.Met.{Met}
use Rattle.dq_journal.specs.declared.entry.Met.TheVariants as met
use Rattle.dq_desk.specs.Admissions.{StartedOf, StoodOf}
use Rattle.dq_desk.specs.Plans.{AllStand, AllStart, StandsAs, StartsAs, joins_by}

module _ {K B : Type 0} (g : K → B) where
  -- one item more of those that were read
  pub read_more : (ks : List K) (i : ℕ) (k : K) → i < length ks → k ≡ get_or ks i k → map g (take i ks) ++ g k ∷ [] ≡ map g (take (i + 1) ks)
  read_more ks i k l at = sym (map-append g (take i ks) (k ∷ [])) ∙ ap (map g) (ap (λ x. take i ks ++ x ∷ []) at ∙ sym (take_more ks i k l))

  pub made_more : {Y : Type 0} (f : B → Y) (ks : List K) (i : ℕ) (k : K) (y : Y) (before after : List Y) → i < length ks → k ≡ get_or ks i k
      → before ≡ map f (map g (take i ks)) → y ≡ f (g k) → after ≡ before ++ y ∷ [] → after ≡ map f (map g (take (i + 1) ks))
  made_more f ks i k y before after l at is one more =
      more
      ∙ ap (λ z. before ++ z ∷ []) one
      ∙ ap (λ ys. ys ++ f (g k) ∷ []) is
      ∙ sym (map-append f (map g (take i ks)) (g k ∷ []))
      ∙ ap (map f) (read_more ks i k l at)

  -- what stands at a place of a list that is made of another
  pub made_at : {Y : Type 0} (f : B → Y) (ks : List K) (i : ℕ) (k : K) (y : Y) → i < length ks → k ≡ get_or ks i k → slice_get (map f (map g ks)) i ≡ Some y → y ≡ f (g k)
  made_at f [] i k y l at is = absurd (omega arith)
  made_at f (x ∷ ks) zero k y l at is = let same : f (g x) ≡ y = cc in sym same ∙ ap (λ z. f (g z)) (sym at)
  made_at f (x ∷ ks) (suc i) k y l at is = made_at f ks i k y (omega arith) at is

  -- of each item
  pub all_at : (P : B → Type 0) (ks : List K) (i : ℕ) (k : K) → i < length ks → k ≡ get_or ks i k → AllByRecursion P (map g ks) → P (g k)
  all_at P [] i k l at h = absurd (omega arith)
  all_at P (x ∷ ks) zero k l at h = let Q : K → Type 0 = λ z. P (g z) in subst Q (sym at) h.0
  all_at P (x ∷ ks) (suc i) k l at h = all_at P ks i k (omega arith) at h.1

pub take_whole : {K : Type 0} (ks : List K) (i : ℕ) → length ks ≤ i → take i ks ≡ ks
take_whole [] zero l = refl
take_whole [] (suc i) l = refl
take_whole (k ∷ ks) zero l = absurd (omega arith)
take_whole (k ∷ ks) (suc i) l = ap (λ xs. k ∷ xs) (take_whole ks i (omega arith))

pub taken_whole : {K Y : Type 0} (F : List K → Y) (ks : List K) (i : ℕ) (y : Y) → length ks ≤ i → y ≡ F (take i ks) → y ≡ F ks
taken_whole F ks i y l is = is ∙ ap F (take_whole ks i l)

pub length_read : {K : Type 0} (ks : List K) (i : ℕ) → i < length ks → length (take i ks) ≡ i
length_read [] i l = absurd (omega arith)
length_read (k ∷ ks) zero l = refl
length_read (k ∷ ks) (suc i) l = omega (arith, length_read ks i (omega arith))

pub all_push : {K : Type 0} (P : K → Type 0) (xs : List K) (x : K) → AllByRecursion P xs → P x → AllByRecursion P (xs ++ x ∷ [])
all_push P [] x h one = (one, tt)
all_push P (y ∷ xs) x h one = (h.0, all_push P xs x h.1 one)

-- two lists at once

pub joins_left : (stamp : ℕ → ℕ) (qs : List Query) → joins_by stamp [] qs ≡ []
joins_left stamp qs = refl

pub joins_right : (stamp : ℕ → ℕ) (fs : List (Option Met)) → joins_by stamp fs [] ≡ []
joins_right stamp [] = refl
joins_right stamp (f ∷ fs) = refl

pub joins_both : (stamp : ℕ → ℕ) (f : Option Met) (fs : List (Option Met)) (q : Query) (qs : List Query)
    → joins_by stamp (f ∷ fs) (q ∷ qs) ≡ joins_by stamp (f ∷ []) (q ∷ []) ++ joins_by stamp fs qs
joins_both stamp None fs q qs = refl
joins_both stamp (Some (met.Hit n)) fs q qs = refl
joins_both stamp (Some (met.Literal n)) fs q qs = refl
joins_both stamp (Some (met.Join n)) fs q qs = refl
joins_both stamp (Some (met.Group n)) fs q qs = refl

-- one more that stands
pub stand_push : (stamps : List ℕ) (stands : List Version) (qs : List Query) (ss : List StoodOf) (q : Query) (s : StoodOf) → AllStand stamps stands qs ss
    → StandsAs stamps stands q.source s → AllStand stamps stands (qs ++ q ∷ []) (ss ++ s ∷ [])
stand_push stamps stands [] [] q s h one = (one, tt)
stand_push stamps stands [] (x ∷ ss) q s h one = absurd h
stand_push stamps stands (p ∷ qs) [] q s h one = absurd h
stand_push stamps stands (p ∷ qs) (x ∷ ss) q s h one = (h.0, stand_push stamps stands qs ss q s h.1 one)

-- one more that starts
pub start_push : (stamps : List ℕ) (stands : List Version) (number : ℕ) (gs : List Group) (ss : List StartedOf) (g : Group) (s : StartedOf) → AllStart stamps stands number gs ss
    → StartsAs stamps stands (number + length gs) g s → AllStart stamps stands number (gs ++ g ∷ []) (ss ++ s ∷ [])
start_push stamps stands number [] [] g s h one = let n : number + 0 ≡ number = omega arith in let P : ℕ → Type 0 = λ m. StartsAs stamps stands m g s in (subst P n one, tt)
start_push stamps stands number [] (x ∷ ss) g s h one = absurd h
start_push stamps stands number (p ∷ gs) [] g s h one = absurd h
start_push stamps stands number (p ∷ gs) (x ∷ ss) g s h one =
    let n : number + suc (length gs) ≡ number + 1 + length gs = omega arith in
    let P : ℕ → Type 0 = λ m. StartsAs stamps stands m g s in
    (h.0, start_push stamps stands (number + 1) gs ss g s h.1 (subst P n one))

-- one that starts more, of those that were read
pub starts_more : (stamps : List ℕ) (stands : List Version) (first number : ℕ) (gs : List Group) (ss after : List StartedOf) (i : ℕ) (g : Group) (s : StartedOf) → i < length gs → g ≡ get_or gs i g
    → number ≡ first + i → AllStart stamps stands first (take i gs) ss → StartsAs stamps stands number g s → after ≡ ss ++ s ∷ [] → AllStart stamps stands first (take (i + 1) gs) after
starts_more stamps stands first number gs ss after i g s l at is h one more =
    let n : length (take i gs) ≡ i = length_read gs i l in
    let place : number ≡ first + length (take i gs) = omega (arith, is, n) in
    let P : ℕ → Type 0 = λ m. StartsAs stamps stands m g s in
    let Q : List Group → Type 0 = λ xs. AllStart stamps stands first xs after in
    let R : List StartedOf → Type 0 = λ xs. AllStart stamps stands first (take i gs ++ g ∷ []) xs in
    subst Q (ap (λ x. take i gs ++ x ∷ []) at ∙ sym (take_more gs i g l)) (subst R (sym more) (start_push stamps stands first (take i gs) ss g s h (subst P place one)))

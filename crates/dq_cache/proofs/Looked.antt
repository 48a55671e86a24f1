-- A look-up on one shelf finds what a look-up among all entries finds.
use Rattle.std.proofs.Common.{◌≡◌, ℕ, suc, ◌-◌, Bool, true, false, ◌&&◌, cond, eqb, nat_eq, filter, find, List, [], ◌∷◌, ◌++◌, map, take, length, refl, sym, ap, ◌∙◌, subst, arith, Option, Some, None}
use Rattle.std.specs.Prelude.{slice_get, MatchBool}
use Rattle.std.specs.BTreeMap.{BTreeMap}
use Rattle.std.specs.List.{IsDistinct, AllByRecursion}
use Rattle.std.specs.Map.{keys_of, values_of, lookup, lookup_entry, remove_entry}
use Rattle.std.proofs.lemmas.Map.Keys.{IsDistinct-tail, IsDistinct-head}
use Rattle.std.proofs.lemmas.Grind.{common_steps}
use Rattle.lru.specs.LruCache.{promoted}
use Rattle.dq_base.specs.Covering.{covers, query_eq}
use Rattle.dq_base.specs.declared.query.Query.{Query}
use Rattle.dq_cover.proofs.CoverLaws.{and_left, and_right, exact_numbers, exact_queries, query_same}
use Rattle.dq_cache.specs.Clevers.{passes_at}
use Rattle.dq_cache.specs.Entries.{EntryOf, fits, is_same, without_last, flights_on, put_front}
use Rattle.dq_cache.specs.Shelves.{Place, place_of, is_on, on_shelf, shelf_of, IsIndex}
use Rattle.dq_cache.specs.Stacks.{number_in}
use Rattle.dq_cache.specs.declared.shelf.Shelf.{Shelf}
use Rattle.dq_cache.proofs.Numbers.{Picked, put_none}
use Rattle.dq_cache.proofs.Shelving.{Numbered, no_shelf, shelf_some}

eqb_own : (x : ℕ) → eqb x x ≡ true
eqb_own x = grind (arith, common_steps)

eqb_turned : (x y : ℕ) → eqb x y ≡ false → eqb y x ≡ false
eqb_turned x y e = grind (arith, common_steps)

-- each entry is found by its number
abbrev AllThere : List Numbered → List Numbered → Type 0
AllThere es [] = Unit {0}
AllThere es (f ∷ fs) = (lookup (eqb f.0) es ≡ Some f.1) × AllThere es fs

there_behind : (e : Numbered) (es fs : List Numbered) → AllByRecursion (λ y. eqb e.0 y ≡ false) (keys_of fs) → AllThere es fs → AllThere (e ∷ es) fs
there_behind e es [] a t = tt
there_behind e es (f ∷ fs) a t = (let apart = eqb_turned e.0 f.0 a.0 in rw apart t.0, there_behind e es fs a.1 t.1)

all_there : (es : List Numbered) → IsDistinct eqb (keys_of es) → AllThere es es
all_there [] d = tt
all_there (e ∷ es) d = (let own = eqb_own e.0 in rw own refl, there_behind e es es (IsDistinct-head eqb e.0 (keys_of es) d) (all_there es (IsDistinct-tail eqb e.0 (keys_of es) d)))

chosen_there : (b : Bool) (f : Numbered) (es fs : List Numbered) → lookup (eqb f.0) es ≡ Some f.1 → AllThere es fs → AllThere es (cond b (f ∷ fs) fs)
chosen_there true f es fs h t = (h, t)
chosen_there false f es fs h t = t

filter_there : (p : Numbered → Bool) (es fs : List Numbered) → AllThere es fs → AllThere es (filter p fs)
filter_there p es [] t = tt
filter_there p es (f ∷ fs) t = chosen_there (p f) f es (filter p fs) t.0 (filter_there p es fs t.1)

module _ (test : Query → Bool) where
  passes_is : (es : List Numbered) (f : Numbered) → lookup (eqb f.0) es ≡ Some f.1 → passes_at test es f.0 ≡ test f.1.key
  passes_is es f h = rw h refl

  -- by their numbers
  find_numbers : (es fs : List Numbered) → AllThere es fs → find (passes_at test es) (map (λ f. f.0) fs) ≡ number_in (λ (e : EntryOf). test e.key) fs
  find_numbers es [] t = refl
  find_numbers es (f ∷ fs) t =
      ap (λ b. cond b (Some f.0) (find (passes_at test es) (map (λ g. g.0) fs))) (passes_is es f t.0)
      ∙ ap (λ o. cond (test f.1.key) (Some f.0) o) (find_numbers es fs t.1)

  on_case : (a s c : Bool) (n : ℕ) (fs : List Numbered) (f : Numbered) (o : Option ℕ) → test f.1.key ≡ c → n ≡ f.0 → (c ≡ true → a ≡ true) → o ≡ number_in (λ (e : EntryOf). test e.key) fs
      → cond (s && c) (Some n) o ≡ number_in (λ (e : EntryOf). test e.key) (cond (a && s) (f ∷ fs) fs)
  on_case true true true n fs f o e m h i = ap Some m ∙ sym (ap (λ b. cond b (Some f.0) (number_in (λ (g : EntryOf). test g.key) fs)) e)
  on_case true true false n fs f o e m h i = i ∙ sym (ap (λ b. cond b (Some f.0) (number_in (λ (g : EntryOf). test g.key) fs)) e)
  on_case true false c n fs f o e m h i = i
  on_case false true true n fs f o e m h i = let x = h refl in cc
  on_case false true false n fs f o e m h i = i
  on_case false false c n fs f o e m h i = i

  -- on their shelf
  on_one : (source stamp : ℕ) → ((key : Query) → test key ≡ true → nat_eq key.source source ≡ true) → (es : List Numbered)
      → number_in (λ (e : EntryOf). nat_eq e.stamp stamp && test e.key) es ≡ number_in (λ (e : EntryOf). test e.key) (on_shelf (source, stamp) es)
  on_one source stamp h [] = refl
  on_one source stamp h (f ∷ fs) =
      on_case (nat_eq f.1.key.source source) (nat_eq f.1.stamp stamp) (test f.1.key) f.0 (on_shelf (source, stamp) fs) f
      (number_in (λ (e : EntryOf). nat_eq e.stamp stamp && test e.key) fs) refl refl (h f.1.key) (on_one source stamp h fs)

  pub looked_up : (source stamp : ℕ) → ((key : Query) → test key ≡ true → nat_eq key.source source ≡ true) → (es : List Numbered) (s : Shelf) → IsDistinct eqb (keys_of es) → Some s ≡ shelf_of (on_shelf (source, stamp) es)
      → find (passes_at test es) s.numbers ≡ number_in (λ (e : EntryOf). nat_eq e.stamp stamp && test e.key) es
  looked_up source stamp h es s d e =
      let place : Place = (source, stamp) in
      let parts = shelf_some s (on_shelf place es) e in
      ap (find (passes_at test es)) parts.1
      ∙ find_numbers es (on_shelf place es) (filter_there (is_on place) es es (all_there es d))
      ∙ sym (on_one source stamp h es)

  pub looked_none : (source stamp : ℕ) → ((key : Query) → test key ≡ true → nat_eq key.source source ≡ true) → (es : List Numbered) → None ≡ shelf_of (on_shelf (source, stamp) es)
      → None ≡ number_in (λ (e : EntryOf). nat_eq e.stamp stamp && test e.key) es
  looked_none source stamp h es e =
      let place : Place = (source, stamp) in
      sym (on_one source stamp h es ∙ ap (number_in (λ (f : EntryOf). test f.key)) (no_shelf (on_shelf place es) e))

-- what covers a query, or equals it, has its source
pub covers_source : (q key : Query) → covers key q ≡ true → nat_eq key.source q.source ≡ true
covers_source q key h = and_left _ _ (and_left _ _ (and_left _ _ (and_left _ _ (and_left _ _ h))))

pub equal_source : (q key : Query) → query_eq key q ≡ true → nat_eq key.source q.source ≡ true
equal_source q key h = and_left _ _ (and_left _ _ (and_left _ _ (and_left _ _ (and_left _ _ h))))

not_equal : (b : Bool) → (b ≡ true → false ≡ true) → false ≡ b
not_equal true h = h refl
not_equal false h = refl

pub equal_by : (r : Bool) (p q : Query) → (r ≡ true → p ≡ q) → (p ≡ q → r ≡ true) → r ≡ query_eq p q
equal_by true p q f g = let P : Query → Type 0 = λ x. query_eq p x ≡ true in sym (subst P (f refl) (query_same p))
equal_by false p q f g = not_equal (query_eq p q) (λ e. g (exact_queries p q e))

-- what is picked passes, and has the place of the query

found_passes : {X : Type 0} (test : X → Bool) (xs : List X) (x : X) → find test xs ≡ Some x → test x ≡ true
found_passes test [] x h = cc
found_passes test (y ∷ xs) x h = (elim (test y) as (λ b. test y ≡ b → test x ≡ true) [
  | true ↦ λ e. let o : Some y ≡ Some x = rw e at h in let same : y ≡ x = cc in ap test (sym same) ∙ e
  | false ↦ λ e. found_passes test xs x (rw e at h)
]) refl

pub place_fits : (stamp : ℕ) (q : Query) (n : ℕ) (es : List Numbered) (p : Picked (fits stamp q) n es) → ◌≡◌ {A = Place} (q.source, stamp) (place_of p.held)
place_fits stamp q n es p =
    let t = found_passes (fits stamp q) (values_of es) p.held p.first in
    let s = exact_numbers p.held.stamp stamp (and_left (nat_eq p.held.stamp stamp) (covers p.held.key q) t) in
    let k = exact_numbers p.held.key.source q.source (covers_source q p.held.key (and_right (nat_eq p.held.stamp stamp) (covers p.held.key q) t)) in
    λ i. (sym k i, sym s i)

pub place_same : (stamp : ℕ) (q : Query) (n : ℕ) (es : List Numbered) (p : Picked (is_same stamp q) n es) → ◌≡◌ {A = Place} (place_of p.held) (q.source, stamp)
place_same stamp q n es p =
    let t = found_passes (is_same stamp q) (values_of es) p.held p.first in
    let s = exact_numbers p.held.stamp stamp (and_left (nat_eq p.held.stamp stamp) (query_eq p.held.key q) t) in
    let k = exact_numbers p.held.key.source q.source (equal_source q p.held.key (and_right (nat_eq p.held.stamp stamp) (query_eq p.held.key q) t)) in
    λ i. (k i, s i)

pub promoted_is : {X : Type 0} (n : ℕ) (es : List (ℕ × X)) (x : X) → lookup_entry (eqb n) es ≡ Some (n, x) → (n, x) ∷ remove_entry (eqb n) es ≡ promoted (eqb n) es
promoted_is n es x h = rw h refl

-- a list by its last item

pub split_last : {X : Type 0} (es : List X) (e : X) → slice_get es (length es - 1) ≡ Some e → es ≡ without_last es ++ e ∷ []
split_last [] e h = cc
split_last (f ∷ []) e h = let same : f ≡ e = cc in ap (λ x. x ∷ []) same
split_last (f ∷ g ∷ es) e h =
    let n : length (f ∷ g ∷ es) - 1 ≡ suc (length es) = omega arith in
    let m : length (g ∷ es) - 1 ≡ length es = omega arith in
    let k : suc (length (g ∷ es) - 1) ≡ suc (length es) = omega arith in
    let on = split_last (g ∷ es) e (ap (slice_get (g ∷ es)) m ∙ ap (λ i. slice_get (f ∷ g ∷ es) i) (sym n) ∙ h) in
    ap (λ xs. f ∷ xs) on ∙ ap (λ i. take i (f ∷ g ∷ es) ++ e ∷ []) (k ∙ sym n)

some_last : {X : Type 0} (x : X) (xs : List X) → slice_get (x ∷ xs) (length (x ∷ xs) - 1) ≡ None → ⊥
some_last x [] h = cc
some_last x (y ∷ xs) h =
    let n : length (x ∷ y ∷ xs) - 1 ≡ suc (length xs) = omega arith in
    let m : length (y ∷ xs) - 1 ≡ length xs = omega arith in
    some_last y xs (ap (slice_get (y ∷ xs)) m ∙ ap (λ i. slice_get (x ∷ y ∷ xs) i) (sym n) ∙ h)

pub none_last : {X : Type 0} (es : List X) → slice_get es (length es - 1) ≡ None → es ≡ []
none_last [] h = refl
none_last (f ∷ es) h = absurd (some_last f es h)

-- the index along equal lists
pub index_along : (index : BTreeMap Place Shelf) (es fs : List Numbered) → es ≡ fs → IsIndex index es → IsIndex index fs
index_along index es fs h i = λ place. i place ∙ ap (λ xs. shelf_of (on_shelf place xs)) h

pub removed_front : {X : Type 0} (n : ℕ) (x : X) (es : List (ℕ × X)) → remove_entry (eqb n) ((n, x) ∷ es) ≡ es
removed_front n x es = let own = eqb_own n in rw own refl

-- the flights of a shelf
flights_case : (b : Bool) (f : Numbered) (fs : List Numbered) (gs : List EntryOf) → map (λ (g : Numbered). g.1.flight) fs ≡ map (λ (e : EntryOf). e.flight) gs
    → map (λ (g : Numbered). g.1.flight) (cond b (f ∷ fs) fs) ≡ map (λ (e : EntryOf). e.flight) (cond b (f.1 ∷ gs) gs)
flights_case true f fs gs h = ap (λ ns. f.1.flight ∷ ns) h
flights_case false f fs gs h = h

pub flights_numbered : (source stamp : ℕ) (es : List Numbered) → map (λ (g : Numbered). g.1.flight) (on_shelf (source, stamp) es) ≡ flights_on source stamp (values_of es)
flights_numbered source stamp [] = refl
flights_numbered source stamp (f ∷ fs) =
    flights_case (nat_eq f.1.key.source source && nat_eq f.1.stamp stamp) f (on_shelf (source, stamp) fs)
    (filter (λ (e : EntryOf). nat_eq e.key.source source && nat_eq e.stamp stamp) (values_of fs)) (flights_numbered source stamp fs)

pub put_matched : (b : Bool) (test : EntryOf → Bool) (n : ℕ) (x : EntryOf) (es new : List Numbered) → number_in test es ≡ None → MatchBool b (new ≡ (n, x) ∷ es) (new ≡ es)
    → MatchBool b (values_of new ≡ put_front test x (values_of es)) (new ≡ es)
put_matched true test n x es new h m = ap values_of m ∙ put_none test n x es h
put_matched false test n x es new h m = m

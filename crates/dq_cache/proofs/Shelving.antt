-- The index follows the entries.
use Rattle.std.proofs.Common.{◌≡◌, ℕ, suc, ◌+◌, ◌-◌, ◌<◌, Bool, true, false, ◌&&◌, not, cond, eqb, nat_eq, filter, List, [], ◌∷◌, ◌++◌, map, take, remove, length, refl, sym, ap, ◌∙◌, arith, Option, Some, None, append-nil}
use Rattle.std.specs.Prelude.{MatchBool}
use Rattle.std.specs.List.{position_or_len}
use Rattle.std.specs.declared.cmp.Ordering.{Ordering}
use Rattle.std.specs.declared.cmp.Ordering.TheVariants.{Less, Equal, Greater}
use Rattle.std.specs.Ordering.{is_eq, nat_cmp, ordering_then}
use Rattle.std.specs.BTreeMap.{BTreeMap, get, is_at}
use Rattle.std.specs.Map.{lookup, lookup_entry, remove_entry}
use Rattle.std.proofs.lemmas.Bool.Decides.{nat_tests}
use Rattle.std.proofs.lemmas.List.{map-append}
use Rattle.std.proofs.lemmas.List.Elements.{filter-append}
use Rattle.dq_cover.proofs.CoverLaws.{and_left, and_right, and_both, exact_numbers, number_same}
use Rattle.dq_cache.specs.Entries.{EntryOf, is_of, without_last}
use Rattle.dq_cache.specs.Shelves.{Place, place_cmp, place_of, is_on, on_shelf, shelf_of, IsIndex}
use Rattle.dq_cache.specs.declared.shelf.Shelf.{Shelf}

abbrev pub Numbered : Type 0
Numbered = ℕ × EntryOf

number_tied : (a b : ℕ) → is_eq (nat_cmp a b) ≡ nat_eq a b
number_tied a b = grind (arith, nat_tests)

then_tied : (r s : Ordering) → is_eq (ordering_then r s) ≡ (is_eq r && is_eq s)
then_tied Less s = refl
then_tied Equal s = refl
then_tied Greater s = refl

at_is : (k q : Place) → is_at (place_cmp k) q ≡ (nat_eq k.0 q.0 && nat_eq k.1 q.1)
at_is k q = then_tied (nat_cmp k.0 q.0) (nat_cmp k.1 q.1) ∙ ap (λ x. x && is_eq (nat_cmp k.1 q.1)) (number_tied k.0 q.0) ∙ ap (λ x. nat_eq k.0 q.0 && x) (number_tied k.1 q.1)

at_exact : (k q : Place) → is_at (place_cmp k) q ≡ true → k ≡ q
at_exact k q h =
    let t = sym (at_is k q) ∙ h in
    ap (λ (x : ℕ). let p : Place = (x, k.1) in p) (exact_numbers k.0 q.0 (and_left (nat_eq k.0 q.0) (nat_eq k.1 q.1) t))
    ∙ ap (λ (x : ℕ). let p : Place = (q.0, x) in p) (exact_numbers k.1 q.1 (and_right (nat_eq k.0 q.0) (nat_eq k.1 q.1) t))

at_self : (k : Place) → is_at (place_cmp k) k ≡ true
at_self k = at_is k k ∙ and_both (nat_eq k.0 k.0) (nat_eq k.1 k.1) (number_same k.0) (number_same k.1)

on_is : (q : Place) (e : Numbered) → is_on q e ≡ is_at (place_cmp (place_of e.1)) q
on_is q e = sym (at_is (place_of e.1) q)

pub on_own : (k : Place) (e : Numbered) → k ≡ place_of e.1 → is_on k e ≡ true
on_own k e h = on_is k e ∙ ap (λ p. is_at (place_cmp p) k) (sym h) ∙ at_self k

pub off_other : (k q : Place) (e : Numbered) → k ≡ place_of e.1 → is_at (place_cmp k) q ≡ false → is_on q e ≡ false
off_other k q e h a = on_is q e ∙ ap (λ p. is_at (place_cmp p) q) (sym h) ∙ a

abbrev pub Changed : BTreeMap Place Shelf → BTreeMap Place Shelf → Place → Option Shelf → Type 0
Changed old new k w = (q : Place) → get place_cmp new q ≡ cond (is_at (place_cmp k) q) w (get place_cmp old q)

-- one shelf is another one, and the entries of the other places are the same
pub index_with : (old new : BTreeMap Place Shelf) (k : Place) (w : Option Shelf) (es fs : List Numbered) → IsIndex old es → Changed old new k w → w ≡ shelf_of (on_shelf k fs)
    → ((q : Place) → is_at (place_cmp k) q ≡ false → on_shelf q fs ≡ on_shelf q es) → IsIndex new fs
index_with old new k w es fs i u h o = λ q.
    (elim (is_at (place_cmp k) q) as (λ b. is_at (place_cmp k) q ≡ b → get place_cmp new q ≡ shelf_of (on_shelf q fs)) [
      | true ↦ λ e. u q ∙ ap (λ b. cond b w (get place_cmp old q)) e ∙ h ∙ ap (λ p. shelf_of (on_shelf p fs)) (at_exact k q e)
      | false ↦ λ e. u q ∙ ap (λ b. cond b w (get place_cmp old q)) e ∙ i q ∙ ap shelf_of (sym (o q e))
    ]) refl

-- an entry more at the front

pub cons_shelf : (s : Shelf) (es : List Numbered) (n flight : ℕ) (e : EntryOf) → Some s ≡ shelf_of es → flight ≡ e.flight
    → Some (record { flights = flight ∷ s.flights; numbers = n ∷ s.numbers }) ≡ shelf_of ((n, e) ∷ es)
cons_shelf s [] n flight e h f = cc
cons_shelf s (x ∷ xs) n flight e h f =
    let o : Shelf = record { flights = map (λ y. y.1.flight) (x ∷ xs); numbers = map (λ y. y.0) (x ∷ xs) } in
    let same : s ≡ o = cc in
    (λ i. Some (record { flights = f i ∷ (same i).flights; numbers = n ∷ (same i).numbers }))

pub no_shelf : (es : List Numbered) → None ≡ shelf_of es → es ≡ []
no_shelf [] h = refl
no_shelf (e ∷ es) h = cc

pub one_shelf : (es : List Numbered) (n flight : ℕ) (e : EntryOf) → None ≡ shelf_of es → flight ≡ e.flight → Some (record { flights = flight ∷ []; numbers = n ∷ [] }) ≡ shelf_of ((n, e) ∷ es)
one_shelf es n flight e h f = ap (λ x. Some (record { flights = x ∷ []; numbers = n ∷ [] })) f ∙ ap (λ xs. shelf_of ((n, e) ∷ xs)) (sym (no_shelf es h))

pub on_front : (k : Place) (e : Numbered) (es : List Numbered) → k ≡ place_of e.1 → on_shelf k (e ∷ es) ≡ e ∷ on_shelf k es
on_front k e es h = ap (λ b. cond b (e ∷ on_shelf k es) (on_shelf k es)) (on_own k e h)

pub off_front : (k q : Place) (e : Numbered) (es : List Numbered) → k ≡ place_of e.1 → is_at (place_cmp k) q ≡ false → on_shelf q (e ∷ es) ≡ on_shelf q es
off_front k q e es h a = ap (λ b. cond b (e ∷ on_shelf q es) (on_shelf q es)) (off_other k q e h a)

-- the last entry taken out

pub on_last : (k : Place) (e : Numbered) (es : List Numbered) → k ≡ place_of e.1 → on_shelf k (es ++ e ∷ []) ≡ on_shelf k es ++ e ∷ []
on_last k e es h = filter-append (is_on k) es (e ∷ []) ∙ ap (λ xs. on_shelf k es ++ xs) (on_front k e [] h)

pub off_last : (k q : Place) (e : Numbered) (es : List Numbered) → k ≡ place_of e.1 → is_at (place_cmp k) q ≡ false → on_shelf q es ≡ on_shelf q (es ++ e ∷ [])
off_last k q e es h a = sym (filter-append (is_on q) es (e ∷ []) ∙ ap (λ xs. on_shelf q es ++ xs) (off_front k q e [] h a) ∙ append-nil (on_shelf q es))

nonempty : {X : Type 0} (xs : List X) (y : X) → 0 < length (xs ++ y ∷ [])
nonempty [] y = omega arith
nonempty (x ∷ xs) y = omega arith

before_last : {X : Type 0} (es : List X) (e : X) → without_last (es ++ e ∷ []) ≡ es
before_last [] e = refl
before_last (f ∷ es) e =
    let n : length (f ∷ (es ++ e ∷ [])) - 1 ≡ length (es ++ e ∷ []) = omega arith in
    let m : length (es ++ e ∷ []) ≡ suc (length (es ++ e ∷ []) - 1) = omega (arith, nonempty es e) in
    ap (λ k. take k (f ∷ (es ++ e ∷ []))) (n ∙ m) ∙ ap (λ fs. f ∷ fs) (before_last es e)

shelf_end : (es : List Numbered) (e : Numbered) → shelf_of (es ++ e ∷ []) ≡ Some (record { flights = map (λ f. f.1.flight) (es ++ e ∷ []); numbers = map (λ f. f.0) (es ++ e ∷ []) })
shelf_end [] e = refl
shelf_end (f ∷ es) e = refl

without_end : {X Y : Type 0} (f : X → Y) (es : List X) (e : X) → without_last (map f (es ++ e ∷ [])) ≡ map f es
without_end f es e = ap without_last (map-append f es (e ∷ [])) ∙ before_last (map f es) (f e)

pub last_shelf : (s : Shelf) (es : List Numbered) (e : Numbered) → Some s ≡ shelf_of (es ++ e ∷ []) → (without_last s.flights ≡ map (λ f. f.1.flight) es) × (without_last s.numbers ≡ map (λ f. f.0) es)
last_shelf s es e h =
    let o : Shelf = record { flights = map (λ f. f.1.flight) (es ++ e ∷ []); numbers = map (λ f. f.0) (es ++ e ∷ []) } in
    let t : Some s ≡ Some o = h ∙ shelf_end es e in
    let same : s ≡ o = cc in (
      ap (λ (x : Shelf). without_last x.flights) same ∙ without_end (λ f. f.1.flight) es e,
      ap (λ (x : Shelf). without_last x.numbers) same ∙ without_end (λ f. f.0) es e,
    )

-- where something is left there is a shelf, and where nothing is left there is none
pub left_shelf : (es : List Numbered) (flights numbers : List ℕ) → nat_eq (length flights) 0 ≡ false → flights ≡ map (λ f. f.1.flight) es → numbers ≡ map (λ f. f.0) es
    → Some (record { flights = flights; numbers = numbers }) ≡ shelf_of es
left_shelf [] flights numbers z f n = let e : nat_eq (length flights) 0 ≡ true = ap (λ (xs : List ℕ). nat_eq (length xs) 0) f in cc
left_shelf (x ∷ xs) flights numbers z f n = λ i. Some (record { flights = f i; numbers = n i })

nonzero : (n : ℕ) → nat_eq (suc n) 0 ≡ true → ⊥
nonzero n h = grind (arith, nat_tests)

pub none_left : (es : List Numbered) (flights : List ℕ) → nat_eq (length flights) 0 ≡ true → flights ≡ map (λ f. f.1.flight) es → None ≡ shelf_of es
none_left [] flights z f = refl
none_left (x ∷ xs) flights z f = absurd (nonzero (length (map (λ y. y.1.flight) xs)) (ap (λ (ys : List ℕ). nat_eq (length ys) 0) (sym f) ∙ z))

-- an entry moved to the front

-- the entry of the number is on the shelf: the others of the shelf stay
pub on_removed : (k : Place) (t : ℕ → Bool) (es : List Numbered) (x : Numbered) → lookup_entry t es ≡ Some x → is_on k x ≡ true
    → (on_shelf k (remove_entry t es) ≡ remove_entry t (on_shelf k es)) × (lookup_entry t (on_shelf k es) ≡ Some x)
on_removed k t [] x h o = cc
on_removed k t (f ∷ es) x h o = (elim (t f.0) as (λ b. t f.0 ≡ b → (on_shelf k (remove_entry t (f ∷ es)) ≡ remove_entry t (on_shelf k (f ∷ es))) × (lookup_entry t (on_shelf k (f ∷ es)) ≡ Some x)) [
  | true ↦ λ e.
      let s : Some f ≡ Some x = rw e at h in
      let same : f ≡ x = cc in
      let own : is_on k f ≡ true = ap (is_on k) same ∙ o in
      (rw (e, own, e) refl, rw (own, e) (ap Some same))
  | false ↦ λ e.
      let on = on_removed k t es x (rw e at h) o in
      (elim (is_on k f) as (λ c. is_on k f ≡ c → (on_shelf k (remove_entry t (f ∷ es)) ≡ remove_entry t (on_shelf k (f ∷ es))) × (lookup_entry t (on_shelf k (f ∷ es)) ≡ Some x)) [
        | true ↦ λ d. (rw (e, d, e) (ap (λ xs. f ∷ xs) on.0), rw (d, e) on.1)
        | false ↦ λ d. (rw (e, d) on.0, rw d on.1)
      ]) refl
]) refl

-- it isn't: the shelf stays
pub off_removed : (q : Place) (t : ℕ → Bool) (es : List Numbered) (x : Numbered) → lookup_entry t es ≡ Some x → is_on q x ≡ false → on_shelf q (remove_entry t es) ≡ on_shelf q es
off_removed q t [] x h o = cc
off_removed q t (f ∷ es) x h o = (elim (t f.0) as (λ b. t f.0 ≡ b → on_shelf q (remove_entry t (f ∷ es)) ≡ on_shelf q (f ∷ es)) [
  | true ↦ λ e.
      let s : Some f ≡ Some x = rw e at h in
      let same : f ≡ x = cc in
      let off : is_on q f ≡ false = ap (is_on q) same ∙ o in
      rw (e, off) refl
  | false ↦ λ e. rw e (ap (λ xs. cond (is_on q f) (f ∷ xs) xs) (off_removed q t es x (rw e at h) o))
]) refl

pub record Removed {A : Type 0} (f : Numbered → A) (t : ℕ → Bool) (es : List Numbered) : Type 0 where
  pub within : position_or_len t (map (λ e. e.0) es) < length (map (λ e. e.0) es)
  pub rest : remove (map f es) (position_or_len t (map (λ e. e.0) es)) ≡ map f (remove_entry t es)

removed_step : {A : Type 0} (f : Numbered → A) (t : ℕ → Bool) (b : Bool) (e : Numbered) (es : List Numbered) (n : ℕ) → t e.0 ≡ b
    → (b ≡ false → (n < length (map (λ x. x.0) es)) × (remove (map f es) n ≡ map f (remove_entry t es)))
    → (cond (not b) (1 + n) 0 < length (map (λ x. x.0) (e ∷ es))) × (remove (map f (e ∷ es)) (cond (not b) (1 + n) 0) ≡ map f (cond b es (e ∷ remove_entry t es)))
removed_step f t true e es n h r = (omega arith, refl)
removed_step f t false e es n h r =
    let s = r refl in
    let k : 1 + n ≡ suc n = omega arith in
    (omega (arith, s.0), ap (remove (map f (e ∷ es))) k ∙ ap (λ xs. f e ∷ xs) s.1)

removed_by : {A : Type 0} (f : Numbered → A) (t : ℕ → Bool) (es : List Numbered) (x : Numbered) → lookup_entry t es ≡ Some x
    → (position_or_len t (map (λ e. e.0) es) < length (map (λ e. e.0) es)) × (remove (map f es) (position_or_len t (map (λ e. e.0) es)) ≡ map f (remove_entry t es))
removed_by f t [] x h = cc
removed_by f t (e ∷ es) x h = removed_step f t (t e.0) e es (position_or_len t (map (λ y. y.0) es)) refl (λ b. removed_by f t es x (rw b at h))

pub removed_map : {A : Type 0} (f : Numbered → A) (t : ℕ → Bool) (es : List Numbered) (x : Numbered) → lookup_entry t es ≡ Some x → Removed f t es
removed_map f t es x h = let r = removed_by f t es x h in record { within = r.0; rest = r.1 }

mapped_long : (es : List Numbered) → length (map (λ (f : Numbered). f.1.flight) es) ≡ length (map (λ (f : Numbered). f.0) es)
mapped_long [] = refl
mapped_long (e ∷ es) = ap suc (mapped_long es)

pub shelf_some : (s : Shelf) (es : List Numbered) → Some s ≡ shelf_of es → (s.flights ≡ map (λ f. f.1.flight) es) × (s.numbers ≡ map (λ f. f.0) es)
shelf_some s [] h = cc
shelf_some s (e ∷ es) h =
    let o : Shelf = record { flights = map (λ f. f.1.flight) (e ∷ es); numbers = map (λ f. f.0) (e ∷ es) } in
    let same : s ≡ o = cc in
    (ap (λ (x : Shelf). x.flights) same, ap (λ (x : Shelf). x.numbers) same)

-- all of a source taken out

chosen_lookup : (t : Place → Bool) (d : Bool) (p : Place × Shelf) (es : List (Place × Shelf)) → lookup t (cond d (p ∷ es) es) ≡ cond d (cond (t p.0) (Some p.1) (lookup t es)) (lookup t es)
chosen_lookup t true p es = refl
chosen_lookup t false p es = refl

lookup_case : (a b c : Bool) (s y : Option Shelf) → (a ≡ true → b ≡ c) → cond (not c) (cond a s (cond b None y)) (cond b None y) ≡ cond b None (cond a s y)
lookup_case true true true s y h = refl
lookup_case true true false s y h = let e = h refl in cc
lookup_case true false true s y h = let e = h refl in cc
lookup_case true false false s y h = refl
lookup_case false true true s y h = refl
lookup_case false true false s y h = refl
lookup_case false false true s y h = refl
lookup_case false false false s y h = refl

none_either : (b : Bool) → ◌≡◌ {A = Option Shelf} None (cond b None None)
none_either true = refl
none_either false = refl

kept_lookup : (source : ℕ) (q : Place) (es : List (Place × Shelf))
    → lookup (is_at (place_cmp q)) (filter (λ p. not (nat_eq p.0.0 source)) es) ≡ cond (nat_eq q.0 source) None (lookup (is_at (place_cmp q)) es)
kept_lookup source q [] = none_either (nat_eq q.0 source)
kept_lookup source q (p ∷ es) =
    let t = is_at (place_cmp q) in
    let rest = filter (λ (r : Place × Shelf). not (nat_eq r.0.0 source)) es in
    chosen_lookup t (not (nat_eq p.0.0 source)) p rest
    ∙ ap (λ y. cond (not (nat_eq p.0.0 source)) (cond (t p.0) (Some p.1) y) y) (kept_lookup source q es)
    ∙ lookup_case (t p.0) (nat_eq q.0 source) (nat_eq p.0.0 source) (Some p.1) (lookup t es) (λ a. ap (λ (k : Place). nat_eq k.0 source) (at_exact q p.0 a))

chosen_shelf : (q : Place) (d : Bool) (x : Numbered) (es : List Numbered) → on_shelf q (cond d (x ∷ es) es) ≡ cond d (cond (is_on q x) (x ∷ on_shelf q es) (on_shelf q es)) (on_shelf q es)
chosen_shelf q true x es = refl
chosen_shelf q false x es = refl

shelf_case : (a b c : Bool) (x : Numbered) (ys : List Numbered) → (a ≡ true → b ≡ c) → cond (not c) (cond a (x ∷ cond b [] ys) (cond b [] ys)) (cond b [] ys) ≡ cond b [] (cond a (x ∷ ys) ys)
shelf_case true true true x ys h = refl
shelf_case true true false x ys h = let e = h refl in cc
shelf_case true false true x ys h = let e = h refl in cc
shelf_case true false false x ys h = refl
shelf_case false true true x ys h = refl
shelf_case false true false x ys h = refl
shelf_case false false true x ys h = refl
shelf_case false false false x ys h = refl

empty_either : (b : Bool) → ◌≡◌ {A = List Numbered} [] (cond b [] [])
empty_either true = refl
empty_either false = refl

kept_shelf : (source : ℕ) (q : Place) (es : List Numbered) → on_shelf q (filter (λ e. not (is_of source e.1)) es) ≡ cond (nat_eq q.0 source) [] (on_shelf q es)
kept_shelf source q [] = empty_either (nat_eq q.0 source)
kept_shelf source q (x ∷ es) =
    chosen_shelf q (not (is_of source x.1)) x (filter (λ (r : Numbered). not (is_of source r.1)) es)
    ∙ ap (λ ys. cond (not (is_of source x.1)) (cond (is_on q x) (x ∷ ys) ys) ys) (kept_shelf source q es)
    ∙ shelf_case (is_on q x) (nat_eq q.0 source) (is_of source x.1) x (on_shelf q es)
    (λ a. ap (λ n. nat_eq n source) (sym (exact_numbers x.1.key.source q.0 (and_left (nat_eq x.1.key.source q.0) (nat_eq x.1.stamp q.1) a))))

cut_shelf : (b : Bool) (es : List Numbered) → cond b None (shelf_of es) ≡ shelf_of (cond b [] es)
cut_shelf true es = refl
cut_shelf false es = refl

pub index_without : (old new : BTreeMap Place Shelf) (source : ℕ) (es : List Numbered) → IsIndex old es → new.entries ≡ filter (λ p. not (nat_eq p.0.0 source)) old.entries
    → IsIndex new (filter (λ e. not (is_of source e.1)) es)
index_without old new source es i h = λ q.
    ap (lookup (is_at (place_cmp q))) h
    ∙ kept_lookup source q old.entries
    ∙ ap (cond (nat_eq q.0 source) None) (i q)
    ∙ cut_shelf (nat_eq q.0 source) (on_shelf q es)
    ∙ ap shelf_of (sym (kept_shelf source q es))

-- the whole of each change

pub entered_some : (old new : BTreeMap Place Shelf) (k : Place) (s w : Shelf) (n flight : ℕ) (es : List Numbered) (e : EntryOf) → k ≡ place_of e → flight ≡ e.flight → IsIndex old es
    → Some s ≡ get place_cmp old k → w ≡ record { flights = flight ∷ s.flights; numbers = n ∷ s.numbers } → Changed old new k (Some w) → IsIndex new ((n, e) ∷ es)
entered_some old new k s w n flight es e p f i g h u =
    index_with old new k (Some w) es ((n, e) ∷ es) i u
    (ap Some h ∙ cons_shelf s (on_shelf k es) n flight e (g ∙ i k) f ∙ ap shelf_of (sym (on_front k (n, e) es p)))
    (λ q a. off_front k q (n, e) es p a)

pub entered_none : (old new : BTreeMap Place Shelf) (k : Place) (w : Shelf) (n flight : ℕ) (es : List Numbered) (e : EntryOf) → k ≡ place_of e → flight ≡ e.flight → IsIndex old es
    → None ≡ get place_cmp old k → w ≡ record { flights = flight ∷ []; numbers = n ∷ [] } → Changed old new k (Some w) → IsIndex new ((n, e) ∷ es)
entered_none old new k w n flight es e p f i g h u =
    index_with old new k (Some w) es ((n, e) ∷ es) i u
    (ap Some h ∙ one_shelf (on_shelf k es) n flight e (g ∙ i k) f ∙ ap shelf_of (sym (on_front k (n, e) es p)))
    (λ q a. off_front k q (n, e) es p a)

pub left_some : (old new : BTreeMap Place Shelf) (k : Place) (s w : Shelf) (es : List Numbered) (e : Numbered) → k ≡ place_of e.1 → IsIndex old (es ++ e ∷ []) → Some s ≡ get place_cmp old k
    → w ≡ record { flights = without_last s.flights; numbers = without_last s.numbers } → nat_eq (length (without_last s.flights)) 0 ≡ false → Changed old new k (Some w) → IsIndex new es
left_some old new k s w es e p i g h z u =
    let last = last_shelf s (on_shelf k es) e (g ∙ i k ∙ ap shelf_of (on_last k e es p)) in
    index_with old new k (Some w) (es ++ e ∷ []) es i u
    (ap Some h ∙ left_shelf (on_shelf k es) (without_last s.flights) (without_last s.numbers) z last.0 last.1)
    (λ q a. off_last k q e es p a)

pub left_none : (old new : BTreeMap Place Shelf) (k : Place) (s : Shelf) (es : List Numbered) (e : Numbered) → k ≡ place_of e.1 → IsIndex old (es ++ e ∷ []) → Some s ≡ get place_cmp old k
    → nat_eq (length (without_last s.flights)) 0 ≡ true → Changed old new k None → IsIndex new es
left_none old new k s es e p i g z u =
    let last = last_shelf s (on_shelf k es) e (g ∙ i k ∙ ap shelf_of (on_last k e es p)) in
    index_with old new k None (es ++ e ∷ []) es i u
    (none_left (on_shelf k es) (without_last s.flights) z last.0)
    (λ q a. off_last k q e es p a)

pub never_left : (old : BTreeMap Place Shelf) (k : Place) (es : List Numbered) (e : Numbered) → k ≡ place_of e.1 → IsIndex old (es ++ e ∷ []) → None ≡ get place_cmp old k → ⊥
never_left old k es e p i g = let s : Shelf = record { flights = map (λ (f : Numbered). f.1.flight) (on_shelf k es ++ e ∷ []); numbers = map (λ (f : Numbered). f.0) (on_shelf k es ++ e ∷ []) } in let t : None ≡ Some s = g ∙ i k ∙ ap shelf_of (on_last k e es p) ∙ shelf_end (on_shelf k es) e in cc

pub brought_some : (old new : BTreeMap Place Shelf) (k : Place) (s w : Shelf) (n flight : ℕ) (es : List Numbered) (d e : EntryOf) → k ≡ place_of d → k ≡ place_of e → flight ≡ e.flight
    → lookup_entry (eqb n) es ≡ Some (n, d) → IsIndex old es → Some s ≡ get place_cmp old k
    → (position_or_len (eqb n) s.numbers < length s.numbers → length s.flights ≡ length s.numbers
    → w ≡ record { flights = flight ∷ remove s.flights (position_or_len (eqb n) s.numbers); numbers = n ∷ remove s.numbers (position_or_len (eqb n) s.numbers) })
    → Changed old new k (Some w) → IsIndex new ((n, e) ∷ remove_entry (eqb n) es)
brought_some old new k s w n flight es d e p q f l i g h u =
    let x : Numbered = (n, d) in
    let es' = on_shelf k es in
    let on = on_removed k (eqb n) es x l (on_own k x p) in
    let parts = shelf_some s es' (g ∙ i k) in
    let fl = removed_map (λ (y : Numbered). y.1.flight) (eqb n) es' x on.1 in
    let nu = removed_map (λ (y : Numbered). y.0) (eqb n) es' x on.1 in
    let within : position_or_len (eqb n) s.numbers < length s.numbers = rw parts.1 nu.within in
    let same : length s.flights ≡ length s.numbers = ap length parts.0 ∙ mapped_long es' ∙ ap length (sym parts.1) in
    index_with old new k (Some w) es ((n, e) ∷ remove_entry (eqb n) es) i u
    (ap Some (h within same)
    ∙ (λ j. Some (record { flights = f j ∷ remove (parts.0 j) (position_or_len (eqb n) (parts.1 j)); numbers = n ∷ remove (parts.1 j) (position_or_len (eqb n) (parts.1 j)) }))
    ∙ (λ j. Some (record { flights = e.flight ∷ fl.rest j; numbers = n ∷ nu.rest j }))
    ∙ ap (λ ys. shelf_of ((n, e) ∷ ys)) (sym on.0)
    ∙ ap shelf_of (sym (on_front k (n, e) (remove_entry (eqb n) es) q)))
    (λ r a. off_front k r (n, e) (remove_entry (eqb n) es) q a ∙ off_removed r (eqb n) es x l (off_other k r x p a))

pub entered_by : (b : Bool) (old new : BTreeMap Place Shelf) (k : Place) (s w : Shelf) (n flight : ℕ) (es : List Numbered) (e : EntryOf) → k ≡ place_of e → flight ≡ e.flight → IsIndex old es
    → Some s ≡ get place_cmp old k → MatchBool b (w ≡ record { flights = flight ∷ s.flights; numbers = n ∷ s.numbers }) (w ≡ s) → Changed old new k (Some w)
    → MatchBool b (IsIndex new ((n, e) ∷ es)) (IsIndex new es)
entered_by true old new k s w n flight es e p f i g h u = entered_some old new k s w n flight es e p f i g h u
entered_by false old new k s w n flight es e p f i g h u = index_with old new k (Some w) es es i u (ap Some h ∙ g ∙ i k) (λ q a. refl)

pub never_brought : (old : BTreeMap Place Shelf) (k : Place) (n : ℕ) (es : List Numbered) (d : EntryOf) → k ≡ place_of d → lookup_entry (eqb n) es ≡ Some (n, d) → IsIndex old es → None ≡ get place_cmp old k → ⊥
never_brought old k n es d p l i g =
    let x : Numbered = (n, d) in
    let on = on_removed k (eqb n) es x l (on_own k x p) in
    let empty = no_shelf (on_shelf k es) (g ∙ i k) in
    let t : None ≡ Some x = ap (lookup_entry (eqb n)) (sym empty) ∙ on.1 in
    cc

-- equal entries have an equal index
pub index_same : (old new : BTreeMap Place Shelf) (es : List Numbered) → IsIndex old es → new.entries ≡ old.entries → IsIndex new es
index_same old new es i h = λ q. ap (lookup (is_at (place_cmp q))) h ∙ i q

twice : (b : Bool) (w x y : Option Shelf) → cond b None (cond b w y) ≡ cond b None y
twice true w x y = refl
twice false w x y = refl

pub left_removed : (old mid new : BTreeMap Place Shelf) (k : Place) (s w : Shelf) (es : List Numbered) (e : Numbered) → k ≡ place_of e.1 → IsIndex old (es ++ e ∷ []) → Some s ≡ get place_cmp old k
    → nat_eq (length (without_last s.flights)) 0 ≡ true → Changed old mid k (Some w) → Changed mid new k None → IsIndex new es
left_removed old mid new k s w es e p i g z u v =
    left_none old new k s es e p i g z (λ q. v q ∙ ap (cond (is_at (place_cmp k) q) None) (u q) ∙ twice (is_at (place_cmp k) q) (Some w) None (get place_cmp old q))

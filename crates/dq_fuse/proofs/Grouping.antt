-- Queries gathered one after another are the groups of the definition.
use Rattle.std.proofs.Common.{◌≡◌, ℕ, zero, suc, ◌+◌, ◌<◌, ◌≤◌, Bool, true, false, not, ◌||◌, cond, List, [], ◌∷◌, ◌++◌, map, length, get_or, refl, sym, ap, ◌∙◌, arith, append_assoc, take}
use Rattle.std.proofs.Math.Seq.{take-suc}
use Rattle.std.proofs.lemmas.List.{append-nil, length-map, map-append}
use Rattle.std.specs.Prelude.{if◌then◌else◌, slice_set}
use Rattle.std.specs.List.{list_any, filter, fold, enumerate_from, position_or_len}
use Rattle.indexmap.specs.IndexSet.{insert_key}
use Rattle.dq_base.specs.Batches.{groups, groups_from, group_with, fuses}
use Rattle.dq_fuse.specs.Gathered.{Gathered, alone, joined, gathered_with, gathered, group_of, kinds_of}
use Rattle.dq_fuse.specs.Kinds.{KindOf, kind_of, kind_eq}
use Rattle.dq_fuse.proofs.SameKind.{same_kind_back}
use Rattle.dq_base.specs.declared.query.Query.{Query}

abbrev Placed : Type 0
Placed = ℕ × Query

-- the first group takes what fuses with it, and the others the rest
split_step : (b : Bool) (g : Gathered) (gs : List Gathered) (x : Placed) (xs ys zs : List Placed) →
    fold gathered_with (joined g x ∷ gs) xs ≡ fold joined (joined g x) ys ∷ fold gathered_with gs zs →
    fold gathered_with (g ∷ gathered_with gs x) xs ≡ fold joined g ys ∷ fold gathered_with (gathered_with gs x) zs →
    fold gathered_with (if b then joined g x ∷ gs else g ∷ gathered_with gs x) xs ≡ fold joined g (cond b (x ∷ ys) ys) ∷ fold gathered_with gs (cond (not b) (x ∷ zs) zs)
split_step true g gs x xs ys zs p q = p
split_step false g gs x xs ys zs p q = q

split : (g : Gathered) (gs : List Gathered) (xs : List Placed) →
    fold gathered_with (g ∷ gs) xs ≡ fold joined g (filter (λ p. fuses g.first p.1) xs) ∷ fold gathered_with gs (filter (λ p. not (fuses g.first p.1)) xs)
split g gs [] = refl
split g gs (x ∷ xs) =
    split_step (fuses g.first x.1) g gs x xs (filter (λ p. fuses g.first p.1) xs) (filter (λ p. not (fuses g.first p.1)) xs)
    (split (joined g x) gs xs) (split g (gathered_with gs x) xs)

absorbs : (g : Gathered) (xs : List Placed) → fold joined g xs ≡ record { first = g.first; others = g.others ++ map (λ p. p.1) xs; members = g.members ++ map (λ p. p.0) xs }
absorbs g [] = λ i. record { first = g.first; others = (sym (append-nil g.others)) i; members = (sym (append-nil g.members)) i }
absorbs g (x ∷ xs) = absorbs (joined g x) xs ∙ (λ i. record { first = g.first; others = (append_assoc g.others (x.1 ∷ []) (map (λ p. p.1) xs)) i; members = (append_assoc g.members (x.0 ∷ []) (map (λ p. p.0) xs)) i })

group_is : (q : Placed) (xs : List Placed) → group_of (fold joined (alone q) xs) ≡ group_with xs q
group_is q xs = ap group_of (absorbs (alone q) xs)

chosen_le : (b : Bool) {X : Type 0} (x : X) (us : List X) (n : ℕ) → length us ≤ n → length (cond b (x ∷ us) us) ≤ suc n
chosen_le true x us n l = omega arith
chosen_le false x us n l = omega arith

filter_le : {X : Type 0} (p : X → Bool) (xs : List X) (n : ℕ) → length xs ≤ n → length (filter p xs) ≤ n
filter_le p [] n l = omega arith
filter_le p (x ∷ xs) zero l = absurd (omega arith)
filter_le p (x ∷ xs) (suc n) l = chosen_le (p x) x (filter p xs) n (filter_le p xs n (omega arith))

groups_are : (n : ℕ) (qs : List Placed) → length qs ≤ n → map group_of (fold gathered_with [] qs) ≡ groups_from n qs
groups_are zero [] l = refl
groups_are zero (q ∷ qs) l = absurd (omega arith)
groups_are (suc n) [] l = refl
groups_are (suc n) (q ∷ qs) l =
    ap (map group_of) (split (alone q) [] qs)
    ∙ ap (λ g. g ∷ map group_of (fold gathered_with [] (filter (λ p. not (fuses q.1 p.1)) qs))) (group_is q (filter (λ p. fuses q.1 p.1) qs))
    ∙ ap (λ gs. group_with (filter (λ p. fuses q.1 p.1) qs) q ∷ gs) (groups_are n (filter (λ p. not (fuses q.1 p.1)) qs) (filter_le (λ p. not (fuses q.1 p.1)) qs n (omega arith)))

length_numbered : (n : ℕ) (qs : List Query) → length (enumerate_from n qs) ≤ length qs
length_numbered n [] = omega arith
length_numbered n (q ∷ qs) = omega (arith, length_numbered (n + 1) qs)

pub gathers : (qs : List Query) → map group_of (gathered (enumerate_from 0 qs)) ≡ groups qs
gathers qs = groups_are (length qs) (enumerate_from 0 qs) (length_numbered 0 qs)

-- one query more, by the number of its kind

any_kind : (q : Query) (gs : List Gathered) → list_any (kind_eq (kind_of q)) (kinds_of gs) ≡ list_any (λ g. fuses g.first q) gs
any_kind q [] = refl
any_kind q (g ∷ gs) = ap (λ b. b || list_any (kind_eq (kind_of q)) (kinds_of gs)) (same_kind_back g.first q) ∙ ap (λ b. fuses g.first q || b) (any_kind q gs)

at_front : (b : Bool) (g : Gathered) (gs more : List Gathered) (q : Placed) → (b || list_any (λ h. fuses h.first q.1) gs) ≡ false
    → (list_any (λ h. fuses h.first q.1) gs ≡ false → gs ++ alone q ∷ [] ≡ more) → g ∷ (gs ++ alone q ∷ []) ≡ (if b then joined g q ∷ gs else g ∷ more)
at_front true g gs more q e h = cc
at_front false g gs more q e h = ap (λ x. g ∷ x) (h e)

new_by : (gs : List Gathered) (q : Placed) → list_any (λ g. fuses g.first q.1) gs ≡ false → gs ++ alone q ∷ [] ≡ gathered_with gs q
new_by [] q e = refl
new_by (g ∷ gs) q e = at_front (fuses g.first q.1) g gs (gathered_with gs q) q e (new_by gs q)

-- a query of a new kind stands alone at the end
pub joins_none : (gs : List Gathered) (q : Placed) → list_any (kind_eq (kind_of q.1)) (kinds_of gs) ≡ false → gs ++ alone q ∷ [] ≡ gathered_with gs q
joins_none gs q e = new_by gs q (sym (any_kind q.1 gs) ∙ e)

abbrev pub at_place : List Gathered → ℕ → Placed → Gathered → List Gathered
at_place gs i q d = slice_set gs i (joined (get_or gs i d) q)

old_step : (b : Bool) (g : Gathered) (gs more : List Gathered) (q : Placed) (d : Gathered) (i : ℕ) (any : Bool) → (b || any) ≡ true
    → (any ≡ true → at_place gs i q d ≡ more) → at_place (g ∷ gs) (cond (not b) (1 + i) 0) q d ≡ (if b then joined g q ∷ gs else g ∷ more)
old_step true g gs more q d i any e h = refl
old_step false g gs more q d i any e h =
    let n : 1 + i ≡ suc i = omega arith in
    ap (λ k. at_place (g ∷ gs) k q d) n ∙ ap (λ hs. g ∷ hs) (h e)

old_by : (gs : List Gathered) (q : Placed) (d : Gathered) → list_any (λ g. fuses g.first q.1) gs ≡ true → at_place gs (position_or_len (kind_eq (kind_of q.1)) (kinds_of gs)) q d ≡ gathered_with gs q
old_by [] q d e = cc
old_by (g ∷ gs) q d e =
    let i = position_or_len (kind_eq (kind_of q.1)) (kinds_of gs) in
    ap (λ b. at_place (g ∷ gs) (cond (not b) (1 + i) 0) q d) (same_kind_back g.first q.1)
    ∙ old_step (fuses g.first q.1) g gs (gathered_with gs q) q d i (list_any (λ h. fuses h.first q.1) gs) e (old_by gs q d)

-- a query of a kind that is there joins the group of its number
pub joins_there : (gs : List Gathered) (q : Placed) (d : Gathered) → list_any (kind_eq (kind_of q.1)) (kinds_of gs) ≡ true → at_place gs (position_or_len (kind_eq (kind_of q.1)) (kinds_of gs)) q d ≡ gathered_with gs q
joins_there gs q d e = old_by gs q d (sym (any_kind q.1 gs) ∙ e)

kept_step : (b : Bool) (g : Gathered) (gs more : List Gathered) (q : Placed) (any : Bool) → (b || any) ≡ true → (any ≡ true → kinds_of more ≡ kinds_of gs)
    → kinds_of (if b then joined g q ∷ gs else g ∷ more) ≡ kinds_of (g ∷ gs)
kept_step true g gs more q any e h = refl
kept_step false g gs more q any e h = ap (λ ks. kind_of g.first ∷ ks) (h e)

kinds_kept : (gs : List Gathered) (q : Placed) → list_any (λ g. fuses g.first q.1) gs ≡ true → kinds_of (gathered_with gs q) ≡ kinds_of gs
kinds_kept [] q e = cc
kinds_kept (g ∷ gs) q e = kept_step (fuses g.first q.1) g gs (gathered_with gs q) q (list_any (λ h. fuses h.first q.1) gs) e (kinds_kept gs q)

kinds_by : (b : Bool) (gs : List Gathered) (q : Placed) → list_any (λ g. fuses g.first q.1) gs ≡ b → (if b then kinds_of gs else kinds_of gs ++ kind_of q.1 ∷ []) ≡ kinds_of (gathered_with gs q)
kinds_by true gs q e = sym (kinds_kept gs q e)
kinds_by false gs q e = sym (map-append (λ (g : Gathered). kind_of g.first) gs (alone q ∷ [])) ∙ ap kinds_of (new_by gs q e)

-- the kinds after it
pub kinds_with : (gs : List Gathered) (q : Placed) → insert_key kind_eq (kinds_of gs) (kind_of q.1) ≡ kinds_of (gathered_with gs q)
kinds_with gs q =
    ap (λ b. if b then kinds_of gs else kinds_of gs ++ kind_of q.1 ∷ []) (any_kind q.1 gs)
    ∙ kinds_by (list_any (λ g. fuses g.first q.1) gs) gs q refl

numbered_more : (n : ℕ) (qs : List Query) (q : Query) → enumerate_from n (qs ++ q ∷ []) ≡ enumerate_from n qs ++ (n + length qs, q) ∷ []
numbered_more n [] q = let e : n ≡ n + 0 = omega arith in ap (λ k. (k, q) ∷ []) e
numbered_more n (x ∷ qs) q =
    let e : n + 1 + length qs ≡ n + length (x ∷ qs) = omega arith in
    ap (λ xs. (n, x) ∷ xs) (numbered_more (n + 1) qs q ∙ ap (λ k. enumerate_from (n + 1) qs ++ (k, q) ∷ []) e)

folded_more : (gs : List Gathered) (qs : List Placed) (q : Placed) → fold gathered_with gs (qs ++ q ∷ []) ≡ gathered_with (fold gathered_with gs qs) q
folded_more gs [] q = refl
folded_more gs (x ∷ qs) q = folded_more (gathered_with gs x) qs q

length_taken : {A : Type 0} (xs : List A) (i : ℕ) → i ≤ length xs → length (take i xs) ≡ i
length_taken xs zero l = refl
length_taken [] (suc i) l = absurd (omega arith)
length_taken (x ∷ xs) (suc i) l = ap suc (length_taken xs i (omega arith))

-- one item more
pub gathered_more : {A : Type 0} (f : A → Query) (xs : List A) (i : ℕ) (x : A) → i < length xs → x ≡ get_or xs i x
    → gathered (enumerate_from 0 (map f (take (i + 1) xs))) ≡ gathered_with (gathered (enumerate_from 0 (map f (take i xs)))) (i, f x)
gathered_more f xs i x l e =
    let n : i + 1 ≡ suc i = omega arith in
    let t : take (i + 1) xs ≡ take i xs ++ x ∷ [] = ap (λ k. take k xs) n ∙ take-suc xs i x l ∙ ap (λ y. take i xs ++ y ∷ []) (sym e) in
    let m : length (map f (take i xs)) ≡ i = length-map (take i xs) f ∙ length_taken xs i (omega arith) in
    let z : 0 + length (map f (take i xs)) ≡ i = omega (arith, m) in
    ap (λ ys. gathered (enumerate_from 0 (map f ys))) t
    ∙ ap (λ ys. gathered (enumerate_from 0 ys)) (map-append f (take i xs) (x ∷ []))
    ∙ ap gathered (numbered_more 0 (map f (take i xs)) (f x))
    ∙ folded_more [] (enumerate_from 0 (map f (take i xs))) (0 + length (map f (take i xs)), f x)
    ∙ ap (λ k. gathered_with (gathered (enumerate_from 0 (map f (take i xs)))) (k, f x)) z

-- what a query's look-up in the set of kinds means

not_false : (b c : Bool) → c ≡ not b → c ≡ true → b ≡ false
not_false true c e f = cc
not_false false c e f = refl

not_true : (b c : Bool) → c ≡ not b → c ≡ false → b ≡ true
not_true true c e f = refl
not_true false c e f = cc

any_at : (gs : List Gathered) (ks : List KindOf) (k : KindOf) (q : Placed) → ks ≡ kinds_of gs → k ≡ kind_of q.1 → list_any (kind_eq k) ks ≡ list_any (kind_eq (kind_of q.1)) (kinds_of gs)
any_at gs ks k q e f = λ i. list_any (kind_eq (f i)) (e i)

pub entered_new : (gs : List Gathered) (ks : List KindOf) (k : KindOf) (q : Placed) (new : Bool) (a : Gathered)
    → ks ≡ kinds_of gs → k ≡ kind_of q.1 → new ≡ not (list_any (kind_eq k) ks) → new ≡ true → a ≡ alone q → gs ++ a ∷ [] ≡ gathered_with gs q
entered_new gs ks k q new a e f n t s =
    ap (λ x. gs ++ x ∷ []) s ∙ joins_none gs q (sym (any_at gs ks k q e f) ∙ not_false (list_any (kind_eq k) ks) new n t)

pub entered_old : (gs : List Gathered) (ks : List KindOf) (k : KindOf) (q : Placed) (new : Bool) (i : ℕ) (d a : Gathered)
    → ks ≡ kinds_of gs → k ≡ kind_of q.1 → new ≡ not (list_any (kind_eq k) ks) → new ≡ false → i ≡ position_or_len (kind_eq k) ks → a ≡ joined (get_or gs i d) q
    → slice_set gs i a ≡ gathered_with gs q
entered_old gs ks k q new i d a e f n t p s =
    let at : i ≡ position_or_len (kind_eq (kind_of q.1)) (kinds_of gs) = p ∙ (λ j. position_or_len (kind_eq (f j)) (e j)) in
    ap (λ x. slice_set gs i x) s ∙ ap (λ j. at_place gs j q d) at
    ∙ joins_there gs q d (sym (any_at gs ks k q e f) ∙ not_true (list_any (kind_eq k) ks) new n t)

pub entered_keys : (gs hs : List Gathered) (ks js : List KindOf) (k : KindOf) (q : Placed) → ks ≡ kinds_of gs → k ≡ kind_of q.1 → js ≡ insert_key kind_eq ks k → hs ≡ gathered_with gs q → js ≡ kinds_of hs
entered_keys gs hs ks js k q e f j h = j ∙ (λ i. insert_key kind_eq (e i) (f i)) ∙ kinds_with gs q ∙ ap kinds_of (sym h)

pub mapped_self : {A : Type 0} (xs : List A) → map (λ (x : A). x) xs ≡ xs
mapped_self [] = refl
mapped_self (x ∷ xs) = ap (λ ys. x ∷ ys) (mapped_self xs)

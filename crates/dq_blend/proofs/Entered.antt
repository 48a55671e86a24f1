-- Keys that are entered with the place of the first row that begins with them.
use Rattle.std.proofs.Common.{◌≡◌, ℕ, zero, suc, ◌<◌, ◌+◌, Bool, true, false, cond, List, [], ◌∷◌, ◌++◌, length, take, get_or, refl, sym, ap, ◌∙◌, Option, Some, None, arith}
use Rattle.std.specs.Prelude.{option_map, option_and_then, slice_get, is_some}
use Rattle.std.specs.List.{find}
use Rattle.std.specs.Option.{option_or}
use Rattle.std.specs.declared.cmp.Ordering.{Ordering}
use Rattle.std.specs.declared.cmp.Ordering.TheVariants.{Less, Equal, Greater}
use Rattle.std.specs.Ordering.{is_eq, ordering_reverse}
use Rattle.std.specs.BTreeMap.{is_at}
use Rattle.std.specs.Cmp.{IsTotalOrder}
use Rattle.std.specs.Map.{lookup}
use Rattle.std.proofs.lemmas.Cmp.{lists_total}
use Rattle.std.proofs.lemmas.List.{take_more, length-take}
use Rattle.dq_base.specs.declared.cell.Cell.{Cell}
use Rattle.dq_blend.specs.Exact.{cells_cmp}
use Rattle.dq_blend.specs.ExactOrder.{exact_cmp_total}
use Rattle.dq_blend.specs.Places.{AreFirst, begins_with, first_place}

cells_total : IsTotalOrder cells_cmp
cells_total = lists_total exact_cmp_total

-- places

or_nothing : {X : Type 0} (o : Option X) → o ≡ option_or o None
or_nothing None = refl
or_nothing (Some x) = refl

or_other : {X : Type 0} (o p : Option X) → is_some o ≡ true → o ≡ option_or o p
or_other None p h = cc
or_other (Some x) p h = refl

none_of : {X : Type 0} (o : Option X) → is_some o ≡ false → o ≡ None
none_of None h = refl
none_of (Some x) h = cc

next_or : (a : Option ℕ) (b : Bool) (n : ℕ) → option_map suc (option_or a (cond b (Some n) None)) ≡ option_or (option_map suc a) (cond b (Some (suc n)) None)
next_or None true n = refl
next_or None false n = refl
next_or (Some i) b n = refl

first_or : (b : Bool) (a p : Option ℕ) → cond b (Some zero) (option_or a p) ≡ option_or (cond b (Some zero) a) p
first_or true a p = refl
first_or false a p = refl

place_push : {X : Type 0} (p : X → Bool) (xs : List X) (y : X) → first_place p (xs ++ y ∷ []) ≡ option_or (first_place p xs) (cond (p y) (Some (length xs)) None)
place_push p [] y = refl
place_push p (x ∷ xs) y =
    ap (λ o. cond (p x) (Some zero) (option_map suc o)) (place_push p xs y)
    ∙ ap (λ o. cond (p x) (Some zero) o) (next_or (first_place p xs) (p y) (length xs))
    ∙ first_or (p x) (option_map suc (first_place p xs)) (cond (p y) (Some (suc (length xs))) None)

behind_first : {X : Type 0} (x : X) (xs : List X) (o : Option ℕ) → option_and_then (slice_get xs) o ≡ option_and_then (slice_get (x ∷ xs)) (option_map suc o)
behind_first x xs None = refl
behind_first x xs (Some i) = refl

found_by : {X : Type 0} (b : Bool) (x : X) (xs : List X) (o : Option ℕ) (f : Option X) → f ≡ option_and_then (slice_get xs) o
    → cond b (Some x) f ≡ option_and_then (slice_get (x ∷ xs)) (cond b (Some zero) (option_map suc o))
found_by true x xs o f h = refl
found_by false x xs o f h = h ∙ behind_first x xs o

find_place : {X : Type 0} (p : X → Bool) (xs : List X) → find p xs ≡ option_and_then (slice_get xs) (first_place p xs)
find_place p [] = refl
find_place p (x ∷ xs) = found_by (p x) x xs (first_place p xs) (find p xs) (find_place p xs)

-- entries

alike : (q k : List Cell) → cells_cmp q k ≡ Equal → (es : List (List Cell × ℕ)) → lookup (is_at (cells_cmp q)) es ≡ lookup (is_at (cells_cmp k)) es
alike q k e [] = refl
alike q k e (x ∷ es) =
    ap (λ r. cond (is_eq r) (Some x.1) (lookup (is_at (cells_cmp q)) es)) (cells_total.congr q k x.0 e)
    ∙ ap (λ o. cond (is_eq (cells_cmp k x.0)) (Some x.1) o) (alike q k e es)

there_by : (r : Ordering) (q k : List Cell) (place : ℕ) (es : List (List Cell × ℕ)) → cells_cmp q k ≡ r → is_some (lookup (is_at (cells_cmp k)) es) ≡ true
    → lookup (is_at (cells_cmp q)) es ≡ option_or (lookup (is_at (cells_cmp q)) es) (cond (is_eq r) (Some place) None)
there_by Less q k place es e h = or_nothing (lookup (is_at (cells_cmp q)) es)
there_by Equal q k place es e h = or_other (lookup (is_at (cells_cmp q)) es) (Some place) (ap is_some (alike q k e es) ∙ h)
there_by Greater q k place es e h = or_nothing (lookup (is_at (cells_cmp q)) es)

-- a key that is there stays as it is
pub there : (q k : List Cell) (place : ℕ) (es : List (List Cell × ℕ)) → is_some (lookup (is_at (cells_cmp k)) es) ≡ true
    → lookup (is_at (cells_cmp q)) es ≡ option_or (lookup (is_at (cells_cmp q)) es) (cond (is_eq (cells_cmp q k)) (Some place) None)
there q k place es h = there_by (cells_cmp q k) q k place es refl h

entered_by : (r : Ordering) (q k : List Cell) (place : ℕ) (es : List (List Cell × ℕ)) → cells_cmp q k ≡ r → is_some (lookup (is_at (cells_cmp k)) es) ≡ false
    → cond (is_eq (ordering_reverse r)) (Some place) (lookup (is_at (cells_cmp q)) es) ≡ option_or (lookup (is_at (cells_cmp q)) es) (cond (is_eq r) (Some place) None)
entered_by Less q k place es e h = or_nothing (lookup (is_at (cells_cmp q)) es)
entered_by Equal q k place es e h = ap (λ o. option_or o (Some place)) (sym (alike q k e es ∙ none_of (lookup (is_at (cells_cmp k)) es) h))
entered_by Greater q k place es e h = or_nothing (lookup (is_at (cells_cmp q)) es)

-- a key that isn't there is entered
pub entered : (q k : List Cell) (place : ℕ) (es : List (List Cell × ℕ)) (new : Option ℕ) → is_some (lookup (is_at (cells_cmp k)) es) ≡ false
    → new ≡ cond (is_eq (cells_cmp k q)) (Some place) (lookup (is_at (cells_cmp q)) es)
    → new ≡ option_or (lookup (is_at (cells_cmp q)) es) (cond (is_eq (cells_cmp q k)) (Some place) None)
entered q k place es new h is =
    is ∙ ap (λ r. cond (is_eq r) (Some place) (lookup (is_at (cells_cmp q)) es)) (cells_total.antisymm k q)
    ∙ entered_by (cells_cmp q k) q k place es refl h

-- one more row
pub one_more : (count : ℕ) (rows : List (List Cell)) (i : ℕ) (row key : List Cell) (es after : List (List Cell × ℕ))
    → i < length rows → row ≡ get_or rows i row → key ≡ take count row
    → AreFirst count (take i rows) es
    → ((q : List Cell) → lookup (is_at (cells_cmp q)) after ≡ option_or (lookup (is_at (cells_cmp q)) es) (cond (is_eq (cells_cmp q key)) (Some i) None))
    → AreFirst count (take (i + 1) rows) after
one_more count rows i row key es after lt at is held new q =
    let short : length (take i rows) ≡ i = omega (arith, length-take i rows) in
    new q ∙ ap (λ o. option_or o (cond (is_eq (cells_cmp q key)) (Some i) None)) (held q)
    ∙ ap (λ k. option_or (first_place (begins_with count q) (take i rows)) (cond (is_eq (cells_cmp q k)) (Some i) None)) is
    ∙ ap (λ n. option_or (first_place (begins_with count q) (take i rows)) (cond (begins_with count q row) (Some n) None)) (sym short)
    ∙ sym (place_push (begins_with count q) (take i rows) row)
    ∙ ap (λ r. first_place (begins_with count q) (take i rows ++ r ∷ [])) at
    ∙ ap (first_place (begins_with count q)) (sym (take_more rows i row lt))

-- the row at the place that is entered
pub row_at : (count : ℕ) (rows : List (List Cell)) (es : List (List Cell × ℕ)) (key : List Cell) (o : Option ℕ) → AreFirst count rows es
    → o ≡ lookup (is_at (cells_cmp key)) es → option_and_then (slice_get rows) o ≡ find (begins_with count key) rows
row_at count rows es key o first is = ap (option_and_then (slice_get rows)) (is ∙ first key) ∙ sym (find_place (begins_with count key) rows)

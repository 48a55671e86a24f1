-- Held rows by their keys, one after another.
use Rattle.std.proofs.Common.{◌≡◌, ℕ, zero, suc, ◌+◌, ◌<◌, Bool, true, false, ◌||◌, ◌&&◌, cond, if◌then◌else◌, List, [], ◌∷◌, ◌++◌, inl, inr, map, length, drop, slice_index_or, refl, sym, ap, ◌∙◌, subst, Option, Some, None, add-one, arith, take, take_all, ◌≤◌}
use Rattle.std.specs.Prelude.{slice_get}
use Rattle.std.specs.List.{filter, fold, list_any}
use Rattle.std.specs.declared.cmp.Ordering.{Ordering}
use Rattle.std.specs.declared.cmp.Ordering.TheVariants.{Less, Equal, Greater}
use Rattle.std.specs.Ordering.{is_eq}
use Rattle.std.specs.BTreeMap.{insert_entry, is_at}
use Rattle.std.specs.Map.{lookup, set_value}
use Rattle.std.proofs.lemmas.Cmp.{eq_by_cmp_equiv}
use Rattle.std.proofs.lemmas.List.{append-nil, map-append, take_more}
use Rattle.std.proofs.lemmas.List.Folds.{fold-map}
use Rattle.std.proofs.lemmas.List.Elements.{filter-append}
use Rattle.dq_base.specs.Orders.{key_cmp}
use Rattle.dq_base.specs.Sets.{has, put_by, set_of, with}
use Rattle.dq_base.proofs.Exact.{exact_keys}
use Rattle.dq_base.proofs.SetLaws.{Ascends, ascends_with}
use Rattle.dq_base.specs.declared.value.Value.{Value}
use Rattle.dq_base.specs.declared.cell.Cell.{Cell}
use Rattle.dq_base.specs.declared.predicate.Predicate.{Predicate}
use Rattle.dq_cover.proofs.CoverLaws.{or_cases, or_left, or_right}
use Rattle.dq_fold.proofs.Grouped.{keys_total}
use Rattle.dq_fold.proofs.Mapped.{insert_mapped, lookup_mapped, set_mapped}
use Rattle.dq_fold.proofs.Tallied.{fold_push}
use Rattle.dq_rollup.specs.declared.key.Made.{Made}
use Rattle.dq_rollup.specs.Derived.{Plan, derived, derived_row, group_of, is_kept, keys_by, keys_in, rows_at}
use Rattle.dq_rollup.specs.Grouped.{first_keys, grouped, groups_below, key_at, kept_places, keys_among, upto}
use Rattle.dq_rollup.specs.Keys.{made_key, passes, passes_one, spot_in}
use Rattle.dq_rollup.specs.declared.source.Source.{Source}
use Rattle.dq_rollup.proofs.Lists.{none_taken}

drop_empty : {X : Type 0} (i : ℕ) → drop {A = X} i [] ≡ []
drop_empty zero = refl
drop_empty (suc i) = refl

all_pass : (fs : List Predicate) (row : List Cell) → passes (drop 0 fs) [] row ≡ true
all_pass [] row = refl
all_pass (f ∷ fs) row = refl

-- the next test
pub passes_step : (fs : List Predicate) (places : List (Option ℕ)) (row : List Cell) (i : ℕ) (d : Predicate) → i < length fs
    → passes (drop i fs) (drop i places) row ≡ (passes_one (slice_index_or fs i d) (spot_in (slice_get places i)) row && passes (drop (suc i) fs) (drop (suc i) places) row)
passes_step [] places row i d h = absurd (omega arith)
passes_step (f ∷ fs) [] row zero d h = sym (all_pass fs row)
passes_step (f ∷ fs) (place ∷ places) row zero d h = refl
passes_step (f ∷ fs) [] row (suc i) d h = ap (λ os. passes (drop i fs) os row) (sym (drop_empty i)) ∙ passes_step fs [] row i d (omega arith) ∙ ap (λ os. passes_one (slice_index_or fs i d) None row && passes (drop (suc i) fs) os row) (drop_empty (suc i))
passes_step (f ∷ fs) (place ∷ places) row (suc i) d h = passes_step fs places row i d (omega arith)

stopped : (a b : Bool) → a ≡ false → a ≡ (a && b)
stopped true b e = cc
stopped false b e = refl

-- a test that fails, and one that holds
pub fails_here : (fs : List Predicate) (places : List (Option ℕ)) (row : List Cell) (i : ℕ) (f : Predicate) (o : Option ℕ) (b : Bool) → i < length fs → f ≡ slice_index_or fs i f → o ≡ spot_in (slice_get places i)
    → b ≡ passes_one f o row → b ≡ false → passes (drop i fs) (drop i places) row ≡ passes fs places row → false ≡ passes fs places row
fails_here fs places row i f o b h ef eo eb n e =
    sym n ∙ eb ∙ ap (λ g. passes_one g o row) ef ∙ ap (λ u. passes_one (slice_index_or fs i f) u row) eo
    ∙ stopped (passes_one (slice_index_or fs i f) (spot_in (slice_get places i)) row) (passes (drop (suc i) fs) (drop (suc i) places) row)
    (sym (ap (λ g. passes_one g o row) ef ∙ ap (λ u. passes_one (slice_index_or fs i f) u row) eo) ∙ sym eb ∙ n)
    ∙ sym (passes_step fs places row i f h) ∙ e

pub holds_here : (fs : List Predicate) (places : List (Option ℕ)) (row : List Cell) (i : ℕ) (f : Predicate) (o : Option ℕ) (b : Bool) → i < length fs → f ≡ slice_index_or fs i f → o ≡ spot_in (slice_get places i)
    → b ≡ passes_one f o row → b ≡ true → passes (drop i fs) (drop i places) row ≡ passes fs places row → passes (drop (i + 1) fs) (drop (i + 1) places) row ≡ passes fs places row
holds_here fs places row i f o b h ef eo eb n e =
    rw add-one (
    sym (ap (λ c. c && passes (drop (suc i) fs) (drop (suc i) places) row) (sym (ap (λ g. passes_one g o row) ef ∙ ap (λ u. passes_one (slice_index_or fs i f) u row) eo) ∙ sym eb ∙ n))
    ∙ sym (passes_step fs places row i f h) ∙ e)

filter_push : {X : Type 0} (p : X → Bool) (xs : List X) (x : X) (b : Bool) → p x ≡ b → filter p (xs ++ x ∷ []) ≡ filter p xs ++ cond b (x ∷ []) []
filter_push p xs x b e = filter-append p xs (x ∷ []) ∙ ap (λ c. filter p xs ++ cond c (x ∷ []) []) e

-- what is put into a set, and what was there
kept_put : (p : List Value → Bool) (r : Ordering) (x y : List Value) (ys more : List (List Value)) → (list_any p ys ≡ true → list_any p more ≡ true) → list_any p (y ∷ ys) ≡ true → list_any p (put_by r x y ys more) ≡ true
kept_put p Less x y ys more h e = or_right (p x) (list_any p (y ∷ ys)) e
kept_put p Equal x y ys more h e = e
kept_put p Greater x y ys more h e = elim (or_cases (p y) (list_any p ys) e) [ inl a ↦ or_left (p y) (list_any p more) a | inr a ↦ or_right (p y) (list_any p more) (h a) ]

kept_with : (p : List Value → Bool) (x : List Value) (ys : List (List Value)) → list_any p ys ≡ true → list_any p (with key_cmp x ys) ≡ true
kept_with p x [] e = cc
kept_with p x (y ∷ ys) e = kept_put p (key_cmp x y) x y ys (with key_cmp x ys) (kept_with p x ys) e

new_put : (p : List Value → Bool) (r : Ordering) (x y : List Value) (ys more : List (List Value)) → key_cmp x y ≡ r → p x ≡ true → list_any p more ≡ true → list_any p (put_by r x y ys more) ≡ true
new_put p Less x y ys more e h m = or_left (p x) (list_any p (y ∷ ys)) h
new_put p Equal x y ys more e h m = or_left (p y) (list_any p ys) (ap p (sym (exact_keys x y e)) ∙ h)
new_put p Greater x y ys more e h m = or_right (p y) (list_any p more) m

new_with : (p : List Value → Bool) (x : List Value) (ys : List (List Value)) → p x ≡ true → list_any p (with key_cmp x ys) ≡ true
new_with p x [] h = or_left (p x) false h
new_with p x (y ∷ ys) h = new_put p (key_cmp x y) x y ys (with key_cmp x ys) refl h (new_with p x ys h)

kept_among : (p : List Value → Bool) (key : ℕ → List Value) (base : List (List Value)) (places : List ℕ) → list_any p base ≡ true → list_any p (keys_among key base places) ≡ true
kept_among p key base [] e = e
kept_among p key base (j ∷ places) e = kept_among p key (with key_cmp (key j) base) places (kept_with p (key j) base e)

all_among : (p : List Value → Bool) (key : ℕ → List Value) (base : List (List Value)) (places : List ℕ) → list_any (λ j. p (key j)) places ≡ true → list_any p (keys_among key base places) ≡ true
all_among p key base [] e = cc
all_among p key base (j ∷ places) e =
    elim (or_cases (p (key j)) (list_any (λ i. p (key i)) places) e) [
      | inl a ↦ kept_among p key (with key_cmp (key j) base) places (new_with p (key j) base a)
      | inr a ↦ all_among p key (with key_cmp (key j) base) places a
    ]

none_here : {X : Type 0} (b any : Bool) (x : X) (rest : List X) → (b || any) ≡ false → (any ≡ false → rest ≡ []) → cond b (x ∷ rest) rest ≡ []
none_here true any x rest e h = cc
none_here false any x rest e h = h e

filter_none : {X : Type 0} (p : X → Bool) (xs : List X) → list_any p xs ≡ false → filter p xs ≡ []
filter_none p [] e = refl
filter_none p (x ∷ xs) e = none_here (p x) (list_any p xs) x (filter p xs) e (filter_none p xs)

contrary : (a b : Bool) → (a ≡ true → b ≡ true) → b ≡ false → a ≡ false
contrary true b h e = sym (h refl) ∙ e
contrary false b h e = refl

abbrev at : (ℕ → List Value) → List ℕ → List Value → List ℕ
at key places k = filter (λ place. is_eq (key_cmp k (key place))) places

pub ascends_among : (key : ℕ → List Value) (base : List (List Value)) (places : List ℕ) → Ascends key_cmp base → Ascends key_cmp (keys_among key base places)
ascends_among key base [] a = a
ascends_among key base (j ∷ places) a = ascends_among key (with key_cmp (key j) base) places (ascends_with key_cmp keys_total (key j) base a)

module _ (key : ℕ → List Value) (base : List (List Value)) (places : List ℕ) (j : ℕ) (asc : Ascends key_cmp base) where
  abbrev k : List Value
  k = key j

  abbrev ks : List (List Value)
  ks = keys_among key base places

  abbrev f : List Value → List ℕ
  f = at key places

  abbrev g : List Value → List ℕ
  g = at key (places ++ j ∷ [])

  g_here : g k ≡ f k ++ j ∷ []
  g_here = filter_push (λ place. is_eq (key_cmp k (key place))) places j true ((eq_by_cmp_equiv keys_total).refl k)

  g_other : (x : List Value) → is_eq (key_cmp k x) ≡ false → g x ≡ f x
  g_other x e = filter_push (λ place. is_eq (key_cmp x (key place))) places j false ((eq_by_cmp_equiv keys_total).symm x k ∙ e) ∙ append-nil (f x)

  ks_asc : Ascends key_cmp ks
  ks_asc = ascends_among key base places asc

  lookup_is : (es : List (List Value × List ℕ)) → es ≡ grouped key base places → lookup (is_at (key_cmp k)) es ≡ cond (has key_cmp ks k) (Some (f k)) None
  lookup_is es e = ap (lookup (is_at (key_cmp k))) e ∙ lookup_mapped key_cmp exact_keys k f ks

  f_none : has key_cmp ks k ≡ false → f k ≡ []
  f_none e = filter_none (λ place. is_eq (key_cmp k (key place))) places (contrary (list_any (λ place. is_eq (key_cmp k (key place))) places) (has key_cmp ks k) (all_among (λ y. is_eq (key_cmp k y)) key base places) e)

  by_presence : (es after : List (List Value × List ℕ)) → es ≡ grouped key base places
      → ((ps : List ℕ) → lookup (is_at (key_cmp k)) es ≡ Some ps → after ≡ set_value (is_at (key_cmp k)) es (ps ++ j ∷ []))
      → (lookup (is_at (key_cmp k)) es ≡ None → after ≡ insert_entry key_cmp es k (j ∷ []))
      → (b : Bool) → has key_cmp ks k ≡ b → after ≡ map (λ x. (x, g x)) (with key_cmp k ks)
  by_presence es after e there absent true h =
      there (f k) (lookup_is es e ∙ ap (λ b. cond b (Some (f k)) None) h)
      ∙ ap (λ x. set_value (is_at (key_cmp k)) x (f k ++ j ∷ [])) e
      ∙ ap (set_value (is_at (key_cmp k)) (grouped key base places)) (sym g_here)
      ∙ set_mapped key_cmp keys_total exact_keys k f g g_other ks ks_asc h
  by_presence es after e there absent false h =
      absent (lookup_is es e ∙ ap (λ b. cond b (Some (f k)) None) h)
      ∙ ap (λ x. insert_entry key_cmp x k (j ∷ [])) e
      ∙ ap (insert_entry key_cmp (grouped key base places) k) (sym (g_here ∙ ap (λ x. x ++ j ∷ []) (f_none h)))
      ∙ insert_mapped key_cmp keys_total exact_keys k f g g_other ks ks_asc

  -- one more place
  pub grouped_push : (es after : List (List Value × List ℕ)) → es ≡ grouped key base places
      → ((ps : List ℕ) → lookup (is_at (key_cmp k)) es ≡ Some ps → after ≡ set_value (is_at (key_cmp k)) es (ps ++ j ∷ []))
      → (lookup (is_at (key_cmp k)) es ≡ None → after ≡ insert_entry key_cmp es k (j ∷ []))
      → after ≡ grouped key base (places ++ j ∷ [])
  grouped_push es after e there absent =
      by_presence es after e there absent (has key_cmp ks k) refl
      ∙ ap (map (λ x. (x, g x))) (sym (fold_push (λ set place. with key_cmp (key place) set) base places j))

-- the place of a row, if its tests hold
pub grouped_at : (key : ℕ → List Value) (base : List (List Value)) (places : List ℕ) (j : ℕ) (k : List Value) (es after : List (List Value × List ℕ)) (b : Bool) → Ascends key_cmp base → k ≡ key j → es ≡ grouped key base places → b ≡ true
    → ((ps : List ℕ) → lookup (is_at (key_cmp k)) es ≡ Some ps → after ≡ set_value (is_at (key_cmp k)) es (ps ++ j ∷ []))
    → (lookup (is_at (key_cmp k)) es ≡ None → after ≡ insert_entry key_cmp es k (j ∷ []))
    → after ≡ grouped key base (if b then places ++ j ∷ [] else places)
grouped_at key base places j k es after b a ek ee eb there absent =
    let P : List Value → Type 0 = λ x. (ps : List ℕ) → lookup (is_at (key_cmp x)) es ≡ Some ps → after ≡ set_value (is_at (key_cmp x)) es (ps ++ j ∷ []) in
    let Q : List Value → Type 0 = λ x. lookup (is_at (key_cmp x)) es ≡ None → after ≡ insert_entry key_cmp es x (j ∷ []) in
    grouped_push key base places j a es after ee (subst P ek there) (subst Q ek absent) ∙ ap (λ c. grouped key base (if c then places ++ j ∷ [] else places)) (sym eb)

pub first_ascends : (made : List Made) → Ascends key_cmp (first_keys made)
first_ascends [] = (tt, tt)
first_ascends (m ∷ made) = tt

kept_by : (plan : Plan) (held : List (List Cell)) (i : ℕ) (b : Bool) → is_kept plan (slice_index_or held i []) ≡ b → kept_places plan held (suc i) ≡ (if b then kept_places plan held i ++ i ∷ [] else kept_places plan held i)
kept_by plan held i true e = filter_push (λ place. is_kept plan (slice_index_or held place [])) (upto i) i true e
kept_by plan held i false e = filter_push (λ place. is_kept plan (slice_index_or held place [])) (upto i) i false e ∙ append-nil (kept_places plan held i)

-- one row further
pub below_more : (plan : Plan) (held : List (List Cell)) (i : ℕ) (after : List (List Value × List ℕ))
    → after ≡ grouped (key_at plan held) (first_keys plan.made) (if is_kept plan (slice_index_or held i []) then kept_places plan held i ++ i ∷ [] else kept_places plan held i)
    → after ≡ groups_below plan held (i + 1)
below_more plan held i after e =
    rw add-one (e ∙ ap (grouped (key_at plan held) (first_keys plan.made)) (sym (kept_by plan held i (is_kept plan (slice_index_or held i [])) refl)))

same_default : {X : Type 0} (xs : List X) (i : ℕ) (d e : X) → i < length xs → slice_index_or xs i d ≡ slice_index_or xs i e
same_default [] i d e h = absurd (omega arith)
same_default (x ∷ xs) zero d e h = refl
same_default (x ∷ xs) (suc i) d e h = same_default xs i d e (omega arith)

-- the row of a place
pub row_is : (xs held : List (List Cell)) (i : ℕ) (row : List Cell) → xs ≡ held → i < length xs → row ≡ slice_index_or xs i row → slice_index_or held i [] ≡ row
row_is xs held i row e h s = ap (λ ys. slice_index_or ys i []) (sym e) ∙ same_default xs i [] row h ∙ sym s

filter_step : {X : Type 0} (a b : Bool) (p : X → Bool) (x : X) (kept : List X) → p x ≡ b → filter p (cond a (x ∷ kept) kept) ≡ cond (a && b) (x ∷ filter p kept) (filter p kept)
filter_step true b p x kept e = ap (λ c. cond c (x ∷ filter p kept) (filter p kept)) e
filter_step false b p x kept e = refl

pub filter_twice : {X : Type 0} (p g : X → Bool) (xs : List X) → filter p (filter g xs) ≡ filter (λ x. g x && p x) xs
filter_twice p g [] = refl
filter_twice p g (x ∷ xs) = filter_step (g x) (p x) p x (filter g xs) refl ∙ ap (λ ys. cond (g x && p x) (x ∷ ys) ys) (filter_twice p g xs)

rows_push : (held : List (List Cell)) (b : Bool) (places : List ℕ) (i : ℕ) → rows_at held (places ++ cond b (i ∷ []) []) ≡ rows_at held places ++ cond b (slice_index_or held i [] ∷ []) []
rows_push held true places i = map-append (λ place. slice_index_or held place []) places (i ∷ [])
rows_push held false places i = ap (rows_at held) (append-nil places) ∙ sym (append-nil (rows_at held places))

rows_below : (held : List (List Cell)) (t : List Cell → Bool) (n : ℕ) → n ≤ length held → rows_at held (filter (λ place. t (slice_index_or held place [])) (upto n)) ≡ filter t (take n held)
rows_below held t zero h = ap (filter t) (sym (none_taken held))
rows_below held t (suc n) h =
    let b = t (slice_index_or held n []) in
    ap (rows_at held) (filter_push (λ place. t (slice_index_or held place [])) (upto n) n b refl)
    ∙ rows_push held b (filter (λ place. t (slice_index_or held place [])) (upto n)) n
    ∙ ap (λ rows. rows ++ cond b (slice_index_or held n [] ∷ []) []) (rows_below held t n (omega arith))
    ∙ sym (filter_push t (take n held) (slice_index_or held n []) b refl)
    ∙ ap (filter t) (sym (ap (λ m. take m held) (sym (add-one n)) ∙ take_more held n [] (omega arith)))

-- the rows of the places whose rows pass
pub rows_kept : (held : List (List Cell)) (t : List Cell → Bool) → rows_at held (filter (λ place. t (slice_index_or held place [])) (upto (length held))) ≡ filter t held
rows_kept held t = rows_below held t (length held) (omega arith) ∙ ap (filter t) (take_all (length held) held (omega arith))

empty_keys : (places : List ℕ) → fold (λ (set : List (List Value)) (j : ℕ). with key_cmp [] set) ([] ∷ []) places ≡ [] ∷ []
empty_keys [] = refl
empty_keys (j ∷ places) = empty_keys places

made_rows : (made : List Made) (held : List (List Cell)) (places : List ℕ) → map (λ j. made_key made (slice_index_or held j [])) places ≡ map (made_key made) (rows_at held places)
made_rows made held [] = refl
made_rows made held (j ∷ places) = ap (λ ks. made_key made (slice_index_or held j []) ∷ ks) (made_rows made held places)

keys_of_places : (made : List Made) (plan : Plan) (held : List (List Cell)) → plan.made ≡ made → keys_among (key_at plan held) (first_keys plan.made) (kept_places plan held (length held)) ≡ keys_in plan held
keys_of_places [] plan held e =
    ap (λ m. keys_among (λ place. made_key m (slice_index_or held place [])) (first_keys m) (kept_places plan held (length held))) e
    ∙ empty_keys (kept_places plan held (length held))
    ∙ ap (λ m. keys_by m (map (made_key m) (filter (is_kept plan) held))) (sym e)
keys_of_places (m ∷ made) plan held e =
    ap (λ n. keys_among (λ place. made_key n (slice_index_or held place [])) (first_keys n) (kept_places plan held (length held))) e
    ∙ sym (fold-map (λ set x. with key_cmp x set) (λ place. made_key (m ∷ made) (slice_index_or held place [])) [] (kept_places plan held (length held)))
    ∙ ap (set_of key_cmp) (made_rows (m ∷ made) held (kept_places plan held (length held)) ∙ ap (map (made_key (m ∷ made))) (rows_kept held (is_kept plan)))
    ∙ ap (λ n. keys_by n (map (made_key n) (filter (is_kept plan) held))) (sym e)

group_rows_are : (plan : Plan) (held : List (List Cell)) (k : List Value) → rows_at held (filter (λ place. is_eq (key_cmp k (key_at plan held place))) (kept_places plan held (length held))) ≡ group_of plan held k
group_rows_are plan held k =
    ap (rows_at held) (filter_twice (λ place. is_eq (key_cmp k (key_at plan held place))) (λ place. is_kept plan (slice_index_or held place [])) (upto (length held)))
    ∙ rows_kept held (λ row. is_kept plan row && is_eq (key_cmp k (made_key plan.made row)))

rows_of_keys : (plan : Plan) (sources : List Source) (held : List (List Cell)) (ks : List (List Value))
    → map (λ (e : List Value × List ℕ). derived_row sources (rows_at held e.1) e.0) (map (λ k. (k, filter (λ place. is_eq (key_cmp k (key_at plan held place))) (kept_places plan held (length held)))) ks)
    ≡ map (λ k. derived_row sources (group_of plan held k) k) ks
rows_of_keys plan sources held [] = refl
rows_of_keys plan sources held (k ∷ ks) =
    ap (λ rows. derived_row sources rows k ∷ map (λ (e : List Value × List ℕ). derived_row sources (rows_at held e.1) e.0) (map (λ x. (x, filter (λ place. is_eq (key_cmp x (key_at plan held place))) (kept_places plan held (length held)))) ks)) (group_rows_are plan held k)
    ∙ ap (λ rows. derived_row sources (group_of plan held k) k ∷ rows) (rows_of_keys plan sources held ks)

-- the groups' rows are the derived ones
pub groups_derived : (plan : Plan) (sources : List Source) (held : List (List Cell)) → map (λ (e : List Value × List ℕ). derived_row sources (rows_at held e.1) e.0) (groups_below plan held (length held)) ≡ derived plan sources held
groups_derived plan sources held =
    rows_of_keys plan sources held (keys_among (key_at plan held) (first_keys plan.made) (kept_places plan held (length held)))
    ∙ ap (map (λ k. derived_row sources (group_of plan held k) k)) (keys_of_places plan.made plan held refl)

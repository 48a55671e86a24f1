-- A tally of rows, and one more row.
use Rattle.std.proofs.Common.{◌≡◌, ℕ, zero, suc, pos, ◌+◌, ◌≤◌, ◌<◌, Bool, true, false, cond, if◌then◌else◌, List, [], ◌∷◌, ◌++◌, map, take, drop, length, refl, sym, ap, ◌∙◌, Option, Some, None, arith, add-one, length-append}
use Rattle.std.specs.Prelude.{slice_get, slice_set, slice_index_or, ◌+ℤ◌}
use Rattle.std.specs.List.{fold, filter}
use Rattle.std.specs.Ordering.{is_lt, is_gt}
use Rattle.std.proofs.lemmas.List.{append-nil, map_push, length-map}
use Rattle.std.proofs.lemmas.List.Elements.{filter-append}
use Rattle.dq_base.specs.Answers.{average_of, fold_of, greater, greatest_of, is_present, least_of, lesser, number_of, present, sum_of, total}
use Rattle.dq_base.specs.Filters.{value_at}
use Rattle.dq_base.specs.Orders.{value_cmp}
use Rattle.dq_base.specs.Sets.{set_of, with}
use Rattle.dq_base.specs.declared.value.Value.{Value}
use Rattle.dq_base.specs.declared.value.Value.TheVariants as value
use Rattle.dq_base.specs.declared.query.Measure.{Measure}
use Rattle.dq_base.specs.declared.query.Measure.TheVariants as measure
use Rattle.dq_fold.specs.Sums.{summed, sum_cell, average_cell}
use Rattle.dq_fold.specs.Tallies.{added, best_cell, count_in, counted, filled, greatest, least, lowered, raised, seen, sums, tally_cell, tally_of}
use Rattle.dq_fold.specs.declared.tally.Tally.TheVariants as tally

pub length_filter : {X : Type 0} (p : X → Bool) (xs : List X) → length (filter p xs) ≤ length xs
length_filter p [] = omega arith
length_filter p (x ∷ xs) = grind (arith, length_filter p xs)

length_present : (c : ℕ) (rows : List (List Value)) → length (present c rows) ≤ length rows
length_present c rows = omega (arith, length_filter is_present (map (λ row. value_at row c) rows), length-map rows (λ row. value_at row c))

-- no more is counted than there are rows
pub count_small : (rows : List (List Value)) (m : Measure) → count_in (tally_of rows m) ≤ length rows
count_small rows measure.Rows = omega arith
count_small rows (measure.Count c) = length_present c rows
count_small rows (measure.Sum c) = length_present c rows
count_small rows (measure.Min c) = omega arith
count_small rows (measure.Max c) = omega arith
count_small rows (measure.Distinct c) = omega arith
count_small rows (measure.Avg c) = length_present c rows

-- what holds of each f x holds of each item of map f xs
pub all_map : {X Y : Type 0} (P : Y → Type 0) (f : X → Y) → ((x : X) → P (f x)) → (xs : List X) (k : ℕ) (d : Y) → k < length (map f xs) → P (slice_index_or (map f xs) k d)
all_map P f h [] k d lt = absurd (omega arith)
all_map P f h (x ∷ xs) zero d lt = h x
all_map P f h (x ∷ xs) (suc k) d lt = all_map P f h xs k d (omega arith)

set_here : {X : Type 0} (f : X → X) (xs : List X) (i : ℕ) (x : X) → i < length xs → slice_get (map f (take i xs) ++ drop i xs) i ≡ Some x
    → slice_set (map f (take i xs) ++ drop i xs) i (f x) ≡ map f (take (suc i) xs) ++ drop (suc i) xs
set_here f [] i x h e = absurd (omega arith)
set_here f (z ∷ zs) zero x h e = let w : x ≡ z = cc in ap (λ u. f u ∷ zs) w
set_here f (z ∷ zs) (suc i) x h e = ap (λ r. f z ∷ r) (set_here f zs i x (omega arith) e)

-- the next item of a list that is changed from the front
pub set_next : {X : Type 0} (f : X → X) (xs ts : List X) (i : ℕ) (x y : X) → i < length xs → ts ≡ map f (take i xs) ++ drop i xs → slice_get ts i ≡ Some x → y ≡ f x
    → slice_set ts i y ≡ map f (take (i + 1) xs) ++ drop (i + 1) xs
set_next f xs ts i x y h et eg ey =
    rw add-one (ap (λ t. slice_set t i y) et ∙ ap (λ w. slice_set (map f (take i xs) ++ drop i xs) i w) ey ∙ set_here f xs i x h (ap (λ t. slice_get t i) (sym et) ∙ eg))

pub fold_push : {X Y : Type 0} (f : Y → X → Y) (a : Y) (xs : List X) (x : X) → fold f a (xs ++ x ∷ []) ≡ f (fold f a xs) x
fold_push f a [] x = refl
fold_push f a (y ∷ xs) x = fold_push f (f a y) xs x

abbrev one : {X : Type 0} → Option X → List X
one None = []
one (Some x) = x ∷ []

present_one : (v : Value) → filter is_present (v ∷ []) ≡ one (filled v)
present_one value.Null = refl
present_one (value.Int n) = refl
present_one (value.Word t) = refl

present_push : (c : ℕ) (rows : List (List Value)) (row : List Value) → present c (rows ++ row ∷ []) ≡ present c rows ++ one (filled (value_at row c))
present_push c rows row =
    ap (filter is_present) (map_push (λ r. value_at r c) rows row)
    ∙ filter-append is_present (map (λ r. value_at r c) rows) (value_at row c ∷ [])
    ∙ ap (λ vs. present c rows ++ vs) (present_one (value_at row c))

length_push : {X : Type 0} (xs : List X) (x : X) → length (xs ++ x ∷ []) ≡ length xs + 1
length_push xs x = length-append xs (x ∷ [])

counted_one : (o : Option Value) (vs : List Value) → counted o (length vs) ≡ length (vs ++ one o)
counted_one None vs = ap length (sym (append-nil vs))
counted_one (Some v) vs = sym (length_push vs v)

summed_one : (o : Option Value) (vs : List Value) → summed o (sums vs) ≡ sums (vs ++ one o)
summed_one None vs = ap sums (sym (append-nil vs))
summed_one (Some v) vs =
    let t : total (vs ++ v ∷ []) ≡ total vs +ℤ number_of v = fold_push (λ sum w. sum +ℤ number_of w) (pos 0) vs v in
    let n : length (vs ++ v ∷ []) ≡ length vs + 1 = length_push vs v in
    cc

pub chosen : (b : Bool) (v w : Value) → cond b (Some v) (Some w) ≡ Some (if b then v else w)
chosen true v w = refl
chosen false v w = refl

lowered_one : (o : Option Value) (vs : List Value) → lowered o (least vs) ≡ least (vs ++ one o)
lowered_one None vs = ap least (sym (append-nil vs))
lowered_one (Some v) [] = refl
lowered_one (Some v) (w ∷ ws) = chosen (is_lt (value_cmp v (fold lesser w ws))) v (fold lesser w ws) ∙ ap Some (sym (fold_push lesser w ws v))

raised_one : (o : Option Value) (vs : List Value) → raised o (greatest vs) ≡ greatest (vs ++ one o)
raised_one None vs = ap greatest (sym (append-nil vs))
raised_one (Some v) [] = refl
raised_one (Some v) (w ∷ ws) = chosen (is_gt (value_cmp v (fold greater w ws))) v (fold greater w ws) ∙ ap Some (sym (fold_push greater w ws v))

seen_one : (o : Option Value) (vs : List Value) → seen o (set_of value_cmp vs) ≡ set_of value_cmp (vs ++ one o)
seen_one None vs = ap (set_of value_cmp) (sym (append-nil vs))
seen_one (Some v) vs = sym (fold_push (λ set x. with value_cmp x set) [] vs v)

-- a tally of rows, and a row added
pub added_tally : (rows : List (List Value)) (row : List Value) (m : Measure) → added row (tally_of rows m) ≡ tally_of (rows ++ row ∷ []) m
added_tally rows row measure.Rows = ap tally.Rows (sym (length_push rows row))
added_tally rows row (measure.Count c) = ap (tally.Count c) (counted_one (filled (value_at row c)) (present c rows) ∙ ap length (sym (present_push c rows row)))
added_tally rows row (measure.Sum c) = ap (tally.Sum c) (summed_one (filled (value_at row c)) (present c rows) ∙ ap sums (sym (present_push c rows row)))
added_tally rows row (measure.Min c) = ap (tally.Least c) (lowered_one (filled (value_at row c)) (present c rows) ∙ ap least (sym (present_push c rows row)))
added_tally rows row (measure.Max c) = ap (tally.Greatest c) (raised_one (filled (value_at row c)) (present c rows) ∙ ap greatest (sym (present_push c rows row)))
added_tally rows row (measure.Distinct c) = ap (tally.Distinct c) (seen_one (filled (value_at row c)) (present c rows) ∙ ap (set_of value_cmp) (sym (present_push c rows row)))
added_tally rows row (measure.Avg c) = ap (tally.Average c) (summed_one (filled (value_at row c)) (present c rows) ∙ ap sums (sym (present_push c rows row)))

pub added_tallies : (rows : List (List Value)) (row : List Value) (ms : List Measure) → map (added row) (map (tally_of rows) ms) ≡ map (tally_of (rows ++ row ∷ [])) ms
added_tallies rows row [] = refl
added_tallies rows row (m ∷ ms) = ap (λ t. t ∷ map (added row) (map (tally_of rows) ms)) (added_tally rows row m) ∙ ap (λ ts. tally_of (rows ++ row ∷ []) m ∷ ts) (added_tallies rows row ms)

sum_cell_of : (vs : List Value) → sum_cell (sums vs) ≡ sum_of vs
sum_cell_of [] = refl
sum_cell_of (v ∷ vs) = grind arith

average_cell_of : (vs : List Value) → average_cell (sums vs) ≡ average_of vs
average_cell_of [] = refl
average_cell_of (v ∷ vs) = grind arith

least_cell_of : (vs : List Value) → best_cell (least vs) ≡ least_of vs
least_cell_of [] = refl
least_cell_of (v ∷ vs) = refl

greatest_cell_of : (vs : List Value) → best_cell (greatest vs) ≡ greatest_of vs
greatest_cell_of [] = refl
greatest_cell_of (v ∷ vs) = refl

-- the cell of a tally is the measure over the rows
pub tally_cell_of : (rows : List (List Value)) (m : Measure) → tally_cell (tally_of rows m) ≡ fold_of m rows
tally_cell_of rows measure.Rows = refl
tally_cell_of rows (measure.Count c) = refl
tally_cell_of rows (measure.Sum c) = sum_cell_of (present c rows)
tally_cell_of rows (measure.Min c) = least_cell_of (present c rows)
tally_cell_of rows (measure.Max c) = greatest_cell_of (present c rows)
tally_cell_of rows (measure.Distinct c) = refl
tally_cell_of rows (measure.Avg c) = average_cell_of (present c rows)

pub tally_cells_of : (rows : List (List Value)) (ms : List Measure) → map tally_cell (map (tally_of rows) ms) ≡ map (λ m. fold_of m rows) ms
tally_cells_of rows [] = refl
tally_cells_of rows (m ∷ ms) = ap (λ t. t ∷ map tally_cell (map (tally_of rows) ms)) (tally_cell_of rows m) ∙ ap (λ ts. fold_of m rows ∷ ts) (tally_cells_of rows ms)

-- A tally of rows, and one of more rows.
use Rattle.std.proofs.Common.{◌≡◌, ℕ, zero, suc, pos, ◌+◌, ◌^◌, ◌<◌, ◌≤◌, ◌+ℤ◌, if◌then◌else◌, List, [], ◌∷◌, ◌++◌, map, take, length, get_or, refl, sym, ap, ◌∙◌, Some, arith, add-one, length-append}
use Rattle.std.specs.Prelude.{slice_get, slice_set}
use Rattle.std.proofs.Math.IntN.{+ℤ_assoc, +ℤ_idr}
use Rattle.std.specs.List.{fold, filter}
use Rattle.std.specs.Ordering.{is_lt, is_gt, ordering_reverse}
use Rattle.std.specs.declared.cmp.Ordering.{Ordering}
use Rattle.std.specs.declared.cmp.Ordering.TheVariants.{Less, Equal, Greater}
use Rattle.std.proofs.lemmas.List.{append-nil, map-append}
use Rattle.std.proofs.lemmas.List.Elements.{filter-append}
use Rattle.std.proofs.lemmas.List.Sums.{fold-append}
use Rattle.dq_base.specs.Answers.{greater, is_present, lesser, number_of, present, total}
use Rattle.dq_base.specs.Filters.{value_at}
use Rattle.dq_base.specs.Orders.{value_cmp}
use Rattle.dq_base.specs.Sets.{set_of}
use Rattle.dq_base.specs.ValueOrder.{value_cmp_total}
use Rattle.dq_base.proofs.Exact.{exact_values}
use Rattle.dq_base.specs.declared.value.Value.{Value}
use Rattle.dq_base.specs.declared.query.Measure.{Measure}
use Rattle.dq_base.specs.declared.query.Measure.TheVariants as measure
use Rattle.dq_fold.specs.Sums.{merged_sums}
use Rattle.dq_fold.specs.Tallies.{Mergeable, all_seen, count_in, greatest, least, lowered, merged, merged_all, raised, sums, tally_of}
use Rattle.dq_fold.specs.declared.tally.Tally.{Tally}
use Rattle.dq_fold.specs.declared.tally.Tally.TheVariants as tally
use Rattle.dq_fold.proofs.Tallied.{chosen}
use Rattle.dq_fold.proofs.Unions.{set_of_append}

present_append : (c : ℕ) (rows more : List (List Value)) → present c (rows ++ more) ≡ present c rows ++ present c more
present_append c rows more =
    ap (filter is_present) (map-append (λ r. value_at r c) rows more) ∙ filter-append is_present (map (λ r. value_at r c) rows) (map (λ r. value_at r c) more)

-- an operation that may be grouped in either way may start later
fold_later : {X Y : Type 0} (op : X → X → X) (h : Y → X) → ((a b c : X) → op (op a b) c ≡ op a (op b c)) → (a b : X) (ys : List Y)
    → fold (λ s y. op s (h y)) (op a b) ys ≡ op a (fold (λ s y. op s (h y)) b ys)
fold_later op h g a b [] = refl
fold_later op h g a b (y ∷ ys) = ap (λ s. fold (λ t z. op t (h z)) s ys) (g a b (h y)) ∙ fold_later op h g a (op b (h y)) ys

total_append : (xs ys : List Value) → total (xs ++ ys) ≡ total xs +ℤ total ys
total_append xs ys =
    fold-append (λ s v. s +ℤ number_of v) (pos 0) xs ys
    ∙ ap (λ s. fold (λ t v. t +ℤ number_of v) s ys) (sym (+ℤ_idr (total xs)))
    ∙ fold_later ◌+ℤ◌ number_of +ℤ_assoc (total xs) (pos 0) ys

sums_append : (xs ys : List Value) → merged_sums (sums xs) (sums ys) ≡ sums (xs ++ ys)
sums_append xs ys =
    let t : total (xs ++ ys) ≡ total xs +ℤ total ys = total_append xs ys in
    let n : length (xs ++ ys) ≡ length xs + length ys = length-append xs ys in
    cc

turned_less : (a b : Value) → value_cmp a b ≡ Greater → value_cmp b a ≡ Less
turned_less a b e = value_cmp_total.antisymm b a ∙ ap ordering_reverse e

turned_greater : (a b : Value) → value_cmp a b ≡ Less → value_cmp b a ≡ Greater
turned_greater a b e = value_cmp_total.antisymm b a ∙ ap ordering_reverse e

above_trans : (a b c : Value) → value_cmp a b ≡ Greater → value_cmp b c ≡ Greater → value_cmp a c ≡ Greater
above_trans a b c p q = turned_greater c a (value_cmp_total.trans c b a (turned_less b c q) (turned_less a b p))

-- by how c compares with b, and b with a
lesser_by : (r s : Ordering) (a b c : Value) → value_cmp c b ≡ r → value_cmp b a ≡ s → lesser (if is_lt s then b else a) c ≡ lesser a (if is_lt r then c else b)
lesser_by Less Less a b c p q =
    ap (λ r. if is_lt r then c else b) p ∙ ap (λ r. if is_lt r then c else a) (sym (value_cmp_total.trans c b a p q))
lesser_by Less Equal a b c p q = refl
lesser_by Less Greater a b c p q = refl
lesser_by Equal Less a b c p q = ap (λ r. if is_lt r then c else b) p ∙ ap (λ r. if is_lt r then b else a) (sym q)
lesser_by Equal Equal a b c p q = ap (λ r. if is_lt r then c else a) (value_cmp_total.congr c b a p ∙ q) ∙ ap (λ r. if is_lt r then b else a) (sym q)
lesser_by Equal Greater a b c p q = ap (λ r. if is_lt r then c else a) (value_cmp_total.congr c b a p ∙ q) ∙ ap (λ r. if is_lt r then b else a) (sym q)
lesser_by Greater Less a b c p q = ap (λ r. if is_lt r then c else b) p ∙ ap (λ r. if is_lt r then b else a) (sym q)
lesser_by Greater Equal a b c p q = ap (λ v. lesser v c) (sym (exact_values b a q)) ∙ ap (λ r. if is_lt r then c else b) p ∙ exact_values b a q ∙ ap (λ r. if is_lt r then b else a) (sym q)
lesser_by Greater Greater a b c p q = ap (λ r. if is_lt r then c else a) (above_trans c b a p q) ∙ ap (λ r. if is_lt r then b else a) (sym q)

greater_by : (r s : Ordering) (a b c : Value) → value_cmp c b ≡ r → value_cmp b a ≡ s → greater (if is_gt s then b else a) c ≡ greater a (if is_gt r then c else b)
greater_by Greater Greater a b c p q =
    ap (λ r. if is_gt r then c else b) p ∙ ap (λ r. if is_gt r then c else a) (sym (above_trans c b a p q))
greater_by Greater Equal a b c p q = refl
greater_by Greater Less a b c p q = refl
greater_by Equal Greater a b c p q = ap (λ r. if is_gt r then c else b) p ∙ ap (λ r. if is_gt r then b else a) (sym q)
greater_by Equal Equal a b c p q = ap (λ r. if is_gt r then c else a) (value_cmp_total.congr c b a p ∙ q) ∙ ap (λ r. if is_gt r then b else a) (sym q)
greater_by Equal Less a b c p q = ap (λ r. if is_gt r then c else a) (value_cmp_total.congr c b a p ∙ q) ∙ ap (λ r. if is_gt r then b else a) (sym q)
greater_by Less Greater a b c p q = ap (λ r. if is_gt r then c else b) p ∙ ap (λ r. if is_gt r then b else a) (sym q)
greater_by Less Equal a b c p q = ap (λ v. greater v c) (sym (exact_values b a q)) ∙ ap (λ r. if is_gt r then c else b) p ∙ exact_values b a q ∙ ap (λ r. if is_gt r then b else a) (sym q)
greater_by Less Less a b c p q = ap (λ r. if is_gt r then c else a) (value_cmp_total.trans c b a p q) ∙ ap (λ r. if is_gt r then b else a) (sym q)

lesser_grouped : (a b c : Value) → lesser (lesser a b) c ≡ lesser a (lesser b c)
lesser_grouped a b c = lesser_by (value_cmp c b) (value_cmp b a) a b c refl refl

greater_grouped : (a b c : Value) → greater (greater a b) c ≡ greater a (greater b c)
greater_grouped a b c = greater_by (value_cmp c b) (value_cmp b a) a b c refl refl

least_append : (xs ys : List Value) → lowered (least ys) (least xs) ≡ least (xs ++ ys)
least_append [] [] = refl
least_append [] (y ∷ ys) = refl
least_append (x ∷ xs) [] = ap least (sym (append-nil (x ∷ xs)))
least_append (x ∷ xs) (y ∷ ys) =
    let a = fold lesser x xs in
    let b = fold lesser y ys in
    chosen (is_lt (value_cmp b a)) b a
    ∙ ap Some (sym (fold_later lesser (λ (v : Value). v) lesser_grouped a y ys) ∙ sym (fold-append lesser x xs (y ∷ ys)))

greatest_append : (xs ys : List Value) → raised (greatest ys) (greatest xs) ≡ greatest (xs ++ ys)
greatest_append [] [] = refl
greatest_append [] (y ∷ ys) = refl
greatest_append (x ∷ xs) [] = ap greatest (sym (append-nil (x ∷ xs)))
greatest_append (x ∷ xs) (y ∷ ys) =
    let a = fold greater x xs in
    let b = fold greater y ys in
    chosen (is_gt (value_cmp b a)) b a
    ∙ ap Some (sym (fold_later greater (λ (v : Value). v) greater_grouped a y ys) ∙ sym (fold-append greater x xs (y ∷ ys)))

seen_append : (xs ys : List Value) → all_seen (set_of value_cmp xs) (set_of value_cmp ys) ≡ set_of value_cmp (xs ++ ys)
seen_append xs ys = sym (set_of_append value_cmp value_cmp_total exact_values xs ys)

-- a tally of rows, and one of more rows
pub merged_tally : (rows more : List (List Value)) (m : Measure) → merged (tally_of rows m) (tally_of more m) ≡ tally_of (rows ++ more) m
merged_tally rows more measure.Rows = ap tally.Rows (sym (length-append rows more))
merged_tally rows more (measure.Count c) = ap (tally.Count c) (sym (length-append (present c rows) (present c more)) ∙ ap length (sym (present_append c rows more)))
merged_tally rows more (measure.Sum c) = ap (tally.Sum c) (sums_append (present c rows) (present c more) ∙ ap sums (sym (present_append c rows more)))
merged_tally rows more (measure.Min c) = ap (tally.Least c) (least_append (present c rows) (present c more) ∙ ap least (sym (present_append c rows more)))
merged_tally rows more (measure.Max c) = ap (tally.Greatest c) (greatest_append (present c rows) (present c more) ∙ ap greatest (sym (present_append c rows more)))
merged_tally rows more (measure.Distinct c) = ap (tally.Distinct c) (seen_append (present c rows) (present c more) ∙ ap (set_of value_cmp) (sym (present_append c rows more)))
merged_tally rows more (measure.Avg c) = ap (tally.Average c) (sums_append (present c rows) (present c more) ∙ ap sums (sym (present_append c rows more)))

-- the tallies of rows, and those of more rows
pub merged_tallies : (rows more : List (List Value)) (ms : List Measure) → merged_all (map (tally_of rows) ms) (map (tally_of more) ms) ≡ map (tally_of (rows ++ more)) ms
merged_tallies rows more [] = refl
merged_tallies rows more (m ∷ ms) =
    ap (λ t. t ∷ merged_all (map (tally_of rows) ms) (map (tally_of more) ms)) (merged_tally rows more m)
    ∙ ap (λ ts. tally_of (rows ++ more) m ∷ ts) (merged_tallies rows more ms)

length_merged : (ts us : List Tally) → length (merged_all ts us) ≡ length ts
length_merged ts [] = refl
length_merged [] (u ∷ us) = refl
length_merged (t ∷ ts) (u ∷ us) = ap suc (length_merged ts us)

no_longer : (ts us : List Tally) → Mergeable ts us → length us ≤ length ts
no_longer ts [] m = omega arith
no_longer [] (u ∷ us) m = absurd m
no_longer (t ∷ ts) (u ∷ us) m = omega (arith, no_longer ts us m.1)

-- each of the others has a tally at its place, also once those before it are merged
pub merge_place : (ts us now : List Tally) (i : ℕ) → Mergeable ts us → i < length us → now ≡ merged_all ts (take i us) → i < length now
merge_place ts us now i m lt e = omega (arith, no_longer ts us m, length_merged ts (take i us), ap length e)

small_here : (ts us : List Tally) (i : ℕ) (t u : Tally) → Mergeable ts us → i < length us → u ≡ get_or us i u → slice_get (merged_all ts (take i us)) i ≡ Some t → count_in t + count_in u ≤ 2 ^ 23
small_here ts [] i t u m lt eu et = absurd (omega arith)
small_here [] (w ∷ us) i t u m lt eu et = absurd m
small_here (v ∷ ts) (w ∷ us) zero t u m lt eu et = let here : v ≡ t = cc in omega (arith, m.0, ap count_in here, ap count_in eu)
small_here (v ∷ ts) (w ∷ us) (suc i) t u m lt eu et = small_here ts us i t u m.1 (omega arith) eu et

pub merge_small : (ts us now : List Tally) (i : ℕ) (t u : Tally) → Mergeable ts us → i < length us → now ≡ merged_all ts (take i us) → u ≡ get_or us i u → slice_get now i ≡ Some t → count_in t + count_in u ≤ 2 ^ 23
merge_small ts us now i t u m lt e eu et = small_here ts us i t u m lt eu (ap (λ ws. slice_get ws i) (sym e) ∙ et)

merge_here : (ts us : List Tally) (i : ℕ) (t u : Tally) → Mergeable ts us → i < length us → u ≡ get_or us i u → slice_get (merged_all ts (take i us)) i ≡ Some t
    → slice_set (merged_all ts (take i us)) i (merged t u) ≡ merged_all ts (take (suc i) us)
merge_here ts [] i t u m lt eu et = absurd (omega arith)
merge_here [] (w ∷ us) i t u m lt eu et = absurd m
merge_here (v ∷ ts) (w ∷ us) zero t u m lt eu et = let here : t ≡ v = cc in ap (λ x. merged x u ∷ ts) here ∙ ap (λ x. merged v x ∷ ts) eu
merge_here (v ∷ ts) (w ∷ us) (suc i) t u m lt eu et = ap (λ r. merged v w ∷ r) (merge_here ts us i t u m.1 (omega arith) eu et)

-- the next tally of those that are merged from the front
pub merge_next : (ts us now : List Tally) (i : ℕ) (t u y : Tally) → Mergeable ts us → i < length us → now ≡ merged_all ts (take i us) → u ≡ get_or us i u → slice_get now i ≡ Some t → y ≡ merged t u
    → slice_set now i y ≡ merged_all ts (take (i + 1) us)
merge_next ts us now i t u y m lt e eu et ey =
    rw add-one (ap (λ ws. slice_set ws i y) e ∙ ap (λ w. slice_set (merged_all ts (take i us)) i w) ey ∙ merge_here ts us i t u m lt eu (ap (λ ws. slice_get ws i) (sym e) ∙ et))

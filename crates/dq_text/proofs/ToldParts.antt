-- The texts of a statement's parts tell the parts.
use Rattle.std.proofs.Common.{◌≡◌, ℕ, ℤ, Bool, true, false, List, [], ◌∷◌, ◌++◌, nat_eq, nat_le, leb-true, get_or, flat_map, decimal, codes, Option, Some, None, if◌then◌else◌, refl, sym, ap, subst, ◌∙◌, append_assoc, true≢false, arith}
use Rattle.std.specs.Fmt.{signed_decimal}
use Rattle.std.specs.List.{AllByRecursion}
use Rattle.std.proofs.lemmas.List.{append_cancel_left}
use Rattle.dq_base.specs.Dims.{width_of}
use Rattle.dq_base.specs.Rests.{first, Anything, Stops}
use Rattle.dq_base.specs.Spelling.{Bytes}
use Rattle.dq_base.specs.declared.value.Value.{Value}
use Rattle.dq_base.specs.declared.value.Value.TheVariants.{Null, Int, Word}
use Rattle.dq_base.specs.declared.predicate.Test.{Test}
use Rattle.dq_base.specs.declared.predicate.Test.TheVariants as test
use Rattle.dq_base.specs.declared.predicate.Predicate.{Predicate}
use Rattle.dq_base.specs.declared.query.Measure.{Measure}
use Rattle.dq_base.specs.declared.query.Measure.TheVariants.{Rows, Count, Sum, Min, Max, Distinct, Avg}
use Rattle.dq_base.proofs.Told.{second, Tells, Goes, worded, lead, trail, both, until, goes_on}
use Rattle.dq_base.proofs.ToldNumbers.{number_told, signed_told, signed_first}
use Rattle.dq_base.proofs.ToldTexts.{spelled_told}
use Rattle.dq_text.specs.Reading.{After, AllSome, AreBounds, EndsDim, bounds_text, bracketed_text, predicate_text}
use Rattle.dq_text.specs.Sizes.{IsNumber, IsWhole, IsSizedBound, IsSizedDim, IsSizedKey, IsSizedList, IsSizedMeasure, IsSizedPredicate, IsSizedTest, IsSizedTop, IsSizedValue, IsWidth}
use Rattle.dq_text.specs.Statements.{after_comma, bound_text, clause, column_text, dim_text, joined, key_text, list_text, measure_text, plain_predicate, plain_test, plain_where, test_text, top_text, value_text, way_text, where_text, width_text}
use Rattle.dq_text.specs.declared.statement.Listed.{Listed}
use Rattle.dq_text.specs.declared.statement.Listed.TheVariants.{Spelled, Named}
use Rattle.dq_text.specs.declared.statement.SaidTest.{SaidTest}
use Rattle.dq_text.specs.declared.statement.SaidTest.TheVariants.{Among, Except, Between}
use Rattle.dq_text.proofs.Behind.{after_stops, clause_commas, key_commas, value_commas}
use Rattle.dq_text.proofs.Loops.{Commas}
use Rattle.dq_text.proofs.Widths.{dim_commas, width_opens}
use Rattle.dq_text.proofs.Parts.{fits_whole, null_only, star_only, bracket_only}

-- numbers

fewer_things : {X : Type 0} {P Q : X → Type 0} {E : Bytes → Type 0} {f : X → Bytes} → ((x : X) → P x → Q x) → Tells Q E f → Tells P E f
fewer_things fewer t = record { same = λ x y r s p q. t.same x y r s (fewer x p) (fewer y q) }

pub place_told : Tells IsNumber Stops decimal
place_told = fewer_things (λ n p. omega (arith, p)) number_told

column_told : Tells IsNumber Stops column_text
column_told = lead (99 ∷ []) place_told

whole_told : Tells IsWhole Stops signed_decimal
whole_told = fewer_things fits_whole signed_told

-- values

value_same : (x y : Value) (r s : Bytes) → IsSizedValue x → IsSizedValue y → Stops r → Stops s → value_text x ++ r ≡ value_text y ++ s → (x ≡ y) × (r ≡ s)
value_same Null y r s p q a b e = null_only y s r q e
value_same (Int n) Null r s p q a b e = let one = null_only (Int n) r s p (sym e) in (sym one.0, sym one.1)
value_same (Int n) (Int m) r s p q a b e = let one = whole_told.same n m r s p q a b e in (ap Int one.0, one.1)
value_same (Int n) (Word u) r s p q a b e = absurd (omega (arith, signed_first n r (fits_whole n p), ap first e))
value_same (Word t) Null r s p q a b e = absurd (omega (arith, ap first e))
value_same (Word t) (Int m) r s p q a b e = absurd (omega (arith, signed_first m s (fits_whole m q), ap first e))
value_same (Word t) (Word u) r s p q a b e = let one = spelled_told.same t u r s p q tt tt e in (ap Word one.0, one.1)

value_told : Tells IsSizedValue Stops value_text
value_told = record { same = value_same }

-- items with commas between them, and clauses

comma_goes : {X : Type 0} {E C : Bytes → Type 0} (P : X → Type 0) (f : X → Bytes) → Commas E C → Goes P E C (after_comma f)
comma_goes P f k = record { opens = λ x r p. k.comma _; closes = k.closes; apart = λ x r p c. k.apart _ c }

pairs_told : {X : Type 0} {P : X → Type 0} {E C : Bytes → Type 0} {f : X → Bytes} → Commas E C → Tells P E f
    → Tells (λ (p : X × List X). P p.0 × AllByRecursion P p.1) C (λ p. f p.0 ++ flat_map (after_comma f) p.1)
pairs_told {P = P} {E = E} {C = C} {f = f} k t =
    both t (until (lead (44 ∷ []) t) (comma_goes P f k)) (λ xs r p a. goes_on P E C (after_comma f) (comma_goes P f k) xs r p a)

joined_same : {X : Type 0} {P : X → Type 0} {E C : Bytes → Type 0} {f : X → Bytes} → Commas E C → Tells P E f → (xs ys : List X) (r s : Bytes) → AllSome P xs → AllSome P ys → C r → C s
    → joined f xs ++ r ≡ joined f ys ++ s → (xs ≡ ys) × (r ≡ s)
joined_same k t [] ys r s p q a b e = absurd p
joined_same k t (x ∷ xs) [] r s p q a b e = absurd q
joined_same k t (x ∷ xs) (y ∷ ys) r s p q a b e =
    let one = (pairs_told k t).same (x, xs) (y, ys) r s p q a b e in
    (ap (λ z. z.0 ∷ z.1) one.0, one.1)

joined_told : {X : Type 0} {P : X → Type 0} {E C : Bytes → Type 0} {f : X → Bytes} → Commas E C → Tells P E f → Tells (AllSome P) C (joined f)
joined_told k t = record { same = joined_same k t }

clause_same : {X : Type 0} {P : X → Type 0} {E C : Bytes → Type 0} {f : X → Bytes} (word : Bytes) → Commas E C → Tells P E f → ((m : Bytes) → C (word ++ m) → ⊥) → (xs ys : List X) (r s : Bytes)
    → AllByRecursion P xs → AllByRecursion P ys → C r → C s → clause word f xs ++ r ≡ clause word f ys ++ s → (xs ≡ ys) × (r ≡ s)
clause_same word k t apart [] [] r s p q a b e = (refl, e)
clause_same {C = C} {f = f} word k t apart [] (y ∷ ys) r s p q a b e = absurd (apart (joined f (y ∷ ys) ++ s) (subst C (e ∙ append_assoc word (joined f (y ∷ ys)) s) a))
clause_same {C = C} {f = f} word k t apart (x ∷ xs) [] r s p q a b e = absurd (apart (joined f (x ∷ xs) ++ r) (subst C (sym e ∙ append_assoc word (joined f (x ∷ xs)) r) b))
clause_same word k t apart (x ∷ xs) (y ∷ ys) r s p q a b e = (lead word (joined_told k t)).same (x ∷ xs) (y ∷ ys) r s p q a b e

clause_told : {X : Type 0} {P : X → Type 0} {E C : Bytes → Type 0} {f : X → Bytes} (word : Bytes) → Commas E C → Tells P E f → ((m : Bytes) → C (word ++ m) → ⊥) → Tells (AllByRecursion P) C (clause word f)
clause_told word k t apart = record { same = clause_same word k t apart }

-- lists

bracketed_same : (xs ys : List Value) (r s : Bytes) → AllByRecursion IsSizedValue xs → AllByRecursion IsSizedValue ys → bracketed_text xs ++ r ≡ bracketed_text ys ++ s → (xs ≡ ys) × (r ≡ s)
bracketed_same [] ys r s p q e = bracket_only ys s r q e
bracketed_same (x ∷ xs) [] r s p q e = let one = bracket_only (x ∷ xs) r s p (sym e) in (sym one.0, sym one.1)
bracketed_same (x ∷ xs) (y ∷ ys) r s p q e = (trail (41 ∷ []) (joined_told value_commas value_told) (λ m. refl)).same (x ∷ xs) (y ∷ ys) r s p q tt tt e

bracketed_told : Tells (AllByRecursion IsSizedValue) Anything bracketed_text
bracketed_told = record { same = λ xs ys r s p q a b e. bracketed_same xs ys r s p q e }

list_same : (x y : Listed) (r s : Bytes) → IsSizedList x → IsSizedList y → Stops r → Stops s → list_text x ++ r ≡ list_text y ++ s → (x ≡ y) × (r ≡ s)
list_same (Spelled xs) (Spelled ys) r s p q a b e = let one = (lead (40 ∷ []) bracketed_told).same xs ys r s p q tt tt e in (ap Spelled one.0, one.1)
list_same (Spelled xs) (Named n) r s p q a b e = absurd (omega (arith, ap first e))
list_same (Named m) (Spelled ys) r s p q a b e = absurd (omega (arith, ap first e))
list_same (Named m) (Named n) r s p q a b e = let one = (lead (35 ∷ []) number_told).same m n r s p q a b e in (ap Named one.0, one.1)

list_told : Tells IsSizedList Stops list_text
list_told = record { same = list_same }

-- tests

bound_same : (x y : Option ℤ) (r s : Bytes) → IsSizedBound x → IsSizedBound y → Stops r → Stops s → bound_text x ++ r ≡ bound_text y ++ s → (x ≡ y) × (r ≡ s)
bound_same None y r s p q a b e = star_only y s r q e
bound_same (Some n) None r s p q a b e = let one = star_only (Some n) r s p (sym e) in (sym one.0, sym one.1)
bound_same (Some n) (Some m) r s p q a b e = let one = whole_told.same n m r s p q a b e in (ap Some one.0, one.1)

bound_told : Tells IsSizedBound Stops bound_text
bound_told = record { same = bound_same }

bounds_told : Tells AreBounds Stops bounds_text
bounds_told = both bound_told (lead (codes "..") bound_told) (λ b r p a. refl)

test_same : (x y : SaidTest) (r s : Bytes) → IsSizedTest x → IsSizedTest y → Stops r → Stops s → test_text x ++ r ≡ test_text y ++ s → (x ≡ y) × (r ≡ s)
test_same (Among l) (Among m) r s p q a b e = let one = (lead (codes " among ") list_told).same l m r s p q a b e in (ap Among one.0, one.1)
test_same (Among l) (Except m) r s p q a b e = absurd (omega (arith, ap second e))
test_same (Among l) (Between j k) r s p q a b e = absurd (omega (arith, ap second e))
test_same (Except l) (Among m) r s p q a b e = absurd (omega (arith, ap second e))
test_same (Except l) (Except m) r s p q a b e = let one = (lead (codes " except ") list_told).same l m r s p q a b e in (ap Except one.0, one.1)
test_same (Except l) (Between j k) r s p q a b e = absurd (omega (arith, ap second e))
test_same (Between h i) (Among m) r s p q a b e = absurd (omega (arith, ap second e))
test_same (Between h i) (Except m) r s p q a b e = absurd (omega (arith, ap second e))
test_same (Between h i) (Between j k) r s p q a b e =
    let one = (lead (codes " between ") bounds_told).same (h, i) (j, k) r s p q a b e in
    (ap (λ (z : Option ℤ × Option ℤ). Between z.0 z.1) one.0, one.1)

test_told : Tells IsSizedTest Stops test_text
test_told = record { same = test_same }

-- filters

test_opens : (x : SaidTest) (r : Bytes) → Stops (test_text x ++ r)
test_opens (Among l) r = refl
test_opens (Except l) r = refl
test_opens (Between h i) r = refl

parts_told : Tells (λ (p : ℕ × SaidTest). IsNumber p.0 × IsSizedTest p.1) Stops (λ p. column_text p.0 ++ test_text p.1)
parts_told = both column_told test_told (λ x r p a. test_opens x r)

predicate_told : Tells IsSizedPredicate Stops predicate_text
predicate_told = record {
  same = λ x y r s p q a b e.
      let one = parts_told.same (x.column, x.test) (y.column, y.test) r s p q a b e in
      (λ i. record { column = (one.0 i).0; test = (one.0 i).1 }, one.1);
}

where_told : Tells IsSizedPredicate Stops where_text
where_told = lead (codes " where ") predicate_told

pub filters_told : Tells (AllByRecursion IsSizedPredicate) (After 1) (flat_map where_text)
filters_told = until where_told (record { opens = λ x r p. refl; closes = after_stops 1; apart = λ x r p c. true≢false (sym c) })

-- a test from the one with its list spelled
abbrev unlisted : Listed → List Value
unlisted (Spelled values) = values
unlisted (Named n) = []

abbrev unplain : SaidTest → Test
unplain (Among l) = test.Among (unlisted l)
unplain (Except l) = test.Except (unlisted l)
unplain (Between h i) = test.Between h i

plain_back : (x : Test) → unplain (plain_test x) ≡ x
plain_back (test.Among l) = refl
plain_back (test.Except l) = refl
plain_back (test.Between h i) = refl

plain_told : Tells (λ (p : Predicate). IsSizedPredicate (plain_predicate p)) Stops plain_where
plain_told = record {
  same = λ x y r s p q a b e.
      let one = where_told.same (plain_predicate x) (plain_predicate y) r s p q a b e in
      let tests : x.test ≡ y.test = sym (plain_back x.test) ∙ ap (λ z. unplain z.test) one.0 ∙ plain_back y.test in
      (λ i. record { column = (one.0 i).column; test = tests i }, one.1);
}

pub plain_filters_told : Tells (AllByRecursion (λ (p : Predicate). IsSizedPredicate (plain_predicate p))) (After 1) (flat_map plain_where)
plain_filters_told = until plain_told (record { opens = λ x r p. refl; closes = after_stops 1; apart = λ x r p c. true≢false (sym c) })

-- measures: which, and of which column

abbrev kind : Measure → ℕ
kind Rows = 0
kind (Count column) = 1
kind (Sum column) = 2
kind (Min column) = 3
kind (Max column) = 4
kind (Distinct column) = 5
kind (Avg column) = 6

abbrev column_of : Measure → ℕ
column_of Rows = 0
column_of (Count column) = column
column_of (Sum column) = column
column_of (Min column) = column
column_of (Max column) = column
column_of (Distinct column) = column
column_of (Avg column) = column

abbrev made : ℕ → ℕ → Measure
made k column = if nat_eq k 1 then Count column else if nat_eq k 2 then Sum column else if nat_eq k 3 then Min column else if nat_eq k 4 then Max column else if nat_eq k 5 then Distinct column else if nat_eq k 6 then Avg column else Rows

made_back : (x : Measure) → made (kind x) (column_of x) ≡ x
made_back Rows = refl
made_back (Count column) = refl
made_back (Sum column) = refl
made_back (Min column) = refl
made_back (Max column) = refl
made_back (Distinct column) = refl
made_back (Avg column) = refl

-- the kind by the first letter, or the second or the sixth
abbrev kind_in : Bytes → ℕ
kind_in bs = if nat_eq (first bs) 114 then 0 else if nat_eq (first bs) 115 then 2 else if nat_eq (first bs) 97 then 6 else if nat_eq (first bs) 109 then (if nat_eq (get_or bs 1 0) 105 then 3 else 4) else if nat_eq (get_or bs 5 0) 100 then 5 else 1

kind_back : (x : Measure) (r : Bytes) → kind_in (measure_text x ++ r) ≡ kind x
kind_back Rows r = refl
kind_back (Count column) r = refl
kind_back (Sum column) r = refl
kind_back (Min column) r = refl
kind_back (Max column) r = refl
kind_back (Distinct column) r = refl
kind_back (Avg column) r = refl

same_kind : (x y : Measure) (r s : Bytes) → kind y ≡ kind x → IsSizedMeasure x → IsSizedMeasure y → Stops r → Stops s → measure_text x ++ r ≡ measure_text y ++ s → (x ≡ y) × (r ≡ s)
same_kind Rows y r s k p q a b e =
    let is : y ≡ Rows = sym (made_back y) ∙ ap (λ n. made n (column_of y)) k in
    (sym is, append_cancel_left (codes "rows") r s (e ∙ ap (λ m. measure_text m ++ s) is))
same_kind (Count column) y r s k p q a b e =
    let is : y ≡ Count (column_of y) = sym (made_back y) ∙ ap (λ n. made n (column_of y)) k in
    let one = (lead (codes "count ") column_told).same column (column_of y) r s p (subst IsSizedMeasure is q) a b (e ∙ ap (λ m. measure_text m ++ s) is) in
    (ap Count one.0 ∙ sym is, one.1)
same_kind (Sum column) y r s k p q a b e =
    let is : y ≡ Sum (column_of y) = sym (made_back y) ∙ ap (λ n. made n (column_of y)) k in
    let one = (lead (codes "sum ") column_told).same column (column_of y) r s p (subst IsSizedMeasure is q) a b (e ∙ ap (λ m. measure_text m ++ s) is) in
    (ap Sum one.0 ∙ sym is, one.1)
same_kind (Min column) y r s k p q a b e =
    let is : y ≡ Min (column_of y) = sym (made_back y) ∙ ap (λ n. made n (column_of y)) k in
    let one = (lead (codes "min ") column_told).same column (column_of y) r s p (subst IsSizedMeasure is q) a b (e ∙ ap (λ m. measure_text m ++ s) is) in
    (ap Min one.0 ∙ sym is, one.1)
same_kind (Max column) y r s k p q a b e =
    let is : y ≡ Max (column_of y) = sym (made_back y) ∙ ap (λ n. made n (column_of y)) k in
    let one = (lead (codes "max ") column_told).same column (column_of y) r s p (subst IsSizedMeasure is q) a b (e ∙ ap (λ m. measure_text m ++ s) is) in
    (ap Max one.0 ∙ sym is, one.1)
same_kind (Distinct column) y r s k p q a b e =
    let is : y ≡ Distinct (column_of y) = sym (made_back y) ∙ ap (λ n. made n (column_of y)) k in
    let one = (lead (codes "countd ") column_told).same column (column_of y) r s p (subst IsSizedMeasure is q) a b (e ∙ ap (λ m. measure_text m ++ s) is) in
    (ap Distinct one.0 ∙ sym is, one.1)
same_kind (Avg column) y r s k p q a b e =
    let is : y ≡ Avg (column_of y) = sym (made_back y) ∙ ap (λ n. made n (column_of y)) k in
    let one = (lead (codes "avg ") column_told).same column (column_of y) r s p (subst IsSizedMeasure is q) a b (e ∙ ap (λ m. measure_text m ++ s) is) in
    (ap Avg one.0 ∙ sym is, one.1)

measure_told : Tells IsSizedMeasure Stops measure_text
measure_told = record { same = λ x y r s p q a b e. same_kind x y r s (sym (kind_back y s) ∙ ap kind_in (sym e) ∙ kind_back x r) p q a b e }

-- dimensions

width_same_by : (a b : Bool) (x y : ℕ) (r s : Bytes) → nat_le x 1 ≡ a → nat_le y 1 ≡ b → IsWidth x → IsWidth y → EndsDim r → EndsDim s
    → (if a then [] else 47 ∷ [] ++ decimal x) ++ r ≡ (if b then [] else 47 ∷ [] ++ decimal y) ++ s → (x ≡ y) × (r ≡ s)
width_same_by true true x y r s l m p q a b e = (omega (arith, leb-true x 1 l, leb-true y 1 m, p.0, q.0), e)
width_same_by true false x y r s l m p q a b e = absurd (true≢false (ap (λ t. nat_eq (first t) 47) (sym e) ∙ a.1))
width_same_by false true x y r s l m p q a b e = absurd (true≢false (ap (λ t. nat_eq (first t) 47) e ∙ b.1))
width_same_by false false x y r s l m p q a b e = place_told.same x y r s p.1 q.1 a.0 b.0 (append_cancel_left (47 ∷ []) (decimal x ++ r) (decimal y ++ s) e)

width_told : Tells IsWidth EndsDim width_text
width_told = record { same = λ x y r s p q a b e. width_same_by (nat_le x 1) (nat_le y 1) x y r s refl refl p q a b e }

sides_told : Tells (λ (p : ℕ × ℕ). IsNumber p.0 × IsWidth p.1) EndsDim (λ p. column_text p.0 ++ width_text p.1)
sides_told = both column_told width_told (λ x r p a. width_opens x r a)

dim_told : Tells IsSizedDim EndsDim dim_text
dim_told = record {
  same = λ x y r s p q a b e.
      let one = sides_told.same (x.column, width_of x) (y.column, width_of y) r s p q a b e in
      let two : x.beyond ≡ y.beyond = omega (arith, ap (λ z. z.1) one.0) in
      (λ i. record { column = (one.0 i).0; beyond = two i }, one.1);
}

-- order keys

abbrev way_in : Bytes → Bool
way_in bs = if nat_eq (first bs) 45 then true else false

way_back : (x : Bool) (r : Bytes) → way_in (way_text x ++ r) ≡ x
way_back true r = refl
way_back false r = refl

way_opens : (x : Bool) (r : Bytes) → Stops (way_text x ++ r)
way_opens true r = refl
way_opens false r = refl

ways_told : Tells (λ (p : ℕ × Bool). IsNumber p.0 × Unit {0}) Anything (λ p. decimal p.0 ++ way_text p.1)
ways_told = both place_told (worded way_text way_in way_back) (λ x r p a. way_opens x r)

key_told : Tells IsSizedKey Anything key_text
key_told = record {
  same = λ x y r s p q a b e.
      let one = ways_told.same (x.place, x.down) (y.place, y.down) r s (p, tt) (q, tt) tt tt e in
      (λ i. record { place = (one.0 i).0; down = (one.0 i).1 }, one.1);
}

-- clauses

pub dims_told : Tells (AllByRecursion IsSizedDim) (After 2) (clause (codes " by ") dim_text)
dims_told = clause_told (codes " by ") dim_commas dim_told (λ m c. true≢false (sym c))

pub measures_told : Tells (AllByRecursion IsSizedMeasure) (After 3) (clause (codes " show ") measure_text)
measures_told = clause_told (codes " show ") (clause_commas 3) measure_told (λ m c. true≢false (sym c))

pub order_told : Tells (AllByRecursion IsSizedKey) (After 4) (clause (codes " order ") key_text)
order_told = clause_told (codes " order ") (key_commas 4) key_told (λ m c. true≢false (sym c))

pub top_same : (x y : Option ℕ) → IsSizedTop x → IsSizedTop y → top_text x ≡ top_text y → x ≡ y
top_same None None p q e = refl
top_same None (Some n) p q e = absurd (omega (arith, ap first e))
top_same (Some m) None p q e = absurd (omega (arith, ap first e))
top_same (Some m) (Some n) p q e = ap Some (place_told.same m n [] [] p q refl refl (append_cancel_left (codes " top ") (decimal m ++ []) (decimal n ++ []) (ap (λ t. t ++ []) e))).0

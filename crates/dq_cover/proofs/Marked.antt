-- What the table of a query's parts says.
use Rattle.std.proofs.Common.{◌≡◌, ℕ, ◌+◌, ◌*◌, ◌<◌, Bool, true, false, ◌||◌, List, length, take, slice_index_or, slice_set, zero, suc, [], ◌∷◌, replicate, refl, sym, ap, ◌∙◌, nat_eq, arith, eq-eqb}
use Rattle.std.specs.List.{list_any}
use Rattle.std.proofs.lemmas.Bool.{eqb-true}
use Rattle.std.proofs.lemmas.List.Folds.{list_any_more}
use Rattle.std.proofs.lemmas.Grind.{get_or-set_at}
use Rattle.std.proofs.lemmas.List.{get_or-set_other, length-set}
use Rattle.dq_base.specs.Covering.{measure_eq}
use Rattle.dq_base.specs.declared.query.Measure.{Measure}
use Rattle.dq_base.specs.declared.query.Measure.TheVariants.{Rows, Count, Sum, Min, Max, Distinct, Avg}
use Rattle.dq_cover.specs.Parts.{AreMarks, place_of}

differs : (x y : ℕ) → nat_eq x y ≡ false → x ≡ y → ⊥
differs x y e s = let t : nat_eq x y ≡ true = eq-eqb x y s in cc

not_true : (b : Bool) → (b ≡ true → ⊥) → b ≡ false
not_true true h = absurd (h refl)
not_true false h = refl

both_ways : (a b : Bool) → (a ≡ true → b ≡ true) → (b ≡ true → a ≡ true) → a ≡ b
both_ways true b f g = sym (f refl)
both_ways false true f g = g refl
both_ways false false f g = refl

match_eq : (x y a b : ℕ) → (x ≡ y → a ≡ b) → (a ≡ b → x ≡ y) → nat_eq x y ≡ nat_eq a b
match_eq x y a b f g = both_ways (nat_eq x y) (nat_eq a b) (λ e. eq-eqb a b (f (eqb-true x y e))) (λ e. eq-eqb x y (g (eqb-true a b e)))

scaled : (a b k : ℕ) → nat_eq (6 * a + k) (6 * b + k) ≡ nat_eq a b
scaled a b k = match_eq (6 * a + k) (6 * b + k) a b (λ e. omega (arith, e)) (λ e. ap (λ n. 6 * n + k) e)

differ : (x y : ℕ) → (x ≡ y → ⊥) → nat_eq x y ≡ false
differ x y h = not_true (nat_eq x y) (λ e. h (eqb-true x y e))

pub place_eq : (m n : Measure) → nat_eq (place_of m) (place_of n) ≡ measure_eq m n
place_eq Rows Rows = refl
place_eq Rows (Count b) = differ (place_of Rows) (place_of (Count b)) (λ e. omega (arith, e))
place_eq Rows (Sum b) = differ (place_of Rows) (place_of (Sum b)) (λ e. omega (arith, e))
place_eq Rows (Min b) = differ (place_of Rows) (place_of (Min b)) (λ e. omega (arith, e))
place_eq Rows (Max b) = differ (place_of Rows) (place_of (Max b)) (λ e. omega (arith, e))
place_eq Rows (Distinct b) = differ (place_of Rows) (place_of (Distinct b)) (λ e. omega (arith, e))
place_eq Rows (Avg b) = differ (place_of Rows) (place_of (Avg b)) (λ e. omega (arith, e))
place_eq (Count a) Rows = differ (place_of (Count a)) (place_of Rows) (λ e. omega (arith, e))
place_eq (Count a) (Count b) = scaled a b 1
place_eq (Count a) (Sum b) = differ (place_of (Count a)) (place_of (Sum b)) (λ e. omega (arith, e))
place_eq (Count a) (Min b) = differ (place_of (Count a)) (place_of (Min b)) (λ e. omega (arith, e))
place_eq (Count a) (Max b) = differ (place_of (Count a)) (place_of (Max b)) (λ e. omega (arith, e))
place_eq (Count a) (Distinct b) = differ (place_of (Count a)) (place_of (Distinct b)) (λ e. omega (arith, e))
place_eq (Count a) (Avg b) = differ (place_of (Count a)) (place_of (Avg b)) (λ e. omega (arith, e))
place_eq (Sum a) Rows = differ (place_of (Sum a)) (place_of Rows) (λ e. omega (arith, e))
place_eq (Sum a) (Count b) = differ (place_of (Sum a)) (place_of (Count b)) (λ e. omega (arith, e))
place_eq (Sum a) (Sum b) = scaled a b 2
place_eq (Sum a) (Min b) = differ (place_of (Sum a)) (place_of (Min b)) (λ e. omega (arith, e))
place_eq (Sum a) (Max b) = differ (place_of (Sum a)) (place_of (Max b)) (λ e. omega (arith, e))
place_eq (Sum a) (Distinct b) = differ (place_of (Sum a)) (place_of (Distinct b)) (λ e. omega (arith, e))
place_eq (Sum a) (Avg b) = differ (place_of (Sum a)) (place_of (Avg b)) (λ e. omega (arith, e))
place_eq (Min a) Rows = differ (place_of (Min a)) (place_of Rows) (λ e. omega (arith, e))
place_eq (Min a) (Count b) = differ (place_of (Min a)) (place_of (Count b)) (λ e. omega (arith, e))
place_eq (Min a) (Sum b) = differ (place_of (Min a)) (place_of (Sum b)) (λ e. omega (arith, e))
place_eq (Min a) (Min b) = scaled a b 3
place_eq (Min a) (Max b) = differ (place_of (Min a)) (place_of (Max b)) (λ e. omega (arith, e))
place_eq (Min a) (Distinct b) = differ (place_of (Min a)) (place_of (Distinct b)) (λ e. omega (arith, e))
place_eq (Min a) (Avg b) = differ (place_of (Min a)) (place_of (Avg b)) (λ e. omega (arith, e))
place_eq (Max a) Rows = differ (place_of (Max a)) (place_of Rows) (λ e. omega (arith, e))
place_eq (Max a) (Count b) = differ (place_of (Max a)) (place_of (Count b)) (λ e. omega (arith, e))
place_eq (Max a) (Sum b) = differ (place_of (Max a)) (place_of (Sum b)) (λ e. omega (arith, e))
place_eq (Max a) (Min b) = differ (place_of (Max a)) (place_of (Min b)) (λ e. omega (arith, e))
place_eq (Max a) (Max b) = scaled a b 4
place_eq (Max a) (Distinct b) = differ (place_of (Max a)) (place_of (Distinct b)) (λ e. omega (arith, e))
place_eq (Max a) (Avg b) = differ (place_of (Max a)) (place_of (Avg b)) (λ e. omega (arith, e))
place_eq (Distinct a) Rows = differ (place_of (Distinct a)) (place_of Rows) (λ e. omega (arith, e))
place_eq (Distinct a) (Count b) = differ (place_of (Distinct a)) (place_of (Count b)) (λ e. omega (arith, e))
place_eq (Distinct a) (Sum b) = differ (place_of (Distinct a)) (place_of (Sum b)) (λ e. omega (arith, e))
place_eq (Distinct a) (Min b) = differ (place_of (Distinct a)) (place_of (Min b)) (λ e. omega (arith, e))
place_eq (Distinct a) (Max b) = differ (place_of (Distinct a)) (place_of (Max b)) (λ e. omega (arith, e))
place_eq (Distinct a) (Distinct b) = scaled a b 5
place_eq (Distinct a) (Avg b) = differ (place_of (Distinct a)) (place_of (Avg b)) (λ e. omega (arith, e))
place_eq (Avg a) Rows = differ (place_of (Avg a)) (place_of Rows) (λ e. omega (arith, e))
place_eq (Avg a) (Count b) = differ (place_of (Avg a)) (place_of (Count b)) (λ e. omega (arith, e))
place_eq (Avg a) (Sum b) = differ (place_of (Avg a)) (place_of (Sum b)) (λ e. omega (arith, e))
place_eq (Avg a) (Min b) = differ (place_of (Avg a)) (place_of (Min b)) (λ e. omega (arith, e))
place_eq (Avg a) (Max b) = differ (place_of (Avg a)) (place_of (Max b)) (λ e. omega (arith, e))
place_eq (Avg a) (Distinct b) = differ (place_of (Avg a)) (place_of (Distinct b)) (λ e. omega (arith, e))
place_eq (Avg a) (Avg b) = scaled a b 6

pub unmarked : (n k : ℕ) → slice_index_or (replicate n false) k false ≡ false
unmarked zero k = refl
unmarked (suc n) zero = refl
unmarked (suc n) (suc k) = unmarked n k

pub none_taken : {X : Type 0} (p : X → Bool) (xs : List X) → list_any p (take 0 xs) ≡ false
none_taken p [] = refl
none_taken p (x ∷ xs) = refl

or_true : (b : Bool) → true ≡ (b || true)
or_true true = refl
or_true false = refl

or_false : (b : Bool) → b ≡ (b || false)
or_false true = refl
or_false false = refl

-- one mark more
marked : (marks : List Bool) (p k : ℕ) (b : Bool) → nat_eq k p ≡ b → k < length marks → slice_index_or (slice_set marks p true) k false ≡ (slice_index_or marks k false || b)
marked marks p k true e h =
    let same : k ≡ p = eqb-true k p e in
    get_or-set_at marks p k true false same (omega arith) ∙ or_true (slice_index_or marks k false)
marked marks p k false e h = get_or-set_other marks p k true false (λ s. differs k p e s) ∙ or_false (slice_index_or marks k false)

pub marks_more : (marks : List Bool) (ms : List Measure) (i : ℕ) (d : Measure) → i < length ms → AreMarks marks (take i ms) → AreMarks (slice_set marks (place_of (slice_index_or ms i d)) true) (take (i + 1) ms)
marks_more marks ms i d l h m u =
    let n : Measure = slice_index_or ms i d in
    let below : place_of m < length marks = omega (arith, length-set marks (place_of n) true) in
    marked marks (place_of n) (place_of m) (measure_eq m n) (place_eq m n) below
    ∙ ap (λ b. b || measure_eq m n) (h m below)
    ∙ sym (list_any_more (measure_eq m) ms i d l)

-- How large a column's sum is.
use Rattle.std.proofs.Common.{ℕ, ℤ, pos, ◌+◌, ◌*◌, ◌^◌, ◌≤◌, ◌+ℤ◌, Bool, true, false, cond, List, [], ◌∷◌, length, arith}
use Rattle.std.specs.Prelude.{unsigned_abs}
use Rattle.std.specs.List.{AllByRecursion, fold}
use Rattle.std.proofs.lemmas.Int.{ints}
use Rattle.dq_base.specs.Answers.{is_present, number_of, present, total}
use Rattle.dq_base.specs.Filters.{value_at}
use Rattle.dq_base.specs.declared.value.Value.{Value}

abbrev IsSmall : Value → Type 0
IsSmall v = unsigned_abs (number_of v) ≤ 2 ^ 63

plus_size : (a b : ℤ) (m n : ℕ) → unsigned_abs a ≤ m → unsigned_abs b ≤ n → unsigned_abs (a +ℤ b) ≤ m + n
plus_size a b m n p q = omega (arith, ints)

total_size : (s : ℤ) (m : ℕ) (vs : List Value) → unsigned_abs s ≤ m → AllByRecursion IsSmall vs → unsigned_abs (fold (λ t v. t +ℤ number_of v) s vs) ≤ m + 2 ^ 63 * length vs
total_size s m [] h a = omega arith
total_size s m (v ∷ vs) h a =
    let rest = total_size (s +ℤ number_of v) (m + 2 ^ 63) vs (plus_size s (number_of v) m (2 ^ 63) h a.0) a.1 in
    omega (arith, rest)

kept_small : (b : Bool) (v : Value) (vs : List Value) → IsSmall v → AllByRecursion IsSmall vs → AllByRecursion IsSmall (cond b (v ∷ vs) vs)
kept_small true v vs h a = (h, a)
kept_small false v vs h a = a

kept_few : (b : Bool) (v : Value) (vs : List Value) (n : ℕ) → length vs ≤ n → length (cond b (v ∷ vs) vs) ≤ n + 1
kept_few true v vs n h = omega arith
kept_few false v vs n h = omega arith

module _ (column : ℕ) where
  abbrev values : List (List Value) → List Value
  values rows = present column rows

  all_small : (rows : List (List Value)) → AllByRecursion (λ row. IsSmall (value_at row column)) rows → AllByRecursion IsSmall (values rows)
  all_small [] a = tt
  all_small (r ∷ rows) a = kept_small (is_present (value_at r column)) (value_at r column) (values rows) a.0 (all_small rows a.1)

  few : (rows : List (List Value)) → length (values rows) ≤ length rows
  few [] = omega arith
  few (r ∷ rows) = let h = kept_few (is_present (value_at r column)) (value_at r column) (values rows) (length rows) (few rows) in omega (arith, h)

  pub sum_within : (rows : List (List Value)) → length rows ≤ 2 ^ 23 → AllByRecursion (λ row. IsSmall (value_at row column)) rows → unsigned_abs (total (values rows)) ≤ 2 ^ 86
  sum_within rows n a =
      let h : unsigned_abs (total (values rows)) ≤ 0 + 2 ^ 63 * length (values rows) = total_size (pos 0) 0 (values rows) (omega arith) (all_small rows a) in
      omega (arith, h, few rows)

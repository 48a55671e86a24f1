-- A sum, and how many were added.
use Rattle.std.specs.Prelude.{ℕ, ℤ, ◌+◌, ◌-◌, ◌*◌, ◌^◌, ◌≤◌, ◌+ℤ◌, unsigned_abs, cond, eqb, Option, Some, None}
use Rattle.dq_base.specs.Answers.{number_of}
use Rattle.dq_base.specs.declared.value.Value.{Value}
use Rattle.dq_base.specs.declared.cell.Cell.{Cell}
use Rattle.dq_base.specs.declared.cell.Cell.TheVariants as cell

-- a sum, and how many were added
pub record Sums : Type 0 where
  pub sum : ℤ
  pub count : ℕ

-- the sum is one of so many 64-bit numbers
abbrev pub IsSum : ℤ → ℕ → Type 0
IsSum sum count = unsigned_abs sum ≤ 2 ^ 63 * count

-- with one more value, if there is one
abbrev pub summed : Option Value → Sums → Sums
summed None t = t
summed (Some v) t = record { sum = t.sum +ℤ number_of v; count = t.count + 1 }

-- the sum, or null over nothing
abbrev pub sum_cell : Sums → Cell
sum_cell t = cond (eqb t.count 0) cell.Null (cell.Whole t.sum)

-- the sum over the count, or null over nothing
abbrev pub average_cell : Sums → Cell
average_cell t = cond (eqb t.count 0) cell.Null (cell.Ratio (record { sum = t.sum; others = t.count - 1 }))

-- two sums as one
abbrev pub merged_sums : Sums → Sums → Sums
merged_sums t u = record { sum = t.sum +ℤ u.sum; count = t.count + u.count }

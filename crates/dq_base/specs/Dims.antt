-- The dimensions by which an answer groups.
use Rattle.std.specs.Prelude.{ℕ, suc, ◌+◌, ◌*◌, ◌<◌, ◌≤◌, ℤ, pos, negsuc, Bool, ◌&&◌, nat_eq}
use Rattle.std.specs.Int.{int_div_euclid}
use Rattle.dq_base.specs.declared.value.Value.{Value}
use Rattle.dq_base.specs.declared.value.Value.TheVariants.{Null, Int, Word}

-- a column, and how far the width of its bands is beyond 1
pub record Dimension : Type 0 where
  pub column : ℕ
  pub beyond : ℕ

abbrev pub width_of : Dimension → ℕ
width_of d = suc d.beyond

-- the values themselves
abbrev pub plain : ℕ → Dimension
plain column = record { column = column; beyond = 0 }

abbrev pub is_plain : Dimension → Bool
is_plain d = nat_eq d.beyond 0

abbrev pub dim_eq : Dimension → Dimension → Bool
dim_eq a b = nat_eq a.column b.column && nat_eq a.beyond b.beyond

-- the number of the band of a width into which a number falls, rounded down
abbrev pub band_of : ℕ → ℤ → ℤ
band_of width number = int_div_euclid number (pos width)

-- times the width the band isn't above the number, and the next one is; -1 less n is the number `negsuc n`
abbrev pub IsRoundedDown : ℕ → ℤ → ℤ → Type 0
IsRoundedDown width (pos n) (pos b) = (b * width ≤ n) × (n < (b + 1) * width)
IsRoundedDown width (pos n) (negsuc b) = ⊥
IsRoundedDown width (negsuc n) (pos b) = ⊥
IsRoundedDown width (negsuc n) (negsuc b) = (n + 1 ≤ (b + 1) * width) × (b * width < n + 1)

-- only whole numbers fall into bands
abbrev pub banded : ℕ → Value → Value
banded width Null = Null
banded width (Int n) = Int (band_of width n)
banded width (Word t) = Word t

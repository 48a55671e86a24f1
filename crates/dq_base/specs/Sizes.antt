-- The sizes that the types of numbers keep.
use Rattle.std.specs.Prelude.{ℕ, ℤ, ◌<◌, ◌≤◌, ◌^◌, unsigned_abs}

-- a number that a machine word holds
abbrev pub Fits : ℕ → Type 0
Fits n = n < 2 ^ 64

-- a whole number that two machine words hold
abbrev pub FitsWhole : ℤ → Type 0
FitsWhole z = unsigned_abs z ≤ 2 ^ 127

abbrev pub IsByte : ℕ → Type 0
IsByte b = b < 256

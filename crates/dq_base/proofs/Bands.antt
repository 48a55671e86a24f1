-- The bands of whole numbers.
use Rattle.std.proofs.Common.{ℕ, ◌<◌, ℤ, pos, negsuc, arith}
use Rattle.dq_base.specs.Dims.{IsRoundedDown, band_of}

pub rounded_down : (width : ℕ) (number : ℤ) → 0 < width → IsRoundedDown width number (band_of width number)
rounded_down width (pos n) wide = (omega arith, omega arith)
rounded_down width (negsuc n) wide = (omega arith, omega arith)

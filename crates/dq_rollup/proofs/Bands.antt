-- Bands of bands.
use Rattle.std.proofs.Common.{◌≡◌, ℕ, suc, ◌*◌, ℤ, pos, negsuc, Bool, true, false, nat_eq, if◌then◌else◌, List, refl, sym, ap, ◌∙◌}
use Rattle.std.proofs.lemmas.Bool.{eqb-true}
use Rattle.std.proofs.Math.Nat.{div-div-eq-div-mul, div-one}
use Rattle.dq_base.specs.Answers.{value_in}
use Rattle.dq_base.specs.Dims.{Dimension, band_of, banded, is_plain, width_of}
use Rattle.dq_base.specs.Filters.{value_at}
use Rattle.dq_base.specs.declared.value.Value.{Value}
use Rattle.dq_base.specs.declared.value.Value.TheVariants as value

-- a band of bands is a band of the product's width
pub band_of_band : (w u : ℕ) (n : ℤ) → band_of w (band_of u n) ≡ band_of (u * w) n
band_of_band w u (pos n) = ap pos (div-div-eq-div-mul n u w)
band_of_band w u (negsuc n) = ap negsuc (div-div-eq-div-mul n u w)

pub banded_again : (w u : ℕ) (v : Value) → banded w (banded u v) ≡ banded (u * w) v
banded_again w u value.Null = refl
banded_again w u (value.Int n) = ap value.Int (band_of_band w u n)
banded_again w u (value.Word t) = refl

band_of_one : (n : ℤ) → band_of 1 n ≡ n
band_of_one (pos n) = ap pos (div-one n)
band_of_one (negsuc n) = ap negsuc (div-one n)

banded_one : (v : Value) → banded 1 v ≡ v
banded_one value.Null = refl
banded_one (value.Int n) = ap value.Int (band_of_one n)
banded_one (value.Word t) = refl

by_plain : (beyond : ℕ) (b : Bool) (v : Value) → nat_eq beyond 0 ≡ b → (if b then v else banded (suc beyond) v) ≡ banded (suc beyond) v
by_plain beyond true v e = sym (ap (λ n. banded (suc n) v) (eqb-true beyond 0 e) ∙ banded_one v)
by_plain beyond false v e = refl

-- a plain dimension's values are in bands of width 1
pub value_in_bands : (row : List Value) (d : Dimension) → value_in row d ≡ banded (width_of d) (value_at row d.column)
value_in_bands row d = by_plain d.beyond (is_plain d) (value_at row d.column) refl

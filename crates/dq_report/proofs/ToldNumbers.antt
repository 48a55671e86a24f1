-- A ratio's text tells the ratio.
use Rattle.std.proofs.Common.{◌≡◌, ℕ, ℤ, [], ◌∷◌, ◌++◌, decimal, refl, ap, arith}
use Rattle.std.specs.Fmt.{signed_decimal}
use Rattle.dq_base.specs.Ratios.{Fraction, count_of}
use Rattle.dq_base.specs.Sizes.{Fits, FitsWhole}
use Rattle.dq_base.specs.Spelling.{Bytes}
use Rattle.dq_base.specs.Rests.{Stops}
use Rattle.dq_base.proofs.Told.{Tells, trail, both}
use Rattle.dq_base.proofs.ToldNumbers.{number_told, signed_told}
use Rattle.dq_report.specs.Report.{ratio_text}

ratio_pair : Tells (λ (p : ℤ × ℕ). FitsWhole p.0 × Fits p.1) Stops (λ p. signed_decimal p.0 ++ 47 ∷ [] ++ decimal p.1)
ratio_pair = both (trail (47 ∷ []) signed_told (λ r. refl)) number_told (λ n r p a. tt)

pub ratio_same : (x y : Fraction) (r s : Bytes) → FitsWhole x.sum × Fits (count_of x) → FitsWhole y.sum × Fits (count_of y) → Stops r → Stops s
    → ratio_text x ++ r ≡ ratio_text y ++ s → x ≡ y
ratio_same x y r s p q a b e =
    let one = (ratio_pair.same (x.sum, count_of x) (y.sum, count_of y) r s p q a b e).0 in
    let others : x.others ≡ y.others = omega (arith, ap (λ p. p.1) one) in
    λ i. record { sum = (one i).0; others = others i }

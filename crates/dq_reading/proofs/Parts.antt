-- Readings of parts that begin with a word.
use Rattle.std.proofs.Common.{◌≡◌, ℕ, ◌/◌, ◌%◌, ℤ, pos, negsuc, Bool, true, false, [], ◌∷◌, ◌++◌, Result, Ok, Err, if◌then◌else◌, refl, sym, ap, subst, ◌∙◌, true≢false, arith}
use Rattle.std.specs.Fmt.{signed_decimal}
use Rattle.dq_base.specs.Rests.{first, Anything, Stops}
use Rattle.dq_base.specs.Sizes.{FitsWhole, IsByte}
use Rattle.dq_base.specs.Spelling.{Bytes, is_plain, hex_digit, spelled_byte}
use Rattle.dq_base.proofs.ToldNumbers.{decimal_first}
use Rattle.dq_reading.specs.Reading.{Reads, IsNegative, size_text, IsEscaped, escaped_text}
use Rattle.dq_reading.specs.Sizes.{IsWide}
use Rattle.dq_reading.specs.declared.fault.TextFault.{TextFault}
use Rattle.dq_reading.specs.declared.fault.TextFault.TheVariants as fault
use Rattle.dq_reading.proofs.Readings.{lead_read, lead_none, as_read, as_none}

pub fits_whole : (z : ℤ) → IsWide z → FitsWhole z
fits_whole (pos n) p = omega (arith, p)
fits_whole (negsuc n) p = omega (arith, p)

-- a whole number behind a minus

minus_whole : (z : ℤ) → IsNegative z → IsWide z
minus_whole (pos n) p = absurd p
minus_whole (negsuc n) p = p

minus_text : (z : ℤ) → IsNegative z → signed_decimal z ≡ 45 ∷ [] ++ size_text z
minus_text (pos n) p = absurd p
minus_text (negsuc n) p = refl

minus_only : (y : ℤ) (r mid : Bytes) → IsWide y → 45 ∷ mid ≡ signed_decimal y ++ r → (z : ℤ) × (y ≡ z) × IsNegative z
minus_only (pos n) r mid p e = absurd (omega (arith, decimal_first n r (omega (arith, p)), ap first e))
minus_only (negsuc n) r mid p e = (negsuc n, refl, p)

pub negative_reads : {before mid : Bytes} (after : Bytes) (res : Result ℤ TextFault) → before ≡ 45 ∷ [] ++ mid → Reads IsNegative Stops size_text mid after res → Reads IsWide Stops signed_decimal before after res
negative_reads {mid = mid} after (Ok z) e t = as_read (λ y. y) minus_text minus_whole (λ y r p q h. minus_only y r mid p (sym e ∙ h)) (lead_read (45 ∷ []) e t)
negative_reads {mid = mid} after (Err fault.NotInGrammar) e t = as_none (λ y. y) minus_text (λ y r p q h. minus_only y r mid p (sym e ∙ h)) (lead_none (45 ∷ []) e t)
negative_reads after (Err fault.Memory) e t = tt

-- a byte behind a backslash

escaped_text_by : (p : Bool) (b : ℕ) → p ≡ false → (if p then b ∷ [] else 92 ∷ hex_digit (b / 16) ∷ hex_digit (b % 16) ∷ []) ≡ 92 ∷ [] ++ escaped_text b
escaped_text_by true b e = absurd (true≢false e)
escaped_text_by false b e = refl

escaped_only_by : (p : Bool) (y : ℕ) (r mid : Bytes) → is_plain y ≡ p → 92 ∷ mid ≡ (if p then y ∷ [] else 92 ∷ hex_digit (y / 16) ∷ hex_digit (y % 16) ∷ []) ++ r → is_plain y ≡ false
escaped_only_by true y r mid is e = let same : 92 ≡ y = ap first e in subst (λ b. is_plain b ≡ false) same refl
escaped_only_by false y r mid is e = is

escaped_only : (y : ℕ) (r mid : Bytes) → IsByte y → 92 ∷ mid ≡ spelled_byte y ++ r → (z : ℕ) × (y ≡ z) × IsEscaped z
escaped_only y r mid p e = (y, refl, (p, escaped_only_by (is_plain y) y r mid refl e))

pub escaped_reads : {before mid : Bytes} (after : Bytes) (res : Result ℕ TextFault) → before ≡ 92 ∷ [] ++ mid → Reads IsEscaped Anything escaped_text mid after res → Reads IsByte Anything spelled_byte before after res
escaped_reads {mid = mid} after (Ok b) e t = as_read (λ y. y) (λ z p. escaped_text_by (is_plain z) z p.1) (λ z p. p.0) (λ y r p q h. escaped_only y r mid p (sym e ∙ h)) (lead_read (92 ∷ []) e t)
escaped_reads {mid = mid} after (Err fault.NotInGrammar) e t = as_none (λ y. y) (λ z p. escaped_text_by (is_plain z) z p.1) (λ y r p q h. escaped_only y r mid p (sym e ∙ h)) (lead_none (92 ∷ []) e t)
escaped_reads after (Err fault.Memory) e t = tt

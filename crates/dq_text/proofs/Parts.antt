-- Readings of parts that begin with a word.
use Rattle.std.proofs.Common.{◌≡◌, ℕ, ◌/◌, ◌%◌, ℤ, pos, negsuc, Bool, true, false, List, [], ◌∷◌, ◌++◌, flat_map, codes, Option, Some, None, Result, Ok, Err, if◌then◌else◌, refl, sym, ap, subst, ◌∙◌, append_assoc, true≢false, arith}
use Rattle.std.specs.List.{AllByRecursion}
use Rattle.std.proofs.Common.{FitsSigned, w64}
use Rattle.std.proofs.lemmas.Int.{ints}
use Rattle.std.specs.Fmt.{signed_decimal}
use Rattle.std.proofs.lemmas.List.{append_cancel_left}
use Rattle.dq_base.specs.Rests.{first, Anything, Stops}
use Rattle.dq_base.specs.Sizes.{FitsWhole, IsByte}
use Rattle.dq_base.specs.Spelling.{Bytes, is_plain, hex_digit, spelled_byte}
use Rattle.dq_base.specs.declared.value.Value.{Value}
use Rattle.dq_base.specs.declared.value.Value.TheVariants.{Null, Int, Word}
use Rattle.dq_base.proofs.Told.{second}
use Rattle.dq_base.proofs.ToldNumbers.{decimal_first, signed_first}
use Rattle.dq_text.specs.Reading.{IsRead, IsNone, Reads, IsNegative, size_text, IsEscaped, escaped_text, quoted_text, bracketed_text, AreBounds, bounds_text}
use Rattle.dq_text.specs.Sizes.{IsWhole, IsSizedBound, IsSizedValue, IsSizedTest}
use Rattle.dq_text.specs.Statements.{after_comma, joined, bound_text, value_text, test_text}
use Rattle.dq_text.specs.declared.statement.SaidTest.{SaidTest}
use Rattle.dq_text.specs.declared.statement.SaidTest.TheVariants.{Among, Except, Between}
use Rattle.dq_text.specs.declared.fault.TextFault.{TextFault}
use Rattle.dq_text.specs.declared.fault.TextFault.TheVariants as fault
use Rattle.dq_text.proofs.Readings.{lead_read, lead_none, as_read, as_none, fewer_read, fewer_none}

pub fits_whole : (z : ℤ) → IsWhole z → FitsWhole z
fits_whole (pos n) p = omega (arith, p)
fits_whole (negsuc n) p = omega (arith, p)

-- what fits 64 bits with a sign
pub whole_fits : (z : ℤ) → FitsSigned w64 z → IsWhole z
whole_fits (pos n) fits = omega (arith, ints, fits)
whole_fits (negsuc n) fits = omega (arith, ints, fits)

-- a whole number behind a minus

minus_whole : (z : ℤ) → IsNegative z → IsWhole z
minus_whole (pos n) p = absurd p
minus_whole (negsuc n) p = p

minus_text : (z : ℤ) → IsNegative z → signed_decimal z ≡ 45 ∷ [] ++ size_text z
minus_text (pos n) p = absurd p
minus_text (negsuc n) p = refl

minus_only : (y : ℤ) (r mid : Bytes) → IsWhole y → 45 ∷ mid ≡ signed_decimal y ++ r → (z : ℤ) × (y ≡ z) × IsNegative z
minus_only (pos n) r mid p e = absurd (omega (arith, decimal_first n r (omega (arith, p)), ap first e))
minus_only (negsuc n) r mid p e = (negsuc n, refl, p)

pub negative_reads : {before mid : Bytes} (after : Bytes) (res : Result ℤ TextFault) → before ≡ 45 ∷ [] ++ mid → Reads IsNegative Stops size_text mid after res → Reads IsWhole Stops signed_decimal before after res
negative_reads {mid = mid} after (Ok z) e t = as_read (λ y. y) minus_text minus_whole (λ y r p q h. minus_only y r mid p (sym e ∙ h)) (lead_read (45 ∷ []) e t)
negative_reads {mid = mid} after (Err fault.NotInGrammar) e t = as_none (λ y. y) minus_text (λ y r p q h. minus_only y r mid p (sym e ∙ h)) (lead_none (45 ∷ []) e t)
negative_reads after (Err fault.Memory) e t = tt

-- a byte behind a backslash

escaped_text_by : (p : Bool) (b : ℕ) → p ≡ false → (if p then b ∷ [] else 92 ∷ hex_digit (b / 16) ∷ hex_digit (b % 16) ∷ []) ≡ 92 ∷ [] ++ escaped_text b
escaped_text_by true b e = absurd (true≢false e)
escaped_text_by false b e = refl

escaped_only_by : (p : Bool) (y : ℕ) (r mid : Bytes) → is_plain y ≡ p → 92 ∷ mid ≡ (if p then y ∷ [] else 92 ∷ hex_digit (y / 16) ∷ hex_digit (y % 16) ∷ []) ++ r → is_plain y ≡ false
escaped_only_by true y r mid is e = let same : 92 ≡ y = ap first e in subst (λ b. is_plain b ≡ false) same refl
escaped_only_by false y r mid is e = is

escaped_only : (y : ℕ) (r mid : Bytes) → IsByte y → 92 ∷ mid ≡ spelled_byte y ++ r → (z : ℕ) × (y ≡ z) × IsEscaped z
escaped_only y r mid p e = (y, refl, (p, escaped_only_by (is_plain y) y r mid refl e))

pub escaped_reads : {before mid : Bytes} (after : Bytes) (res : Result ℕ TextFault) → before ≡ 92 ∷ [] ++ mid → Reads IsEscaped Anything escaped_text mid after res → Reads IsByte Anything spelled_byte before after res
escaped_reads {mid = mid} after (Ok b) e t = as_read (λ y. y) (λ z p. escaped_text_by (is_plain z) z p.1) (λ z p. p.0) (λ y r p q h. escaped_only y r mid p (sym e ∙ h)) (lead_read (92 ∷ []) e t)
escaped_reads {mid = mid} after (Err fault.NotInGrammar) e t = as_none (λ y. y) (λ z p. escaped_text_by (is_plain z) z p.1) (λ y r p q h. escaped_only y r mid p (sym e ∙ h)) (lead_none (92 ∷ []) e t)
escaped_reads after (Err fault.Memory) e t = tt

-- a missing bound

pub star_only : (y : Option ℤ) (r after : Bytes) → IsSizedBound y → 42 ∷ after ≡ bound_text y ++ r → (None ≡ y) × (after ≡ r)
star_only None r after p e = (refl, append_cancel_left (42 ∷ []) after r e)
star_only (Some n) r after p e = absurd (omega (arith, signed_first n r (fits_whole n p), ap first e))

pub star_read : {before after : Bytes} → before ≡ 42 ∷ [] ++ after → IsRead IsSizedBound Stops bound_text before after None
star_read {after = after} e = record { sized = tt; is = e; only = λ y r p q h. star_only y r after p (sym e ∙ h) }

-- a null

pub null_only : (y : Value) (r after : Bytes) → IsSizedValue y → codes "null" ++ after ≡ value_text y ++ r → (Null ≡ y) × (after ≡ r)
null_only Null r after p e = (refl, append_cancel_left (codes "null") after r e)
null_only (Int n) r after p e = absurd (omega (arith, signed_first n r (fits_whole n p), ap first e))
null_only (Word t) r after p e = absurd (omega (arith, ap first e))

pub null_read : {before after : Bytes} → before ≡ codes "null" ++ after → IsRead IsSizedValue Stops value_text before after Null
null_read {after = after} e = record { sized = tt; is = e; only = λ y r p q h. null_only y r after p (sym e ∙ h) }

-- a text as a value

word_only : (y : Value) (r mid : Bytes) → IsSizedValue y → 34 ∷ mid ≡ value_text y ++ r → (z : Bytes) × (y ≡ Word z) × AllByRecursion IsByte z
word_only Null r mid p e = absurd (omega (arith, ap first e))
word_only (Int n) r mid p e = absurd (omega (arith, signed_first n r (fits_whole n p), ap first e))
word_only (Word t) r mid p e = (t, refl, p)

pub word_read : {before mid after : Bytes} {text : Bytes} → before ≡ 34 ∷ [] ++ mid → IsRead (AllByRecursion IsByte) Anything quoted_text mid after text → IsRead IsSizedValue Stops value_text before after (Word text)
word_read {mid = mid} e t = as_read Word (λ z p. refl) (λ z p. p) (λ y r p q h. word_only y r mid p (sym e ∙ h)) (fewer_read (λ r c. tt) (lead_read (34 ∷ []) e t))

pub word_none : {before mid : Bytes} → before ≡ 34 ∷ [] ++ mid → IsNone (AllByRecursion IsByte) Anything quoted_text mid → IsNone IsSizedValue Stops value_text before
word_none {mid = mid} e t = as_none Word (λ z p. refl) (λ y r p q h. word_only y r mid p (sym e ∙ h)) (fewer_none (λ r c. tt) (lead_none (34 ∷ []) e t))

-- an empty list

bracket_apart : (y : Value) (r after : Bytes) → IsSizedValue y → 41 ∷ after ≡ value_text y ++ r → ⊥
bracket_apart Null r after p e = omega (arith, ap first e)
bracket_apart (Int n) r after p e = omega (arith, signed_first n r (fits_whole n p), ap first e)
bracket_apart (Word t) r after p e = omega (arith, ap first e)

pub bracket_only : (ys : List Value) (r after : Bytes) → AllByRecursion IsSizedValue ys → 41 ∷ after ≡ bracketed_text ys ++ r → ([] ≡ ys) × (after ≡ r)
bracket_only [] r after p e = (refl, append_cancel_left (41 ∷ []) after r e)
bracket_only (y ∷ ys) r after p e =
    absurd (bracket_apart y (flat_map (after_comma value_text) ys ++ (41 ∷ [] ++ r)) after p.0
    (e ∙ append_assoc (joined value_text (y ∷ ys)) (41 ∷ []) r ∙ append_assoc (value_text y) (flat_map (after_comma value_text) ys) (41 ∷ [] ++ r)))

pub bracket_read : {before after : Bytes} {list : List Value} → list ≡ [] → before ≡ 41 ∷ [] ++ after → IsRead (AllByRecursion IsSizedValue) Anything bracketed_text before after list
bracket_read {before = before} {after = after} empty e =
    subst (IsRead (AllByRecursion IsSizedValue) Anything bracketed_text before after) (sym empty) (record { sized = tt; is = e; only = λ y r p q h. bracket_only y r after p (sym e ∙ h) })

-- bounds as a test

between_only : (y : SaidTest) (r mid : Bytes) → IsSizedTest y → codes " between " ++ mid ≡ test_text y ++ r → (z : Option ℤ × Option ℤ) × (y ≡ Between z.0 z.1) × AreBounds z
between_only (Among list) r mid p e = absurd (omega (arith, ap second e))
between_only (Except list) r mid p e = absurd (omega (arith, ap second e))
between_only (Between low high) r mid p e = ((low, high), refl, p)

pub between_read : {before mid after : Bytes} {low high : Option ℤ} → before ≡ codes " between " ++ mid → IsRead AreBounds Stops bounds_text mid after (low, high) → IsRead IsSizedTest Stops test_text before after (Between low high)
between_read {mid = mid} e t = as_read (λ (z : Option ℤ × Option ℤ). Between z.0 z.1) (λ z p. refl) (λ z p. p) (λ y r p q h. between_only y r mid p (sym e ∙ h)) (lead_read (codes " between ") e t)

pub between_none : {before mid : Bytes} → before ≡ codes " between " ++ mid → IsNone AreBounds Stops bounds_text mid → IsNone IsSizedTest Stops test_text before
between_none {mid = mid} e t = as_none (λ (z : Option ℤ × Option ℤ). Between z.0 z.1) (λ z p. refl) (λ y r p q h. between_only y r mid p (sym e ∙ h)) (lead_none (codes " between ") e t)

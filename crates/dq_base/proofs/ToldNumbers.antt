-- A number's text tells the number.
use Rattle.std.proofs.Common.{◌≡◌, ℕ, suc, ◌<◌, ◌≤◌, ◌^◌, ℤ, pos, negsuc, false, List, [], ◌∷◌, ◌++◌, length, decimal, refl, sym, ap, subst, ◌∙◌, arith}
use Rattle.std.specs.Char.{is_ascii_digit}
use Rattle.std.specs.Fmt.{signed_decimal}
use Rattle.std.specs.Str.Parse.{AllDigits, digits_value}
use Rattle.std.proofs.lemmas.Grind.{common_steps}
use Rattle.std.proofs.lemmas.Fmt.{decimal_is_IsNumeral_wide}
use Rattle.std.proofs.lemmas.Str.Parse.{digit_from_value}
use Rattle.std.proofs.lemmas.List.{append_cancel_left}
use Rattle.dq_base.specs.Spelling.{Bytes}
use Rattle.dq_base.specs.Sizes.{Fits, FitsWhole}
use Rattle.dq_base.specs.Rests.{first, Stops}
use Rattle.dq_base.proofs.Told.{Tells}

-- a digit's byte
abbrev pub IsDigit : ℕ → Type 0
IsDigit b = (48 ≤ b) × (b < 58)

is_digit : (c : ℕ) (cs : List ℕ) → AllDigits 10 (c ∷ cs) → IsDigit c
is_digit c cs d = (omega (arith, digit_from_value c d.0), omega (arith, digit_from_value c d.0))

stopped : (c : ℕ) → IsDigit c → is_ascii_digit c ≡ false → ⊥
stopped c d e = grind (arith, common_steps)

-- what is less than a digit, as a space
pub stops_below : (r : Bytes) → first r < 48 → Stops r
stops_below r low = grind (arith, common_steps)

-- digits end where a rest stops
pub digits_same : (ds es r s : List ℕ) → AllDigits 10 ds → AllDigits 10 es → Stops r → Stops s → ds ++ r ≡ es ++ s → ds ≡ es
digits_same [] [] r s d f a b e = refl
digits_same [] (c ∷ cs) r s d f a b e = absurd (stopped c (is_digit c cs f) (subst Stops e a))
digits_same (c ∷ cs) [] r s d f a b e = absurd (stopped c (is_digit c cs d) (subst Stops (sym e) b))
digits_same (c ∷ cs) (x ∷ xs) r s d f a b e =
    let tails : cs ++ r ≡ xs ++ s = ap tail e in
    let heads : c ≡ x = ap first e in
    let more = digits_same cs xs r s d.1 f.1 a b tails in
    λ i. heads i ∷ more i
  where
    tail : List ℕ → List ℕ
    tail [] = []
    tail (y ∷ ys) = ys

-- numbers far beyond a machine word
abbrev pub IsWide : ℕ → Type 0
IsWide n = n < 10 ^ 64

pub wide_same : (m n : ℕ) (r s : Bytes) → IsWide m → IsWide n → Stops r → Stops s → decimal m ++ r ≡ decimal n ++ s → (m ≡ n) × (r ≡ s)
wide_same m n r s p q a b e =
    let one = decimal_is_IsNumeral_wide m p in
    let two = decimal_is_IsNumeral_wide n q in
    let texts = digits_same (decimal m) (decimal n) r s one.0.1 two.0.1 a b e in
    (sym one.1 ∙ ap (digits_value 10) texts ∙ two.1, append_cancel_left (decimal n) r s (ap (λ z. z ++ r) (sym texts) ∙ e))

pub number_told : Tells Fits Stops decimal
number_told = record { same = λ m n r s p q. wide_same m n r s (omega (arith, p)) (omega (arith, q)) }

first_digit : (ds r : List ℕ) → 0 < length ds → AllDigits 10 ds → IsDigit (first (ds ++ r))
first_digit [] r some d = absurd (omega (arith, some))
first_digit (c ∷ cs) r some d = is_digit c cs d

pub decimal_first : (n : ℕ) (r : Bytes) → IsWide n → IsDigit (first (decimal n ++ r))
decimal_first n r p = let one = decimal_is_IsNumeral_wide n p in first_digit (decimal n) r one.0.0 one.0.1

-- a whole number begins with a sign or a digit
abbrev pub IsSignOrDigit : ℕ → Type 0
IsSignOrDigit b = (45 ≤ b) × (b < 58)

pub signed_first : (z : ℤ) (r : Bytes) → FitsWhole z → IsSignOrDigit (first (signed_decimal z ++ r))
signed_first (pos n) r p = let d = decimal_first n r (omega (arith, p)) in (omega (arith, d), omega (arith, d))
signed_first (negsuc n) r p = (omega arith, omega arith)

no_sign : (n : ℕ) (r s : Bytes) → IsWide n → decimal n ++ r ≡ 45 ∷ s → ⊥
no_sign n r s p e = let d = subst (λ t. IsDigit (first t)) e (decimal_first n r p) in omega (arith, d)

signed_same : (y z : ℤ) (r s : Bytes) → FitsWhole y → FitsWhole z → Stops r → Stops s → signed_decimal y ++ r ≡ signed_decimal z ++ s → (y ≡ z) × (r ≡ s)
signed_same (pos m) (pos n) r s p q a b e =
    let one = wide_same m n r s (omega (arith, p)) (omega (arith, q)) a b e in
    (ap pos one.0, one.1)
signed_same (pos m) (negsuc n) r s p q a b e = absurd (no_sign m r _ (omega (arith, p)) e)
signed_same (negsuc m) (pos n) r s p q a b e = absurd (no_sign n s _ (omega (arith, q)) (sym e))
signed_same (negsuc m) (negsuc n) r s p q a b e =
    let one = wide_same (suc m) (suc n) r s (omega (arith, p)) (omega (arith, q)) a b (append_cancel_left (45 ∷ []) (decimal (suc m) ++ r) (decimal (suc n) ++ s) e) in
    (ap negsuc (omega (arith, one.0)), one.1)

pub signed_told : Tells FitsWhole Stops signed_decimal
signed_told = record { same = signed_same }

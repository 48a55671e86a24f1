-- The number that digits write.
use Rattle.std.proofs.Common.{◌≡◌, ℕ, ◌<◌, ◌≤◌, ◌^◌, zero, suc, List, [], ◌∷◌, ◌++◌, length, get_or, decimal, Some, None, Result, Ok, Err, refl, sym, ap, subst, ◌∙◌, arith}
use Rattle.std.specs.Result.{OkIff, result_ok}
use Rattle.std.specs.Prelude.{IsUtf8}
use Rattle.std.specs.Str.Parse.{AllDigits, digits_value, ParsesUnsigned}
use Rattle.std.proofs.lemmas.Fmt.{decimal_digit, decimal_is_IsNumeral_wide, IsAscii-from_digits}
use Rattle.std.proofs.lemmas.Str.{IsUtf8-from_ascii}
use Rattle.std.proofs.lemmas.Str.Parse.{IsNumeralModel, numerals_by_value, tells_digits, parse_digits}
use Rattle.dq_base.specs.Rests.{Stops}
use Rattle.dq_base.proofs.ToldNumbers.{digits_same, wide_same}
use Rattle.dq_reading.specs.Reading.{AtMost, FitsWide, IsRead, IsNone, TakesDigits, Writes}
use Rattle.dq_reading.proofs.Decimals.{decimal_of_value, decimal_some, decimal_leads}

own : IsNumeralModel (AllDigits 10) (digits_value 10)
own = numerals_by_value (AllDigits 10) tells_digits

writes_by : {E : Type 0} (bs : List ℕ) (r : Result ℕ E) → OkIff r ((0 < length bs) × (digits_value 10 bs < 2 ^ 128)) (digits_value 10 bs)
    → AllDigits 10 bs → (get_or bs 0 0 ≡ 48 → length bs ≡ 1) → Writes bs (result_ok r)
writes_by bs (Ok n) h all plain =
    (omega (arith, h.1, h.0.1), ap decimal h.1 ∙ decimal_of_value bs all h.0.0 plain (omega (arith, h.0.1)))
writes_by bs (Err e) h all plain = λ n fits is.
    let value : digits_value 10 bs ≡ n = ap (digits_value 10) (sym is) ∙ (decimal_is_IsNumeral_wide n (omega (arith, fits))).1 in
    h (subst (λ t. 0 < length t) is (decimal_some n (omega (arith, fits))), omega (arith, value, fits))

-- what std's `parse` reads
pub writes_is : {E : Type 0} (bs : List ℕ) (r : Result ℕ E) → ParsesUnsigned 128 10 bs r → AllDigits 10 bs → (get_or bs 0 0 ≡ 48 → length bs ≡ 1) → Writes bs (result_ok r)
writes_is bs r h all plain = writes_by bs r (parse_digits own 128 bs r h all) all plain

pub no_digits : (n : ℕ) → FitsWide n → (bs : List ℕ) → length bs ≡ 0 → decimal n ≡ bs → ⊥
no_digits n fits bs none is = omega (arith, none, subst (λ t. 0 < length t) is (decimal_some n (omega (arith, fits))))

-- a zero alone
pub one_zero : (bs : List ℕ) → get_or bs 0 0 ≡ 48 → length bs ≡ 1 → decimal 0 ≡ bs
one_zero [] zeroed one = absurd (omega (arith, one))
one_zero (b ∷ []) zeroed one = decimal_digit 0 (omega arith) ∙ ap (λ x. x ∷ []) (sym zeroed)
one_zero (b ∷ c ∷ bs) zeroed one = absurd (omega (arith, one))

-- a zero before further digits
pub needless_zero : (bs : List ℕ) → get_or bs 0 0 ≡ 48 → (length bs ≡ 1 → ⊥) → (n : ℕ) → FitsWide n → decimal n ≡ bs → ⊥
needless_zero bs zeroed more zero fits is = more (ap length (sym is ∙ decimal_digit 0 (omega arith)))
needless_zero bs zeroed more (suc n) fits is = omega (arith, zeroed, subst (λ t. 48 < get_or t 0 0) is (decimal_leads (suc n) (omega arith) (omega (arith, fits))))

-- digits are text
pub no_text : (bs : List ℕ) → AllDigits 10 bs → (IsUtf8 bs → ⊥) → ⊥
no_text bs all broken = broken (IsUtf8-from_ascii bs (IsAscii-from_digits bs all))

-- the digits at the front write the one number that stands there
pub number_read : (limit : ℕ) (before after digits : List ℕ) (n : ℕ) → TakesDigits before after digits → Writes digits (Some n) → n ≤ limit → limit < 2 ^ 128 → IsRead (AtMost limit) Stops decimal before after n
number_read limit before after digits n t w small fits = record {
  sized = small;
  is = t.is ∙ ap (λ d. d ++ after) (sym w.1);
  only = λ y r p q e. wide_same n y after r (omega (arith, small, fits)) (omega (arith, p, fits)) t.stops q (ap (λ d. d ++ after) w.1 ∙ sym t.is ∙ e);
}

-- the text of another number would have these digits
its_digits : (limit : ℕ) (before after digits : List ℕ) → TakesDigits before after digits → limit < 2 ^ 128 → (y : ℕ) (r : List ℕ) → y ≤ limit → Stops r → before ≡ decimal y ++ r → decimal y ≡ digits
its_digits limit before after digits t fits y r p q e =
    sym (digits_same digits (decimal y) after r t.all (decimal_is_IsNumeral_wide y (omega (arith, p, fits))).0.1 t.stops q (sym t.is ∙ e))

pub number_none : (limit : ℕ) (before after digits : List ℕ) → TakesDigits before after digits → Writes digits None → limit < 2 ^ 128 → IsNone (AtMost limit) Stops decimal before
number_none limit before after digits t w fits = record {
  none = λ y r p q e. w y (omega (arith, p, fits)) (its_digits limit before after digits t fits y r p q e);
}

pub number_above : (limit : ℕ) (before after digits : List ℕ) (n : ℕ) → TakesDigits before after digits → Writes digits (Some n) → limit < n → limit < 2 ^ 128 → IsNone (AtMost limit) Stops decimal before
number_above limit before after digits n t w above fits = record {
  none = λ y r p q e.
      let same = wide_same y n [] [] (omega (arith, p, fits)) (omega (arith, w.0)) refl refl (ap (λ d. d ++ []) (its_digits limit before after digits t fits y r p q e ∙ sym w.1)) in
      omega (arith, same.0, p, above);
}

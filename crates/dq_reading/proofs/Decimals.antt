-- What digits are decimals of, beyond a machine word.
use Rattle.std.proofs.Common.{◌≡◌, ℕ, ◌+◌, ◌*◌, ◌/◌, ◌%◌, ◌<◌, ◌≤◌, ◌^◌, List, [], ◌∷◌, ◌++◌, length, get_or, decimal, refl, sym, ap, ◌∙◌, append_assoc, arith}
use Rattle.std.specs.Char.{digit_value}
use Rattle.std.specs.Str.Parse.{AllDigits, digits_value, digits_value_after}
use Rattle.std.proofs.lemmas.Fmt.{decimal_digit, decimal_step_wide, decimal_by_steps_wide, decimal_is_IsNumeral_wide}
use Rattle.std.proofs.lemmas.List.{append-nil}
use Rattle.std.proofs.lemmas.Str.{digit_value_digit}
use Rattle.std.proofs.lemmas.Str.Parse.{digit_from_value}

below_after : (n : ℕ) (ds : List ℕ) → n ≤ digits_value_after 10 n ds
below_after n [] = omega arith
below_after n (c ∷ cs) = omega (arith, below_after (n * 10 + digit_value c) cs)

after_digits : (n : ℕ) (ds : List ℕ) → 0 < n → AllDigits 10 ds → digits_value_after 10 n ds < 10 ^ 64 → decimal (digits_value_after 10 n ds) ≡ decimal n ++ ds
after_digits n [] some d small = sym (append-nil (decimal n))
after_digits n (c ∷ cs) some d small =
    let m : ℕ = n * 10 + digit_value c in
    let k = digit_value_digit c (digit_from_value c d.0) in
    let front : m / 10 ≡ n = omega (arith, d.0) in
    let end : 48 + m % 10 ≡ c = omega (arith, d.0) in
    after_digits m cs (omega arith) d.1 small
    ∙ ap (λ x. x ++ cs) (decimal_step_wide m (omega arith) (omega (arith, below_after m cs)) ∙ (λ i. decimal (front i) ++ (end i ∷ [])))
    ∙ append_assoc (decimal n) (c ∷ []) cs

-- digits with no leading zero, or just `0`, are the decimal of their value
pub decimal_of_value : (ds : List ℕ) → AllDigits 10 ds → 0 < length ds → (get_or ds 0 0 ≡ 48 → length ds ≡ 1) → digits_value 10 ds < 10 ^ 64 → decimal (digits_value 10 ds) ≡ ds
decimal_of_value [] d some lead small = absurd (omega arith)
decimal_of_value (c ∷ []) d some lead small =
    let k = digit_value_digit c (digit_from_value c d.0) in
    decimal_digit (0 * 10 + digit_value c) (omega (arith, d.0)) ∙ ap (λ x. x ∷ []) (omega arith)
decimal_of_value (c ∷ e ∷ cs) d some lead small =
    let k = digit_value_digit c (digit_from_value c d.0) in
    let no : c ≡ 48 → ⊥ = λ z. omega (arith, lead z) in
    let is : 48 + (0 * 10 + digit_value c) ≡ c = omega arith in
    after_digits (0 * 10 + digit_value c) (e ∷ cs) (omega arith) d.1 small
    ∙ ap (λ x. x ++ (e ∷ cs)) (decimal_digit (0 * 10 + digit_value c) (omega (arith, d.0)) ∙ ap (λ x. x ∷ []) is)

pub decimal_some : (n : ℕ) → n < 10 ^ 64 → 0 < length (decimal n)
decimal_some n small = (decimal_is_IsNumeral_wide n small).0.0

-- what begins no number but 0
abbrev LeadsAbove : ℕ → List ℕ → Type 0
LeadsAbove n ds = 0 < n → 48 < get_or ds 0 0

leads_on : (n : ℕ) (ds : List ℕ) → 10 ≤ n → LeadsAbove (n / 10) ds → LeadsAbove n (ds ++ ((48 + n % 10) ∷ []))
leads_on n [] large h some = absurd (omega (arith, h (omega (arith, large))))
leads_on n (c ∷ cs) large h some = h (omega (arith, large))

pub decimal_leads : (n : ℕ) → 0 < n → n < 10 ^ 64 → 48 < get_or (decimal n) 0 0
decimal_leads n some small = decimal_by_steps_wide LeadsAbove (λ m low pos. omega (arith, pos)) leads_on n small some

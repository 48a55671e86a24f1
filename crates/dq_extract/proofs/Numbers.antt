-- Whole numbers, as std's `parse` reads them.
use Rattle.std.proofs.Common.{zero, suc, lit<, ◌≡◌, ◌≢◌, ◌<◌, ℕ, ◌^◌, ℤ, List, [], ◌∷◌, length, drop, get_or, Bool, true, false, ◌&&◌, nat_lt, Some, None, refl, ap, sym, ◌∙◌, arith, rules, inl, inr, w64}
use Rattle.std.proofs.lemmas.Bool.{cases_Bool, false≢true}
use Rattle.std.proofs.lemmas.Grind.{common_steps}
use Rattle.std.proofs.lemmas.Str.Parse.{IsNumeralModel, numerals_by_fold, tells_all_ascii_digits, parse_signed_minus, parse_signed_plain}
use Rattle.std.proofs.lemmas.Str.{IsUtf8-from_ascii, is_utf8-from_IsUtf8, IsUtf8-from_is_utf8}
use Rattle.std.specs.Prelude.{Result, Ok, Err, IsUtf8, if◌then◌else◌, nat_le, ◌==◌}
use Rattle.std.specs.Result.{OkIff, result_ok}
use Rattle.std.specs.Str.{all_ascii_digits, is_utf8, IsAscii}
use Rattle.std.specs.Str.Parse.{ParsesSigned}
use Rattle.dq_extract.specs.Wholes.{read_on, are_digits, plain_of, negative_of, whole_of}

own : IsNumeralModel (λ ds. all_ascii_digits ds ≡ true) (read_on 0)
own = numerals_by_fold _ (search rules) read_on (search rules)

by_test : {E : Type 0} (r : Result ℤ E) (Q : Type 0) (x : ℤ) (b : Bool) → OkIff r Q x → (Q → b ≡ true) → (b ≡ true → Q)
    → result_ok r ≡ (if b then Some x else None)
by_test (Ok n) Q x true h to from = ap Some h.1
by_test (Ok n) Q x false h to from = absurd (false≢true (to h.0))
by_test (Err e) Q x true h to from = absurd (h (from refl))
by_test (Err e) Q x false h to from = refl

pub plain_is : {E : Type 0} (ds : List ℕ) (r : Result ℤ E) → ParsesSigned w64 10 ds r → get_or ds 0 0 ≢ 43 → get_or ds 0 0 ≢ 45 → result_ok r ≡ plain_of ds
plain_is ds r h plus minus =
    by_test r _ _ (are_digits ds && nat_lt (read_on 0 ds) (2 ^ 63)) (parse_signed_plain own w64 ds r h plus minus)
    (λ q. grind (arith, common_steps, q.0, q.1, q.2)) (λ e. (grind (arith, common_steps), grind (arith, common_steps), grind (arith, common_steps)))

pub negative_is : {E : Type 0} (bs : List ℕ) (r : Result ℤ E) → ParsesSigned w64 10 bs r → get_or bs 0 0 ≡ 45 → result_ok r ≡ negative_of (drop 1 bs)
negative_is bs r h minus =
    by_test r _ _ (are_digits (drop 1 bs) && nat_le (read_on 0 (drop 1 bs)) (2 ^ 63)) (parse_signed_minus own w64 bs r h minus)
    (λ q. grind (arith, common_steps, q.0, q.1, q.2)) (λ e. (grind (arith, common_steps), grind (arith, common_steps), grind (arith, common_steps)))

-- a text that begins with no plus sign
pub whole_is : {E : Type 0} (bs : List ℕ) (r : Result ℤ E) → ParsesSigned w64 10 bs r → 0 < length bs → get_or bs 0 0 ≢ 43 → result_ok r ≡ whole_of bs
whole_is [] r h some plus = absurd (omega arith)
whole_is (b ∷ bs) r h some plus = elim (cases_Bool (b == 45)) [
  | inl dash ↦ negative_is (b ∷ bs) r h (grind (arith, common_steps)) ∙ rw dash refl
  | inr other ↦ plain_is (b ∷ bs) r h plus (grind (arith, common_steps)) ∙ rw other refl
]

pub text_is : (bs : List ℕ) → IsUtf8 bs → true ≡ is_utf8 bs
text_is bs utf8 = sym (is_utf8-from_IsUtf8 bs utf8)

pub no_text : (bs : List ℕ) → ¬ (IsUtf8 bs) → false ≡ is_utf8 bs
no_text bs other = elim (cases_Bool (is_utf8 bs)) [
  | inl valid ↦ absurd (other (IsUtf8-from_is_utf8 bs valid))
  | inr broken ↦ sym broken
]

-- digits are text
digits_ascii : (ds : List ℕ) → all_ascii_digits ds ≡ true → IsAscii ds
digits_ascii [] e i = lit< tt
digits_ascii (c ∷ cs) e zero = let p = tells_all_ascii_digits.parts c cs e in omega (arith, p.0)
digits_ascii (c ∷ cs) e (suc i) = let p = tells_all_ascii_digits.parts c cs e in digits_ascii cs p.1 i

ascii_more : (c : ℕ) (cs : List ℕ) → c < 128 → IsAscii cs → IsAscii (c ∷ cs)
ascii_more c cs lt h zero = lt
ascii_more c cs lt h (suc i) = h i

plain_none : (ds : List ℕ) → all_ascii_digits ds ≡ false → plain_of ds ≡ None
plain_none ds e = rw e refl

negative_none : (ds : List ℕ) → all_ascii_digits ds ≡ false → negative_of ds ≡ None
negative_none ds e = rw e refl

pub no_number : (bs : List ℕ) → ¬ (IsUtf8 bs) → whole_of bs ≡ None
no_number [] other = refl
no_number (b ∷ bs) other = elim (cases_Bool (b == 45)) [
  | inl dash ↦ elim (cases_Bool (all_ascii_digits bs)) [
    | inl digits ↦ absurd (other (IsUtf8-from_ascii (b ∷ bs) (ascii_more b bs (grind (arith, common_steps)) (digits_ascii bs digits))))
    | inr none ↦ rw dash (negative_none bs none)
  ]
  | inr plain ↦ elim (cases_Bool (all_ascii_digits (b ∷ bs))) [
    | inl digits ↦ absurd (other (IsUtf8-from_ascii (b ∷ bs) (digits_ascii (b ∷ bs) digits)))
    | inr none ↦ rw plain (plain_none (b ∷ bs) none)
  ]
]

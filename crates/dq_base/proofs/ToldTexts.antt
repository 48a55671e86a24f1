-- A spelled text tells the text.
use Rattle.std.proofs.Common.{◌≡◌, ℕ, ◌+◌, ◌-◌, ◌*◌, ◌/◌, ◌%◌, ◌<◌, Bool, true, false, not, ◌&&◌, [], ◌∷◌, ◌++◌, nat_lt, nat_le, nat_eq, if◌then◌else◌, refl, sym, ap, ◌∙◌, true≢false, arith, get_or, ltb-true, lt-ltb}
use Rattle.std.specs.List.{AllByRecursion}
use Rattle.std.proofs.lemmas.List.{append_cancel_left}
use Rattle.dq_base.specs.Spelling.{Bytes, is_plain, hex_digit, spelled_byte, spelled}
use Rattle.dq_base.specs.Sizes.{IsByte}
use Rattle.dq_base.specs.Rests.{first, Anything}
use Rattle.dq_base.proofs.Told.{Tells, Goes, lead, trail, until}

-- the number of a hexadecimal digit
abbrev pub unhex : ℕ → ℕ
unhex c = if nat_lt c 58 then c - 48 else c - 87

-- the byte that a text begins with
abbrev byte_in : Bytes → ℕ
byte_in bs = if nat_eq (first bs) 92 then unhex (get_or bs 1 0) * 16 + unhex (get_or bs 2 0) else first bs

unhex_hex_by : (low small : Bool) (n : ℕ) → n < 16 → nat_lt n 10 ≡ low → nat_lt (if low then 48 + n else 87 + n) 58 ≡ small
    → (if small then (if low then 48 + n else 87 + n) - 48 else (if low then 48 + n else 87 + n) - 87) ≡ n
unhex_hex_by true true n p e f = omega arith
unhex_hex_by true false n p e f = absurd (true≢false (sym (lt-ltb (48 + n) 58 (omega (arith, ltb-true n 10 e))) ∙ f))
unhex_hex_by false true n p e f = absurd (true≢false (sym (lt-ltb n 10 (omega (arith, ltb-true (87 + n) 58 f))) ∙ e))
unhex_hex_by false false n p e f = omega arith

pub unhex_hex : (n : ℕ) → n < 16 → unhex (hex_digit n) ≡ n
unhex_hex n p = unhex_hex_by (nat_lt n 10) (nat_lt (hex_digit n) 58) n p refl refl

-- a byte that is plain is no double quote and no backslash
plain_parts : (a b c d : Bool) → (a && not b && not c && not d) ≡ true → (b ≡ false) × (c ≡ false)
plain_parts false b c d e = absurd (true≢false (sym e))
plain_parts true true c d e = absurd (true≢false (sym e))
plain_parts true false true d e = absurd (true≢false (sym e))
plain_parts true false false d e = (refl, refl)

pub plain : (b : ℕ) → is_plain b ≡ true → (nat_eq b 34 ≡ false) × (nat_eq b 92 ≡ false)
plain b e = plain_parts (nat_le 32 b) (nat_eq b 34) (nat_eq b 92) (nat_eq b 127) e

byte_back_by : (p : Bool) (b : ℕ) (r : Bytes) → is_plain b ≡ p → b < 256 → byte_in ((if p then b ∷ [] else 92 ∷ hex_digit (b / 16) ∷ hex_digit (b % 16) ∷ []) ++ r) ≡ b
byte_back_by true b r e small = ap (λ t. if t then unhex (get_or (b ∷ r) 1 0) * 16 + unhex (get_or (b ∷ r) 2 0) else b) (plain b e).1
byte_back_by false b r e small = omega (arith, unhex_hex (b / 16) (omega arith), unhex_hex (b % 16) (omega arith))

byte_back : (b : ℕ) (r : Bytes) → b < 256 → byte_in (spelled_byte b ++ r) ≡ b
byte_back b r small = byte_back_by (is_plain b) b r refl small

byte_same : (b c : ℕ) (r s : Bytes) → b < 256 → c < 256 → spelled_byte b ++ r ≡ spelled_byte c ++ s → (b ≡ c) × (r ≡ s)
byte_same b c r s p q e =
    let one : b ≡ c = sym (byte_back b r p) ∙ ap byte_in e ∙ byte_back c s q in
    (one, append_cancel_left (spelled_byte c) r s (ap (λ x. spelled_byte x ++ r) (sym one) ∙ e))

pub byte_told : Tells IsByte Anything spelled_byte
byte_told = record { same = λ b c r s p q x y e. byte_same b c r s p q e }

-- a double quote stands here
abbrev pub Quotes : Bytes → Type 0
Quotes r = nat_eq (first r) 34 ≡ true

no_quote_by : (p : Bool) (b : ℕ) (r : Bytes) → is_plain b ≡ p → Quotes ((if p then b ∷ [] else 92 ∷ hex_digit (b / 16) ∷ hex_digit (b % 16) ∷ []) ++ r) → ⊥
no_quote_by true b r e f = true≢false (sym f ∙ (plain b e).0)
no_quote_by false b r e f = true≢false (sym f)

pub quote_goes : Goes IsByte Anything Quotes spelled_byte
quote_goes = record { opens = λ b r p. tt; closes = λ r c. tt; apart = λ b r p c. no_quote_by (is_plain b) b r refl c }

pub spelled_told : Tells (AllByRecursion IsByte) Anything spelled
spelled_told = trail (34 ∷ []) (lead (34 ∷ []) (until byte_told quote_goes)) (λ r. refl)

-- What reading a part of a text answers.
use Rattle.std.specs.Prelude.{◌≡◌, ℕ, suc, ℤ, pos, negsuc, ◌/◌, ◌%◌, ◌<◌, ◌≤◌, ◌^◌, Bool, true, false, List, [], ◌∷◌, ◌++◌, Option, Some, None, Result, Ok, Err}
use Rattle.std.specs.List.{flat_map}
use Rattle.std.specs.Fmt.{decimal}
use Rattle.std.specs.Str.Parse.{AllDigits}
use Rattle.dq_base.specs.Rests.{Stops}
use Rattle.dq_base.specs.Sizes.{IsByte}
use Rattle.dq_base.specs.Spelling.{Bytes, is_plain, hex_digit, spelled_byte}
use Rattle.dq_reading.specs.declared.fault.TextFault.{TextFault}
use Rattle.dq_reading.specs.declared.fault.TextFault.TheVariants as fault

-- What was read stood at the front, and nothing else did. `P` is what the types of such parts keep, `E` what may stand behind
-- one, and `f` its text.
pub record IsRead {X : Type 0} (P : X → Type 0) (E : Bytes → Type 0) (f : X → Bytes) (before after : Bytes) (x : X) : Type 0 where
  pub sized : P x
  pub is : before ≡ f x ++ after
  pub only : (y : X) (r : Bytes) → P y → E r → before ≡ f y ++ r → (x ≡ y) × (after ≡ r)

-- no such part stands at the front
pub record IsNone {X : Type 0} (P : X → Type 0) (E : Bytes → Type 0) (f : X → Bytes) (before : Bytes) : Type 0 where
  pub none : (y : X) (r : Bytes) → P y → E r → before ≡ f y ++ r → ⊥

abbrev pub Fails : {X : Type 0} → (X → Type 0) → (Bytes → Type 0) → (X → Bytes) → Bytes → TextFault → Type 0
Fails P E f before fault.NotInGrammar = IsNone P E f before
Fails P E f before fault.Memory = Unit {0}

-- what reading a part leaves and answers
abbrev pub Reads : {X : Type 0} → (X → Type 0) → (Bytes → Type 0) → (X → Bytes) → Bytes → Bytes → Result X TextFault → Type 0
Reads P E f before after (Ok x) = IsRead P E f before after x
Reads P E f before after (Err e) = Fails P E f before e

-- whether a word was taken off the front
abbrev pub Skips : Bytes → Bytes → Bytes → Bool → Type 0
Skips word before after true = before ≡ word ++ after
Skips word before after false = (after ≡ before) × ((r : Bytes) → before ≡ word ++ r → ⊥)

-- the byte that was taken off the front, or none where nothing is left
abbrev pub TakesByte : Bytes → Bytes → Option ℕ → Type 0
TakesByte before after None = before ≡ []
TakesByte before after (Some b) = before ≡ b ∷ after

-- the digits that were taken off the front
pub record TakesDigits (before after digits : Bytes) : Type 0 where
  pub all : AllDigits 10 digits
  pub is : before ≡ digits ++ after
  pub stops : Stops after

-- a number of 128 bits
abbrev pub FitsWide : ℕ → Type 0
FitsWide n = n < 2 ^ 128

-- the number that digits write, or none where they write none
abbrev pub Writes : Bytes → Option ℕ → Type 0
Writes digits None = (n : ℕ) → FitsWide n → decimal n ≡ digits → ⊥
Writes digits (Some n) = FitsWide n × (decimal n ≡ digits)

abbrev pub AtMost : ℕ → ℕ → Type 0
AtMost limit n = n ≤ limit

-- the texts of parts of a part

-- a digit of a spelled byte
abbrev pub IsHex : ℕ → Type 0
IsHex n = n < 16

abbrev pub hex_text : ℕ → Bytes
hex_text n = hex_digit n ∷ []

-- a byte that stands for itself
abbrev pub IsPlain : ℕ → Type 0
IsPlain b = IsByte b × (is_plain b ≡ true)

abbrev pub plain_text : ℕ → Bytes
plain_text b = b ∷ []

-- a byte that doesn't stand for itself, behind its backslash
abbrev pub IsEscaped : ℕ → Type 0
IsEscaped b = IsByte b × (is_plain b ≡ false)

abbrev pub escaped_text : ℕ → Bytes
escaped_text b = hex_text (b / 16) ++ hex_text (b % 16)

-- a text behind its first quote
abbrev pub quoted_text : Bytes → Bytes
quoted_text text = flat_map spelled_byte text ++ 34 ∷ []

-- a negative number behind its minus
abbrev pub IsNegative : ℤ → Type 0
IsNegative (pos n) = ⊥
IsNegative (negsuc n) = n < 2 ^ 127

abbrev pub size_text : ℤ → Bytes
size_text (pos n) = []
size_text (negsuc n) = decimal (suc n)

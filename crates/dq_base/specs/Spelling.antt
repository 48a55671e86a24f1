-- How texts are spelled: any bytes as bytes that can be shown.
use Rattle.std.specs.Prelude.{ℕ, ◌+◌, ◌/◌, ◌%◌, Bool, ◌&&◌, not, nat_le, nat_lt, nat_eq, List, [], ◌∷◌, ◌++◌, if◌then◌else◌}
use Rattle.std.specs.List.{flat_map}

abbrev pub Bytes : Type 0
Bytes = List ℕ

-- a byte that stands for itself: it can be shown, and is no double quote and no backslash
abbrev pub is_plain : ℕ → Bool
is_plain b = nat_le 32 b && not (nat_eq b 34) && not (nat_eq b 92) && not (nat_eq b 127)

-- a hexadecimal digit
abbrev pub hex_digit : ℕ → ℕ
hex_digit n = if nat_lt n 10 then 48 + n else 87 + n

-- a byte, or its number behind a backslash
abbrev pub spelled_byte : ℕ → Bytes
spelled_byte b = if is_plain b then b ∷ [] else 92 ∷ hex_digit (b / 16) ∷ hex_digit (b % 16) ∷ []

-- a text between double quotes
abbrev pub spelled : Bytes → Bytes
spelled text = 34 ∷ [] ++ flat_map spelled_byte text ++ 34 ∷ []

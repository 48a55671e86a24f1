-- What may stand behind a part of a text.
use Rattle.std.specs.Prelude.{◌≡◌, ℕ, false, [], ◌∷◌}
use Rattle.std.specs.Char.{is_ascii_digit}
use Rattle.dq_base.specs.Spelling.{Bytes}

-- the byte that it begins with, and 0 where it is empty
abbrev pub first : Bytes → ℕ
first [] = 0
first (b ∷ bs) = b

-- any text
abbrev pub Anything : Bytes → Type 0
Anything r = Unit {0}

-- no digit goes on here
abbrev pub Stops : Bytes → Type 0
Stops r = is_ascii_digit (first r) ≡ false

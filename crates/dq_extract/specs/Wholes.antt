-- What a field of a whole column spells.
use Rattle.std.specs.Prelude.{ℕ, ◌+◌, ◌-◌, ◌*◌, ◌^◌, ◌==◌, ◌&&◌, ℤ, pos, neg_ℤ, List, [], ◌∷◌, length, Bool, nat_lt, nat_le, Option, Some, None, if◌then◌else◌}
use Rattle.std.specs.Str.{all_ascii_digits}

-- the number that these digits go on with
abbrev pub read_on : ℕ → List ℕ → ℕ
read_on n [] = n
read_on n (c ∷ cs) = read_on (n * 10 + (c - 48)) cs

-- at least one digit
abbrev pub are_digits : List ℕ → Bool
are_digits ds = all_ascii_digits ds && nat_lt 0 (length ds)

-- the number that these digits spell, below 2 ^ 63
abbrev pub plain_of : List ℕ → Option ℤ
plain_of ds = if are_digits ds && nat_lt (read_on 0 ds) (2 ^ 63) then Some (pos (read_on 0 ds)) else None

-- the number that these digits spell behind a dash
abbrev pub negative_of : List ℕ → Option ℤ
negative_of ds = if are_digits ds && nat_le (read_on 0 ds) (2 ^ 63) then Some (neg_ℤ (pos (read_on 0 ds))) else None

-- a whole number within 64 bits: a dash or none, and digits
abbrev pub whole_of : List ℕ → Option ℤ
whole_of [] = None
whole_of (b ∷ bs) = if b == 45 then negative_of bs else plain_of (b ∷ bs)

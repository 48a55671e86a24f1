-- What ends a line or a cell.
use Rattle.std.proofs.Common.{◌≡◌, true, nat_le, nat_eq, refl, eqb-true, leb-true, arith}
use Rattle.dq_base.specs.Spelling.{Bytes}
use Rattle.dq_base.specs.Rests.{first, Stops}
use Rattle.dq_base.proofs.ToldNumbers.{stops_below}

-- no cell goes on here
abbrev pub Ends : Bytes → Type 0
Ends r = nat_le (first r) 32 ≡ true

-- a line ends here
abbrev pub EndsLine : Bytes → Type 0
EndsLine r = nat_eq (first r) 10 ≡ true

-- what ends a line or a cell is no digit
pub stops_at_line : (r : Bytes) → EndsLine r → Stops r
stops_at_line r e = let n : first r ≡ 10 = eqb-true (first r) 10 e in rw n refl

pub stops_at_end : (r : Bytes) → Ends r → Stops r
stops_at_end r e = stops_below r (omega (arith, leb-true (first r) 32 e))

pub ends_at_line : (r : Bytes) → EndsLine r → Ends r
ends_at_line r e = let n : first r ≡ 10 = eqb-true (first r) 10 e in rw n refl

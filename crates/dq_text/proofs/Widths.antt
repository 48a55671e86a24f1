-- What may stand behind dimensions.
use Rattle.std.proofs.Common.{◌≡◌, ℕ, Bool, true, false, [], ◌∷◌, ◌++◌, nat_le, nat_eq, if◌then◌else◌, decimal, refl, sym, subst}
use Rattle.dq_base.specs.Rests.{first, Stops}
use Rattle.dq_base.specs.Spelling.{Bytes}
use Rattle.dq_text.specs.Reading.{After, EndsDim}
use Rattle.dq_text.specs.Statements.{width_text}
use Rattle.dq_text.proofs.Behind.{after_space, after_stops, no_comma}
use Rattle.dq_text.proofs.Loops.{Commas}

-- where a clause goes on, or nothing, no slash does
no_slash_after : (place : ℕ) (r : Bytes) → After place r → nat_eq (first r) 47 ≡ false
no_slash_after place [] q = refl
no_slash_after place (b ∷ bs) q = subst (λ x. nat_eq x 47 ≡ false) (sym (after_space place b bs q)) refl

after_ends : (place : ℕ) (r : Bytes) → After place r → EndsDim r
after_ends place r q = (after_stops place r q, no_slash_after place r q)

pub dim_commas : Commas EndsDim (After 2)
dim_commas = record { closes = after_ends 2; comma = λ m. (refl, refl); apart = no_comma 2 }

opens_by : (one : Bool) (w : ℕ) (r : Bytes) → EndsDim r → Stops ((if one then [] else 47 ∷ [] ++ decimal w) ++ r)
opens_by true w r ends = ends.0
opens_by false w r ends = refl

-- a width, or none, may stand behind a column
pub width_opens : (w : ℕ) (r : Bytes) → EndsDim r → Stops (width_text w ++ r)
width_opens w r ends = opens_by (nat_le w 1) w r ends

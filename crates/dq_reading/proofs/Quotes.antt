-- Readings of bytes up to a quote.
use Rattle.std.proofs.Common.{◌≡◌, ℕ, true, false, List, [], ◌∷◌, ◌++◌, flat_map, refl, sym, ap, subst, ◌∙◌, true≢false}
use Rattle.std.specs.List.{AllByRecursion}
use Rattle.std.proofs.lemmas.Bool.{eqb-true}
use Rattle.dq_base.specs.Rests.{Anything}
use Rattle.dq_base.specs.Sizes.{IsByte}
use Rattle.dq_base.specs.Spelling.{Bytes, spelled_byte}
use Rattle.dq_base.proofs.ToldTexts.{Quotes, quote_goes}
use Rattle.dq_reading.specs.Reading.{IsRead, IsNone, Skips, quoted_text}
use Rattle.dq_reading.proofs.Loops.{SoFar, flat_grows, goes_further, breaks_off, stops_there}
use Rattle.dq_reading.proofs.Readings.{trail_read, trail_none}

abbrev Quoted : Bytes → Bytes → Bytes → Type 0
Quoted = SoFar (AllByRecursion IsByte) IsByte Quotes (flat_map spelled_byte) spelled_byte

no_quote : (left : Bytes) → ((r : Bytes) → left ≡ 34 ∷ [] ++ r → ⊥) → (s : Bytes) → Quotes s → left ≡ s → ⊥
no_quote left miss [] q h = true≢false (sym q)
no_quote left miss (b ∷ bs) q h = miss bs (h ∙ ap (λ x. x ∷ bs) (eqb-true b 34 q))

pub byte_next : {before left mid after : Bytes} {x : ℕ} {done list : Bytes} → Quoted before left done → Skips (34 ∷ []) left mid false → IsRead IsByte Anything spelled_byte mid after x → list ≡ done ++ x ∷ []
    → Quoted before after list
byte_next {before = before} {left = left} {after = after} {x = x} s miss t pushed =
    subst (Quoted before after) (sym pushed)
    (goes_further (flat_grows IsByte spelled_byte) s (subst (λ m. IsRead IsByte Anything spelled_byte m after x) miss.0 t) (λ zs r all q. tt) (no_quote left miss.1))

pub byte_breaks : {before left mid : Bytes} {done : Bytes} → Quoted before left done → Skips (34 ∷ []) left mid false → IsNone IsByte Anything spelled_byte mid → IsNone (AllByRecursion IsByte) Anything quoted_text before
byte_breaks {left = left} s miss t =
    trail_none (34 ∷ []) (breaks_off s (subst (IsNone IsByte Anything spelled_byte) miss.0 t) (λ zs r all q. tt) (no_quote left miss.1)) (λ r. refl)

pub byte_last : {before left after : Bytes} {done : Bytes} → Quoted before left done → left ≡ 34 ∷ [] ++ after → IsRead (AllByRecursion IsByte) Anything quoted_text before after done
byte_last s e = trail_read (34 ∷ []) (stops_there s (λ z r p h. quote_goes.apart z r p (subst Quotes (sym e ∙ h) refl))) e (λ r. refl)

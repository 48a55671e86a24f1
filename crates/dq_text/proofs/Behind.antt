-- Readings of clauses, and what may stand behind them.
use Rattle.std.proofs.Common.{◌≡◌, ℕ, ◌≤◌, true, false, List, [], ◌∷◌, ◌++◌, nat_lt, nat_eq, flat_map, Result, Ok, Err, if◌then◌else◌, codes, refl, sym, ap, subst, ◌∙◌, true≢false, ltb-true, lt-ltb, arith}
use Rattle.std.specs.List.{AllByRecursion}
use Rattle.std.specs.Char.{is_ascii_digit}
use Rattle.std.proofs.lemmas.Bool.{eqb-true, cases_Bool}
use Rattle.std.proofs.Common.{inl, inr}
use Rattle.dq_base.specs.Rests.{first, Anything, Stops}
use Rattle.dq_base.specs.Sizes.{IsByte}
use Rattle.dq_base.specs.Spelling.{Bytes, spelled_byte}
use Rattle.dq_base.proofs.ToldTexts.{Quotes, quote_goes}
use Rattle.dq_text.specs.Reading.{After, AllSome, Closes, IsRead, IsNone, Reads, Skips, clause_at, place_of_letter, quoted_text, predicate_text}
use Rattle.dq_text.specs.Sizes.{IsSizedPredicate}
use Rattle.dq_text.specs.Statements.{clause, joined, where_text}
use Rattle.dq_text.specs.declared.statement.SaidPredicate.{SaidPredicate}
use Rattle.dq_text.specs.declared.fault.TextFault.{TextFault}
use Rattle.dq_text.specs.declared.fault.TextFault.TheVariants as fault
use Rattle.dq_text.proofs.Loops.{SoFar, Commas, flat_grows, goes_further, breaks_off, stops_there}
use Rattle.dq_text.proofs.Readings.{lead_read, lead_none, as_read, as_none, trail_read, trail_none}

-- where a clause goes on, or nothing, no digit does

pub after_space : (place b : ℕ) (bs : Bytes) → After place (b ∷ bs) → b ≡ 32
after_space place b bs q = elim (cases_Bool (nat_eq b 32)) [
  | inl same ↦ eqb-true b 32 same
  | inr other ↦ absurd (let f : nat_lt place 0 ≡ true = subst (λ t. nat_lt place (if t then place_of_letter (first bs) else 0) ≡ true) other q in omega (arith, ltb-true place 0 f))
]

pub after_stops : (place : ℕ) (r : Bytes) → After place r → Stops r
after_stops place [] q = refl
after_stops place (b ∷ bs) q = subst (λ x. is_ascii_digit x ≡ false) (sym (after_space place b bs q)) refl

pub no_comma : (place : ℕ) (m : Bytes) → After place (44 ∷ m) → ⊥
no_comma place m q = omega (arith, ltb-true place 0 q)

pub later : (place earlier : ℕ) (r : Bytes) → earlier ≤ place → After place r → After earlier r
later place earlier r le q = lt-ltb earlier (clause_at r) (omega (arith, le, ltb-true place (clause_at r) q))

pub clause_commas : (place : ℕ) → Commas Stops (After place)
clause_commas place = record { closes = after_stops place; comma = λ m. refl; apart = no_comma place }

pub key_commas : (place : ℕ) → Commas Anything (After place)
key_commas place = record { closes = λ r q. tt; comma = λ m. tt; apart = no_comma place }

closes_stops : (r : Bytes) → Closes r → Stops r
closes_stops r q = let n : first r ≡ 41 = eqb-true (first r) 41 q in rw n refl

pub value_commas : Commas Stops Closes
value_commas = record { closes = closes_stops; comma = λ m. refl; apart = λ m q. true≢false (sym q) }

-- a clause behind its word

some_all : {X : Type 0} (P : X → Type 0) (ys : List X) → AllSome P ys → AllByRecursion P ys
some_all P [] p = tt
some_all P (y ∷ ys) p = p

some_clause : {X : Type 0} (P : X → Type 0) (word : Bytes) (f : X → Bytes) (ys : List X) → AllSome P ys → clause word f ys ≡ word ++ joined f ys
some_clause P word f [] p = absurd p
some_clause P word f (y ∷ ys) p = refl

clause_only : {X : Type 0} (P : X → Type 0) (C : Bytes → Type 0) (word : Bytes) (f : X → Bytes) (mid : Bytes) → ((m : Bytes) → C (word ++ m) → ⊥)
    → (ys : List X) (r : Bytes) → AllByRecursion P ys → C r → word ++ mid ≡ clause word f ys ++ r → (zs : List X) × (ys ≡ zs) × AllSome P zs
clause_only P C word f mid apart [] r p q e = absurd (apart mid (subst C (sym e) q))
clause_only P C word f mid apart (y ∷ ys) r p q e = (y ∷ ys, refl, p)

pub clause_reads : {X : Type 0} (P : X → Type 0) (C : Bytes → Type 0) (f : X → Bytes) (before mid after : Bytes) (word : Bytes) (res : Result (List X) TextFault) → before ≡ word ++ mid
    → ((m : Bytes) → C (word ++ m) → ⊥) → Reads (AllSome P) C (joined f) mid after res → Reads (AllByRecursion P) C (clause word f) before after res
clause_reads P C f before mid after word (Ok ys) e apart t =
    as_read (λ zs. zs) (some_clause P word f) (some_all P) (λ zs r p q h. clause_only P C word f mid apart zs r p q (sym e ∙ h)) (lead_read word e t)
clause_reads P C f before mid after word (Err fault.NotInGrammar) e apart t =
    as_none (λ zs. zs) (some_clause P word f) (λ zs r p q h. clause_only P C word f mid apart zs r p q (sym e ∙ h)) (lead_none word e t)
clause_reads P C f before mid after word (Err fault.Memory) e apart t = tt

-- a word that a later clause doesn't begin with
pub later_apart : (place : ℕ) (word : Bytes) → ((m : Bytes) → nat_lt place (clause_at (word ++ m)) ≡ false) → (m : Bytes) → After place (word ++ m) → ⊥
later_apart place word is m q = true≢false (sym q ∙ is m)

-- filters one behind the other

abbrev Filters : Bytes → Bytes → List SaidPredicate → Type 0
Filters = SoFar (AllByRecursion IsSizedPredicate) IsSizedPredicate (After 1) (flat_map where_text) where_text

filters_open : (zs : List SaidPredicate) (r : Bytes) → AllByRecursion IsSizedPredicate zs → After 1 r → Stops (flat_map where_text zs ++ r)
filters_open [] r all q = after_stops 1 r q
filters_open (z ∷ zs) r all q = refl

filters_on : (left mid : Bytes) → left ≡ codes " where " ++ mid → (s : Bytes) → After 1 s → left ≡ s → ⊥
filters_on left mid e s q h = true≢false (sym (subst (After 1) (sym h ∙ e) q))

pub filter_next : {before left mid after : Bytes} {x : SaidPredicate} {done list : List SaidPredicate} → Filters before left done → left ≡ codes " where " ++ mid → IsRead IsSizedPredicate Stops predicate_text mid after x
    → list ≡ done ++ x ∷ [] → Filters before after list
filter_next {before = before} {left = left} {mid = mid} {after = after} s e t pushed =
    subst (Filters before after) (sym pushed) (goes_further (flat_grows IsSizedPredicate where_text) s (lead_read (codes " where ") e t) filters_open (filters_on left mid e))

pub filter_breaks : {before left mid : Bytes} {done : List SaidPredicate} → Filters before left done → left ≡ codes " where " ++ mid → IsNone IsSizedPredicate Stops predicate_text mid
    → IsNone (AllByRecursion IsSizedPredicate) (After 1) (flat_map where_text) before
filter_breaks {left = left} {mid = mid} s e t = breaks_off s (lead_none (codes " where ") e t) filters_open (filters_on left mid e)

pub filter_last : {before left after : Bytes} {done : List SaidPredicate} → Filters before left done → Skips (codes " where ") left after false
    → IsRead (AllByRecursion IsSizedPredicate) (After 1) (flat_map where_text) before after done
filter_last {before = before} {done = done} s miss =
    subst (λ a. IsRead (AllByRecursion IsSizedPredicate) (After 1) (flat_map where_text) before a done) (sym miss.0) (stops_there s (λ z r p h. miss.1 (predicate_text z ++ r) h))

-- bytes up to a quote

abbrev Quoted : Bytes → Bytes → Bytes → Type 0
Quoted = SoFar (AllByRecursion IsByte) IsByte Quotes (flat_map spelled_byte) spelled_byte

no_quote : (left : Bytes) → ((r : Bytes) → left ≡ 34 ∷ [] ++ r → ⊥) → (s : Bytes) → Quotes s → left ≡ s → ⊥
no_quote left miss [] q h = true≢false (sym q)
no_quote left miss (b ∷ bs) q h = miss bs (h ∙ ap (λ x. x ∷ bs) (eqb-true b 34 q))

pub byte_next : {before left mid after : Bytes} {x : ℕ} {done list : Bytes} → Quoted before left done → Skips (34 ∷ []) left mid false → IsRead IsByte Anything spelled_byte mid after x → list ≡ done ++ x ∷ []
    → Quoted before after list
byte_next {before = before} {left = left} {after = after} {x = x} s miss t pushed =
    subst (Quoted before after) (sym pushed)
    (goes_further (flat_grows IsByte spelled_byte) s (subst (λ m. IsRead IsByte Anything spelled_byte m after x) miss.0 t) (λ zs r all q. tt) (no_quote left miss.1))

pub byte_breaks : {before left mid : Bytes} {done : Bytes} → Quoted before left done → Skips (34 ∷ []) left mid false → IsNone IsByte Anything spelled_byte mid → IsNone (AllByRecursion IsByte) Anything quoted_text before
byte_breaks {left = left} s miss t =
    trail_none (34 ∷ []) (breaks_off s (subst (IsNone IsByte Anything spelled_byte) miss.0 t) (λ zs r all q. tt) (no_quote left miss.1)) (λ r. refl)

pub byte_last : {before left after : Bytes} {done : Bytes} → Quoted before left done → left ≡ 34 ∷ [] ++ after → IsRead (AllByRecursion IsByte) Anything quoted_text before after done
byte_last s e = trail_read (34 ∷ []) (stops_there s (λ z r p h. quote_goes.apart z r p (subst Quotes (sym e ∙ h) refl))) e (λ r. refl)

-- Readings of what remote queries met.
use Rattle.std.proofs.Common.{◌≡◌, false, List, [], ◌∷◌, ◌++◌, flat_map, codes, decimal, refl, sym, subst, ◌∙◌, true≢false}
use Rattle.std.specs.List.{AllByRecursion}
use Rattle.dq_base.specs.Rests.{Stops}
use Rattle.dq_base.specs.Spelling.{Bytes}
use Rattle.dq_journal.specs.declared.entry.Met.{Met}
use Rattle.dq_journal.specs.declared.entry.Met.TheVariants.{Hit, Literal, Join, Group}
use Rattle.dq_reading.specs.Reading.{IsRead, IsNone, Skips}
use Rattle.dq_reading.proofs.Loops.{SoFar, flat_begins, flat_grows, goes_further, breaks_off, stops_there}
use Rattle.dq_report.specs.Report.{met_text}
use Rattle.dq_report.specs.Told.{FitsMet}
use Rattle.dq_parse.specs.Reading.{EndsLine}
use Rattle.dq_parse.proofs.Events.{stops_at_line}

abbrev pub Meetings : Bytes → Bytes → List Met → Type 0
Meetings = SoFar (AllByRecursion FitsMet) FitsMet EndsLine (flat_map met_text) met_text

meets_open : (zs : List Met) (r : Bytes) → AllByRecursion FitsMet zs → EndsLine r → Stops (flat_map met_text zs ++ r)
meets_open [] r all q = stops_at_line r q
meets_open (Hit n ∷ zs) r all q = refl
meets_open (Literal n ∷ zs) r all q = refl
meets_open (Join n ∷ zs) r all q = refl
meets_open (Group n ∷ zs) r all q = refl

no_space : (left mid : Bytes) → left ≡ 32 ∷ [] ++ mid → (s : Bytes) → EndsLine s → left ≡ s → ⊥
no_space left mid e s q h = true≢false (sym (subst EndsLine (sym h ∙ e) q))

pub meet_next : {before left mid after : Bytes} {x : Met} {done list : List Met} → Meetings before left done → left ≡ 32 ∷ [] ++ mid → IsRead FitsMet Stops met_text (32 ∷ [] ++ mid) after x → list ≡ done ++ x ∷ []
    → Meetings before after list
meet_next {before = before} {left = left} {mid = mid} {after = after} {x = x} s e t pushed =
    subst (Meetings before after) (sym pushed) (goes_further (flat_grows FitsMet met_text) s (subst (λ l. IsRead FitsMet Stops met_text l after x) (sym e) t) meets_open (no_space left mid e))

pub meet_breaks : {before left mid : Bytes} {done : List Met} → Meetings before left done → left ≡ 32 ∷ [] ++ mid → IsNone FitsMet Stops met_text (32 ∷ [] ++ mid) → IsNone (AllByRecursion FitsMet) EndsLine (flat_map met_text) before
meet_breaks {left = left} {mid = mid} s e t = breaks_off s (subst (IsNone FitsMet Stops met_text) (sym e) t) meets_open (no_space left mid e)

spaced : (left : Bytes) → ((r : Bytes) → left ≡ 32 ∷ [] ++ r → ⊥) → (z : Met) (s : Bytes) → FitsMet z → left ≡ met_text z ++ s → ⊥
spaced left miss (Hit n) s p h = miss (codes "hit " ++ decimal n ++ s) h
spaced left miss (Literal n) s p h = miss (codes "literal " ++ decimal n ++ s) h
spaced left miss (Join n) s p h = miss (codes "join " ++ decimal n ++ s) h
spaced left miss (Group n) s p h = miss (codes "group " ++ decimal n ++ s) h

pub meet_last : {before left after : Bytes} {done : List Met} → Meetings before left done → Skips (32 ∷ []) left after false → IsRead (AllByRecursion FitsMet) EndsLine (flat_map met_text) before after done
meet_last {before = before} {left = left} {done = done} s miss =
    subst (λ a. IsRead (AllByRecursion FitsMet) EndsLine (flat_map met_text) before a done) (sym miss.0) (stops_there s (spaced left miss.1))

pub meet_first : {before : Bytes} {list : List Met} → list ≡ [] → Meetings before before list
meet_first {before = before} empty = subst (Meetings before before) (sym empty) (flat_begins FitsMet EndsLine met_text before)

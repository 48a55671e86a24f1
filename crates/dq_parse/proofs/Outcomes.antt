-- Readings of what became of zones.
use Rattle.std.proofs.Common.{◌≡◌, List, [], ◌∷◌, ◌++◌, codes, Result, refl, sym, ap, subst, ◌∙◌, arith}
use Rattle.std.specs.Arc.{arc_value}
use Rattle.std.specs.List.{AllByRecursion}
use Rattle.std.proofs.lemmas.List.{append_cancel_left}
use Rattle.dq_base.specs.Rests.{Anything, Stops}
use Rattle.dq_base.specs.Spelling.{Bytes}
use Rattle.dq_base.specs.declared.cell.Cell.{Cell}
use Rattle.dq_base.specs.declared.invalid.Invalid.{Invalid}
use Rattle.dq_base.proofs.Told.{second}
use Rattle.dq_journal.specs.declared.result.ZoneResult.{ZoneResult}
use Rattle.dq_journal.specs.declared.result.ZoneResult.TheVariants as zone
use Rattle.dq_reading.specs.Reading.{IsRead, IsNone}
use Rattle.dq_reading.specs.declared.fault.TextFault.{TextFault}
use Rattle.dq_reading.proofs.Readings.{lead_read, lead_none}
use Rattle.dq_report.specs.Report.{invalid_word, outcome_text, table_text, zone_text, zones_text}
use Rattle.dq_parse.specs.Reading.{Any, IsAnswer, IsTaken, Takes, reason_text}
use Rattle.dq_parse.specs.Sizes.{IsSizedRow, IsSizedZone}
use Rattle.dq_parse.proofs.Counted.{Lists}
use Rattle.dq_parse.proofs.Takings.{read_taken, as_taken, as_missing, same_takes}

-- a refusal behind its word

refusal_back : (mid : Bytes) (y : ZoneResult) (r : Bytes) → IsSizedZone y → Anything r → codes " invalid " ++ mid ≡ outcome_text y ++ r → (z : Invalid) × (outcome_text y ≡ codes " invalid " ++ reason_text z) × Any z
refusal_back mid (zone.Rows t) r p q e = absurd (omega (arith, ap second e))
refusal_back mid (zone.Invalid w) r p q e = (w, refl, tt)
refusal_back mid zone.BackEnd r p q e = absurd (omega (arith, ap second e))
refusal_back mid zone.Memory r p q e = absurd (omega (arith, ap second e))

pub refusal_taken : {mid after : Bytes} {w : Invalid} → IsRead Any Anything reason_text mid after w → IsTaken IsSizedZone Anything outcome_text (codes " invalid " ++ mid) after (zone.Invalid w)
refusal_taken {mid = mid} {w = w} t = as_taken (zone.Invalid w) tt refl (refusal_back mid) (read_taken (lead_read (codes " invalid ") refl t))

pub refusal_none : {mid : Bytes} → IsNone Any Anything reason_text mid → IsNone IsSizedZone Anything outcome_text (codes " invalid " ++ mid)
refusal_none {mid = mid} t = as_missing (refusal_back mid) (lead_none (codes " invalid ") refl t)

-- an answer

answer_back : (before : Bytes) (y : ZoneResult) (r : Bytes) → IsAnswer y → Anything r → before ≡ outcome_text y ++ r → (z : List (List Cell)) × (outcome_text y ≡ table_text z) × AllByRecursion IsSizedRow z
answer_back before (zone.Rows t) r p q e = (arc_value t, refl, p)
answer_back before (zone.Invalid w) r p q e = absurd p
answer_back before zone.BackEnd r p q e = absurd p
answer_back before zone.Memory r p q e = absurd p

pub answer_taken : {before after : Bytes} {table : List (List Cell)} (z : ZoneResult) → IsTaken (AllByRecursion IsSizedRow) Anything table_text before after table → IsAnswer z → outcome_text z ≡ table_text table
    → IsTaken IsAnswer Anything outcome_text before after z
answer_taken {before = before} z t sized same = as_taken z sized same (answer_back before) t

pub answer_none : {before : Bytes} → IsNone (AllByRecursion IsSizedRow) Anything table_text before → IsNone IsAnswer Anything outcome_text before
answer_none {before = before} t = as_missing (answer_back before) t

-- outcomes without an answer

back_end_rest : (after : Bytes) (y : ZoneResult) (r : Bytes) → codes " backend\n" ++ after ≡ outcome_text y ++ r → after ≡ r
back_end_rest after (zone.Rows t) r e = absurd (omega (arith, ap second e))
back_end_rest after (zone.Invalid w) r e = absurd (omega (arith, ap second e))
back_end_rest after zone.BackEnd r e = append_cancel_left (codes " backend\n") after r e
back_end_rest after zone.Memory r e = absurd (omega (arith, ap second e))

pub back_end_taken : {before after : Bytes} → before ≡ codes " backend\n" ++ after → IsTaken IsSizedZone Anything outcome_text before after zone.BackEnd
back_end_taken {after = after} e = record { sized = tt; is = e; rest = λ y r p q h. back_end_rest after y r (sym e ∙ h) }

memory_rest : (after : Bytes) (y : ZoneResult) (r : Bytes) → codes " memory\n" ++ after ≡ outcome_text y ++ r → after ≡ r
memory_rest after (zone.Rows t) r e = absurd (omega (arith, ap second e))
memory_rest after (zone.Invalid w) r e = absurd (omega (arith, ap second e))
memory_rest after zone.BackEnd r e = absurd (omega (arith, ap second e))
memory_rest after zone.Memory r e = append_cancel_left (codes " memory\n") after r e

pub memory_taken : {before after : Bytes} → before ≡ codes " memory\n" ++ after → IsTaken IsSizedZone Anything outcome_text before after zone.Memory
memory_taken {after = after} e = record { sized = tt; is = e; rest = λ y r p q h. memory_rest after y r (sym e ∙ h) }

-- an outcome behind its word
pub zone_worded : {before : Bytes} (mid after word : Bytes) (res : Result ZoneResult TextFault) → before ≡ word ++ mid → Takes IsSizedZone Anything outcome_text (word ++ mid) after res → Takes IsSizedZone Anything outcome_text before after res
zone_worded mid after word res e t = subst (λ b. Takes IsSizedZone Anything outcome_text b after res) (sym e) t

-- no outcome but an answer stands there
pub record NoneElse (before : Bytes) : Type 0 where
  pub back_end : (r : Bytes) → before ≡ codes " backend\n" ++ r → ⊥
  pub memory : (r : Bytes) → before ≡ codes " memory\n" ++ r → ⊥
  pub invalid : (r : Bytes) → before ≡ codes " invalid " ++ r → ⊥

its_answer : (before : Bytes) → NoneElse before → (y : ZoneResult) (r : Bytes) → IsSizedZone y → before ≡ outcome_text y ++ r → IsAnswer y
its_answer before miss (zone.Rows t) r p e = p
its_answer before miss (zone.Invalid w) r p e = miss.invalid ((invalid_word w ++ 10 ∷ []) ++ r) e
its_answer before miss zone.BackEnd r p e = miss.back_end r e
its_answer before miss zone.Memory r p e = miss.memory r e

answer_sized : (y : ZoneResult) → IsAnswer y → IsSizedZone y
answer_sized (zone.Rows t) p = p
answer_sized (zone.Invalid w) p = tt
answer_sized zone.BackEnd p = tt
answer_sized zone.Memory p = tt

pub else_answer : {before left : Bytes} (after : Bytes) (res : Result ZoneResult TextFault) → left ≡ before → NoneElse before → Takes IsAnswer Anything outcome_text left after res → Takes IsSizedZone Anything outcome_text before after res
else_answer {before = before} after res same miss t =
    same_takes IsAnswer IsSizedZone Anything outcome_text outcome_text before after res (λ x p. refl) answer_sized (its_answer before miss)
    (subst (λ b. Takes IsAnswer Anything outcome_text b after res) same t)

-- zones

pub outcome_opens : (y : ZoneResult) (r : Bytes) → Stops (outcome_text y ++ r)
outcome_opens (zone.Rows t) r = refl
outcome_opens (zone.Invalid w) r = refl
outcome_opens zone.BackEnd r = refl
outcome_opens zone.Memory r = refl

pub zones_list : Lists IsSizedZone zones_text zone_text
zones_list = record { none = λ k. refl; more = λ k x xs. refl; some = λ k x p. omega arith }

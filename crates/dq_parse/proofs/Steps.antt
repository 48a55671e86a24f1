-- Readings of what became of steps.
use Rattle.std.proofs.Common.{◌≡◌, ℕ, List, [], ◌∷◌, ◌++◌, length, get_or, decimal, codes, Result, refl, sym, ap, subst, ◌∙◌, append_assoc, arith}
use Rattle.std.specs.List.{AllByRecursion}
use Rattle.std.proofs.lemmas.List.{append_cancel_left}
use Rattle.dq_base.specs.Rests.{Anything, Stops}
use Rattle.dq_base.specs.Sizes.{Fits}
use Rattle.dq_base.specs.Spelling.{Bytes}
use Rattle.dq_base.proofs.Told.{second}
use Rattle.dq_journal.specs.declared.result.ZoneResult.{ZoneResult}
use Rattle.dq_journal.specs.declared.result.StepResult.{StepResult}
use Rattle.dq_journal.specs.declared.result.StepResult.TheVariants as step
use Rattle.dq_reading.specs.Reading.{IsRead, IsNone}
use Rattle.dq_reading.specs.declared.fault.TextFault.{TextFault}
use Rattle.dq_reading.proofs.Readings.{lead_read, lead_none}
use Rattle.dq_report.specs.Report.{batch_text, counted_line, lane_text, lanes_text, result_text, step_text, steps_text}
use Rattle.dq_parse.specs.Reading.{Any, IsTaken, Takes, marked, steps_counted}
use Rattle.dq_parse.specs.Sizes.{IsSizedLane, IsSizedResult, IsSizedZone}
use Rattle.dq_parse.proofs.Counted.{Lists}
use Rattle.dq_parse.proofs.Takings.{read_taken, as_taken, as_missing, lead_taken, same_takes, marked_takes, marked_none, both_taken, first_missing, second_missing}

-- a step that was refused for memory, behind its words

-- the byte behind them
abbrev past_refused : Bytes → ℕ
past_refused bs = get_or bs 15 0

unpublished_rest : (after : Bytes) (y : StepResult) (r : Bytes) → codes " refused memory" ++ (10 ∷ after) ≡ result_text y ++ r → after ≡ r
unpublished_rest after (step.Published n) r e = absurd (omega (arith, ap second e))
unpublished_rest after step.Unpublished r e = append_cancel_left (codes " refused memory\n") after r e
unpublished_rest after (step.Admitted n zs) r e = absurd (omega (arith, ap second e))
unpublished_rest after (step.Unadmitted zs) r e = absurd (omega (arith, ap past_refused e))

pub unpublished_taken : {mid after : Bytes} → mid ≡ 10 ∷ [] ++ after → IsTaken IsSizedResult Anything result_text (codes " refused memory" ++ mid) after step.Unpublished
unpublished_taken {after = after} e = record {
  sized = tt;
  is = ap (λ m. codes " refused memory" ++ m) e;
  rest = λ y r p q h. unpublished_rest after y r (ap (λ m. codes " refused memory" ++ m) (sym e) ∙ h);
}

unadmitted_back : (mid : Bytes) → ((r : Bytes) → mid ≡ 10 ∷ [] ++ r → ⊥) → (y : StepResult) (r : Bytes) → IsSizedResult y → Anything r → codes " refused memory" ++ mid ≡ result_text y ++ r
    → (z : List ZoneResult) × (result_text y ≡ codes " refused memory" ++ batch_text z) × AllByRecursion IsSizedZone z
unadmitted_back mid miss (step.Published n) r p q e = absurd (omega (arith, ap second e))
unadmitted_back mid miss step.Unpublished r p q e = absurd (miss r (append_cancel_left (codes " refused memory") mid (10 ∷ r) e))
unadmitted_back mid miss (step.Admitted n zs) r p q e = absurd (omega (arith, ap second e))
unadmitted_back mid miss (step.Unadmitted zs) r p q e = (zs, refl, p)

pub unadmitted_taken : {mid left after : Bytes} {zs : List ZoneResult} → left ≡ mid → ((r : Bytes) → mid ≡ 10 ∷ [] ++ r → ⊥) → IsTaken (AllByRecursion IsSizedZone) Anything batch_text left after zs
    → IsTaken IsSizedResult Anything result_text (codes " refused memory" ++ mid) after (step.Unadmitted zs)
unadmitted_taken {mid = mid} {zs = zs} same miss t = as_taken (step.Unadmitted zs) t.sized refl (unadmitted_back mid miss) (lead_taken (codes " refused memory") (ap (λ m. codes " refused memory" ++ m) (sym same)) t)

pub unadmitted_none : {mid left : Bytes} → left ≡ mid → ((r : Bytes) → mid ≡ 10 ∷ [] ++ r → ⊥) → IsNone (AllByRecursion IsSizedZone) Anything batch_text left
    → IsNone IsSizedResult Anything result_text (codes " refused memory" ++ mid)
unadmitted_none {mid = mid} same miss t = as_missing (unadmitted_back mid miss) (lead_none (codes " refused memory") (ap (λ m. codes " refused memory" ++ m) (sym same)) t)

-- a batch that was admitted, behind its word

abbrev admitted_at : ℕ → Bytes
admitted_at n = codes " admitted " ++ decimal n

admitted_back : (mid : Bytes) (y : StepResult) (r : Bytes) → IsSizedResult y → Anything r → codes " admitted " ++ mid ≡ result_text y ++ r
    → (n : ℕ) × (zs : List ZoneResult) × (result_text y ≡ admitted_at n ++ batch_text zs) × Fits n × AllByRecursion IsSizedZone zs
admitted_back mid (step.Published n) r p q e = absurd (omega (arith, ap second e))
admitted_back mid step.Unpublished r p q e = absurd (omega (arith, ap second e))
admitted_back mid (step.Admitted n zs) r p q e = (n, zs, refl, p.0, p.1)
admitted_back mid (step.Unadmitted zs) r p q e = absurd (omega (arith, ap second e))

batch_opens : (zs : List ZoneResult) (r : Bytes) → AllByRecursion IsSizedZone zs → Anything r → Stops (batch_text zs ++ r)
batch_opens zs r p q = refl

pub admitted_taken : {mid on after : Bytes} {n : ℕ} {zs : List ZoneResult} → IsRead Fits Stops decimal mid on n → IsTaken (AllByRecursion IsSizedZone) Anything batch_text on after zs
    → IsTaken IsSizedResult Anything result_text (codes " admitted " ++ mid) after (step.Admitted n zs)
admitted_taken {mid = mid} {n = n} {zs = zs} t u = both_taken (step.Admitted n zs) (t.sized, u.sized) refl (admitted_back mid) batch_opens (read_taken (lead_read (codes " admitted ") refl t)) u

pub admitted_first : {mid : Bytes} → IsNone Fits Stops decimal mid → IsNone IsSizedResult Anything result_text (codes " admitted " ++ mid)
admitted_first {mid = mid} t = first_missing batch_text (admitted_back mid) batch_opens (lead_none (codes " admitted ") refl t)

pub admitted_second : {mid on : Bytes} {n : ℕ} → IsRead Fits Stops decimal mid on n → IsNone (AllByRecursion IsSizedZone) Anything batch_text on → IsNone IsSizedResult Anything result_text (codes " admitted " ++ mid)
admitted_second {mid = mid} t u = second_missing (admitted_back mid) batch_opens (read_taken (lead_read (codes " admitted ") refl t)) u

-- a publication

pub record NoneElse (before : Bytes) : Type 0 where
  pub refused : (r : Bytes) → before ≡ codes " refused memory" ++ r → ⊥
  pub admitted : (r : Bytes) → before ≡ codes " admitted " ++ r → ⊥

published_back : (before : Bytes) → NoneElse before → (y : StepResult) (r : Bytes) → IsSizedResult y → Anything r → before ≡ result_text y ++ r → (n : ℕ) × (result_text y ≡ counted_line (codes " published ") n) × Fits n
published_back before miss (step.Published n) r p q e = (n, refl, p)
published_back before miss step.Unpublished r p q e = absurd (miss.refused (10 ∷ r) e)
published_back before miss (step.Admitted n zs) r p q e = absurd (miss.admitted ((decimal n ++ batch_text zs) ++ r) e)
published_back before miss (step.Unadmitted zs) r p q e = absurd (miss.refused (batch_text zs ++ r) e)

pub published_taken : {before left after : Bytes} {n : ℕ} → left ≡ before → NoneElse before → IsRead Fits Anything (counted_line (codes " published ")) left after n → IsTaken IsSizedResult Anything result_text before after (step.Published n)
published_taken {before = before} {after = after} {n = n} same miss t =
    as_taken (step.Published n) t.sized refl (published_back before miss) (read_taken (subst (λ b. IsRead Fits Anything (counted_line (codes " published ")) b after n) same t))

pub published_none : {before left : Bytes} → left ≡ before → NoneElse before → IsNone Fits Anything (counted_line (codes " published ")) left → IsNone IsSizedResult Anything result_text before
published_none {before = before} same miss t = as_missing (published_back before miss) (subst (IsNone Fits Anything (counted_line (codes " published "))) same t)

pub step_worded : {before : Bytes} (mid after word : Bytes) (res : Result StepResult TextFault) → before ≡ word ++ mid → Takes IsSizedResult Anything result_text (word ++ mid) after res → Takes IsSizedResult Anything result_text before after res
step_worded mid after word res e t = subst (λ b. Takes IsSizedResult Anything result_text b after res) (sym e) t

-- steps

pub result_opens : (y : StepResult) (r : Bytes) → Stops (result_text y ++ r)
result_opens (step.Published n) r = refl
result_opens step.Unpublished r = refl
result_opens (step.Admitted n zs) r = refl
result_opens (step.Unadmitted zs) r = refl

pub steps_list : Lists IsSizedResult steps_text step_text
steps_list = record { none = λ k. refl; more = λ k x xs. refl; some = λ k x p. omega arith }

-- lanes

abbrev marked_lane : ℕ → List StepResult → Bytes
marked_lane number rs = codes "lane " ++ decimal number ++ steps_counted rs

lane_same : (number : ℕ) (rs : List StepResult) → lane_text number rs ≡ marked_lane number rs
lane_same number rs =
    ap (λ t. t ++ steps_text 1 rs) (append_assoc (codes "lane " ++ decimal number) (codes " steps " ++ decimal (length rs)) (10 ∷ []))
    ∙ append_assoc (codes "lane " ++ decimal number) (counted_line (codes " steps ") (length rs)) (steps_text 1 rs)

pub lane_takes : {before mid : Bytes} (after : Bytes) (number : ℕ) (u : Unit {0}) (res : Result (List StepResult) TextFault) → IsRead Any Stops (marked (codes "lane ") number) before mid u
    → Takes IsSizedLane Anything steps_counted mid after res → Takes IsSizedLane Anything (lane_text number) before after res
lane_takes {before = before} {mid = mid} after number u res t s =
    same_takes IsSizedLane IsSizedLane Anything (marked_lane number) (lane_text number) before after res (λ x p. lane_same number x) (λ x p. p) (λ x r p h. p)
    (marked_takes IsSizedLane Anything steps_counted before mid after (codes "lane ") number u res t s)

steps_open : (rs : List StepResult) (r : Bytes) → Stops (steps_counted rs ++ r)
steps_open rs r = refl

pub lane_none : {before : Bytes} (number : ℕ) → IsNone Any Stops (marked (codes "lane ") number) before → IsNone IsSizedLane Anything (lane_text number) before
lane_none number t = as_missing (λ y r p q h. (y, lane_same number y, p)) (marked_none steps_counted (codes "lane ") number steps_open t)

pub lanes_list : Lists IsSizedLane lanes_text lane_text
lanes_list = record { none = λ k. refl; more = λ k x xs. refl; some = λ k x p. omega arith }

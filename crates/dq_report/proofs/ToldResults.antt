-- The texts of results tell the results.
use Rattle.std.proofs.Common.{◌≡◌, ℕ, ◌+◌, List, [], ◌∷◌, ◌++◌, length, get_or, decimal, codes, refl, sym, ap, ◌∙◌, append_assoc, arith}
use Rattle.std.specs.List.{AllByRecursion, AllZip}
use Rattle.std.specs.Arc.{arc_value}
use Rattle.std.proofs.lemmas.List.{append_cancel_left}
use Rattle.dq_journal.specs.declared.result.ZoneResult.{ZoneResult}
use Rattle.dq_journal.specs.declared.result.ZoneResult.TheVariants as zone
use Rattle.dq_journal.specs.declared.result.StepResult.{StepResult}
use Rattle.dq_journal.specs.declared.result.StepResult.TheVariants as step
use Rattle.dq_base.specs.Spelling.{Bytes}
use Rattle.dq_report.specs.Report.{refusal_text, outcome_text, zone_text, zones_text, batch_text, result_text, step_text, steps_text, lane_text, lanes_text}
use Rattle.dq_base.specs.Sizes.{Fits}
use Rattle.dq_report.specs.Told.{FitsList, FitsZone, FitsResult, SameZone, SameResult}
use Rattle.dq_base.specs.Rests.{Anything}
use Rattle.dq_base.proofs.Told.{second, Tells, lead, trail}
use Rattle.dq_report.proofs.ToldCells.{table_told}
use Rattle.dq_base.proofs.ToldNumbers.{number_told}
use Rattle.dq_report.proofs.ToldWords.{invalid_told}

-- a word before both texts
past : (word a b r s : Bytes) → (word ++ a) ++ r ≡ (word ++ b) ++ s → a ++ r ≡ b ++ s
past word a b r s e = append_cancel_left word (a ++ r) (b ++ s) (sym (append_assoc word a r) ∙ e ∙ append_assoc word b s)

-- the rests, past what is in front
behind : (a b c d r s : Bytes) → (a ++ b) ++ r ≡ (c ++ d) ++ s → a ++ (b ++ r) ≡ c ++ (d ++ s)
behind a b c d r s e = sym (append_assoc a b r) ∙ e ∙ append_assoc c d s

-- a word, a number and a line's end
pub line_told : (word : Bytes) → Tells Fits Anything (λ n. word ++ decimal n ++ 10 ∷ [])
line_told word = trail (10 ∷ []) (lead word number_told) (λ r. refl)

-- zones

refusal_told : Tells (λ x. Unit {0}) Anything refusal_text
refusal_told = trail (10 ∷ []) (lead (codes " invalid ") invalid_told) (λ r. tt)

outcome_same : (x y : ZoneResult) (r s : Bytes) → FitsZone x → FitsZone y → outcome_text x ++ r ≡ outcome_text y ++ s → SameZone x y × (r ≡ s)
outcome_same (zone.Rows t) (zone.Rows u) r s p q e = table_told.same (arc_value t) (arc_value u) r s p q tt tt e
outcome_same (zone.Rows t) (zone.Invalid w) r s p q e = absurd (omega (arith, ap second e))
outcome_same (zone.Rows t) zone.BackEnd r s p q e = absurd (omega (arith, ap second e))
outcome_same (zone.Rows t) zone.Memory r s p q e = absurd (omega (arith, ap second e))
outcome_same (zone.Invalid v) (zone.Rows u) r s p q e = absurd (omega (arith, ap second e))
outcome_same (zone.Invalid v) (zone.Invalid w) r s p q e = refusal_told.same v w r s tt tt tt tt e
outcome_same (zone.Invalid v) zone.BackEnd r s p q e = absurd (omega (arith, ap second e))
outcome_same (zone.Invalid v) zone.Memory r s p q e = absurd (omega (arith, ap second e))
outcome_same zone.BackEnd (zone.Rows u) r s p q e = absurd (omega (arith, ap second e))
outcome_same zone.BackEnd (zone.Invalid w) r s p q e = absurd (omega (arith, ap second e))
outcome_same zone.BackEnd zone.BackEnd r s p q e = (tt, append_cancel_left (codes " backend\n") r s e)
outcome_same zone.BackEnd zone.Memory r s p q e = absurd (omega (arith, ap second e))
outcome_same zone.Memory (zone.Rows u) r s p q e = absurd (omega (arith, ap second e))
outcome_same zone.Memory (zone.Invalid w) r s p q e = absurd (omega (arith, ap second e))
outcome_same zone.Memory zone.BackEnd r s p q e = absurd (omega (arith, ap second e))
outcome_same zone.Memory zone.Memory r s p q e = (tt, append_cancel_left (codes " memory\n") r s e)

zone_same : (number : ℕ) (x y : ZoneResult) (r s : Bytes) → FitsZone x → FitsZone y → zone_text number x ++ r ≡ zone_text number y ++ s → SameZone x y × (r ≡ s)
zone_same number x y r s p q e = outcome_same x y r s p q (past (codes "zone " ++ decimal number) (outcome_text x) (outcome_text y) r s e)

zones_same : (number : ℕ) (xs ys : List ZoneResult) (r s : Bytes) → AllByRecursion FitsZone xs → AllByRecursion FitsZone ys → length xs ≡ length ys
    → zones_text number xs ++ r ≡ zones_text number ys ++ s → AllZip SameZone xs ys × (r ≡ s)
zones_same number [] [] r s p q n e = (tt, e)
zones_same number [] (y ∷ ys) r s p q n e = absurd (omega (arith, n))
zones_same number (x ∷ xs) [] r s p q n e = absurd (omega (arith, n))
zones_same number (x ∷ xs) (y ∷ ys) r s p q n e =
    let one = zone_same number x y (zones_text (number + 1) xs ++ r) (zones_text (number + 1) ys ++ s) p.0 q.0
    (behind (zone_text number x) (zones_text (number + 1) xs) (zone_text number y) (zones_text (number + 1) ys) r s e) in
    let two = zones_same (number + 1) xs ys r s p.1 q.1 (omega (arith, n)) one.1 in
    ((one.0, two.0), two.1)

batch_same : (xs ys : List ZoneResult) (r s : Bytes) → FitsList FitsZone xs → FitsList FitsZone ys → batch_text xs ++ r ≡ batch_text ys ++ s → AllZip SameZone xs ys × (r ≡ s)
batch_same xs ys r s p q e =
    let one = (line_told (codes " zones ")).same (length xs) (length ys) (zones_text 1 xs ++ r) (zones_text 1 ys ++ s) p.0 q.0 tt tt
    (behind (codes " zones " ++ decimal (length xs) ++ 10 ∷ []) (zones_text 1 xs) (codes " zones " ++ decimal (length ys) ++ 10 ∷ []) (zones_text 1 ys) r s e) in
    zones_same 1 xs ys r s p.1 q.1 one.0 one.1

-- steps

-- the byte behind a refusal
abbrev past_refused : Bytes → ℕ
past_refused bs = get_or bs 15 0

result_same : (x y : StepResult) (r s : Bytes) → FitsResult x → FitsResult y → result_text x ++ r ≡ result_text y ++ s → SameResult x y × (r ≡ s)
result_same (step.Published m) (step.Published n) r s p q e = (line_told (codes " published ")).same m n r s p q tt tt e
result_same (step.Published m) step.Unpublished r s p q e = absurd (omega (arith, ap second e))
result_same (step.Published m) (step.Admitted n ys) r s p q e = absurd (omega (arith, ap second e))
result_same (step.Published m) (step.Unadmitted ys) r s p q e = absurd (omega (arith, ap second e))
result_same step.Unpublished (step.Published n) r s p q e = absurd (omega (arith, ap second e))
result_same step.Unpublished step.Unpublished r s p q e = (tt, append_cancel_left (codes " refused memory\n") r s e)
result_same step.Unpublished (step.Admitted n ys) r s p q e = absurd (omega (arith, ap second e))
result_same step.Unpublished (step.Unadmitted ys) r s p q e = absurd (omega (arith, ap past_refused e))
result_same (step.Admitted m xs) (step.Published n) r s p q e = absurd (omega (arith, ap second e))
result_same (step.Admitted m xs) step.Unpublished r s p q e = absurd (omega (arith, ap second e))
result_same (step.Admitted m xs) (step.Admitted n ys) r s p q e =
    let one = (lead (codes " admitted ") number_told).same m n (batch_text xs ++ r) (batch_text ys ++ s) p.0 q.0 refl refl
    (behind (codes " admitted " ++ decimal m) (batch_text xs) (codes " admitted " ++ decimal n) (batch_text ys) r s e) in
    let two = batch_same xs ys r s p.1 q.1 one.1 in
    ((one.0, two.0), two.1)
result_same (step.Admitted m xs) (step.Unadmitted ys) r s p q e = absurd (omega (arith, ap second e))
result_same (step.Unadmitted xs) (step.Published n) r s p q e = absurd (omega (arith, ap second e))
result_same (step.Unadmitted xs) step.Unpublished r s p q e = absurd (omega (arith, ap past_refused e))
result_same (step.Unadmitted xs) (step.Admitted n ys) r s p q e = absurd (omega (arith, ap second e))
result_same (step.Unadmitted xs) (step.Unadmitted ys) r s p q e = batch_same xs ys r s p q (past (codes " refused memory") (batch_text xs) (batch_text ys) r s e)

step_same : (number : ℕ) (x y : StepResult) (r s : Bytes) → FitsResult x → FitsResult y → step_text number x ++ r ≡ step_text number y ++ s → SameResult x y × (r ≡ s)
step_same number x y r s p q e = result_same x y r s p q (past (codes "step " ++ decimal number) (result_text x) (result_text y) r s e)

steps_same : (number : ℕ) (xs ys : List StepResult) (r s : Bytes) → AllByRecursion FitsResult xs → AllByRecursion FitsResult ys → length xs ≡ length ys
    → steps_text number xs ++ r ≡ steps_text number ys ++ s → AllZip SameResult xs ys × (r ≡ s)
steps_same number [] [] r s p q n e = (tt, e)
steps_same number [] (y ∷ ys) r s p q n e = absurd (omega (arith, n))
steps_same number (x ∷ xs) [] r s p q n e = absurd (omega (arith, n))
steps_same number (x ∷ xs) (y ∷ ys) r s p q n e =
    let one = step_same number x y (steps_text (number + 1) xs ++ r) (steps_text (number + 1) ys ++ s) p.0 q.0
    (behind (step_text number x) (steps_text (number + 1) xs) (step_text number y) (steps_text (number + 1) ys) r s e) in
    let two = steps_same (number + 1) xs ys r s p.1 q.1 (omega (arith, n)) one.1 in
    ((one.0, two.0), two.1)

-- lanes

lane_told : (number : ℕ) → Tells Fits Anything (λ n. codes "lane " ++ decimal number ++ (codes " steps " ++ decimal n) ++ 10 ∷ [])
lane_told number = trail (10 ∷ []) (lead (codes "lane " ++ decimal number) (lead (codes " steps ") number_told)) (λ r. refl)

abbrev lane_line : ℕ → List StepResult → Bytes
lane_line number rs = codes "lane " ++ decimal number ++ (codes " steps " ++ decimal (length rs)) ++ 10 ∷ []

lane_same : (number : ℕ) (xs ys : List StepResult) (r s : Bytes) → FitsList FitsResult xs → FitsList FitsResult ys → lane_text number xs ++ r ≡ lane_text number ys ++ s → AllZip SameResult xs ys × (r ≡ s)
lane_same number xs ys r s p q e =
    let one = (lane_told number).same (length xs) (length ys) (steps_text 1 xs ++ r) (steps_text 1 ys ++ s) p.0 q.0 tt tt
    (behind (lane_line number xs) (steps_text 1 xs) (lane_line number ys) (steps_text 1 ys) r s e) in
    steps_same 1 xs ys r s p.1 q.1 one.0 one.1

pub lanes_same : (number : ℕ) (xs ys : List (List StepResult)) (r s : Bytes) → AllByRecursion (FitsList FitsResult) xs → AllByRecursion (FitsList FitsResult) ys → length xs ≡ length ys
    → lanes_text number xs ++ r ≡ lanes_text number ys ++ s → AllZip (AllZip SameResult) xs ys × (r ≡ s)
lanes_same number [] [] r s p q n e = (tt, e)
lanes_same number [] (y ∷ ys) r s p q n e = absurd (omega (arith, n))
lanes_same number (x ∷ xs) [] r s p q n e = absurd (omega (arith, n))
lanes_same number (x ∷ xs) (y ∷ ys) r s p q n e =
    let one = lane_same number x y (lanes_text (number + 1) xs ++ r) (lanes_text (number + 1) ys ++ s) p.0 q.0
    (behind (lane_text number x) (lanes_text (number + 1) xs) (lane_text number y) (lanes_text (number + 1) ys) r s e) in
    let two = lanes_same (number + 1) xs ys r s p.1 q.1 (omega (arith, n)) one.1 in
    ((one.0, two.0), two.1)

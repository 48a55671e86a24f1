-- A report tells its journal and its results.
use Rattle.std.proofs.Common.{◌≡◌, ℕ, ◌+◌, List, [], ◌∷◌, ◌++◌, length, decimal, codes, refl, sym, ap, ◌∙◌, append_assoc, append-nil, arith}
use Rattle.std.specs.List.{AllByRecursion}
use Rattle.dq_journal.specs.Journals.{IsEntry, AreEntries}
use Rattle.dq_journal.specs.declared.entry.Entry.{Entry}
use Rattle.dq_journal.specs.declared.result.StepResult.{StepResult}
use Rattle.dq_base.specs.Spelling.{Bytes}
use Rattle.dq_report.specs.Report.{line_text, entries_text, lanes_text, head_text, report_text}
use Rattle.dq_base.specs.Sizes.{Fits}
use Rattle.dq_report.specs.Told.{FitsEntry, IsWellFormed, SameResults}
use Rattle.dq_base.specs.Rests.{Anything}
use Rattle.dq_base.proofs.Told.{Tells, lead, trail, both}
use Rattle.dq_report.proofs.ToldEntries.{entry_told}
use Rattle.dq_report.proofs.ToldResults.{line_told, lanes_same}

head_told : Tells (λ (p : ℕ × ℕ). Fits p.0 × Fits p.1) Anything (λ p. head_text p.0 p.1)
head_told = both (lead (codes "report 1\n") (line_told (codes "lanes "))) (line_told (codes "entries ")) (λ n r p a. tt)

placed_told : (place : ℕ) → Tells (λ e. FitsEntry e × IsEntry e) Anything (line_text place)
placed_told place = trail (10 ∷ []) (lead (decimal place ++ 32 ∷ []) entry_told) (λ r. refl)

entries_same : (place : ℕ) (xs ys : List Entry) (r s : Bytes) → AllByRecursion FitsEntry xs × AreEntries xs → AllByRecursion FitsEntry ys × AreEntries ys → length xs ≡ length ys
    → entries_text place xs ++ r ≡ entries_text place ys ++ s → (xs ≡ ys) × (r ≡ s)
entries_same place [] [] r s p q n e = (refl, e)
entries_same place [] (y ∷ ys) r s p q n e = absurd (omega (arith, n))
entries_same place (x ∷ xs) [] r s p q n e = absurd (omega (arith, n))
entries_same place (x ∷ xs) (y ∷ ys) r s p q n e =
    let one = (placed_told place).same x y (entries_text (place + 1) xs ++ r) (entries_text (place + 1) ys ++ s) (p.0.0, p.1.0) (q.0.0, q.1.0) tt tt
    (sym (append_assoc (line_text place x) (entries_text (place + 1) xs) r) ∙ e ∙ append_assoc (line_text place y) (entries_text (place + 1) ys) s) in
    let two = entries_same (place + 1) xs ys r s (p.0.1, p.1.1) (q.0.1, q.1.1) (omega (arith, n)) one.1 in
    (λ i. one.0 i ∷ two.0 i, two.1)

pub report_same : (journal other : List Entry) (results others : List (List StepResult)) → IsWellFormed journal results → IsWellFormed other others
    → report_text journal results ≡ report_text other others → (journal ≡ other) × SameResults results others
report_same journal other results others p q e =
    let one = head_told.same (length results, length journal) (length others, length other) (entries_text 1 journal ++ lanes_text 1 results) (entries_text 1 other ++ lanes_text 1 others)
    (p.lanes.0, p.entries.0) (q.lanes.0, q.entries.0) tt tt
    (sym (append_assoc (head_text (length results) (length journal)) (entries_text 1 journal) (lanes_text 1 results)) ∙ e
    ∙ append_assoc (head_text (length others) (length other)) (entries_text 1 other) (lanes_text 1 others)) in
    let two = entries_same 1 journal other (lanes_text 1 results) (lanes_text 1 others) (p.entries.1, p.sound) (q.entries.1, q.sound) (ap (λ c. c.1) one.0) one.1 in
    let three = lanes_same 1 results others [] [] p.lanes.1 q.lanes.1 (ap (λ c. c.0) one.0) (append-nil (lanes_text 1 results) ∙ two.1 ∙ sym (append-nil (lanes_text 1 others))) in
    (two.0, three.0)

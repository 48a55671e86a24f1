-- Readings of whole reports.
use Rattle.std.proofs.Common.{◌≡◌, ℕ, ◌<◌, ◌^◌, List, [], ◌∷◌, ◌++◌, length, Result, Err, refl, sym, ap, subst, ◌∙◌, append_assoc, append-nil, length-append, arith}
use Rattle.std.specs.List.{AllByRecursion}
use Rattle.dq_base.specs.Rests.{Anything}
use Rattle.dq_base.specs.Spelling.{Bytes}
use Rattle.dq_journal.specs.Journals.{AreEntries, JournalOf}
use Rattle.dq_journal.specs.declared.entry.Entry.{Entry}
use Rattle.dq_journal.specs.declared.result.StepResult.{StepResult}
use Rattle.dq_reading.specs.Reading.{IsRead, IsNone, Fails}
use Rattle.dq_reading.specs.declared.fault.TextFault.{TextFault}
use Rattle.dq_reading.specs.declared.fault.TextFault.TheVariants as fault
use Rattle.dq_report.specs.Report.{entries_text, head_text, lanes_text, report_text}
use Rattle.dq_parse.specs.Parsing.{RefusedAs}
use Rattle.dq_parse.specs.declared.fault.ParseFault.TheVariants as refused
use Rattle.dq_parse.specs.declared.parsed.Parsed.{Parsed}
use Rattle.dq_parse.specs.Reading.{AreSizes, IsBody, IsJournal, IsShown, IsTaken, Many, ReadAs, body_text, journal_text, sizes_text}
use Rattle.dq_parse.specs.Sizes.{IsSized, IsSizedEntry, IsSizedLane}
use Rattle.dq_parse.proofs.Counted.{list_fits}
use Rattle.dq_parse.proofs.Lines.{lines_list}
use Rattle.dq_parse.proofs.Steps.{lanes_list}
use Rattle.dq_parse.proofs.Takings.{both_taken, first_missing, second_missing}

-- a journal and the results behind it

its_parts : {lanes entries : ℕ} (before : Bytes) (z : Parsed) (r : Bytes) → IsBody lanes entries z → Anything r → before ≡ body_text z ++ r
    → (j : JournalOf) × (rs : List (List StepResult)) × (body_text z ≡ journal_text j ++ lanes_text 1 rs) × IsJournal entries j × Many IsSizedLane lanes rs
its_parts before z r p q e = (z.journal, z.results, refl, p.0, p.1)

anything_opens : {n : ℕ} (rs : List (List StepResult)) (r : Bytes) → Many IsSizedLane n rs → Anything r → Anything (lanes_text 1 rs ++ r)
anything_opens rs r p q = tt

pub body_taken : {lanes entries : ℕ} {before mid after : Bytes} {j : JournalOf} {rs : List (List StepResult)} (z : Parsed) → z.journal ≡ j → z.results ≡ rs → IsTaken (IsJournal entries) Anything journal_text before mid j
    → IsTaken (Many IsSizedLane lanes) Anything (lanes_text 1) mid after rs → IsTaken (IsBody lanes entries) Anything body_text before after z
body_taken {lanes = lanes} {entries = entries} {before = before} z first second t u =
    both_taken z (subst (IsJournal entries) (sym first) t.sized, subst (Many IsSizedLane lanes) (sym second) u.sized) (λ i. journal_text (first i) ++ lanes_text 1 (second i)) (its_parts before) anything_opens t u

pub body_first : {lanes entries : ℕ} {before : Bytes} → IsNone (IsJournal entries) Anything journal_text before → IsNone (IsBody lanes entries) Anything body_text before
body_first {lanes = lanes} {before = before} t = first_missing (lanes_text 1) (its_parts before) (anything_opens {n = lanes}) t

pub body_second : {lanes entries : ℕ} {before mid : Bytes} {j : JournalOf} → IsTaken (IsJournal entries) Anything journal_text before mid j → IsNone (Many IsSizedLane lanes) Anything (lanes_text 1) mid
    → IsNone (IsBody lanes entries) Anything body_text before
body_second {before = before} t u = second_missing (its_parts before) anything_opens t u

-- entries that a report can show are sound and sized

shown_sound : (es : List Entry) → AllByRecursion IsShown es → AreEntries es
shown_sound [] p = tt
shown_sound (e ∷ es) p = (p.0.1, shown_sound es p.1)

shown_sized : (es : List Entry) → AllByRecursion IsShown es → AllByRecursion IsSizedEntry es
shown_sized [] p = tt
shown_sized (e ∷ es) p = (p.0.0, shown_sized es p.1)

are_shown : (es : List Entry) → AreEntries es → AllByRecursion IsSizedEntry es → AllByRecursion IsShown es
are_shown [] p q = tt
are_shown (e ∷ es) p q = ((q.0, p.0), are_shown es p.1 q.1)

-- the whole

abbrev parsed_of : List Entry → List (List StepResult) → Parsed
parsed_of journal results = record { journal = record { entries = journal; spare = 0 }; results = results }

-- what stands behind the head of each report that the bytes may be
behind_head : (bytes : Bytes) (journal : List Entry) (results : List (List StepResult)) → report_text journal results ≡ bytes → bytes ≡ head_text (length results) (length journal) ++ body_text (parsed_of journal results)
behind_head bytes journal results e = sym e ∙ append_assoc (head_text (length results) (length journal)) (entries_text 1 journal) (lanes_text 1 results)

its_sizes : (bytes : Bytes) (journal : List Entry) (results : List (List StepResult)) → length bytes < 2 ^ 64 → IsSized journal results → report_text journal results ≡ bytes → AreSizes (length results, length journal)
its_sizes bytes journal results small p e =
    let whole = ap length (behind_head bytes journal results e) ∙ length-append (head_text (length results) (length journal)) (entries_text 1 journal ++ lanes_text 1 results) in
    let parts = length-append (entries_text 1 journal) (lanes_text 1 results) in
    let entries = list_fits lines_list 1 journal (are_shown journal p.sound p.entries) in
    let lanes = list_fits lanes_list 1 results p.lanes in
    (omega (arith, small, whole, parts, lanes), omega (arith, small, whole, parts, entries))

its_body : (journal : List Entry) (results : List (List StepResult)) (lanes entries : ℕ) → IsSized journal results → lanes ≡ length results → entries ≡ length journal → IsBody lanes entries (parsed_of journal results)
its_body journal results lanes entries p first second = ((sym second, are_shown journal p.sound p.entries), (sym first, p.lanes))

pub head_refused : {before : Bytes} (bytes : Bytes) → before ≡ bytes → length before < 2 ^ 64 → IsNone AreSizes Anything sizes_text before → RefusedAs bytes refused.NotReport
head_refused {before = before} bytes same small t = λ journal results p e.
    t.none (length results, length journal) (body_text (parsed_of journal results)) (its_sizes before journal results small p (e ∙ sym same)) tt (behind_head before journal results (e ∙ sym same))

-- what is left behind the head
left_of : {before mid : Bytes} {lanes entries : ℕ} (journal : List Entry) (results : List (List StepResult)) → length before < 2 ^ 64 → IsRead AreSizes Anything sizes_text before mid (lanes, entries) → IsSized journal results
    → report_text journal results ≡ before → IsBody lanes entries (parsed_of journal results) × (mid ≡ body_text (parsed_of journal results) ++ [])
left_of {before = before} {lanes = lanes} {entries = entries} journal results small t p e =
    let one = t.only (length results, length journal) (body_text (parsed_of journal results)) (its_sizes before journal results small p e) tt (behind_head before journal results e) in
    (its_body journal results lanes entries p (ap (λ s. s.0) one.0) (ap (λ s. s.1) one.0), one.1 ∙ sym (append-nil (body_text (parsed_of journal results))))

pub body_refused : {before mid : Bytes} {lanes entries : ℕ} (bytes : Bytes) → before ≡ bytes → length before < 2 ^ 64 → IsRead AreSizes Anything sizes_text before mid (lanes, entries)
    → IsNone (IsBody lanes entries) Anything body_text mid → RefusedAs bytes refused.NotReport
body_refused bytes same small t u = λ journal results p e.
    let one = left_of journal results small t p (e ∙ sym same) in
    u.none (parsed_of journal results) [] one.0 tt one.1

pub end_refused : {before mid after : Bytes} {lanes entries : ℕ} {z : Parsed} (bytes : Bytes) → before ≡ bytes → length before < 2 ^ 64 → IsRead AreSizes Anything sizes_text before mid (lanes, entries)
    → IsTaken (IsBody lanes entries) Anything body_text mid after z → (after ≡ [] → ⊥) → RefusedAs bytes refused.NotReport
end_refused bytes same small t u goes = λ journal results p e.
    let one = left_of journal results small t p (e ∙ sym same) in
    goes (u.rest (parsed_of journal results) [] one.0 tt one.1)

pub whole_read : {before mid after : Bytes} (lanes entries : ℕ) {z : Parsed} (bytes : Bytes) → before ≡ bytes → IsRead AreSizes Anything sizes_text before mid (lanes, entries)
    → IsTaken (IsBody lanes entries) Anything body_text mid after z → after ≡ [] → IsSized z.journal.entries z.results × (report_text z.journal.entries z.results ≡ bytes)
whole_read lanes entries {z = z} bytes same t u ends = (
  record { sound = shown_sound z.journal.entries u.sized.0.1; entries = shown_sized z.journal.entries u.sized.0.1; lanes = u.sized.1.1 },
  append_assoc (head_text (length z.results) (length z.journal.entries)) (entries_text 1 z.journal.entries) (lanes_text 1 z.results)
      ∙ (λ i. head_text (u.sized.1.0 i) (u.sized.0.0 i) ++ body_text z) ∙ sym (t.is ∙ ap (λ m. sizes_text (lanes, entries) ++ m) (u.is ∙ ap (λ r. body_text z ++ r) ends ∙ append-nil (body_text z))) ∙ same,
)

-- a fault that a `?` passed on
pub refused_on : {X : Type 0} {P : X → Type 0} {E : Bytes → Type 0} {f : X → Bytes} {before : Bytes} (bytes : Bytes) (r : Result Parsed TextFault) (e : TextFault) → ((x : TextFault) × (r ≡ Err x) × (x ≡ e)) → Fails P E f before e
    → (IsNone P E f before → RefusedAs bytes refused.NotReport) → ReadAs bytes r
refused_on bytes r fault.NotInGrammar p t fails = subst (ReadAs bytes) (sym (p.1 ∙ ap Err p.2)) (fails t)
refused_on bytes r fault.Memory p t fails = subst (ReadAs bytes) (sym (p.1 ∙ ap Err p.2)) tt

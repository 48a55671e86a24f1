-- Readings of the lines of entries.
use Rattle.std.proofs.Common.{◌≡◌, ℕ, [], ◌∷◌, ◌++◌, length-append, decimal, Result, Ok, Err, refl, ◌∙◌, append_assoc, arith}
use Rattle.dq_base.specs.Rests.{Anything}
use Rattle.dq_base.specs.Spelling.{Bytes}
use Rattle.dq_journal.specs.Journals.{JournalOf}
use Rattle.dq_journal.specs.declared.entry.Entry.{Entry}
use Rattle.dq_reading.specs.Reading.{IsRead, IsNone, Reads}
use Rattle.dq_reading.specs.declared.fault.TextFault.{TextFault}
use Rattle.dq_reading.specs.declared.fault.TextFault.TheVariants as fault
use Rattle.dq_reading.proofs.Readings.{as_read, as_none, lead_read, lead_none}
use Rattle.dq_report.specs.Report.{entries_text, entry_text, line_text}
use Rattle.dq_parse.specs.Reading.{Any, IsJournal, IsShown, IsTaken, Many, ended_text, journal_text, place_text}
use Rattle.dq_parse.proofs.Counted.{Lists}

abbrev placed : ℕ → Entry → Bytes
placed place e = (decimal place ++ 32 ∷ []) ++ ended_text e

same : (place : ℕ) (e : Entry) → IsShown e → line_text place e ≡ placed place e
same place e p = append_assoc (decimal place ++ 32 ∷ []) (entry_text e) (10 ∷ [])

back : (place : ℕ) (before : Bytes) (y : Entry) (r : Bytes) → IsShown y → Anything r → before ≡ line_text place y ++ r → (z : Entry) × (y ≡ z) × IsShown z
back place before y r p q h = (y, refl, p)

pub line_reads : {before mid : Bytes} {u : Unit {0}} (place : ℕ) (after : Bytes) (res : Result Entry TextFault) → IsRead Any Anything (place_text place) before mid u → Reads IsShown Anything ended_text mid after res
    → Reads IsShown Anything (line_text place) before after res
line_reads {before = before} place after (Ok e) t u = as_read (λ y. y) (same place) (λ z p. p) (back place before) (lead_read (decimal place ++ 32 ∷ []) t.is u)
line_reads {before = before} place after (Err fault.NotInGrammar) t u = as_none (λ y. y) (same place) (back place before) (lead_none (decimal place ++ 32 ∷ []) t.is u)
line_reads place after (Err fault.Memory) t u = tt

pub line_none : {before : Bytes} (place : ℕ) → IsNone Any Anything (place_text place) before → IsNone IsShown Anything (line_text place) before
line_none place t = record {
  none = λ y r p q h. t.none tt (entry_text y ++ (10 ∷ [] ++ r)) tt tt
      (h ∙ append_assoc (decimal place ++ 32 ∷ [] ++ entry_text y) (10 ∷ []) r ∙ append_assoc (decimal place ++ 32 ∷ []) (entry_text y) (10 ∷ [] ++ r));
}

pub lines_list : Lists IsShown entries_text line_text
lines_list = record { none = λ k. refl; more = λ k x xs. refl; some = λ k x p. omega (arith, length-append (decimal k ++ 32 ∷ [] ++ entry_text x) (10 ∷ [])) }

pub journal_taken : {n : ℕ} {before after : Bytes} (j : JournalOf) → IsTaken (Many IsShown n) Anything (entries_text 1) before after j.entries → IsTaken (IsJournal n) Anything journal_text before after j
journal_taken j t = record { sized = t.sized; is = t.is; rest = λ y r p q h. t.rest y.entries r p q h }

pub journal_none : {n : ℕ} {before : Bytes} → IsNone (Many IsShown n) Anything (entries_text 1) before → IsNone (IsJournal n) Anything journal_text before
journal_none t = record { none = λ y r p q h. t.none y.entries r p q h }

-- What reading a part of a report answers, beside `Reads`.
use Rattle.std.specs.Prelude.{◌≡◌, ℕ, Bool, true, nat_le, nat_eq, List, [], ◌∷◌, ◌++◌, length, codes, Result, Ok, Err}
use Rattle.std.specs.Arc.{arc_value}
use Rattle.std.specs.Fmt.{decimal}
use Rattle.std.specs.List.{AllByRecursion, flat_map}
use Rattle.dq_base.specs.Rests.{first}
use Rattle.dq_base.specs.Sizes.{Fits}
use Rattle.dq_base.specs.Spelling.{Bytes}
use Rattle.dq_base.specs.declared.invalid.Invalid.{Invalid}
use Rattle.dq_base.specs.declared.kept.Kept.{Kept}
use Rattle.dq_journal.specs.Journals.{IsEntry, JournalOf, LostAs}
use Rattle.dq_journal.specs.declared.entry.Entry.{Entry}
use Rattle.dq_journal.specs.declared.entry.Met.{Met}
use Rattle.dq_journal.specs.declared.result.StepResult.{StepResult}
use Rattle.dq_journal.specs.declared.result.ZoneResult.{ZoneResult}
use Rattle.dq_journal.specs.declared.result.ZoneResult.TheVariants as zone
use Rattle.dq_reading.specs.Reading.{Fails}
use Rattle.dq_reading.specs.Sizes.{IsNumber}
use Rattle.dq_reading.specs.declared.fault.TextFault.{TextFault}
use Rattle.dq_reading.specs.declared.fault.TextFault.TheVariants as text
use Rattle.dq_parse.specs.Parsing.{RefusedAs}
use Rattle.dq_parse.specs.declared.fault.ParseFault.TheVariants as fault
use Rattle.dq_parse.specs.declared.parsed.Parsed.{Parsed}
use Rattle.dq_parse.specs.Sizes.{IsSized, IsSizedEntry, IsSizedLane, IsSizedRow}
use Rattle.dq_report.specs.Report.{counted_line, counts_text, entries_text, entry_text, flight_of_lane, head_text, invalid_word, kept_word, lanes_text, lost_text, met_text, report_text, step_of_lane, steps_text}

-- What was read stood at the front, and where any part of its kind stands there, the same is left behind it. Parts that share
-- a table are not compared.
pub record IsTaken {X : Type 0} (P : X → Type 0) (E : Bytes → Type 0) (f : X → Bytes) (before after : Bytes) (x : X) : Type 0 where
  pub sized : P x
  pub is : before ≡ f x ++ after
  pub rest : (y : X) (r : Bytes) → P y → E r → before ≡ f y ++ r → after ≡ r

-- what reading such a part leaves and answers
abbrev pub Takes : {X : Type 0} → (X → Type 0) → (Bytes → Type 0) → (X → Bytes) → Bytes → Bytes → Result X TextFault → Type 0
Takes P E f before after (Ok x) = IsTaken P E f before after x
Takes P E f before after (Err e) = Fails P E f before e

-- what may stand behind a part

-- a line ends here
abbrev pub EndsLine : Bytes → Type 0
EndsLine r = nat_eq (first r) 10 ≡ true

-- no cell goes on here
abbrev pub Ends : Bytes → Type 0
Ends r = nat_le (first r) 32 ≡ true

-- the sizes and texts of parts of a part

-- all of a type
abbrev pub Any : {X : Type 0} → X → Type 0
Any x = Unit {0}

-- so many items
abbrev pub Many : {X : Type 0} → (X → Type 0) → ℕ → List X → Type 0
Many P n xs = (length xs ≡ n) × AllByRecursion P xs

-- one item or more
abbrev pub AllSome : {X : Type 0} → (X → Type 0) → List X → Type 0
AllSome P [] = ⊥
AllSome P (x ∷ xs) = P x × AllByRecursion P xs

-- a number behind a word
abbrev pub labelled : Bytes → ℕ → Bytes
labelled word n = word ++ decimal n

-- a word and a number, whatever stands for them
abbrev pub marked : Bytes → ℕ → Unit {0} → Bytes
marked word n u = word ++ decimal n

-- a lane and its step
abbrev pub AreLaneStep : ℕ × ℕ → Type 0
AreLaneStep p = IsNumber p.0 × IsNumber p.1

-- their text
abbrev pub lane_step_text : ℕ × ℕ → Bytes
lane_step_text p = step_of_lane p.0 p.1

-- a lane and a flight
abbrev pub AreLaneFlight : ℕ × ℕ → Type 0
AreLaneFlight p = IsNumber p.0 × Fits p.1

-- their text
abbrev pub lane_flight_text : ℕ × ℕ → Bytes
lane_flight_text p = flight_of_lane p.0 p.1

-- a flight of a lane, and a number of its own
abbrev pub AreOfFlight : ℕ × ℕ × ℕ → Type 0
AreOfFlight p = IsNumber p.0 × Fits p.1 × Fits p.2

-- where that number is its link's
abbrev pub link_text : ℕ × ℕ × ℕ → Bytes
link_text p = flight_of_lane p.0 p.1 ++ codes " link " ++ decimal p.2

-- where it is that of its answer's cells
abbrev pub size_text : ℕ × ℕ × ℕ → Bytes
size_text p = flight_of_lane p.0 p.1 ++ codes " cells " ++ decimal p.2

-- whether a statement was run, and a link's counts
abbrev pub AreCounts : Bool × ℕ × ℕ → Type 0
AreCounts p = Fits p.1 × Fits p.2

-- their text
abbrev pub counts_of_text : Bool × ℕ × ℕ → Bytes
counts_of_text p = counts_text p.0 p.1 p.2

-- whether a lost link was dialled, and what it did then
abbrev pub AreLost : Bool × Bool × ℕ × ℕ → Type 0
AreLost p = LostAs p.0 p.1 p.2 p.3 × Fits p.2 × Fits p.3

-- their text
abbrev pub lost_of_text : Bool × Bool × ℕ × ℕ → Bytes
lost_of_text p = lost_text p.0 p.1 p.2 p.3

-- what the remote queries of a batch met, behind its word
abbrev pub met_list : List Met → Bytes
met_list met = codes " met" ++ flat_map met_text met

-- what both caches did with an answer
abbrev pub caches_text : Kept × Kept → Bytes
caches_text p = codes " clever " ++ kept_word p.0 ++ codes " literal " ++ kept_word p.1

-- an entry that a report can show
abbrev pub IsShown : Entry → Type 0
IsShown e = IsSizedEntry e × IsEntry e

-- an entry with its line's end
abbrev pub ended_text : Entry → Bytes
ended_text e = entry_text e ++ 10 ∷ []

-- the place before an entry, whatever stands for it
abbrev pub place_text : ℕ → Unit {0} → Bytes
place_text place u = decimal place ++ 32 ∷ []

-- a journal of so many entries
abbrev pub IsJournal : ℕ → JournalOf → Type 0
IsJournal n j = Many IsShown n j.entries

-- its entries' lines, from place 1 on
abbrev pub journal_text : JournalOf → Bytes
journal_text j = entries_text 1 j.entries

-- why a query isn't valid, with its line's end
abbrev pub reason_text : Invalid → Bytes
reason_text reason = invalid_word reason ++ 10 ∷ []

-- an answer that a report can show
abbrev pub IsAnswer : ZoneResult → Type 0
IsAnswer (zone.Rows table) = AllByRecursion IsSizedRow (arc_value table)
IsAnswer (zone.Invalid reason) = ⊥
IsAnswer zone.BackEnd = ⊥
IsAnswer zone.Memory = ⊥

-- how many steps, and each of them
abbrev pub steps_counted : List StepResult → Bytes
steps_counted rs = counted_line (codes " steps ") (length rs) ++ steps_text 1 rs

-- how many lanes and entries there are
abbrev pub AreSizes : ℕ × ℕ → Type 0
AreSizes p = Fits p.0 × Fits p.1

-- the head that tells them
abbrev pub sizes_text : ℕ × ℕ → Bytes
sizes_text p = head_text p.0 p.1

-- a journal and results of so many lanes and entries
abbrev pub IsBody : ℕ → ℕ → Parsed → Type 0
IsBody lanes entries p = IsJournal entries p.journal × Many IsSizedLane lanes p.results

-- their text, behind the head
abbrev pub body_text : Parsed → Bytes
body_text p = journal_text p.journal ++ lanes_text 1 p.results

-- what reading a whole report answers
abbrev pub ReadAs : Bytes → Result Parsed TextFault → Type 0
ReadAs bytes (Ok p) = IsSized p.journal.entries p.results × (report_text p.journal.entries p.results ≡ bytes)
ReadAs bytes (Err text.NotInGrammar) = RefusedAs bytes fault.NotReport
ReadAs bytes (Err text.Memory) = Unit {0}

-- The text of a report.
use Rattle.std.specs.Prelude.{ℕ, ◌+◌, Bool, true, false, List, [], ◌∷◌, ◌++◌, length, Option, Some, None, codes}
use Rattle.std.specs.List.{flat_map}
use Rattle.std.specs.Fmt.{decimal, signed_decimal}
use Rattle.std.specs.Arc.{arc_value}
use Rattle.dq_base.specs.Ratios.{Fraction, count_of}
use Rattle.dq_base.specs.Spelling.{Bytes, spelled}
use Rattle.dq_base.specs.declared.cell.Cell.{Cell}
use Rattle.dq_base.specs.declared.cell.Cell.TheVariants as cell
use Rattle.dq_base.specs.declared.invalid.Invalid.{Invalid}
use Rattle.dq_base.specs.declared.invalid.Invalid.TheVariants as invalid
use Rattle.dq_base.specs.declared.kept.Kept.{Kept}
use Rattle.dq_base.specs.declared.kept.Kept.TheVariants as kept
use Rattle.dq_journal.specs.declared.entry.Met.{Met}
use Rattle.dq_journal.specs.declared.entry.Met.TheVariants.{Hit, Literal, Join, Group}
use Rattle.dq_journal.specs.declared.entry.Cause.{Cause}
use Rattle.dq_journal.specs.declared.entry.Cause.TheVariants as cause
use Rattle.dq_journal.specs.declared.entry.Entry.{Entry}
use Rattle.dq_journal.specs.declared.entry.Entry.TheVariants.{Publish, Admit, Lease, Give, Lose, Land, Fall, Take, End}
use Rattle.dq_journal.specs.declared.result.ZoneResult.{ZoneResult}
use Rattle.dq_journal.specs.declared.result.ZoneResult.TheVariants as zone
use Rattle.dq_journal.specs.declared.result.StepResult.{StepResult}
use Rattle.dq_journal.specs.declared.result.StepResult.TheVariants as step

-- a sum, a stroke, and how many were added
abbrev pub ratio_text : Fraction → Bytes
ratio_text r = signed_decimal r.sum ++ 47 ∷ [] ++ decimal (count_of r)

abbrev pub cell_text : Cell → Bytes
cell_text cell.Null = codes "null"
cell_text (cell.Whole n) = signed_decimal n
cell_text (cell.Word text) = spelled text
cell_text (cell.Ratio r) = ratio_text r

abbrev pub spaced_cell : Cell → Bytes
spaced_cell c = 32 ∷ [] ++ cell_text c

-- the cells with one space between them
abbrev pub cells_text : List Cell → Bytes
cells_text [] = []
cells_text (c ∷ cs) = cell_text c ++ flat_map spaced_cell cs

abbrev pub row_text : List Cell → Bytes
row_text cells = cells_text cells ++ 10 ∷ []

abbrev pub table_text : List (List Cell) → Bytes
table_text rows = codes " rows " ++ decimal (length rows) ++ 10 ∷ [] ++ flat_map row_text rows

abbrev pub met_text : Met → Bytes
met_text (Hit flight) = codes " hit " ++ decimal flight
met_text (Literal flight) = codes " literal " ++ decimal flight
met_text (Join flight) = codes " join " ++ decimal flight
met_text (Group flight) = codes " group " ++ decimal flight

abbrev pub kept_word : Kept → Bytes
kept_word kept.Kept = codes "kept"
kept_word kept.Topped = codes "topped"
kept_word kept.TooLarge = codes "large"
kept_word kept.Stale = codes "stale"
kept_word kept.Memory = codes "memory"

abbrev pub cause_text : Cause → Bytes
cause_text cause.BackEnd = codes " backend"
cause_text cause.Memory = codes " memory"

abbrev pub ran_word : Bool → Bytes
ran_word true = codes " ran"
ran_word false = codes " unran"

abbrev pub fresh_word : Bool → Bytes
fresh_word true = codes " fresh"
fresh_word false = codes " idle"

abbrev pub step_of_lane : ℕ → ℕ → Bytes
step_of_lane lane step = codes " lane " ++ decimal lane ++ codes " step " ++ decimal step

abbrev pub flight_of_lane : ℕ → ℕ → Bytes
flight_of_lane lane flight = codes " lane " ++ decimal lane ++ codes " flight " ++ decimal flight

abbrev pub counts_text : Bool → ℕ → ℕ → Bytes
counts_text ran runs calls = ran_word ran ++ codes " runs " ++ decimal runs ++ codes " calls " ++ decimal calls

abbrev pub lost_text : Bool → Bool → ℕ → ℕ → Bytes
lost_text true ran runs calls = codes " dialled" ++ counts_text ran runs calls
lost_text false ran runs calls = codes " undialled"

abbrev pub taken_text : Option ℕ → Bytes
taken_text None = codes " landed"
taken_text (Some next) = codes " fallen " ++ decimal next

abbrev pub admit_text : ℕ → ℕ → List Met → Bytes
admit_text lane step met = codes "admit" ++ step_of_lane lane step ++ codes " met" ++ flat_map met_text met

-- what was done with a link
abbrev pub linked_text : Bytes → ℕ → ℕ → ℕ → Bytes
linked_text word lane flight link = word ++ flight_of_lane lane flight ++ codes " link " ++ decimal link

abbrev pub land_text : ℕ → ℕ → ℕ → Kept → Kept → Bytes
land_text lane flight cells clever literal =
    codes "land" ++ flight_of_lane lane flight ++ codes " cells " ++ decimal cells ++ codes " clever " ++ kept_word clever ++ codes " literal " ++ kept_word literal

abbrev pub entry_text : Entry → Bytes
entry_text (Publish lane step) = codes "publish" ++ step_of_lane lane step
entry_text (Admit lane step met) = admit_text lane step met
entry_text (Lease lane flight link fresh) = linked_text (codes "lease") lane flight link ++ fresh_word fresh
entry_text (Give lane flight link ran runs calls) = linked_text (codes "give") lane flight link ++ counts_text ran runs calls
entry_text (Lose lane flight link dialled ran runs calls) = linked_text (codes "lose") lane flight link ++ lost_text dialled ran runs calls
entry_text (Land lane flight cells clever literal) = land_text lane flight cells clever literal
entry_text (Fall lane flight cause) = codes "fall" ++ flight_of_lane lane flight ++ cause_text cause
entry_text (Take lane flight next) = codes "take" ++ flight_of_lane lane flight ++ taken_text next
entry_text (End lane) = codes "end lane " ++ decimal lane

-- an entry behind its place
abbrev pub line_text : ℕ → Entry → Bytes
line_text place e = decimal place ++ 32 ∷ [] ++ entry_text e ++ 10 ∷ []

-- a line for each entry, from this place on
abbrev pub entries_text : ℕ → List Entry → Bytes
entries_text place [] = []
entries_text place (e ∷ es) = line_text place e ++ entries_text (place + 1) es

abbrev pub invalid_word : Invalid → Bytes
invalid_word invalid.Source = codes "source"
invalid_word invalid.Column = codes "column"
invalid_word invalid.RepeatedDim = codes "repeated"
invalid_word invalid.WrongSort = codes "sort"
invalid_word invalid.NothingShown = codes "shown"
invalid_word invalid.OrderKey = codes "order"
invalid_word invalid.TooLong = codes "long"

abbrev pub refusal_text : Invalid → Bytes
refusal_text reason = codes " invalid " ++ invalid_word reason ++ 10 ∷ []

abbrev pub outcome_text : ZoneResult → Bytes
outcome_text (zone.Rows table) = table_text (arc_value table)
outcome_text (zone.Invalid reason) = refusal_text reason
outcome_text zone.BackEnd = codes " backend\n"
outcome_text zone.Memory = codes " memory\n"

abbrev pub zone_text : ℕ → ZoneResult → Bytes
zone_text number z = codes "zone " ++ decimal number ++ outcome_text z

-- the zones from this number on
abbrev pub zones_text : ℕ → List ZoneResult → Bytes
zones_text number [] = []
zones_text number (z ∷ zs) = zone_text number z ++ zones_text (number + 1) zs

-- how many zones, and each of them
abbrev pub batch_text : List ZoneResult → Bytes
batch_text zones = codes " zones " ++ decimal (length zones) ++ 10 ∷ [] ++ zones_text 1 zones

abbrev pub result_text : StepResult → Bytes
result_text (step.Published place) = codes " published " ++ decimal place ++ 10 ∷ []
result_text step.Unpublished = codes " refused memory\n"
result_text (step.Admitted place zones) = codes " admitted " ++ decimal place ++ batch_text zones
result_text (step.Unadmitted zones) = codes " refused memory" ++ batch_text zones

abbrev pub step_text : ℕ → StepResult → Bytes
step_text number r = codes "step " ++ decimal number ++ result_text r

-- the steps from this number on
abbrev pub steps_text : ℕ → List StepResult → Bytes
steps_text number [] = []
steps_text number (r ∷ rs) = step_text number r ++ steps_text (number + 1) rs

-- how many steps, and each of them
abbrev pub lane_text : ℕ → List StepResult → Bytes
lane_text number rs = codes "lane " ++ decimal number ++ (codes " steps " ++ decimal (length rs)) ++ 10 ∷ [] ++ steps_text 1 rs

-- the lanes from this number on
abbrev pub lanes_text : ℕ → List (List StepResult) → Bytes
lanes_text number [] = []
lanes_text number (rs ∷ lanes) = lane_text number rs ++ lanes_text (number + 1) lanes

-- a line of words and a number
abbrev pub counted_line : Bytes → ℕ → Bytes
counted_line words number = words ++ decimal number ++ 10 ∷ []

-- how many lanes and entries there are
abbrev pub head_text : ℕ → ℕ → Bytes
head_text lanes entries = codes "report 1\n" ++ counted_line (codes "lanes ") lanes ++ counted_line (codes "entries ") entries

-- the report on a journal and the lanes' results
abbrev pub report_text : List Entry → List (List StepResult) → Bytes
report_text journal results = head_text (length results) (length journal) ++ entries_text 1 journal ++ lanes_text 1 results

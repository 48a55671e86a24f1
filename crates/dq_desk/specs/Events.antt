-- What is asked of a lane that comes to the desk, and what the desk answers.
use Rattle.std.specs.Prelude.{◌≡◌, ℕ, ◌+◌, Bool, ◌&&◌, List, [], ◌∷◌, length, Option, Some, None, IfSome}
use Rattle.std.specs.Arc.{arc_value}
use Rattle.dq_base.specs.Answers.{answer}
use Rattle.dq_base.specs.Scripts.{is_lane}
use Rattle.dq_base.specs.Spelling.{Bytes}
use Rattle.dq_base.specs.declared.cell.Cell.{Cell}
use Rattle.dq_journal.specs.declared.entry.Entry.{Entry}
use Rattle.dq_journal.specs.declared.entry.Entry.TheVariants.{Take}
use Rattle.dq_machine.specs.Landing.{cells_of, has_run}
use Rattle.dq_machine.specs.Leasing.{may_lease}
use Rattle.dq_machine.specs.Publishing.{rows_at}
use Rattle.dq_machine.specs.State.{Running, Landed, Fallen, Flown, Publication, State, Work, is_first, none_left, work_of}
use Rattle.dq_machine.specs.Taking.{is_first_join}
use Rattle.dq_text.specs.Statements.{body}
use Rattle.dq_desk.specs.declared.taking.Taken.{Taken}
use Rattle.dq_desk.specs.declared.taking.Taken.TheVariants as taken

-- the lane is one of the script
abbrev pub is_there : State → ℕ → Bool
is_there s lane = is_lane (length s.works) lane

-- the flight is the lane's first own one, and has no link
abbrev pub leases : Work → ℕ → Bool
leases w flight = is_first w.own flight && may_lease w.phase

abbrev pub may_lease_now : State → ℕ → ℕ → Bool
may_lease_now s lane flight = is_there s lane && leases (work_of s lane) flight

-- the flight is the lane's first own one, and its statement was run
abbrev pub lands : Work → ℕ → Bool
lands w flight = is_first w.own flight && has_run w.phase

abbrev pub may_land_now : State → ℕ → ℕ → Bool
may_land_now s lane flight = is_there s lane && lands (work_of s lane) flight

-- the lane has no own flight left, and the flight is that of its first join
abbrev pub looks : Work → ℕ → Bool
looks w flight = none_left w.own && is_first_join w.joins flight

abbrev pub may_look_now : State → ℕ → ℕ → Bool
may_look_now s lane flight = is_there s lane && looks (work_of s lane) flight

-- the table is the flight's answer
abbrev pub IsAnswer : List Publication → Option Flown → List (List Cell) → Type 0
IsAnswer versions None table = ⊥
IsAnswer versions (Some f) table = table ≡ answer f.key (rows_at versions f.stamp)

-- the text is that of the flight's query
abbrev pub IsBody : Option Flown → Bytes → Type 0
IsBody None text = ⊥
IsBody (Some f) text = text ≡ body f.key

abbrev pub cells_landed : List Publication → Option Flown → ℕ
cells_landed versions None = 0
cells_landed versions (Some f) = cells_of versions f

-- a look at a flight

-- the entry that it makes, if it does
abbrev pub taken_entries : ℕ → ℕ → Taken → List Entry
taken_entries lane flight taken.Running = []
taken_entries lane flight (taken.Landed share) = Take lane flight None ∷ []
taken_entries lane flight (taken.Fallen number) = Take lane flight (Some number) ∷ []

-- what is told is the flight's course
abbrev pub LooksAs : State → Option Flown → Taken → Type 0
LooksAs s None told = ⊥
LooksAs s (Some f) taken.Running = f.course ≡ Running
LooksAs s (Some f) (taken.Landed share) = (f.course ≡ Landed) × IfSome share (λ both. (arc_value both.0 ≡ f.key) × (arc_value both.1 ≡ answer f.key (rows_at s.versions f.stamp)))
LooksAs s (Some f) (taken.Fallen number) = (f.course ≡ Fallen) × (number ≡ s.flights.started + 1)

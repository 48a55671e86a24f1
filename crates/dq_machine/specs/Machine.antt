-- The list machine: which entries may follow each other in a journal, and what each leaves.
use Rattle.std.specs.Prelude.{◌≡◌, ℕ, ◌+◌, ◌-◌, Bool, true, false, ◌&&◌, nat_eq, nat_lt, List, [], ◌∷◌, drop, length, slice_set, Option}
use Rattle.std.specs.Cmp.Lexicographic.{pointwise}
use Rattle.dq_base.specs.Scripts.{is_lane, step_of}
use Rattle.dq_extract.specs.Loads.{LoadedFiles}
use Rattle.dq_journal.specs.Journals.{lane_of}
use Rattle.dq_journal.specs.declared.entry.Met.{Met}
use Rattle.dq_journal.specs.declared.entry.Entry.{Entry}
use Rattle.dq_journal.specs.declared.entry.Entry.TheVariants.{Publish, Admit, Lease, Give, Lose, Land, Fall, Take, End}
use Rattle.dq_machine.specs.Admitting.{Admission, admission_of, flights_admitted, is_batch, met_eq, numbers_from}
use Rattle.dq_machine.specs.Landing.{ended, has_run, may_fall, may_land_at, shelves_landed}
use Rattle.dq_machine.specs.Leasing.{is_next, leased, links_given, links_leased, lost, may_give, may_lease, may_lose}
use Rattle.dq_machine.specs.Publishing.{is_publish, shelves_after, versions_published}
use Rattle.dq_machine.specs.State.{Flights, Landed, Fallen, Links, Publication, Shelves, State, New, Given, Work, flight_at, is_first, is_free, start, work_of}
use Rattle.dq_machine.specs.Taking.{flights_taken, may_take, work_taken}

-- which entry may come

-- the lane is free, and the step is a later one
abbrev pub may_begin : Work → ℕ → Bool
may_begin w number = is_free w && nat_lt w.last number

abbrev pub may_publish : LoadedFiles → Work → ℕ → ℕ → Bool
may_publish l w lane number = may_begin w number && is_publish (step_of l.script.lanes lane number)

abbrev pub may_admit : LoadedFiles → State → Work → ℕ → ℕ → List Met → Bool
may_admit l s w lane number met =
    may_begin w number && is_batch (step_of l.script.lanes lane number) && pointwise met_eq (admission_of l s lane number).met met

-- of a lane of the script that has this work
abbrev pub may : LoadedFiles → State → Work → Entry → Bool
may l s w (Publish lane number) = may_publish l w lane number
may l s w (Admit lane number met) = may_admit l s w lane number met
may l s w (Lease lane flight link fresh) = is_first w.own flight && may_lease w.phase && is_next s.links.idle s.links.fresh link fresh
may l s w (Give lane flight link ran runs calls) = is_first w.own flight && may_give w.phase (flight_at s flight) link ran runs calls
may l s w (Lose lane flight link dialled ran runs calls) = is_first w.own flight && may_lose w.phase (flight_at s flight) link dialled ran runs calls
may l s w (Land lane flight cells clever literal) =
    is_first w.own flight && has_run w.phase && may_land_at l s.versions (flight_at s flight) cells clever literal
may l s w (Fall lane flight cause) = is_first w.own flight && may_fall w.phase cause
may l s w (Take lane flight next) = may_take s w flight next
may l s w (End lane) = is_free w

-- the entry may come in the state
abbrev pub allowed : LoadedFiles → State → Entry → Bool
allowed l s e = is_lane (length s.works) (lane_of e) && may l s (work_of s (lane_of e)) e

-- what it leaves, part by part; what isn't named stays

abbrev pub versions_by : LoadedFiles → State → Entry → List Publication
versions_by l s (Publish lane number) = versions_published l s.versions lane number
versions_by l s (Admit lane number met) = s.versions
versions_by l s (Lease lane flight link fresh) = s.versions
versions_by l s (Give lane flight link ran runs calls) = s.versions
versions_by l s (Lose lane flight link dialled ran runs calls) = s.versions
versions_by l s (Land lane flight cells clever literal) = s.versions
versions_by l s (Fall lane flight cause) = s.versions
versions_by l s (Take lane flight next) = s.versions
versions_by l s (End lane) = s.versions

-- the lane's first flight leaves its work
abbrev pub work_ended : Work → Work
work_ended w = record w { own = drop 1 w.own; phase = New 0 }

abbrev pub work_admitted : State → Work → ℕ → Admission → Work
work_admitted s w number a =
    record w { last = number; own = numbers_from (s.flights.started + 1) a.groups; joins = a.joins; phase = New 0 }

abbrev pub work_by : LoadedFiles → State → Work → Entry → Work
work_by l s w (Publish lane number) = record w { last = number }
work_by l s w (Admit lane number met) = work_admitted s w number (admission_of l s lane number)
work_by l s w (Lease lane flight link fresh) = record w { phase = leased w.phase link s.links.idle }
work_by l s w (Give lane flight link ran runs calls) = record w { phase = Given ran }
work_by l s w (Lose lane flight link dialled ran runs calls) = record w { phase = lost w.phase }
work_by l s w (Land lane flight cells clever literal) = work_ended w
work_by l s w (Fall lane flight cause) = work_ended w
work_by l s w (Take lane flight next) = work_taken w next
work_by l s w (End lane) = record w { ended = true }

abbrev pub shelves_by : LoadedFiles → State → Entry → Shelves
shelves_by l s (Publish lane number) = shelves_after s.shelves (step_of l.script.lanes lane number)
shelves_by l s (Admit lane number met) = (admission_of l s lane number).shelves
shelves_by l s (Lease lane flight link fresh) = s.shelves
shelves_by l s (Give lane flight link ran runs calls) = s.shelves
shelves_by l s (Lose lane flight link dialled ran runs calls) = s.shelves
shelves_by l s (Land lane flight cells clever literal) = shelves_landed l (flight_at s flight) cells clever literal s.shelves
shelves_by l s (Fall lane flight cause) = s.shelves
shelves_by l s (Take lane flight next) = s.shelves
shelves_by l s (End lane) = s.shelves

abbrev pub flights_by : LoadedFiles → State → Work → Entry → Flights
flights_by l s w (Publish lane number) = s.flights
flights_by l s w (Admit lane number met) = flights_admitted s.versions s.flights lane (admission_of l s lane number)
flights_by l s w (Lease lane flight link fresh) = s.flights
flights_by l s w (Give lane flight link ran runs calls) = s.flights
flights_by l s w (Lose lane flight link dialled ran runs calls) = s.flights
flights_by l s w (Land lane flight cells clever literal) = record s.flights { flown = ended Landed flight s.flights.flown }
flights_by l s w (Fall lane flight cause) = record s.flights { flown = ended Fallen flight s.flights.flown }
flights_by l s w (Take lane flight next) = flights_taken s.flights lane flight w.joins next
flights_by l s w (End lane) = s.flights

abbrev pub links_by : State → Work → Entry → Links
links_by s w (Publish lane number) = s.links
links_by s w (Admit lane number met) = s.links
links_by s w (Lease lane flight link fresh) = links_leased s.links
links_by s w (Give lane flight link ran runs calls) = links_given s.links w.phase (flight_at s flight) ran runs calls
links_by s w (Lose lane flight link dialled ran runs calls) = s.links
links_by s w (Land lane flight cells clever literal) = s.links
links_by s w (Fall lane flight cause) = s.links
links_by s w (Take lane flight next) = s.links
links_by s w (End lane) = s.links

abbrev pub next_by : LoadedFiles → State → Work → Entry → State
next_by l s w e = record {
  versions = versions_by l s e;
  works = slice_set s.works (lane_of e - 1) (work_by l s w e);
  shelves = shelves_by l s e;
  flights = flights_by l s w e;
  links = links_by s w e;
}

-- the state after an entry
abbrev pub next : LoadedFiles → State → Entry → State
next l s e = next_by l s (work_of s (lane_of e)) e

abbrev pub run : LoadedFiles → State → List Entry → State
run l s [] = s
run l s (e ∷ entries) = run l (next l s e) entries

abbrev pub legal_from : LoadedFiles → State → List Entry → Bool
legal_from l s [] = true
legal_from l s (e ∷ entries) = allowed l s e && legal_from l (next l s e) entries

-- the state after a journal
unfoldable pub after : LoadedFiles → List Entry → State
after l journal = run l (start l) journal

-- each entry of the journal may come in the state that those before it leave
unfoldable pub legal : LoadedFiles → List Entry → Bool
legal l journal = legal_from l (start l) journal

-- the machine comes to the state by some legal journal
pub record IsReached (l : LoadedFiles) (s : State) : Type 0 where
  pub journal : List Entry
  pub legal : legal l journal ≡ true
  pub after : after l journal ≡ s

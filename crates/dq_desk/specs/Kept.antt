-- What the desk keeps.
use Rattle.std.specs.List.{AllByRecursion}
use Rattle.std.specs.Prelude.{◌≡◌, ℕ, ◌+◌, ◌≤◌, true, List, map, length}
use Rattle.dq_base.specs.Answers.{answer}
use Rattle.dq_base.specs.Versions.{Version}
use Rattle.dq_base.specs.declared.query.Query.{Query}
use Rattle.dq_cache.specs.Entries.{BodiedOf, CleverOf, EntryOf, LiteralOf}
use Rattle.dq_extract.specs.Loads.{LoadedFiles, IsLoaded}
use Rattle.dq_flight.specs.Flights.{Course as Told, FlightOf, FlightsOf}
use Rattle.dq_flight.specs.Flights as flights
use Rattle.dq_journal.specs.declared.entry.Entry.{Entry}
use Rattle.dq_link.specs.Views.{LostLink, PooledLink}
use Rattle.dq_machine.specs.Latest.{AreLatest}
use Rattle.dq_machine.specs.Machine.{after, legal}
use Rattle.dq_machine.specs.Publishing.{rows_at}
use Rattle.dq_machine.specs.Refreshing.{AreStanding}
use Rattle.dq_machine.specs.State.{Course, Running, Landed, Fallen, Flights, Flown, Joined, Publication, Shelved, Shelves, State, Work}
use Rattle.dq_text.specs.Sizes.{IsSizedQuery}
use Rattle.dq_text.specs.Statements.{body}
use Rattle.dq_desk.specs.Links.{AreLinks, AreWrecks, losses}
use Rattle.dq_trial.specs.Links.{LinkTells}
use Rattle.dq_desk.specs.Roomed.{Roomed}
use Rattle.dq_laws.specs.Room.{owed}

-- what was loaded, and what happened
pub record DeskOf : Type 0 where
  pub loaded : LoadedFiles
  pub journal : List Entry

-- what a desk keeps beside the journal
pub record Inner (L : Type 0) : Type 0 where
  pub spare : ℕ
  pub owed : ℕ
  pub published : ℕ
  pub stamps : List ℕ
  pub stands : List Version
  pub joins : List (List Joined)
  pub clever : CleverOf
  pub literal : LiteralOf
  pub flights : FlightsOf
  pub started : ℕ
  pub idle : Roomed (PooledLink L)
  pub fresh : ℕ
  pub wrecks : Roomed (LostLink L)

-- answers in caches

abbrev pub shelved_of : EntryOf → Shelved
shelved_of e = record { flight = e.flight; stamp = e.stamp; key = e.key; weight = e.weight }

abbrev pub shelved_in : BodiedOf → Shelved
shelved_in b = shelved_of b.entry

-- the table is the answer over the version of its stamp, which was published
pub record IsTable (versions : List Publication) (e : EntryOf) : Type 0 where
  pub stamp : e.stamp ≤ length versions
  pub table : e.table ≡ answer e.key (rows_at versions e.stamp)

-- and it is found by the text of its query
pub record IsBodied (versions : List Publication) (b : BodiedOf) : Type 0 where
  pub table : IsTable versions b.entry
  pub body : b.body ≡ body b.entry.key
  pub sized : IsSizedQuery b.entry.key

-- flights

abbrev pub course_of : Told → Course
course_of flights.Running = Running
course_of (flights.Landed table) = Landed
course_of flights.Fallen = Fallen

abbrev pub flown_of : FlightOf → Flown
flown_of f = record { number = f.number; lane = f.lane; stamp = f.stamp; key = f.key; course = course_of f.course; joiners = f.joiners }

-- the table that landed is the answer over the version of the flight's stamp
abbrev pub IsLandedAs : List Publication → ℕ → Query → Told → Type 0
IsLandedAs versions stamp key flights.Running = Unit {0}
IsLandedAs versions stamp key (flights.Landed table) = table ≡ answer key (rows_at versions stamp)
IsLandedAs versions stamp key flights.Fallen = Unit {0}

pub record IsFlight (versions : List Publication) (f : FlightOf) : Type 0 where
  pub stamp : f.stamp ≤ length versions
  pub table : IsLandedAs versions f.stamp f.key f.course
  pub sized : IsSizedQuery f.key

-- all that the desk keeps is that of the machine's state

pub record IsShelved (l : LoadedFiles) (versions : List Publication) (shelves : Shelves) (answers : CleverOf) (texts : LiteralOf) : Type 0 where
  pub clever : map shelved_of answers.entries ≡ shelves.clever
  pub clever_bound : answers.bound ≡ l.script.clever
  pub clever_tables : AllByRecursion (IsTable versions) answers.entries
  pub literal : map shelved_in texts.entries ≡ shelves.literal
  pub literal_bound : texts.bound ≡ l.script.literal
  pub literal_tables : AllByRecursion (IsBodied versions) texts.entries

pub record AreFlights (versions : List Publication) (flights : Flights) (kept : FlightsOf) (count : ℕ) : Type 0 where
  pub flown : map flown_of kept.flights ≡ flights.flown
  pub started : count ≡ flights.started
  pub each : AllByRecursion (IsFlight versions) kept.flights

pub record AreVersions (l : LoadedFiles) (versions : List Publication) (count : ℕ) (latest : List ℕ) (extracts : List Version) : Type 0 where
  pub published : count ≡ length versions
  pub stamps : AreLatest latest versions
  pub many : length latest ≡ length l.script.schemas
  pub stands : AreStanding l.script.schemas versions extracts

module _ {L : Type 0} where
  -- the room for all that is under way was taken
  pub record HasRoom (s : State) (p : Inner L) : Type 0 where
    pub owed : owed s ≤ p.owed
    pub entries : p.owed ≤ p.spare
    pub flights : p.owed ≤ p.flights.spare
    pub wrecks : p.owed ≤ p.wrecks.spare
    pub idle : length s.works ≤ length p.idle.items + p.idle.spare

  pub record Agrees (tells : LinkTells L) (l : LoadedFiles) (s : State) (p : Inner L) : Type 0 where
    pub versions : AreVersions l s.versions p.published p.stamps p.stands
    pub shelves : IsShelved l s.versions s.shelves p.clever p.literal
    pub flights : AreFlights s.versions s.flights p.flights p.started
    pub joins : p.joins ≡ map (λ (w : Work). w.joins) s.works
    pub idle : AreLinks tells l s.versions s.links.idle p.idle.items
    pub fresh : p.fresh ≡ s.links.fresh
    pub room : HasRoom s p

  pub record IsDesk (tells : LinkTells L) (l : LoadedFiles) (journal : List Entry) (p : Inner L) : Type 0 where
    pub loaded : IsLoaded l
    pub legal : legal l journal ≡ true
    pub agrees : Agrees tells l (after l journal) p
    pub wrecks : AreWrecks tells l.script.fails (losses journal) p.wrecks.items

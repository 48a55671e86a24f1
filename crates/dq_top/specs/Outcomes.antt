-- What the top call answers, by what it tells.
use Rattle.std.specs.Prelude.{◌≡◌, ◌⊎◌, ⊤, ℕ, Bool, true, false, ◌||◌, List, [], ◌+◌, Option, Some, None, IfSome, is_some, option_map, if◌then◌else◌, Result, Ok, Err}
use Rattle.std.specs.Arc.{arc_value}
use Rattle.std.specs.List.{list_any}
use Rattle.std.specs.declared.alloc.Global.{Global}
use Rattle.std.specs.declared.sync.Arc.{Arc}
use Rattle.dq_base.specs.Headings.{Heading}
use Rattle.dq_base.specs.Validity.{invalid_by}
use Rattle.dq_base.specs.declared.kept.Kept.{Kept}
use Rattle.dq_base.specs.declared.kept.Kept.TheVariants as kept
use Rattle.dq_base.specs.declared.limit.Limit.{Limit}
use Rattle.dq_base.specs.declared.limit.Limit.TheVariants as limit
use Rattle.dq_base.specs.declared.query.Query.{Query}
use Rattle.dq_base.specs.declared.script.Fails.{Fails}
use Rattle.dq_base.specs.declared.script.Script.{Script}
use Rattle.dq_base.specs.declared.script.Step.{Step}
use Rattle.dq_base.specs.declared.script.Step.TheVariants as step
use Rattle.dq_base.specs.Causes.{Rose, RoseBy}
use Rattle.dq_outside.specs.Reads.{Files}
use Rattle.dq_outside.specs.Writes.{appended, WritesPrefix}
use Rattle.dq_extract.specs.Loads.{LoadedFiles}
use Rattle.dq_journal.specs.Shown.{Shown}
use Rattle.dq_journal.specs.declared.entry.Entry.{Entry}
use Rattle.dq_journal.specs.declared.entry.Entry.TheVariants.{Publish, Admit, Lease, Give, Lose, Land, Fall, Take, End}
use Rattle.dq_journal.specs.declared.result.ZoneResult.{ZoneResult}
use Rattle.dq_journal.specs.declared.result.ZoneResult.TheVariants as zone
use Rattle.dq_journal.specs.declared.result.StepResult.{StepResult}
use Rattle.dq_journal.specs.declared.result.StepResult.TheVariants.{Published, Unpublished, Admitted, Unadmitted}
use Rattle.dq_base.specs.Limits.{cell_room}
use Rattle.dq_extract.specs.declared.fault.LoadFault.{LoadFault}
use Rattle.dq_extract.specs.declared.fault.LoadFault.TheVariants as load
use Rattle.dq_link.specs.Views.{LostLink, PooledLink}
use Rattle.dq_machine.specs.Machine.{after, legal}
use Rattle.dq_machine.specs.Right.{IsRight}
use Rattle.dq_rehearse.specs.Dialled.{AreDialled, ArePlans}
use Rattle.dq_desk.specs.Links.{AreLinks, AreWrecks, losses}
use Rattle.dq_trial.specs.Links.{LinkTells}
use Rattle.dq_script.specs.declared.fault.ScriptFault.{ScriptFault}
use Rattle.dq_script.specs.declared.fault.ScriptFault.TheVariants as script
use Rattle.dq_report.specs.declared.writing.WriteFault.{WriteFault}
use Rattle.dq_report.specs.declared.writing.WriteFault.TheVariants as write
use Rattle.dq_top.specs.Loading.{Load, Loads, Refused, loaded_of, names_read, IsAmong}
use Rattle.dq_top.specs.Telling.{fault_status}
use Rattle.dq_top.specs.declared.fault.Fault.{Fault}
use Rattle.dq_top.specs.declared.fault.Fault.TheVariants as fault

-- what was refused

-- refused for its query or for the back end
abbrev pub is_refused : ZoneResult → Bool
is_refused (zone.Rows table) = false
is_refused (zone.Invalid reason) = true
is_refused zone.BackEnd = true
is_refused zone.Memory = false

abbrev pub is_wanting : ZoneResult → Bool
is_wanting (zone.Rows table) = false
is_wanting (zone.Invalid reason) = false
is_wanting zone.BackEnd = false
is_wanting zone.Memory = true

abbrev pub step_refused : StepResult → Bool
step_refused (Published place) = false
step_refused Unpublished = false
step_refused (Admitted place zones) = list_any is_refused zones
step_refused (Unadmitted zones) = list_any is_refused zones

abbrev pub step_wanting : StepResult → Bool
step_wanting (Published place) = false
step_wanting Unpublished = true
step_wanting (Admitted place zones) = list_any is_wanting zones
step_wanting (Unadmitted zones) = true

-- some zone was refused, but not for memory
abbrev pub any_refused : List (List StepResult) → Bool
any_refused results = list_any (λ steps. list_any step_refused steps) results

-- some zone, refresh or batch was refused for memory
abbrev pub any_wanting : List (List StepResult) → Bool
any_wanting results = list_any (λ steps. list_any step_wanting steps) results

-- a keep of this answer was refused for memory
abbrev pub is_unkept : Kept → Bool
is_unkept kept.Kept = false
is_unkept kept.Topped = false
is_unkept kept.TooLarge = false
is_unkept kept.Stale = false
is_unkept kept.Memory = true

abbrev pub entry_unkept : Entry → Bool
entry_unkept (Publish lane step) = false
entry_unkept (Admit lane step met) = false
entry_unkept (Lease lane flight link fresh) = false
entry_unkept (Give lane flight link ran runs calls) = false
entry_unkept (Lose lane flight link dialled ran runs calls) = false
entry_unkept (Land lane flight cells clever literal) = is_unkept clever || is_unkept literal
entry_unkept (Fall lane flight cause) = false
entry_unkept (Take lane flight next) = false
entry_unkept (End lane) = false

-- some keep was refused for memory
abbrev pub any_unkept : List Entry → Bool
any_unkept journal = list_any entry_unkept journal

-- what isn't valid

abbrev pub is_invalid : List Heading → Query → Bool
is_invalid schemas q = is_some (invalid_by schemas q)

abbrev pub step_invalid : List Heading → Step → Bool
step_invalid schemas (step.Publish source how file) = false
step_invalid schemas (step.Batch zones) = list_any (is_invalid schemas) zones

-- some zone of the script isn't valid
abbrev pub any_invalid : Script → Bool
any_invalid script = list_any (λ steps. list_any (step_invalid script.schemas) steps) script.lanes

-- statuses

-- 0, or 1 where some zone was refused; else that of what is told
abbrev pub status_of : Option Fault → List (List StepResult) → ℕ
status_of None results = if any_refused results then 1 else 0
status_of (Some f) results = fault_status f

-- all is answered, 1 where some zone isn't valid and else 0, or memory was wanting
abbrev pub IsServed : Bool → ℕ → Type 0
IsServed invalid status = (status ≡ (if invalid then 1 else 0)) ⊎ (status ≡ 6)

-- wholeness

-- what was loaded, behind its owner
abbrev pub loaded_files : Option (Arc LoadedFiles Global) → Option LoadedFiles
loaded_files loaded = option_map arc_value loaded

-- there is something loaded where nothing, or a write, is told; nothing where a run didn't begin
abbrev pub IsWhole : Option Fault → Option LoadedFiles → Type 0
IsWhole None loaded = (l : LoadedFiles) × (loaded ≡ Some l)
IsWhole (Some fault.Usage) loaded = loaded ≡ None
IsWhole (Some (fault.Read name)) loaded = loaded ≡ None
IsWhole (Some (fault.Script name f)) loaded = loaded ≡ None
IsWhole (Some (fault.File name f)) loaded = loaded ≡ None
IsWhole (Some fault.Write) loaded = (l : LoadedFiles) × (loaded ≡ Some l)
IsWhole (Some fault.Memory) loaded = ⊤
IsWhole (Some (fault.Limit which value)) loaded = loaded ≡ None

-- where something was loaded, the journal is legal, the results are right for both, and the script's blends are shown of them;
-- else there are none
abbrev pub AreRight : Option LoadedFiles → List Entry → List (List StepResult) → List (List StepResult) → Type 0
AreRight None journal results shown = (journal ≡ []) × (results ≡ []) × (shown ≡ [])
AreRight (Some l) journal results shown = (legal l journal ≡ true) × IsRight l journal results × Shown l results shown

-- links and dialers

module _ {L : Type 0} where
  -- where something was loaded, the idle links are those of the machine behind the journal; else there are none
  abbrev pub AreIdle : LinkTells L → Option LoadedFiles → List Entry → List (PooledLink L) → Type 0
  AreIdle tells None journal idle = idle ≡ []
  AreIdle tells (Some l) journal idle = AreLinks tells l (after l journal).versions (after l journal).links.idle idle

  -- and there is one wreck for each dialled link that the journal tells to be lost
  abbrev pub AreLost : LinkTells L → Option LoadedFiles → List Entry → List (LostLink L) → Type 0
  AreLost tells None journal wrecks = wrecks ≡ []
  AreLost tells (Some l) journal wrecks = AreWrecks tells l.script.fails (losses journal) wrecks

-- and one dialer for each lane, which counted the dials that the journal tells to have failed, and has the script's plan
abbrev pub HaveDialled : Option LoadedFiles → List Entry → List ℕ → Type 0
HaveDialled None journal faults = faults ≡ []
HaveDialled (Some l) journal faults = AreDialled l journal 1 faults

abbrev pub HavePlans : Option LoadedFiles → List (Option Fails) → Type 0
HavePlans None plans = plans ≡ []
HavePlans (Some l) plans = ArePlans l 1 plans

-- what is written

-- after want of memory: nothing where nothing was loaded, else a prefix
abbrev pub WritesSome : Option (List ℕ) → Option (List ℕ) → List ℕ → Option LoadedFiles → Type 0
WritesSome before now report None = now ≡ before
WritesSome before now report (Some l) = WritesPrefix before now report

-- what a told sink holds
abbrev pub Writes : Option (List ℕ) → Option (List ℕ) → List ℕ → Option LoadedFiles → Option Fault → Type 0
Writes before now report loaded None = now ≡ appended before report
Writes before now report loaded (Some fault.Usage) = now ≡ before
Writes before now report loaded (Some (fault.Read name)) = now ≡ before
Writes before now report loaded (Some (fault.Script name f)) = now ≡ before
Writes before now report loaded (Some (fault.File name f)) = now ≡ before
Writes before now report loaded (Some fault.Write) = WritesPrefix before now report
Writes before now report loaded (Some fault.Memory) = WritesSome before now report loaded
Writes before now report loaded (Some (fault.Limit which value)) = now ≡ before

-- answers and their causes

-- where the files are told, the answer is that of loading them, or a name that is read, or want of memory
abbrev pub AnswersFiles : Files → List ℕ → Option Fault → Type 0
AnswersFiles files name None = (l : LoadedFiles) × (loaded_of files name ≡ Loads l)
AnswersFiles files name (Some fault.Usage) = ⊥
AnswersFiles files name (Some (fault.Read n)) = IsAmong n (names_read files name)
AnswersFiles files name (Some (fault.Script n f)) = loaded_of files name ≡ Refused (fault.Script n f)
AnswersFiles files name (Some (fault.File n f)) = loaded_of files name ≡ Refused (fault.File n f)
AnswersFiles files name (Some fault.Write) = (l : LoadedFiles) × (loaded_of files name ≡ Loads l)
AnswersFiles files name (Some fault.Memory) = ⊤
AnswersFiles files name (Some (fault.Limit which value)) = loaded_of files name ≡ Refused (fault.Limit which value)

-- a fault of reading comes only where the folder's count rose, and names its last fault
abbrev pub ReadCause : ℕ → ℕ → Option (List ℕ) → Option Fault → Type 0
ReadCause before now last None = ⊤
ReadCause before now last (Some fault.Usage) = ⊤
ReadCause before now last (Some (fault.Read name)) = Rose before now × IfSome last (λ n. n ≡ name)
ReadCause before now last (Some (fault.Script name f)) = ⊤
ReadCause before now last (Some (fault.File name f)) = ⊤
ReadCause before now last (Some fault.Write) = ⊤
ReadCause before now last (Some fault.Memory) = ⊤
ReadCause before now last (Some (fault.Limit which value)) = ⊤

-- a limit on bytes is passed only where the folder took more in the call
abbrev pub LimitCause : ℕ → ℕ → Limit → ℕ → Type 0
LimitCause before now limit.ScriptBytes value = RoseBy (value + 1) before now
LimitCause before now limit.FileBytes value = RoseBy (value + 1) before now
LimitCause before now limit.AllBytes value = RoseBy (value + 1) before now
LimitCause before now limit.ReportBytes value = RoseBy (value + 1) before now
LimitCause before now which value = ⊤

abbrev pub TakenCause : ℕ → ℕ → Option Fault → Type 0
TakenCause before now (Some (fault.Limit which value)) = LimitCause before now which value
TakenCause before now told = ⊤

-- nothing was asked of the folder or of the sink where the words are refused, and nothing of the sink where a run didn't begin
abbrev pub IsUntouched : {F S : Type 0} → Option Fault → F → F → S → S → Type 0
IsUntouched (Some fault.Usage) folder asked sink wrote = (asked ≡ folder) × (wrote ≡ sink)
IsUntouched (Some (fault.Read name)) folder asked sink wrote = wrote ≡ sink
IsUntouched (Some (fault.Script name f)) folder asked sink wrote = wrote ≡ sink
IsUntouched (Some (fault.File name f)) folder asked sink wrote = wrote ≡ sink
IsUntouched (Some (fault.Limit which value)) folder asked sink wrote = wrote ≡ sink
IsUntouched told folder asked sink wrote = ⊤

-- parts of the run

-- an answer of loading, where the files are told
abbrev pub AnswersLoad : {A : Type 0} → Load A → (List ℕ → Type 0) → Result A Fault → Type 0
AnswersLoad want IsRead (Ok x) = want ≡ Loads x
AnswersLoad want IsRead (Err fault.Usage) = ⊥
AnswersLoad want IsRead (Err (fault.Read name)) = IsRead name
AnswersLoad want IsRead (Err (fault.Script name f)) = want ≡ Refused (fault.Script name f)
AnswersLoad want IsRead (Err (fault.File name f)) = want ≡ Refused (fault.File name f)
AnswersLoad want IsRead (Err fault.Write) = ⊥
AnswersLoad want IsRead (Err fault.Memory) = ⊤
AnswersLoad want IsRead (Err (fault.Limit which value)) = want ≡ Refused (fault.Limit which value)

-- this fault, or want of memory
abbrev pub IsFault : Fault → Fault → Type 0
IsFault want fault.Memory = ⊤
IsFault want told = told ≡ want

-- the fault of a script by its reader's, or want of memory
abbrev pub TellsScript : List ℕ → ScriptFault → Fault → Type 0
TellsScript name script.NotJson told = IsFault (fault.Script name script.NotJson) told
TellsScript name (script.Shape path) told = IsFault (fault.Script name (script.Shape path)) told
TellsScript name (script.Limit which value) told = IsFault (fault.Limit which value) told
TellsScript name (script.UnknownExtract path) told = IsFault (fault.Script name (script.UnknownExtract path)) told
TellsScript name (script.UnknownLane path) told = IsFault (fault.Script name (script.UnknownLane path)) told
TellsScript name script.Memory told = told ≡ fault.Memory

-- the fault of a file by its loader's, or want of memory
abbrev pub TellsRows : List ℕ → LoadFault → Fault → Type 0
TellsRows name load.Header told = IsFault (fault.File name load.Header) told
TellsRows name (load.Width row) told = IsFault (fault.File name (load.Width row)) told
TellsRows name (load.Number row column) told = IsFault (fault.File name (load.Number row column)) told
TellsRows name (load.NotText row column) told = IsFault (fault.File name (load.NotText row column)) told
TellsRows name load.TooManyCells told = IsFault (fault.Limit limit.Cells cell_room) told
TellsRows name load.Memory told = told ≡ fault.Memory

-- a fault that loading may answer
abbrev pub IsOfLoading : Fault → Type 0
IsOfLoading fault.Usage = ⊥
IsOfLoading fault.Write = ⊥
IsOfLoading f = ⊤

-- what may be told once all is loaded
abbrev pub IsOfPlay : Option Fault → Type 0
IsOfPlay None = ⊤
IsOfPlay (Some fault.Write) = ⊤
IsOfPlay (Some fault.Memory) = ⊤
IsOfPlay (Some f) = ⊥

-- what is told of a write, where the results want memory or don't
abbrev pub told_of_write : Bool → Result ⊤ WriteFault → Option Fault
told_of_write wanting (Ok u) = if wanting then Some fault.Memory else None
told_of_write wanting (Err write.Failed) = Some fault.Write
told_of_write wanting (Err write.Memory) = Some fault.Memory

-- What the call that judges a report answers.
use Rattle.std.specs.Prelude.{◌≡◌, ◌⊎◌, ⊤, ℕ, List, [], ◌∷◌, ◌++◌, nat_lt, length, codes, ◌&&◌, Option, Some, None, IfSome, Result, if◌then◌else◌}
use Rattle.std.specs.Fmt.{decimal}
use Rattle.std.specs.Str.{bytes_eq}
use Rattle.dq_base.specs.Limits.{report_room}
use Rattle.dq_base.specs.declared.limit.Limit.TheVariants as limit
use Rattle.dq_check.specs.Reports.{Judged}
use Rattle.dq_check.specs.declared.verdict.Verdict.{Verdict}
use Rattle.dq_check.specs.declared.verdict.Verdict.TheVariants.{Lawful, NotReport, Disorder, Illegal, Wrong}
use Rattle.dq_extract.specs.Loads.{LoadedFiles}
use Rattle.dq_outside.specs.Reads.{Files}
use Rattle.dq_outside.specs.Writes.{appended, WritesPrefix}
use Rattle.dq_top.specs.Loading.{Load, Loads, Missing, Refused, IsAmong, loaded_of, names_after, names_read, then_load}
use Rattle.dq_top.specs.Outcomes.{AnswersLoad}
use Rattle.dq_top.specs.Telling.{fault_status}
use Rattle.dq_top.specs.Words.{is_name}
use Rattle.dq_top.specs.declared.fault.Fault.{Fault}
use Rattle.dq_top.specs.declared.fault.Fault.TheVariants as fault

-- the words

-- the names of a script and of a report
pub record Names : Type 0 where
  pub script : List ℕ
  pub report : List ℕ

-- where the words are `check` and two names
abbrev pub check_names : List (List ℕ) → Option Names
check_names [] = None
check_names (w ∷ []) = None
check_names (w ∷ s ∷ []) = None
check_names (w ∷ s ∷ r ∷ []) = if bytes_eq w (codes "check") && is_name s && is_name r then Some (record { script = s; report = r }) else None
check_names (w ∷ s ∷ r ∷ x ∷ xs) = None

-- what is judged

-- a report's bytes
abbrev pub report_in : List ℕ → Option (List ℕ) → Load (List ℕ)
report_in name None = Missing name
report_in name (Some bytes) = if nat_lt report_room (length bytes) then Refused (fault.Limit limit.ReportBytes report_room) else Loads bytes

-- what was loaded, and the bytes of a report on it
pub record InputsOf : Type 0 where
  pub loaded : LoadedFiles
  pub report : List ℕ

-- the script and its files, and then the report
abbrev pub inputs_of : Files → Names → Load InputsOf
inputs_of files names =
    then_load (loaded_of files names.script) (λ l.
    then_load (report_in names.report (files names.report)) (λ bytes. Loads (record { loaded = l; report = bytes })))

-- the names that are read: the script's, those of its files, and the report's where they load
abbrev pub check_reads : Files → Names → List (List ℕ)
check_reads files names = names_read files names.script ++ names_after (loaded_of files names.script) (λ l. names.report ∷ [])

-- the verdict on what was loaded
abbrev pub HasVerdict : Load InputsOf → Verdict → Type 0
HasVerdict (Loads inputs) v = Judged inputs.loaded inputs.report v
HasVerdict (Missing name) v = ⊤
HasVerdict (Refused f) v = ⊤

-- where the files are told, the verdict is that on what they load to
abbrev pub IsOfFiles : Option Files → Option Names → Verdict → Type 0
IsOfFiles held named v = IfSome held (λ files. IfSome named (λ names. HasVerdict (inputs_of files names) v))

-- answers

abbrev pub step_text : ℕ → ℕ → List ℕ
step_text lane step = (codes "unlawful zone " ++ decimal lane) ++ (codes " " ++ decimal step)

abbrev pub zone_text : ℕ → List ℕ
zone_text zone = (codes " " ++ decimal zone) ++ 10 ∷ []

abbrev pub entry_text : ℕ → List ℕ
entry_text place = (codes "unlawful entry " ++ decimal place) ++ 10 ∷ []

abbrev pub verdict_line : Verdict → List ℕ
verdict_line Lawful = codes "lawful\n"
verdict_line NotReport = codes "unlawful report\n"
verdict_line Disorder = codes "unlawful order\n"
verdict_line (Illegal place) = entry_text place
verdict_line (Wrong lane step zone) = step_text lane step ++ zone_text zone

-- 0 for a lawful report and 1 for another
abbrev pub verdict_status : Option Verdict → ℕ
verdict_status None = 0
verdict_status (Some Lawful) = 0
verdict_status (Some NotReport) = 1
verdict_status (Some Disorder) = 1
verdict_status (Some (Illegal place)) = 1
verdict_status (Some (Wrong lane step zone)) = 1

abbrev pub checked_status : Option Fault → Option Verdict → ℕ
checked_status None v = verdict_status v
checked_status (Some f) v = fault_status f

-- what was loaded and its verdict are there where nothing, or a write, is told, and else neither is
abbrev pub AreThere : Option LoadedFiles → Option Verdict → Type 0
AreThere None v = ⊥
AreThere (Some l) None = ⊥
AreThere (Some l) (Some v) = ⊤

abbrev pub IsChecked : Option Fault → Option LoadedFiles → Option Verdict → Type 0
IsChecked None loaded v = AreThere loaded v
IsChecked (Some fault.Usage) loaded v = (loaded ≡ None) × (v ≡ None)
IsChecked (Some (fault.Read name)) loaded v = (loaded ≡ None) × (v ≡ None)
IsChecked (Some (fault.Script name f)) loaded v = (loaded ≡ None) × (v ≡ None)
IsChecked (Some (fault.File name f)) loaded v = (loaded ≡ None) × (v ≡ None)
IsChecked (Some fault.Write) loaded v = AreThere loaded v
IsChecked (Some fault.Memory) loaded v = (loaded ≡ None) × (v ≡ None)
IsChecked (Some (fault.Limit which value)) loaded v = (loaded ≡ None) × (v ≡ None)

-- what a told sink holds: the verdict's line, or a prefix of it; after want of memory one of some verdict that it may be, or nothing

abbrev pub WritesLine : Option (List ℕ) → Option (List ℕ) → Option Verdict → Type 0
WritesLine before now None = ⊥
WritesLine before now (Some v) = now ≡ appended before (verdict_line v)

abbrev pub WritesPart : Option (List ℕ) → Option (List ℕ) → Option Verdict → Type 0
WritesPart before now None = ⊥
WritesPart before now (Some v) = WritesPrefix before now (verdict_line v)

pub record WritesSome (IsOf : Verdict → Type 0) (before now : Option (List ℕ)) : Type 0 where
  pub verdict : Verdict
  pub is : IsOf verdict
  pub part : WritesPrefix before now (verdict_line verdict)

abbrev pub WritesVerdict : (Verdict → Type 0) → Option (List ℕ) → Option (List ℕ) → Option Fault → Option Verdict → Type 0
WritesVerdict IsOf before now None v = WritesLine before now v
WritesVerdict IsOf before now (Some fault.Usage) v = now ≡ before
WritesVerdict IsOf before now (Some (fault.Read name)) v = now ≡ before
WritesVerdict IsOf before now (Some (fault.Script name f)) v = now ≡ before
WritesVerdict IsOf before now (Some (fault.File name f)) v = now ≡ before
WritesVerdict IsOf before now (Some fault.Write) v = WritesPart before now v
WritesVerdict IsOf before now (Some fault.Memory) v = (now ≡ before) ⊎ WritesSome IsOf before now
WritesVerdict IsOf before now (Some (fault.Limit which value)) v = now ≡ before

abbrev pub DoesLoad : {A : Type 0} → Load A → Type 0
DoesLoad (Loads x) = ⊤
DoesLoad (Missing name) = ⊥
DoesLoad (Refused f) = ⊥

-- where the files are told, the answer is that of loading them, or a name that is read, or want of memory
abbrev pub AnswersCheck : Files → Names → Option Fault → Type 0
AnswersCheck files names None = DoesLoad (inputs_of files names)
AnswersCheck files names (Some fault.Usage) = ⊥
AnswersCheck files names (Some (fault.Read n)) = IsAmong n (check_reads files names)
AnswersCheck files names (Some (fault.Script n f)) = inputs_of files names ≡ Refused (fault.Script n f)
AnswersCheck files names (Some (fault.File n f)) = inputs_of files names ≡ Refused (fault.File n f)
AnswersCheck files names (Some fault.Write) = DoesLoad (inputs_of files names)
AnswersCheck files names (Some fault.Memory) = ⊤
AnswersCheck files names (Some (fault.Limit which value)) = inputs_of files names ≡ Refused (fault.Limit which value)

-- the status is that of the verdict, or memory was wanting
pub record IsServedBy (l : LoadedFiles) (report : List ℕ) (status : ℕ) : Type 0 where
  pub verdict : Verdict
  pub judged : Judged l report verdict
  pub status_is : status ≡ verdict_status (Some verdict)

abbrev pub IsCheckServed : InputsOf → ℕ → Type 0
IsCheckServed inputs status = IsServedBy inputs.loaded inputs.report status ⊎ (status ≡ 6)

-- what was loaded is what the files load to
abbrev pub LoadsTo : Load InputsOf → LoadedFiles → Type 0
LoadsTo (Loads inputs) l = inputs.loaded ≡ l
LoadsTo (Missing name) l = ⊥
LoadsTo (Refused f) l = ⊥

-- parts of the call

-- what was loaded and read, where the files are told, or what is told of it
abbrev pub AnswersInputs : Files → Names → Result InputsOf Fault → Type 0
AnswersInputs files names result = AnswersLoad (inputs_of files names) (λ n. IsAmong n (check_reads files names)) result

-- What the files that a folder holds load to.
use Rattle.std.specs.Prelude.{◌≡◌, ◌⊎◌, ℕ, ◌-◌, List, [], ◌∷◌, length, min, nat_lt, slice_get, Option, Some, None, Result, Ok, Err, if◌then◌else◌}
use Rattle.std.specs.List.{flat_map}
use Rattle.dq_base.specs.Headings.{Heading}
use Rattle.dq_base.specs.Limits.{script_room, file_room, all_room, cell_room}
use Rattle.dq_base.specs.Sessions.{shielded}
use Rattle.dq_base.specs.Versions.{Version, cells_of}
use Rattle.dq_base.specs.declared.limit.Limit.TheVariants as limit
use Rattle.dq_base.specs.declared.script.Script.{Script}
use Rattle.dq_base.specs.declared.script.Step.{Step}
use Rattle.dq_base.specs.declared.script.Step.TheVariants.{Publish, Batch}
use Rattle.dq_base.specs.declared.value.Value.{Value}
use Rattle.dq_outside.specs.Reads.{Files}
use Rattle.dq_extract.specs.Loads.{LoadedFiles}
use Rattle.dq_extract.specs.Rows.{RowFault, Header, Width, TooManyCells, Number, NotText, rows_of}
use Rattle.dq_extract.specs.declared.fault.LoadFault.TheVariants as load
use Rattle.dq_script.specs.Reasons.{ScriptReason, not_json, shape, over, unknown_extract, unknown_lane}
use Rattle.dq_script.specs.Scripts.{script_of}
use Rattle.dq_script.specs.declared.fault.ScriptFault.TheVariants as script
use Rattle.dq_top.specs.declared.fault.Fault.{Fault}
use Rattle.dq_top.specs.declared.fault.Fault.TheVariants as fault

-- what is loaded, or the first name that isn't held, or the first fault of what is held
pub data Load (A : Type 0) : Type 0 where
  Loads : A → Load A
  Missing : List ℕ → Load A
  Refused : Fault → Load A

abbrev pub then_load : {A B : Type 0} → Load A → (A → Load B) → Load B
then_load (Loads x) more = more x
then_load (Missing name) more = Missing name
then_load (Refused f) more = Refused f

-- the script

-- why a file's bytes are no script
abbrev pub script_fault : List ℕ → ScriptReason → Fault
script_fault name not_json = fault.Script name script.NotJson
script_fault name (shape path) = fault.Script name (script.Shape path)
script_fault name (over which value) = fault.Limit which value
script_fault name (unknown_extract path) = fault.Script name (script.UnknownExtract path)
script_fault name (unknown_lane path) = fault.Script name (script.UnknownLane path)

abbrev pub script_or_fault : List ℕ → Result Script ScriptReason → Load Script
script_or_fault name (Err reason) = Refused (script_fault name reason)
script_or_fault name (Ok script) = Loads script

abbrev pub script_in : List ℕ → Option (List ℕ) → Load Script
script_in name None = Missing name
script_in name (Some bytes) =
    if nat_lt script_room (length bytes) then Refused (fault.Limit limit.ScriptBytes script_room) else script_or_fault name (script_of bytes)

-- the files of publish steps

-- what a publish step reads: a file, under a heading
pub record Publication : Type 0 where
  pub heading : Heading
  pub file : List ℕ

abbrev pub publication_under : List ℕ → Option Heading → List Publication
publication_under file None = []
publication_under file (Some heading) = record { heading = heading; file = file } ∷ []

abbrev pub publication_in : List Heading → Step → List Publication
publication_in schemas (Publish source how file) = publication_under file (slice_get schemas source)
publication_in schemas (Batch zones) = []

-- what the publish steps read, in order of lanes and steps
abbrev pub publications : Script → List Publication
publications script = flat_map (λ steps. flat_map (publication_in script.schemas) steps) script.lanes

-- why a file's bytes are no rows
abbrev pub file_fault : List ℕ → RowFault → Fault
file_fault name Header = fault.File name load.Header
file_fault name (Width row) = fault.File name (load.Width row)
file_fault name TooManyCells = fault.Limit limit.Cells cell_room
file_fault name (Number row column) = fault.File name (load.Number row column)
file_fault name (NotText row column) = fault.File name (load.NotText row column)

abbrev pub version_of : Publication → Result (List (List Value)) RowFault → Load Version
version_of p (Ok rows) = Loads (record { heading = p.heading; rows = rows })
version_of p (Err f) = Refused (file_fault p.file f)

-- the limit that a file passes for which so many bytes are left
abbrev pub bytes_fault : ℕ → Fault
bytes_fault left = if nat_lt left file_room then fault.Limit limit.AllBytes all_room else fault.Limit limit.FileBytes file_room

-- a file's rows, where so many bytes and cells are left
abbrev pub version_in : Publication → ℕ → ℕ → Option (List ℕ) → Load Version
version_in p left cells None = Missing p.file
version_in p left cells (Some bytes) = if nat_lt (min left file_room) (length bytes) then Refused (bytes_fault left) else version_of p (rows_of p.heading cells bytes)

abbrev pub bytes_in : Option (List ℕ) → ℕ
bytes_in None = 0
bytes_in (Some bytes) = length bytes

-- the rows of the files in order, where so many bytes and cells are left
abbrev pub versions_in : Files → ℕ → ℕ → List Publication → Load (List Version)
versions_in files left cells [] = Loads []
versions_in files left cells (p ∷ ps) =
    then_load (version_in p left cells (files p.file)) (λ v.
    then_load (versions_in files (left - bytes_in (files p.file)) (cells - cells_of v) ps) (λ vs. Loads (v ∷ vs)))

-- the whole

-- the files of a script that is shielded already
abbrev pub files_of : Files → Script → Load LoadedFiles
files_of files script = then_load (versions_in files all_room cell_room (publications script)) (λ vs. Loads (record { script = script; segments = vs }))

-- what the script of that name and its files load to: each zone asks of what its lane's session leaves
abbrev pub loaded_of : Files → List ℕ → Load LoadedFiles
loaded_of files name = then_load (script_in name (files name)) (λ script. files_of files (shielded script))

abbrev pub names_after : {A : Type 0} → Load A → (A → List (List ℕ)) → List (List ℕ)
names_after (Loads x) more = more x
names_after (Missing name) more = []
names_after (Refused f) more = []

-- the files that are read, up to and with the one of the first fault
abbrev pub files_read : Files → ℕ → ℕ → List Publication → List (List ℕ)
files_read files left cells [] = []
files_read files left cells (p ∷ ps) =
    p.file ∷ names_after (version_in p left cells (files p.file)) (λ v. files_read files (left - bytes_in (files p.file)) (cells - cells_of v) ps)

-- the names that are read: the script's, and then those of its files
abbrev pub names_read : Files → List ℕ → List (List ℕ)
names_read files name =
    name ∷ names_after (script_in name (files name)) (λ script. files_read files all_room cell_room (publications (shielded script)))

-- the name is one of these
abbrev pub IsAmong : List ℕ → List (List ℕ) → Type 0
IsAmong name [] = ⊥
IsAmong name (n ∷ ns) = (name ≡ n) ⊎ IsAmong name ns

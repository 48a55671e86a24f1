-- How faults are told: a status, and a line.
use Rattle.std.specs.Prelude.{ℕ, List, ◌++◌, codes}
use Rattle.std.specs.Fmt.{decimal}
use Rattle.dq_base.specs.Limits.{cell_room}
use Rattle.dq_base.specs.declared.limit.Limit.{Limit}
use Rattle.dq_base.specs.declared.limit.Limit.TheVariants as limit
use Rattle.dq_extract.specs.declared.fault.LoadFault.{LoadFault}
use Rattle.dq_extract.specs.declared.fault.LoadFault.TheVariants as load
use Rattle.dq_script.specs.declared.fault.ScriptFault.{ScriptFault}
use Rattle.dq_script.specs.declared.fault.ScriptFault.TheVariants as script
use Rattle.dq_top.specs.declared.fault.Fault.{Fault}
use Rattle.dq_top.specs.declared.fault.Fault.TheVariants as fault

-- statuses

abbrev pub script_status : ScriptFault → ℕ
script_status script.NotJson = 4
script_status (script.Shape path) = 4
script_status (script.Limit which value) = 7
script_status (script.UnknownExtract path) = 4
script_status (script.UnknownLane path) = 4
script_status script.Memory = 6

abbrev pub file_status : LoadFault → ℕ
file_status load.Header = 4
file_status (load.Width row) = 4
file_status (load.Number row column) = 4
file_status (load.NotText row column) = 4
file_status load.TooManyCells = 7
file_status load.Memory = 6

abbrev pub fault_status : Fault → ℕ
fault_status fault.Usage = 2
fault_status (fault.Read name) = 3
fault_status (fault.Script name f) = script_status f
fault_status (fault.File name f) = file_status f
fault_status fault.Write = 5
fault_status fault.Memory = 6
fault_status (fault.Limit which value) = 7

-- lines

abbrev pub limit_name : Limit → List ℕ
limit_name limit.ScriptBytes = codes "script bytes"
limit_name limit.Extracts = codes "extracts"
limit_name limit.Columns = codes "columns"
limit_name limit.Lanes = codes "lanes"
limit_name limit.Steps = codes "steps"
limit_name limit.Zones = codes "zones"
limit_name limit.AllZones = codes "all zones"
limit_name limit.Turns = codes "turns"
limit_name limit.Faults = codes "faults"
limit_name limit.Capacity = codes "capacity"
limit_name limit.SessionItems = codes "session items"
limit_name limit.FileBytes = codes "file bytes"
limit_name limit.AllBytes = codes "all bytes"
limit_name limit.Cells = codes "cells"
limit_name limit.ReportBytes = codes "report bytes"

abbrev pub limit_line : Limit → ℕ → List ℕ
limit_line which value = codes "dashboards: limit " ++ limit_name which ++ codes " " ++ decimal value

abbrev pub memory_line : List ℕ
memory_line = codes "dashboards: out of memory"

abbrev pub of_file : List ℕ → List ℕ → List ℕ
of_file name what = codes "dashboards: " ++ name ++ what

abbrev pub script_line : List ℕ → ScriptFault → List ℕ
script_line name script.NotJson = of_file name (codes ": not json")
script_line name (script.Shape path) = of_file name (codes ": shape ") ++ path
script_line name (script.Limit which value) = limit_line which value
script_line name (script.UnknownExtract path) = of_file name (codes ": unknown extract ") ++ path
script_line name (script.UnknownLane path) = of_file name (codes ": unknown lane ") ++ path
script_line name script.Memory = memory_line

abbrev pub file_line : List ℕ → LoadFault → List ℕ
file_line name load.Header = of_file name (codes ": header")
file_line name (load.Width row) = of_file name (codes ": width ") ++ decimal row
file_line name (load.Number row column) = of_file name (codes ": number ") ++ decimal row ++ (codes " " ++ decimal column)
file_line name (load.NotText row column) = of_file name (codes ": not text ") ++ decimal row ++ (codes " " ++ decimal column)
file_line name load.TooManyCells = limit_line limit.Cells cell_room
file_line name load.Memory = memory_line

-- the line that tells a fault
abbrev pub fault_line : Fault → List ℕ
fault_line fault.Usage = codes "dashboards: usage"
fault_line (fault.Read name) = codes "dashboards: cannot read " ++ name
fault_line (fault.Script name f) = script_line name f
fault_line (fault.File name f) = file_line name f
fault_line fault.Write = codes "dashboards: cannot write"
fault_line fault.Memory = memory_line
fault_line (fault.Limit which value) = limit_line which value

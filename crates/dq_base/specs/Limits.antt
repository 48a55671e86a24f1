-- The numbers of the limits.
use Rattle.std.specs.Prelude.{ℕ}

-- bytes: of the script, of one other file, and of all of these together
abbrev pub script_room : ℕ
script_room = 16777216

abbrev pub file_room : ℕ
file_room = 67108864

abbrev pub all_room : ℕ
all_room = 268435456

-- bytes of a report that is judged
abbrev pub report_room : ℕ
report_room = 268435456

-- cells of all loaded rows
abbrev pub cell_room : ℕ
cell_room = 8388608

abbrev pub most_extracts : ℕ
most_extracts = 64

-- columns of one extract
abbrev pub most_columns : ℕ
most_columns = 64

abbrev pub most_lanes : ℕ
most_lanes = 64

-- steps of one lane
abbrev pub most_steps : ℕ
most_steps = 4096

-- zones of one batch, and of all batches
abbrev pub most_zones : ℕ
most_zones = 64

abbrev pub most_all_zones : ℕ
most_all_zones = 65536

-- items of the schedule
abbrev pub most_turns : ℕ
most_turns = 1048576

-- items of one list of calls that are wanted to fail
abbrev pub most_faults : ℕ
most_faults = 4096

-- entries of a cache that is bounded by entries, and cells of one that is bounded by cells
abbrev pub most_entries : ℕ
most_entries = 4096

abbrev pub most_bound_cells : ℕ
most_bound_cells = 4194304

-- items of one session's filters
abbrev pub most_session_items : ℕ
most_session_items = 256

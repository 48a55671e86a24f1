-- How long a legal journal can be.
use Rattle.std.specs.Prelude.{ℕ, ◌+◌, ◌*◌, List, length, sum_by}
use Rattle.dq_base.specs.Limits.{most_all_zones, most_lanes, most_steps}
use Rattle.dq_base.specs.Scripts.{zones_count}
use Rattle.dq_base.specs.declared.script.Step.{Step}
use Rattle.dq_laws.specs.Room.{owed_join}

-- for the lanes of a script: one entry for each step, six for each zone, and each lane's end
abbrev pub entries_for : List (List Step) → ℕ
entries_for lanes = sum_by length lanes + owed_join * zones_count lanes + length lanes

-- for each script
abbrev pub most_entries_of_journal : ℕ
most_entries_of_journal = most_lanes * most_steps + owed_join * most_all_zones + most_lanes

use Rattle.std.proofs.Common.{◌≡◌, ◌≤◌, ◌-◌, ℕ, take}
use Rattle.dq_base.specs.Causes.{RoseBy}
use Rattle.dq_base.specs.Limits.{all_room}
use Rattle.dq_base.specs.Scripts.{source_in}
use Rattle.dq_top.specs.Loading.{publication_in}
use Rattle.dq_top.specs.Progress.{IsWithin}
use Rattle.dq_top.proofs.Reached.{Reached}
use Rattle.dq_top.proofs.loading.load_lane.Given as goal

abbrev pub invariant-loop-step : goal.invariant-loop-step
invariant-loop-step g l =
    (g.F.Folder.files l.folder ≡ g.F.Folder.files l.fn.folder) × (g.F.Folder.faults l.fn.folder ≤ g.F.Folder.faults l.folder) × IsWithin l.so_far
    × Reached (publication_in l.schemas) source_in l.schemas (g.F.Folder.files l.fn.folder) l.fn.progress (take l.step-index l.steps) l.so_far
    × ((start : ℕ) → RoseBy (all_room - l.fn.progress.left) start (g.F.Folder.taken l.fn.folder) → RoseBy (all_room - l.so_far.left) start (g.F.Folder.taken l.folder))
    × (g.F.Folder.taken l.fn.folder ≤ g.F.Folder.taken l.folder)

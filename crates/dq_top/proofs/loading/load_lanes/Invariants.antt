use Rattle.std.proofs.Common.{◌≡◌, ◌≤◌, ◌-◌, ℕ, take}
use Rattle.dq_base.specs.Causes.{RoseBy}
use Rattle.dq_base.specs.Limits.{all_room}
use Rattle.dq_base.specs.Scripts.{source_in}
use Rattle.dq_top.specs.Loading.{publication_in}
use Rattle.std.specs.List.{flat_map}
use Rattle.dq_top.specs.Progress.{IsWithin}
use Rattle.dq_top.proofs.Behind.{nothing}
use Rattle.dq_top.proofs.Reached.{Reached}
use Rattle.dq_top.proofs.loading.load_lanes.Given as goal

abbrev pub invariant-loop-steps : goal.invariant-loop-steps
invariant-loop-steps g l =
    (g.F.Folder.files l.folder ≡ g.F.Folder.files l.fn.folder) × (g.F.Folder.faults l.fn.folder ≤ g.F.Folder.faults l.folder) × IsWithin l.so_far
    × Reached (λ steps. flat_map (publication_in l.schemas) steps) (λ steps. flat_map source_in steps) l.schemas (g.F.Folder.files l.fn.folder) nothing (take l.steps-index l.lanes) l.so_far
    × ((start : ℕ) → start ≤ g.F.Folder.taken l.fn.folder → RoseBy (all_room - l.so_far.left) start (g.F.Folder.taken l.folder))
    × (g.F.Folder.taken l.fn.folder ≤ g.F.Folder.taken l.folder)

use Rattle.std.proofs.Common.{◌≡◌, ◌+◌, ◌≤◌, List, length, map, take}
use Rattle.std.specs.Arc.{arc_value}
use Rattle.std.specs.List.{AllByRecursion}
use Rattle.dq_base.specs.Headings.{Heading}
use Rattle.dq_machine.specs.Latest.{AreLatest}
use Rattle.dq_machine.specs.State.{Flown, Publication}
use Rattle.dq_desk.specs.Handed.{AreHandedOut, IsSound, IsSoundBodied, looked_in}
use Rattle.dq_desk.proofs.handing.hand_out_all.Given as goal

abbrev pub invariant-loop-place : goal.invariant-loop-place
invariant-loop-place l = record {
  handed : (schemas : List Heading) (versions : List Publication) (flown : List Flown) → AreLatest l.stamps versions
      → AllByRecursion (IsSound schemas versions) l.initial.clever.entries → AllByRecursion (IsSoundBodied schemas versions) l.initial.literal.entries
      → AreHandedOut schemas versions (map arc_value (take l.place l.q-items)) (looked_in flown versions l.initial.clever l.initial.literal (map arc_value (take l.place l.q-items)))
      l.initial.clever l.clever l.initial.literal l.literal l.otherwise l.met.items l.held.items;
  again : l.again.items ≡ l.met.items;
  items : map arc_value l.q-items ≡ l.queries;
  met_room : length l.queries ≤ l.met.spare + l.place;
  again_room : length l.queries ≤ l.again.spare + l.place;
  held_room : length l.queries ≤ l.held.spare + l.place;
}

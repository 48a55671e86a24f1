use Rattle.std.proofs.Common.{◌≡◌, map, take}
use Rattle.std.specs.Arc.{arc_value}
use Rattle.std.specs.List.{enumerate_from}
use Rattle.dq_fuse.specs.Gathered.{gathered, kinds_of}
use Rattle.dq_fuse.proofs.fusing.gather.Given as goal

abbrev pub invariant-loop-place : goal.invariant-loop-place
invariant-loop-place l = record {
  list : l.list.items ≡ gathered (enumerate_from 0 (map arc_value (take l.place l.owner-items)));
  kinds : l.kinds.keys ≡ kinds_of l.list.items;
  items : map arc_value l.owner-items ≡ l.misses;
}

use Rattle.std.proofs.Common.{◌≡◌, take}
use Rattle.dq_base.specs.Blends.{blend_of}
use Rattle.dq_blend.proofs.blending.blend.Given as goal

abbrev pub invariant-loop-row : goal.invariant-loop-row
invariant-loop-row l = (l.table ≡ blend_of (take l.row-index l.first) l.second l.links l.measures) × (l.row-items ≡ l.first)

use Rattle.std.proofs.Common.{arith, length, ap}
use Rattle.dq_extract.proofs.Chunks.{length-in_chunks}
use Rattle.dq_extract.proofs.segments.SegmentList.len.Goals as goal

pub returns : goal.returns
returns c =
    omega (arith, c.len.ensures, c.len-2.ensures, length-in_chunks c.self.inside.whole c.self.inside.last c.self.invariant, ap length c.self.view_is)

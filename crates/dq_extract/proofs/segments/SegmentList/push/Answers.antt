use Rattle.std.proofs.Common.{arith, ◌≡◌, length}
use Rattle.std.specs.Arc.{arc_value}
use Rattle.dq_extract.proofs.Chunks.{AreChunks-closed}
use Rattle.dq_extract.proofs.segments.SegmentList.push.Goals as goal

pub invariant_of-self-2 : goal.invariant_of-self-2
invariant_of-self-2 c =
    let closed = c.close_chunk.ensures in
    let full : length c.self.inside.last ≡ 512 = omega (arith, c.self.invariant.open_one, c.len.ensures) in
    AreChunks-closed c.close_chunk.result c.self.inside.whole c.close_chunk.new.whole c.self.inside.last c.close_chunk.new.last (arc_value c.args.owner)
    c.self.invariant full closed.whole closed.last closed.few closed.same closed.same_last

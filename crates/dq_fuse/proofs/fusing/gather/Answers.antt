use Rattle.std.proofs.Common.{◌<◌, ap, ◌∙◌, arith, length, sym}
use Rattle.std.specs.Arc.{arc_value}
use Rattle.dq_fuse.specs.Gathered.{gathered_with}
use Rattle.dq_fuse.proofs.Grouping.{gathered_more}
use Rattle.dq_fuse.proofs.fusing.gather.Goals as goal

pub loop-place-preserved : goal.loop-place-preserved
loop-place-preserved c =
    let i = c.loop-place.place in
    let items = c.as_slice-owner-items.result.now in
    let x = c.owner-item.result in
    let lt : i < length items = omega arith in
    record {
      list = c.in_ok-enter.ensures.list
          ∙ ap (λ n. gathered_with c.loop-place.list.items (n, arc_value x)) c.in-Ok.ensures.1
          ∙ ap (λ gs. gathered_with gs (i, arc_value x)) c.loop-place.invariant.list
          ∙ sym (gathered_more arc_value items i x lt c.owner-item.is);
      kinds = c.in_ok-enter.ensures.kinds;
      items = c.loop-place.invariant.items;
    }

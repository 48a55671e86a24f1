use Rattle.std.proofs.Common.{◌≡◌, ap, ◌∙◌, map, length, arith, sym}
use Rattle.std.proofs.lemmas.Iterator.Adapters.{YieldsList-from_vec}
use Rattle.std.proofs.lemmas.Iterator.Consumers.{YieldsList-end}
use Rattle.dq_fuse.specs.Gathered.{group_of}
use Rattle.dq_fuse.proofs.Grouping.{gathers, mapped_self}
use Rattle.dq_fuse.proofs.fusing.fuse.Goals as goal

pub returns : goal.returns
returns c =
    let given = c.into_iter-gathering-iterator.ensures.into_iter_gives in
    let v = c.in_ok-gathering-items.gathering-items in
    let len : c.into_iter-gathering-iterator.result.rest.len ≡ length v.items = omega (arith, given.1, v.ok.0) in
    let all = YieldsList-end (YieldsList-from_vec {s = c.into_iter-gathering-iterator.result} c.in_ok-gathering-items.gathering-items.items given.0 len) c.loop-gathering.yielded c.loop-gathering.gathering-iterator c.loop-gathering.yielded_by c.next.result c.next.new.self c.in-None.is c.next.ensures.steps in
    record { groups = c.loop-gathering.invariant ∙ ap (map group_of) (sym (mapped_self c.loop-gathering.yielded) ∙ all.0) ∙ ap (map group_of) c.in_ok-gathering-items.ensures ∙ gathers c.args.misses.now }

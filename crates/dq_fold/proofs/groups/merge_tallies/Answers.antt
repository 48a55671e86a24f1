use Rattle.std.proofs.Common.{◌≡◌, ◌<◌, length, get_or, ap, ◌∙◌, arith}
use Rattle.dq_fold.proofs.Merged.{merge_next, merge_place, merge_small}
use Rattle.dq_fold.proofs.groups.merge_tallies.Goals as goal

pub item_mut-requires : goal.item_mut-requires
item_mut-requires c =
    let lt : c.loop-place.place < length c.args.others.now = omega (arith, ap length c.as_slice-other-items.ensures) in
    merge_place c.args.tallies.now c.args.others.now c.loop-place.tallies c.loop-place.place c.requires lt c.loop-place.invariant.0

pub merge-requires : goal.merge-requires
merge-requires c =
    let lt : c.loop-place.place < length c.args.others.now = omega (arith, ap length c.as_slice-other-items.ensures) in
    let there : c.other-item.result ≡ get_or c.args.others.now c.loop-place.place c.other-item.result =
    c.other-item.is ∙ ap (λ us. get_or us c.loop-place.place c.other-item.result) c.as_slice-other-items.ensures in
    merge_small c.args.tallies.now c.args.others.now c.loop-place.tallies c.loop-place.place c.item_mut.result.now c.other-item.result c.requires lt c.loop-place.invariant.0 there c.item_mut.ensures.value

pub loop-place-preserved : goal.loop-place-preserved
loop-place-preserved c =
    let lt : c.loop-place.place < length c.args.others.now = omega (arith, ap length c.as_slice-other-items.ensures) in
    let there : c.other-item.result ≡ get_or c.args.others.now c.loop-place.place c.other-item.result =
    c.other-item.is ∙ ap (λ us. get_or us c.loop-place.place c.other-item.result) c.as_slice-other-items.ensures in (
      merge_next c.args.tallies.now c.args.others.now c.loop-place.tallies c.loop-place.place c.item_mut.result.now c.other-item.result c.merge.new.self c.requires lt c.loop-place.invariant.0 there c.item_mut.ensures.value c.in_ok-merge.ensures,
      c.loop-place.invariant.1,
    )

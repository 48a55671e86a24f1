use Rattle.std.proofs.Common.{rules, ◌≡◌}
use Rattle.dq_fold.specs.Folding.{merged_groups}
use Rattle.dq_fold.specs.Placed.{entries_at}
use Rattle.dq_fold.proofs.Placed.{merge_start, merge_step}
use Rattle.dq_fold.proofs.groups.merge_groups.Goals as goal

pub loop-key-init : goal.loop-key-init
loop-key-init c =
    let view : entries_at c.others.inside.slots c.into_iter-key-iterator.result ≡ c.args.others = search rules in
    merge_start c.args.groups.now c.args.others c.others.inside.slots c.into_iter-key-iterator.result view c.requires (search rules) (search rules)

pub loop-key-preserved : goal.loop-key-preserved
loop-key-preserved c =
    merge_step c.loop-key.rest c.take_at-tallies.new.slots c.in-Some.key c.in-Some.place c.next.new.self c.loop-key.key-iterator c.take_at-tallies.result c.loop-key.groups c.merge_group.new.groups
    (merged_groups c.args.groups.now c.args.others) (search rules) c.take_at-tallies.ensures.taken c.take_at-tallies.ensures.rest c.in_ok-merge_group.ensures c.loop-key.invariant

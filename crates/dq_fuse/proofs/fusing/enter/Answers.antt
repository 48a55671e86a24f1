use Rattle.std.proofs.Common.{ap, ◌∙◌}
use Rattle.std.specs.Arc.{arc_value}
use Rattle.dq_fuse.specs.Gathered.{Gathered, joined}
use Rattle.dq_fuse.proofs.Grouping.{entered_new, entered_old, entered_keys}
use Rattle.dq_fuse.proofs.fusing.enter.Goals as goal

pub returns-then-new-clause-list : goal.returns-then-new-clause-list
returns-then-new-clause-list c =
    let gs = c.args.list.now.items in
    c.in_ok-push.ensures.items ∙
    entered_new gs c.args.kinds.now.keys c.in_ok-of.field-0 (c.args.place, arc_value c.args.owner.now) c.in_ok-index.new _ c.requires c.in_ok-of.ensures c.in_ok-index.ensures.added c.if-new.true c.in_ok-alone.ensures

pub returns-then-new-clause-kinds : goal.returns-then-new-clause-kinds
returns-then-new-clause-kinds c =
    entered_keys c.args.list.now.items _ c.args.kinds.now.keys _ c.in_ok-of.field-0 (c.args.place, arc_value c.args.owner.now) c.requires c.in_ok-of.ensures c.in_ok-index.ensures.keys (returns-then-new-clause-list c)

pub returns-clause-list : goal.returns-clause-list
returns-clause-list c =
    let gs = c.args.list.now.items in
    entered_old gs c.args.kinds.now.keys c.in_ok-of.field-0 (c.args.place, arc_value c.args.owner.now) c.in_ok-index.new c.in_ok-index.index c.index_mut.result.now _ c.requires c.in_ok-of.ensures c.in_ok-index.ensures.added c.if-new.false c.in_ok-index.ensures.index
    (c.in_ok-join.ensures ∙ ap (λ (g : Gathered). joined g (c.args.place, arc_value c.args.owner.now)) c.index_mut.ensures.value)

pub returns-clause-kinds : goal.returns-clause-kinds
returns-clause-kinds c =
    entered_keys c.args.list.now.items _ c.args.kinds.now.keys _ c.in_ok-of.field-0 (c.args.place, arc_value c.args.owner.now) c.requires c.in_ok-of.ensures c.in_ok-index.ensures.keys (returns-clause-list c)

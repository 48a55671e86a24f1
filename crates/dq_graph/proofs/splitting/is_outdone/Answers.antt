use Rattle.std.proofs.Common.{◌≡◌, ◌<◌, ◌≤◌, ◌+◌, drop, map, length, ap, ◌∙◌, sym, arith}
use Rattle.std.specs.Arc.{arc_value}
use Rattle.std.specs.List.{enumerate_from}
use Rattle.dq_base.specs.Batches.{outdone_by}
use Rattle.dq_base.specs.declared.query.Query.{Query}
use Rattle.dq_graph.proofs.Walking.{drop_at, drop_end, any_here, any_on, any_end}
use Rattle.dq_graph.proofs.splitting.is_outdone.Goals as goal

pub returns-then-outdoes : goal.returns-then-outdoes
returns-then-outdoes c =
    let xs = c.args.batch.now in
    let i = c.loop-other.other in
    let x = c.index-batch-other.result in
    let whole = enumerate_from 0 (map arc_value xs) in
    let lt : i < length xs = omega arith in
    let v : arc_value x ≡ c.deref.result.now = cc in
    any_here (outdone_by (c.args.place, c.args.q.now)) whole (drop i whole) (drop (i + 1) whole) (i, arc_value x) c.loop-other.invariant (drop_at arc_value xs i x lt c.index-batch-other.is)
    (ap (λ (y : Query). outdone_by (c.args.place, c.args.q.now) (i, y)) v ∙ sym c.outdoes.ensures ∙ c.if-outdoes.true)

pub loop-other-preserved : goal.loop-other-preserved
loop-other-preserved c =
    let xs = c.args.batch.now in
    let i = c.loop-other.other in
    let x = c.index-batch-other.result in
    let whole = enumerate_from 0 (map arc_value xs) in
    let lt : i < length xs = omega arith in
    let v : arc_value x ≡ c.deref.result.now = cc in
    any_on (outdone_by (c.args.place, c.args.q.now)) whole (drop i whole) (drop (i + 1) whole) (i, arc_value x) c.loop-other.invariant (drop_at arc_value xs i x lt c.index-batch-other.is)
    (ap (λ (y : Query). outdone_by (c.args.place, c.args.q.now) (i, y)) v ∙ sym c.outdoes.ensures ∙ c.if-outdoes.false)

pub returns : goal.returns
returns c =
    let xs = c.args.batch.now in
    let i = c.loop-other.other in
    let whole = enumerate_from 0 (map arc_value xs) in
    let le : length xs ≤ i = omega arith in
    any_end (outdone_by (c.args.place, c.args.q.now)) whole (drop i whole) c.loop-other.invariant (drop_end arc_value xs i le)

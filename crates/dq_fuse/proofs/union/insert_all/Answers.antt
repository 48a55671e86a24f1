use Rattle.std.proofs.Common.{◌<◌, arith, length, map, get_or, ap, ◌∙◌, sym}
use Rattle.std.proofs.lemmas.List.Sums.{fold_more}
use Rattle.indexmap.specs.IndexSet.{keys}
use Rattle.dq_base.specs.Batches.{with_measure}
use Rattle.dq_base.specs.declared.query.Measure.{Measure}
use Rattle.dq_base.specs.declared.query.Measure.TheVariants.{Rows}
use Rattle.dq_fuse.specs.declared.union.Shown.{Shown}
use Rattle.dq_fuse.proofs.SameMeasure.{shown_with}
use Rattle.dq_fuse.proofs.union.insert_all.Goals as goal

pub loop-measure-preserved : goal.loop-measure-preserved
loop-measure-preserved c =
    let i = c.loop-measure.measure-index in
    let ms = c.args.measures.now in
    let m : Measure = get_or ms i Rows in
    let k : Shown = record { 0 = m } in
    let lt : i < length ms = omega arith in
    ap (map (λ (s : Shown). s.0)) c.in_ok-insert.ensures.keys
    ∙ shown_with (keys c.loop-measure.seen) k
    ∙ ap (λ us. with_measure us m) c.loop-measure.invariant
    ∙ sym (fold_more with_measure (map (λ (s : Shown). s.0) (keys c.args.seen.now)) ms i Rows lt)

use Rattle.std.proofs.Common.{◌≡◌, ◌+◌, Bool, true, List, take, slice_index_or, slice_set, ap, sym, subst, ◌∙◌}
use Rattle.dq_base.specs.Covering.{measure_eq}
use Rattle.dq_base.specs.declared.query.Measure.TheVariants.{Rows}
use Rattle.dq_cover.specs.Parts.{AreMarks, place_of}
use Rattle.dq_cover.proofs.Marked.{marks_more, none_taken, unmarked}
use Rattle.dq_cover.proofs.parts.shown_by.Goals as goal

pub loop-m-init : goal.loop-m-init
loop-m-init c m h = unmarked 385 (place_of m) ∙ sym (none_taken (measure_eq m) c.args.measures.now)

pub loop-m-preserved : goal.loop-m-preserved
loop-m-preserved c =
    let is : c.set_mark.new.marks ≡ slice_set c.loop-m.marks (place_of (slice_index_or c.args.measures.now c.loop-m.m-index Rows)) true =
    c.set_mark.ensures ∙ ap (λ n. slice_set c.loop-m.marks n true) c.place.ensures in
    subst (λ (marks : List Bool). AreMarks marks (take (c.loop-m.m-index + 1) c.args.measures.now)) (sym is)
    (marks_more c.loop-m.marks c.args.measures.now c.loop-m.m-index Rows c.loop-m-test.true c.loop-m.invariant)

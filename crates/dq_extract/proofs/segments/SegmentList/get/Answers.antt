use Rattle.std.proofs.Common.{rules, ◌≡◌, Some, None, slice_get, ◌-◌, ◌*◌, ◌/◌, ◌%◌, ap, sym, ◌∙◌}
use Rattle.std.specs.Arc.{arc_value}
use Rattle.dq_extract.proofs.Chunks.{chunk-at, last-at}
use Rattle.dq_extract.proofs.segments.SegmentList.get.Goals as goal

pub returns-in-Some : goal.returns-in-Some
returns-in-Some c =
    let at : slice_get c.self.inside.whole (c.args.place / 512) ≡ Some (arc_value c.in-Some.chunk.now) = rw c.in-Some.is at (sym c.get.ensures) in
    let same : c.deref.result.now ≡ arc_value c.in-Some.chunk.now = search (rules, c.deref.ensures) in
    c.get-in-Some.ensures ∙ ap (λ xs. slice_get xs (c.args.place % 512)) same
    ∙ chunk-at c.self.inside.whole c.self.inside.last (arc_value c.in-Some.chunk.now) c.args.place c.self.invariant at
    ∙ ap (λ xs. slice_get xs c.args.place) c.self.view_is

pub returns-in-None : goal.returns-in-None
returns-in-None c =
    let none : slice_get c.self.inside.whole (c.args.place / 512) ≡ None = rw c.in-None.is at (sym c.get.ensures) in
    c.get-in-None.ensures ∙ ap (λ n. slice_get c.self.inside.last (c.args.place - n * 512)) c.len.ensures
    ∙ last-at c.self.inside.whole c.self.inside.last c.args.place c.self.invariant none
    ∙ ap (λ xs. slice_get xs c.args.place) c.self.view_is

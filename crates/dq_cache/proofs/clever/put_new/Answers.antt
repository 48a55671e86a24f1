use Rattle.std.proofs.Common.{◌≡◌, ap, ◌∙◌, sym, eqb}
use Rattle.std.specs.Map.{remove_entry}
use Rattle.dq_cache.specs.Shelves.{Place, place_of}
use Rattle.dq_cache.proofs.Looked.{index_along, removed_front}
use Rattle.dq_cache.proofs.clever.put_new.Goals as goal

pub returns-then-not-enter-clause-indexed : goal.returns-then-not-enter-clause-indexed
returns-then-not-enter-clause-indexed c =
    let es = c.args.cache.now.entries in
    let n = c.args.next.now in
    let held = c.args.held in
    let at : ◌≡◌ {A = Place} (c.source.result, c.stamp.result) (place_of held) = λ i. (c.source.ensures i, c.stamp.ensures i) in
    index_along c.enter.new.index es c.take_out.new.cache.entries (sym (c.take_out.ensures.list ∙ ap (remove_entry (eqb n)) c.if-not-add.ensures.list ∙ removed_front n held es))
    (c.if-not-enter.ensures es held at c.flight-flight.ensures c.requires.indexed)

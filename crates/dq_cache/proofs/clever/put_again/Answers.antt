use Rattle.std.proofs.Common.{◌≡◌, ◌∙◌, sym, ◌∷◌, eqb}
use Rattle.std.specs.Map.{remove_entry}
use Rattle.dq_cache.specs.Shelves.{Place, place_of}
use Rattle.dq_cache.proofs.Looked.{index_along}
use Rattle.dq_cache.proofs.Numbers.{number_there}
use Rattle.dq_cache.proofs.clever.put_again.Goals as goal

pub returns-clause-indexed : goal.returns-clause-indexed
returns-clause-indexed c =
    let es = c.args.cache.now.entries in
    let n = c.args.number in
    let held = c.args.held in
    let d = number_there n es c.requires.there in
    let place : Place = (c.source.result, c.stamp.result) in
    let at : ◌≡◌ {A = Place} place (place_of held) = λ i. (c.source.ensures i, c.stamp.ensures i) in
    let same : ◌≡◌ {A = Place} (place_of d.0) (place_of held) = rw d.2 at c.requires.place in
    index_along c.bring.new.index ((n, held) ∷ remove_entry (eqb n) es) c.replace.new.cache.entries (sym c.replace.ensures.list)
    (c.bring.ensures es d.0 held (at ∙ sym same) at c.flight.ensures d.1 c.requires.indexed)

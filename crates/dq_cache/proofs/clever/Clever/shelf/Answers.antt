use Rattle.std.proofs.Common.{ap, ◌∙◌, ◌≡◌, sym, map, Some, None, Option}
use Rattle.std.specs.BTreeMap.{get}
use Rattle.dq_cache.specs.Shelves.{Place, place_cmp, on_shelf}
use Rattle.dq_cache.specs.declared.shelf.Shelf.{Shelf}
use Rattle.dq_cache.proofs.Looked.{flights_numbered}
use Rattle.dq_cache.proofs.Shelving.{Numbered, no_shelf, shelf_some}
use Rattle.dq_cache.proofs.clever.Clever.shelf.Goals as goal

pub returns-in_err-shelf : goal.returns-in_err-shelf
returns-in_err-shelf c =
    let es = c.self.inside.cache.entries in
    let place : Place = (c.args.source, c.args.stamp) in
    let none : ◌≡◌ {A = Option Shelf} None (get place_cmp c.self.inside.index place) = c.in_err-shelf.ensures.value in
    let empty = no_shelf (on_shelf place es) (none ∙ c.self.invariant.indexed place) in
    rw (← c.self.view_is, c.from_residual.ensures) (sym (flights_numbered c.args.source c.args.stamp es) ∙ ap (map (λ (g : Numbered). g.1.flight)) empty)

pub returns : goal.returns
returns c =
    let es = c.self.inside.cache.entries in
    let place : Place = (c.args.source, c.args.stamp) in
    let shelf = c.in_ok-shelf.shelf.now in
    let some : ◌≡◌ {A = Option Shelf} (Some shelf) (get place_cmp c.self.inside.index place) = c.in_ok-shelf.ensures.value in
    let parts = shelf_some shelf (on_shelf place es) (some ∙ c.self.invariant.indexed place) in
    rw (← c.self.view_is) (parts.0 ∙ flights_numbered c.args.source c.args.stamp es)

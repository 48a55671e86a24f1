use Rattle.std.proofs.Common.{◌≡◌, ap, ◌∙◌, Some, None, Option, find}
use Rattle.std.specs.BTreeMap.{get}
use Rattle.dq_base.specs.Covering.{query_eq}
use Rattle.dq_base.specs.declared.query.Query.{Query}
use Rattle.dq_cache.specs.Clevers.{passes_at}
use Rattle.dq_cache.specs.Shelves.{Place, place_cmp}
use Rattle.dq_cache.specs.declared.shelf.Shelf.{Shelf}
use Rattle.dq_cache.proofs.Looked.{looked_up, looked_none, equal_source}
use Rattle.dq_cache.proofs.clever.number_same.Goals as goal

pub returns-in_err-shelf : goal.returns-in_err-shelf
returns-in_err-shelf c =
    let q = c.args.key.now in
    let es = c.args.cache.now.entries in
    let place : Place = (q.source, c.args.stamp) in
    let none : ◌≡◌ {A = Option Shelf} None (get place_cmp c.args.index.now place) =
    c.in_err-shelf.ensures.value ∙ ap (λ (p : Query). let k : Place = (p.source, c.args.stamp) in get place_cmp c.args.index.now k) c.query.ensures.same in
    c.from_residual.ensures ∙ looked_none (λ (key : Query). query_eq key q) q.source c.args.stamp (equal_source q) es (none ∙ c.requires place)

pub returns : goal.returns
returns c =
    let q = c.args.key.now in
    let es = c.args.cache.now.entries in
    let place : Place = (q.source, c.args.stamp) in
    let shelf = c.in_ok-shelf.shelf.now in
    let some : ◌≡◌ {A = Option Shelf} (Some shelf) (get place_cmp c.args.index.now place) =
    c.in_ok-shelf.ensures.value ∙ ap (λ (p : Query). let k : Place = (p.source, c.args.stamp) in get place_cmp c.args.index.now k) c.query.ensures.same in
    c.first_same.ensures
    ∙ ap (find (passes_at (λ (key : Query). query_eq key q) es)) c.as_slice.ensures
    ∙ looked_up (λ (key : Query). query_eq key q) q.source c.args.stamp (equal_source q) es shelf c.len-distinct.ensures.valid.0 (some ∙ c.requires place)

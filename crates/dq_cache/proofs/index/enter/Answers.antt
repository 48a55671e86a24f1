use Rattle.std.proofs.Common.{◌≡◌, ◌∙◌, sym, is_some, ap}
use Rattle.std.specs.BTreeMap.{BTreeMap, get}
use Rattle.dq_cache.specs.Shelves.{Place, place_cmp}
use Rattle.dq_cache.specs.declared.shelf.Shelf.{Shelf}
use Rattle.dq_cache.proofs.Shelving.{entered_by, entered_none, index_same}
use Rattle.dq_cache.proofs.index.enter.Goals as goal

pub returns-in-Some : goal.returns-in-Some
returns-in-Some c = λ es e p f i.
    let u = c.get_mut.follows.holds c.push.new.self in
    entered_by c.push.result c.args.index.now (c.get_mut.follows.lender c.push.new.self) c.args.place c.in-Some.shelf.now c.push.new.self c.args.number c.args.flight es e p f i c.in-Some.ensures.value c.push.ensures
    (u.3 (ap is_some (sym c.in-Some.ensures.value))).0

pub returns : goal.returns
returns c = λ es e p f i.
    let mid = c.get_mut.follows.lender-at-none in
    let same : mid ≡ c.args.index.now = c.get_mut.follows.holds-at-none in
    entered_none mid c.insert.new.self c.args.place c.in-Some-of_one.shelf c.args.number c.args.flight es e p f
    (index_same c.args.index.now mid es i (ap (λ (m : BTreeMap Place Shelf). m.entries) same))
    (c.in_default.ensures.value ∙ ap (λ (m : BTreeMap Place Shelf). get place_cmp m c.args.place) (sym same))
    c.in-Some-of_one.ensures c.in-Ok.ensures.updates.0

use Rattle.std.proofs.Common.{sym, None, Some, ◌≡◌, eqb, ap, ◌∙◌, Option, find, ◌∷◌}
use Rattle.std.specs.Map.{lookup, values_of, remove_entry}
use Rattle.std.specs.Option.{option_map_or}
use Rattle.lru.specs.LruCache.{LruCache, promoted}
use Rattle.dq_cache.specs.Entries.{fits, EntryOf}
use Rattle.dq_cache.specs.Shelves.{Place, place_of}
use Rattle.dq_cache.specs.Stacks.{number_in}
use Rattle.dq_cache.proofs.Looked.{index_along, place_fits, promoted_is}
use Rattle.dq_cache.proofs.Numbers.{Picked, picked, none_picked, to_front_picked, to_front_none, below_promoted}
use Rattle.dq_cache.proofs.Stacked.{promoted_stack}
use Rattle.dq_cache.proofs.clever.Clever.find.Goals as goal

pub returns-in_err-number-clause-found : goal.returns-in_err-number-clause-found
returns-in_err-number-clause-found c =
    let test = fits c.args.stamp c.args.q.now in
    let es = c.self.inside.cache.entries in
    let none : number_in test es ≡ None = sym c.in_err-number.ensures in
    let f : find test (values_of es) ≡ None = (none_picked test es none).0 in
    rw (← c.self.view_is, c.from_residual.ensures, f) tt

pub returns-in_err-number-clause-moved : goal.returns-in_err-number-clause-moved
returns-in_err-number-clause-moved c =
    let test = fits c.args.stamp c.args.q.now in
    let es = c.self.inside.cache.entries in
    let none : number_in test es ≡ None = sym c.in_err-number.ensures in
    rw (← c.self.view_is) (to_front_none test es none)

pub invariant_of-self : goal.invariant_of-self
invariant_of-self c =
    let q = c.args.q.now in
    let test = fits c.args.stamp q in
    let es = c.self.inside.cache.entries in
    let n = c.in_ok-number.number in
    let number : number_in test es ≡ Some n = sym c.in_ok-number.ensures in
    let p : Picked test n es = picked test n es c.len-distinct.ensures.valid.0 number in
    let asked : ◌≡◌ {A = Place} (c.query.result.now.source, c.args.stamp) (q.source, c.args.stamp) = λ i. ((c.query.ensures.same i).source, c.args.stamp) in
    let at : ◌≡◌ {A = Place} (c.query.result.now.source, c.args.stamp) (place_of p.held) = asked ∙ place_fits c.args.stamp q n es p in
    let flight : c.flight_at-flight.result ≡ p.held.flight = c.flight_at-flight.ensures ∙ ap (λ (o : Option EntryOf). option_map_or (λ (e : EntryOf). e.flight) o 0) p.value in
    let moved : promoted (eqb n) es ≡ c.promote.new.self.entries = sym (ap (λ (d : LruCache _ _). d.entries) c.promote.ensures.entries) in
    record {
      stack = promoted_stack (λ (e : EntryOf). e) (eqb n) c.self.inside.total c.self.inside.cache c.promote.new.self c.self.invariant.stack c.promote.ensures.entries;
      below = rw c.promote.ensures.entries (below_promoted c.self.inside.next n test es c.self.invariant.below number p);
      indexed = index_along c.bring.new.index ((n, p.held) ∷ remove_entry (eqb n) es) c.promote.new.self.entries (promoted_is n es p.held p.entry ∙ moved)
          (c.bring.ensures es p.held p.held at at flight p.entry c.self.invariant.indexed);
    }

pub returns-clause-found : goal.returns-clause-found
returns-clause-found c =
    let test = fits c.args.stamp c.args.q.now in
    let es = c.self.inside.cache.entries in
    let number : number_in test es ≡ Some c.in_ok-number.number = sym c.in_ok-number.ensures in
    let p : Picked test c.in_ok-number.number es = picked test c.in_ok-number.number es c.len-distinct.ensures.valid.0 number in
    let f : find test (values_of es) ≡ lookup (eqb c.in_ok-number.number) es = p.first ∙ sym p.value in
    rw (← c.self.view_is, f, p.value) (rw p.value at c.found_at-found.ensures)

pub returns-clause-moved : goal.returns-clause-moved
returns-clause-moved c =
    let test = fits c.args.stamp c.args.q.now in
    let es = c.self.inside.cache.entries in
    let number : number_in test es ≡ Some c.in_ok-number.number = sym c.in_ok-number.ensures in
    let p : Picked test c.in_ok-number.number es = picked test c.in_ok-number.number es c.len-distinct.ensures.valid.0 number in
    rw (← c.self.view_is, c.promote.ensures.entries) (to_front_picked test c.in_ok-number.number es p)

use Rattle.std.proofs.Common.{◌≡◌, ap, ◌∙◌, sym, is_some, true, false}
use Rattle.std.specs.Arc.{arc_value}
use Rattle.std.specs.Prelude.{find}
use Rattle.std.specs.Map.{values_of}
use Rattle.dq_base.specs.declared.query.Query.{Query}
use Rattle.dq_cache.specs.Entries.{is_same}
use Rattle.dq_cache.specs.Stacks.{number_in}
use Rattle.dq_cache.proofs.Numbers.{is_some-number_in}
use Rattle.dq_cache.proofs.clever.Clever.keep.Goals as goal

pub returns-then-not-put-clause-there : goal.returns-then-not-put-clause-there
returns-then-not-put-clause-there c = λ s m.
    let es = c.self.inside.cache.entries in
    let test = is_same c.args.stamp (arc_value c.args.key) in
    let found : number_in test es ≡ c.number_same-at.result = ap (λ (k : Query). number_in (is_same c.args.stamp k) es) (sym c.deref-4.ensures) ∙ sym c.number_same-at.ensures in
    let there : is_some (find test (values_of es)) ≡ true = rw (← c.self.view_is) at s in
    let known : is_some c.number_same-at.result ≡ true = ap is_some (sym found) ∙ is_some-number_in test es ∙ there in
    let never : false ≡ true = c.if-not-put.ensures.there known in
    cc

pub invariant_of-self-2 : goal.invariant_of-self-2
invariant_of-self-2 c = record {
  stack = c.trim.ensures.stack;
  below = c.trim.ensures.below c.put.new.next c.put.ensures.below;
  indexed = c.trim.ensures.indexed;
}

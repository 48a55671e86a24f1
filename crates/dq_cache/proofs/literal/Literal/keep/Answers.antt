use Rattle.std.proofs.Common.{◌≡◌, ap, ◌∙◌, sym, is_some, true, false, ℕ, List}
use Rattle.std.specs.Arc.{arc_value}
use Rattle.std.specs.Prelude.{find}
use Rattle.std.specs.Map.{values_of}
use Rattle.dq_cache.specs.Entries.{has_body, BodiedOf, EntryOf, LiteralOf, cells_of, put_front, trimmed, weight_of}
use Rattle.dq_cache.specs.Stacks.{number_in}
use Rattle.dq_cache.proofs.Numbers.{number_known, is_some-number_in}
use Rattle.dq_cache.proofs.literal.Literal.keep.Goals as goal

pub keep-requires-clause-at : goal.keep-requires-clause-at
keep-requires-clause-at c =
    let es = c.self.inside.cache.entries in
    let known = number_known (has_body c.args.stamp c.args.body) es c.self.inside.next c.len-distinct.ensures.valid.0 c.self.invariant.below in
    let found : number_in (has_body c.args.stamp c.args.body) es ≡ c.number_of-at.result = ap (λ x. number_in (has_body c.args.stamp x) es) (sym c.bytes.ensures) ∙ sym c.number_of-at.ensures in
    rw found at known

pub returns-then-keep-clause-list : goal.returns-then-keep-clause-list
returns-then-keep-clause-list c =
    let es = c.self.inside.cache.entries in
    let test = has_body c.args.stamp c.args.body in
    let key = arc_value c.args.key in
    let table = arc_value c.args.table in
    let found : number_in test es ≡ c.number_of-at.result = ap (λ x. number_in (has_body c.args.stamp x) es) (sym c.bytes.ensures) ∙ sym c.number_of-at.ensures in
    let weight : c.in-Some.weight ≡ weight_of (cells_of key table) = c.in-Some.ensures.1 ∙ (λ i. weight_of (cells_of (c.deref.ensures i) (c.deref-2.ensures i))) in
    let entry : ℕ → EntryOf = λ n. record { flight = c.args.flight; stamp = c.args.stamp; key = key; weight = n; table = table } in
    let kept : EntryOf → List BodiedOf = λ x. trimmed (λ (e : BodiedOf). e.entry.weight) c.self.inside.bound (put_front test (record { entry = x; body = c.args.body }) (values_of es)) in
    let whole : LiteralOf → List BodiedOf = λ v. trimmed (λ (e : BodiedOf). e.entry.weight) v.bound (put_front test (record { entry = entry (weight_of (cells_of key table)); body = c.args.body }) v.entries) in
    c.if-keep.ensures.list test found ∙ ap kept (c.new-entry.ensures ∙ ap entry weight) ∙ ap whole c.self.view_is

pub returns-clause-there : goal.returns-clause-there
returns-clause-there c = λ s m.
    let es = c.self.inside.cache.entries in
    let test = has_body c.args.stamp c.args.body in
    let found : number_in test es ≡ c.number_of-at.result = ap (λ x. number_in (has_body c.args.stamp x) es) (sym c.bytes.ensures) ∙ sym c.number_of-at.ensures in
    let there : is_some (find test (values_of es)) ≡ true = rw (← c.self.view_is) at s in
    let known : is_some c.number_of-at.result ≡ true = ap is_some (sym found) ∙ is_some-number_in test es ∙ there in
    let never : false ≡ true = c.if-keep.ensures.there known in
    cc

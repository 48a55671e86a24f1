use Rattle.std.proofs.Common.{rules, ◌≡◌, Some, ap, sym, ◌∙◌}
use Rattle.std.specs.Prelude.{slice_get}
use Rattle.std.proofs.lemmas.Option.{gets}
use Rattle.dq_fold.proofs.Placed.{key_at, equal_by}
use Rattle.dq_fold.proofs.slots.has_key.Goals as goal

pub returns-in-Some : goal.returns-in-Some
returns-in-Some c = λ e.
    let here : slice_get c.args.slots.now c.args.place ≡ Some c.in-Some.slot.now = search (gets, rules) in
    key_at c.args.slots.now c.args.place c.in-Some.slot.now here
    ∙ ap Some (equal_by c.in-Some.slot.now.key c.args.key.now c.compare_keys.result c.compare_keys.ensures (sym c.is_eq.ensures ∙ e))

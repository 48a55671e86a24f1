use Rattle.std.proofs.Common.{rules, ◌≡◌, None, ap, sym, ◌∙◌}
use Rattle.std.specs.BTreeMap.{insert_entry, is_at}
use Rattle.std.specs.Map.{lookup, set_value}
use Rattle.dq_base.specs.Orders.{key_cmp}
use Rattle.dq_fold.specs.Folding.{merged_by}
use Rattle.dq_fold.specs.Placed.{entries_at}
use Rattle.dq_fold.proofs.Placed.{changed_entries, changed_numbered, found_tallies, none_there, on_ok, place_within}
use Rattle.dq_fold.proofs.groups.merge_group.Goals as goal

pub merge_at-requires-clause-there : goal.merge_at-requires-clause-there
merge_at-requires-clause-there c = place_within c.groups.inside.slots c.groups.inside.places.entries c.args.key c.in-Some.place c.groups.invariant (search rules)

pub merge_at-requires-clause-fit : goal.merge_at-requires-clause-fit
merge_at-requires-clause-fit c = λ s at.
    let view : entries_at c.groups.inside.slots c.groups.inside.places.entries ≡ c.args.groups.now = search rules in
    c.requires s.tallies (found_tallies c.groups.inside.slots c.groups.inside.places.entries c.args.key c.in-Some.place c.groups.invariant (search rules) c.args.groups.now s view at)

pub invariant_of-groups : goal.invariant_of-groups
invariant_of-groups c =
    changed_numbered c.groups.inside.slots c.groups.inside.places.entries c.args.key c.in-Some.place c.groups.invariant (search rules) c.merge_at.new.slots _ c.merge_at.ensures

pub insert-requires : goal.insert-requires
insert-requires c = none_there c.groups.inside.slots c.groups.inside.places.entries c.args.key (search rules)

pub returns-in-Some : goal.returns-in-Some
returns-in-Some c =
    let view : entries_at c.groups.inside.slots c.groups.inside.places.entries ≡ c.args.groups.now = search rules in
    let now = changed_entries c.groups.inside.slots c.groups.inside.places.entries c.args.key c.in-Some.place c.groups.invariant (search rules) c.merge_at.new.slots _ c.merge_at.ensures c.args.groups.now view c.place_of.ensures.ordered in
    on_ok c.merge_at.result
    (λ e. now.3 ∙ ap (set_value (is_at (key_cmp c.args.key)) c.args.groups.now) e ∙ ap (λ o. merged_by o c.args.groups.now c.args.key c.args.tallies) (sym now.2))
    now.4

pub returns-in-None : goal.returns-in-None
returns-in-None c =
    let view : entries_at c.groups.inside.slots c.groups.inside.places.entries ≡ c.args.groups.now = search rules in
    let none : lookup (is_at (key_cmp c.args.key)) c.args.groups.now ≡ None =
    ap (lookup (is_at (key_cmp c.args.key))) (sym view) ∙ none_there c.groups.inside.slots c.groups.inside.places.entries c.args.key (search rules) in
    on_ok c.insert.result
    (λ e. e ∙ ap (λ gs. insert_entry key_cmp gs c.args.key c.args.tallies) view ∙ ap (λ o. merged_by o c.args.groups.now c.args.key c.args.tallies) (sym none))
    c.insert.ensures

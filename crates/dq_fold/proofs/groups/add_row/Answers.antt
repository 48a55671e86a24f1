use Rattle.std.proofs.Common.{rules, ◌≡◌, None, map, ap, sym, ◌∙◌}
use Rattle.std.specs.BTreeMap.{is_at}
use Rattle.std.specs.Map.{lookup, set_value}
use Rattle.dq_base.specs.Orders.{key_cmp}
use Rattle.dq_fold.specs.Placed.{entries_at}
use Rattle.dq_fold.specs.Tallies.{added}
use Rattle.dq_fold.proofs.Placed.{changed_entries, changed_numbered, found_none, found_same, found_tallies, none_there, on_ok, place_within}
use Rattle.dq_fold.proofs.groups.add_row.Goals as goal

pub add_at-requires-clause-there : goal.add_at-requires-clause-there
add_at-requires-clause-there c = place_within c.groups.inside.slots c.groups.inside.places.entries c.args.key.now c.in-Some.place c.groups.invariant (search rules)

pub add_at-requires-clause-few : goal.add_at-requires-clause-few
add_at-requires-clause-few c = λ s at.
    let view : entries_at c.groups.inside.slots c.groups.inside.places.entries ≡ c.args.groups.now = search rules in
    c.requires s.tallies (found_tallies c.groups.inside.slots c.groups.inside.places.entries c.args.key.now c.in-Some.place c.groups.invariant (search rules) c.args.groups.now s view at)

pub invariant_of-groups : goal.invariant_of-groups
invariant_of-groups c =
    changed_numbered c.groups.inside.slots c.groups.inside.places.entries c.args.key.now c.in-Some.place c.groups.invariant (search rules) c.add_at.new.slots _ c.add_at.ensures

pub add_group-requires : goal.add_group-requires
add_group-requires c =
    let same : c.replace.result ≡ c.args.key.now = search rules in
    let found : lookup (is_at (key_cmp c.args.key.now)) c.groups.inside.places.entries ≡ None = search rules in
    rw same (none_there c.groups.inside.slots c.groups.inside.places.entries c.args.key.now found)

pub returns-in-Some-clause-there : goal.returns-in-Some-clause-there
returns-in-Some-clause-there c =
    let view : entries_at c.groups.inside.slots c.groups.inside.places.entries ≡ c.args.groups.now = search rules in
    let now = changed_entries c.groups.inside.slots c.groups.inside.places.entries c.args.key.now c.in-Some.place c.groups.invariant (search rules) c.add_at.new.slots _ c.add_at.ensures c.args.groups.now view c.place_of.ensures.ordered in
    on_ok c.add_at.result
    (λ e ts l. now.3 ∙ ap (set_value (is_at (key_cmp c.args.key.now)) c.args.groups.now) (e ∙ ap (map (added c.args.row.now)) (found_same (lookup (is_at (key_cmp c.args.key.now)) c.args.groups.now) now.0 ts now.2 l)))
    now.4

pub returns-in-Some-clause-absent : goal.returns-in-Some-clause-absent
returns-in-Some-clause-absent c =
    let view : entries_at c.groups.inside.slots c.groups.inside.places.entries ≡ c.args.groups.now = search rules in
    let now = changed_entries c.groups.inside.slots c.groups.inside.places.entries c.args.key.now c.in-Some.place c.groups.invariant (search rules) c.add_at.new.slots _ c.add_at.ensures c.args.groups.now view c.place_of.ensures.ordered in
    on_ok c.add_at.result (λ e l. found_none (lookup (is_at (key_cmp c.args.key.now)) c.args.groups.now) now.0 now.2 l) now.4

pub returns-in-None-clause-there : goal.returns-in-None-clause-there
returns-in-None-clause-there c =
    let view : entries_at c.groups.inside.slots c.groups.inside.places.entries ≡ c.args.groups.now = search rules in
    on_ok c.add_group.result
    (λ e ts l. found_none (lookup (is_at (key_cmp c.args.key.now)) c.args.groups.now) ts l (ap (lookup (is_at (key_cmp c.args.key.now))) (sym view) ∙ none_there c.groups.inside.slots c.groups.inside.places.entries c.args.key.now (search rules)))
    c.add_group.ensures

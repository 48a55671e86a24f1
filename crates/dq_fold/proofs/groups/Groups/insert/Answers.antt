use Rattle.std.proofs.Common.{rules, ◌≡◌, ◌++◌, ◌∷◌, [], cond, length, Some, List}
use Rattle.std.specs.BTreeMap.{insert_entry, is_at}
use Rattle.std.specs.Map.{lookup}
use Rattle.std.specs.Ordering.{is_eq}
use Rattle.dq_base.specs.Orders.{key_cmp}
use Rattle.dq_base.specs.declared.value.Value.{Value}
use Rattle.dq_fold.specs.Placed.{entries_at}
use Rattle.dq_fold.proofs.Placed.{pushed_entries, pushed_slots}
use Rattle.dq_fold.proofs.groups.Groups.insert.Goals as goal

pub invariant_of-self-else-is_err : goal.invariant_of-self-else-is_err
invariant_of-self-else-is_err c =
    let view : entries_at c.self.inside.slots c.self.inside.places.entries ≡ c.args.self.now = search rules in
    let slots : c.push.new.self ≡ c.self.inside.slots ++ (record { key = c.args.key; tallies = c.args.tallies }) ∷ [] = search rules in
    let entries : c.insert.new.self.entries ≡ insert_entry key_cmp c.self.inside.places.entries c.args.key (length c.self.inside.slots) = search rules in
    let updates : (q : List Value) → lookup (is_at (key_cmp q)) c.insert.new.self.entries ≡ cond (is_eq (key_cmp c.args.key q)) (Some (length c.self.inside.slots)) (lookup (is_at (key_cmp q)) c.self.inside.places.entries) = search rules in
    pushed_slots c.self.inside.slots c.push.new.self c.args.key c.args.tallies c.self.inside.places.entries c.insert.new.self.entries c.args.self.now c.self.invariant view c.requires slots entries updates

pub returns : goal.returns
returns c =
    let view : entries_at c.self.inside.slots c.self.inside.places.entries ≡ c.args.self.now = search rules in
    let slots : c.push.new.self ≡ c.self.inside.slots ++ (record { key = c.args.key; tallies = c.args.tallies }) ∷ [] = search rules in
    let entries : c.insert.new.self.entries ≡ insert_entry key_cmp c.self.inside.places.entries c.args.key (length c.self.inside.slots) = search rules in
    pushed_entries c.self.inside.slots c.push.new.self c.args.key c.args.tallies c.self.inside.places.entries c.insert.new.self.entries c.args.self.now c.self.invariant view c.requires slots entries

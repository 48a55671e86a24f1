use Rattle.std.proofs.Common.{◌≡◌, Some, None, ap, sym, ◌∙◌}
use Rattle.std.specs.Prelude.{option_map, unwrap_or}
use Rattle.std.specs.List.{find}
use Rattle.dq_link.specs.Mirrors.{alike}
use Rattle.dq_link.proofs.Needed.{table_by_find}
use Rattle.dq_link.proofs.mirrored.Mirrored.table_of.Goals as goal

pub returns-in-None : goal.returns-in-None
returns-in-None g c =
    let e : option_map (λ t. t.0) (find (λ t. alike t.1 c.args.list.now) c.args.self.now.mirror.tables) ≡ None = sym c.find_table.ensures ∙ c.in-None.is in
    sym (table_by_find c.args.self.now.mirror.tables c.args.list.now ∙ ap (λ o. unwrap_or o 0) e)

pub returns-in-Some : goal.returns-in-Some
returns-in-Some g c =
    let e : option_map (λ t. t.0) (find (λ t. alike t.1 c.args.list.now) c.args.self.now.mirror.tables) ≡ Some c.in-Some.number = sym c.find_table.ensures ∙ c.in-Some.is in
    sym (table_by_find c.args.self.now.mirror.tables c.args.list.now ∙ ap (λ o. unwrap_or o 0) e)

use Rattle.std.proofs.Common.{◌≡◌, not, refl, rules}
use Rattle.std.specs.Prelude.{nat_eq}
use Rattle.std.proofs.lemmas.Fn.{filter_same}
use Rattle.dq_link.specs.Pairs.{without}
use Rattle.dq_link.proofs.Moving.{done-drop, same_ready}
use Rattle.dq_link.proofs.mirrored.Mirrored.drop_table.Goals as goal

pub returns-clause-moves : goal.returns-clause-moves
returns-clause-moves g c =
    let i = rw (← c.self.view_is) at c.requires.can.mirrored in
    let less : c.retain.new.self.items ≡ without c.self.inside.tables.items c.args.number = filter_same _ (λ p. not (nat_eq p.0 c.args.number)) _ (λ x b f k. search rules) _ _ c.retain.ensures.filtered in
    rw (← c.self.view_is) (done-drop c.args.number _ _ i c.in_ok-drop_table.ensures.mounts c.in_ok-drop_table.ensures.tables (same_ready _ _ _ _ _ _ _ refl less c.in_ok-drop_table.ensures.calls) c.in_ok-drop_table.ensures.cause c.in_ok-drop_table.ensures.runs c.in_ok-drop_table.ensures.planned)

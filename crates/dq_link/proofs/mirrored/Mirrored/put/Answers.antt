use Rattle.std.proofs.Common.{◌≡◌, ◌∙◌, arith, [], ◌∷◌, ◌++◌, Some, refl, subst}
use Rattle.std.specs.Arc.{arc_value}
use Rattle.dq_link.specs.Mounts.{SetAt}
use Rattle.dq_link.proofs.Lookups.{unnumbered}
use Rattle.dq_link.proofs.Moving.{done-put, same_ready}
use Rattle.dq_link.proofs.mirrored.Mirrored.put.Goals as goal

pub put_table-requires-clause-new : goal.put_table-requires-clause-new
put_table-requires-clause-new g c =
    let i = rw (← c.self.view_is) at c.requires.mirrored in
    i.lists c.self.inside.next ∙ unnumbered 1 c.self.inside.next c.self.inside.next c.self.inside.tables.items i.numbered (omega arith)

pub returns-clause-moves : goal.returns-clause-moves
returns-clause-moves g c =
    let i = rw (← c.self.view_is) at c.requires.mirrored in
    let same : arc_value c.in-Ok.shared ≡ c.args.list.now = cc (c.in-Ok.ensures.ok, c.in_ok-duplicate.ensures) in
    let tables : SetAt c.self.inside.next (Some c.args.list.now) (g.L.Link.tables c.self.inside.link) (g.L.Link.tables c.put_table.new.self) =
    subst (λ l. SetAt c.self.inside.next (Some l) (g.L.Link.tables c.self.inside.link) (g.L.Link.tables c.put_table.new.self)) same c.in_ok-put_table.ensures.tables in
    let more : c.push_reserved.new.self.items ≡ c.self.inside.tables.items ++ (c.self.inside.next, c.args.list.now) ∷ [] = cc (c.push_reserved.ensures.items, c.reserve.ensures.items, c.in_ok-copy.ensures) in
    rw (← c.self.view_is) (done-put c.args.list.now _ _ i c.in_ok-put_table.ensures.mounts tables (same_ready _ _ _ _ _ _ _ refl more c.in_ok-put_table.ensures.calls) c.in_ok-put_table.ensures.cause c.in_ok-put_table.ensures.runs c.in_ok-put_table.ensures.planned)

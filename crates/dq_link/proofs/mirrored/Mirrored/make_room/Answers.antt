use Rattle.std.proofs.Common.{◌≡◌, Some, subst, sym, ◌∙◌}
use Rattle.std.specs.Prelude.{IfSome, IsSome}
use Rattle.dq_link.specs.Mirrors.{lists_in, spare_table}
use Rattle.dq_link.specs.Pairs.{lookup}
use Rattle.dq_link.proofs.Mirroring.{spare_stands}
use Rattle.dq_link.proofs.mirrored.Mirrored.make_room.Goals as goal

pub drop_table-requires-clause-there : goal.drop_table-requires-clause-there
drop_table-requires-clause-there g c =
    let e : spare_table (lists_in c.args.filters.now) c.args.self.now.mirror.tables ≡ Some c.in-Some.number = sym c.spare.ensures ∙ c.in-Some.is in
    subst (λ o. IfSome o (λ n. IsSome (lookup c.args.self.now.mirror.tables n))) e (spare_stands (lists_in c.args.filters.now) c.args.self.now.mirror.tables)

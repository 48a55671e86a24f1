use Rattle.std.proofs.lemmas.Result.{err_from_is_err_and}
use Rattle.dq_link.specs.Mirrors.{Readying, mounting, preparing}
use Rattle.dq_link.proofs.Chains.{can_first}
use Rattle.dq_link.proofs.Growing.{mounting_below, with_count}
use Rattle.dq_link.proofs.Moving.{moves-on}
use Rattle.dq_link.proofs.mirrored.Mirrored.prepare.Goals as goal

pub mount_newly-requires-clause-can : goal.mount_newly-requires-clause-can
mount_newly-requires-clause-can g c =
    let r : Readying = with_count c.args.self.now.mirror (g.L.Link.calls c.args.self.now.link) in
    can_first g.L.Link.mounts g.L.Link.tables g.L.Link.faults g.L.Link.runs g.L.Link.calls g.L.Link.planned (mounting c.args.query.now.source c.args.stamp) (preparing c.args.stamp c.args.query.now) c.args.self.now (mounting_below c.args.stamp c.args.query.now r) c.requires.can

pub returns-in_err-mount_newly-clause-moves : goal.returns-in_err-mount_newly-clause-moves
returns-in_err-mount_newly-clause-moves g c =
    let r : Readying = with_count c.args.self.now.mirror (g.L.Link.calls c.args.self.now.link) in
    let p = err_from_is_err_and c.from_residual.result c.from_residual.ensures.1 in
    rw (p.1, p.2) (moves-on (Unit {0}) (Unit {0}) c.in_err-mount_newly.field-0.0 (mounting c.args.query.now.source c.args.stamp) (preparing c.args.stamp c.args.query.now) _ _ (mounting_below c.args.stamp c.args.query.now r) c.in_err-mount_newly.ensures.moves)

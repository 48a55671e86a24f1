use Rattle.std.specs.Arc.{arc_value}
use Rattle.std.proofs.lemmas.Result.{err_from_is_err_and}
use Rattle.dq_link.specs.Mirrors.{Readying, preparing}
use Rattle.dq_link.proofs.Chains.{done-stopped}
use Rattle.dq_link.proofs.Growing.{preparing_grows, with_count}
use Rattle.dq_link.proofs.Meant.{ready_means}
use Rattle.dq_link.proofs.mirrored.Mirrored.ready.Goals as goal

pub returns-in_err-statement-clause-moves : goal.returns-in_err-statement-clause-moves
returns-in_err-statement-clause-moves g c =
    let r : Readying = with_count c.args.self.now.mirror (g.L.Link.calls c.args.self.now.link) in
    let p = err_from_is_err_and c.from_residual-in_err-statement.result c.from_residual-in_err-statement.ensures.1 in
    rw (p.1, p.2) (done-stopped (preparing c.args.stamp c.args.query.now) _ _ (preparing_grows c.args.stamp c.args.query.now r) c.in_ok-prepare.ensures.moves)

pub returns-clause-means : goal.returns-clause-means
returns-clause-means g c =
    ready_means _ _ c.args.stamp c.args.query.now (arc_value c.args.extract.now) c.in_ok-statement.statement c.requires.can.mirrored.numbered c.in_ok-prepare.ensures.moves c.in_ok-prepare.ensures.mounts c.requires.valid c.in_ok-statement.ensures.said c.in_ok-statement.ensures.sized

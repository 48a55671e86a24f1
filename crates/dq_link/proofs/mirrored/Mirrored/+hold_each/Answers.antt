use Rattle.std.specs.List.{fold}
use Rattle.std.proofs.lemmas.Result.{err_from_is_err_and}
use Rattle.dq_link.specs.Mirrors.{Readying, holding, lists_in, long_lists}
use Rattle.dq_link.proofs.Chains.{can_first, each_below_by}
use Rattle.dq_link.proofs.Growing.{with_count}
use Rattle.dq_link.proofs.Moving.{moves-on}
use Rattle.dq_link.proofs.mirrored.Mirrored.+hold_each.Goals as goal

pub hold_of-requires : goal.hold_of-requires
hold_of-requires g t c =
    let needed = lists_in c.args.filters.now in
    let r : Readying = with_count c.args.self.now.mirror (g.L.Link.calls c.args.self.now.link) in
    can_first g.L.Link.mounts g.L.Link.tables g.L.Link.faults g.L.Link.runs g.L.Link.calls g.L.Link.planned (λ (s : Readying). fold (holding needed) s (long_lists c.in-Some.first.now.test)) (λ (s : Readying). fold (holding needed) s (lists_in c.args.some.now)) c.args.self.now
    (each_below_by needed c.in-Some.first.now c.in-Some.others.now c.args.some.now r c.in-Some.ensures.cases.0) c.requires

pub returns-in_err-hold_of-in-Some-clause-moves : goal.returns-in_err-hold_of-in-Some-clause-moves
returns-in_err-hold_of-in-Some-clause-moves g t c =
    let needed = lists_in c.args.filters.now in
    let r : Readying = with_count c.args.self.now.mirror (g.L.Link.calls c.args.self.now.link) in
    let p = err_from_is_err_and c.from_residual.result c.from_residual.ensures.1 in
    rw (p.1, p.2) (moves-on (Unit {0}) (Unit {0}) c.in_err-hold_of-in-Some.field-0.0 (λ (s : Readying). fold (holding needed) s (long_lists c.in-Some.first.now.test)) (λ (s : Readying). fold (holding needed) s (lists_in c.args.some.now)) _ _
    (each_below_by needed c.in-Some.first.now c.in-Some.others.now c.args.some.now r c.in-Some.ensures.cases.0) c.in_err-hold_of-in-Some.ensures.moves)

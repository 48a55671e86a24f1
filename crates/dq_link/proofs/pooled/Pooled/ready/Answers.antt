use Rattle.std.proofs.Common.{◌≡◌, ◌-◌, ◌^◌, ◌≤◌, ◌∙◌, ap, sym, subst, arith, Err}
use Rattle.std.specs.Arc.{arc_value}
use Rattle.dq_link.specs.Mirrors.{Readying, preparing}
use Rattle.dq_link.specs.Steps.{CanAdvance, IsBroken, IsStopped, Moment, moment}
use Rattle.dq_link.specs.Views.{MirroredLink}
use Rattle.dq_link.specs.declared.fault.LinkFault.TheVariants as fault
use Rattle.dq_link.proofs.Chains.{broken-by, stopped-by}
use Rattle.dq_link.proofs.Growing.{prepare_room, prepared_by, prepared_count, preparing_grows, valid_readying, with_count}
use Rattle.dq_link.proofs.pooled.Pooled.ready.Goals as goal

pub ready-requires-clause-can : goal.ready-requires-clause-can
ready-requires-clause-can g c =
    let room : g.L.Link.calls c.self.inside.mirrored.link ≤ 2 ^ 40 - 34 = rw (← c.self.view_is) at c.requires.room in
    subst (λ q. CanAdvance g.L.Link.mounts g.L.Link.tables g.L.Link.faults g.L.Link.runs g.L.Link.calls g.L.Link.planned (preparing c.args.stamp q) c.self.inside.mirrored) (sym c.query.ensures.same)
    (record {
      mirrored = c.self.invariant.1.mirrored;
      runs_room = omega (arith, room, c.self.invariant.1.counted);
      calls_room = prepare_room (arc_value c.args.extract.now).heading.sorts c.self.inside.mirrored.mirror c.args.stamp c.args.key.now (g.L.Link.calls c.self.inside.mirrored.link) c.requires.valid room;
    })

pub invariant_of-result : goal.invariant_of-result
invariant_of-result g c =
    let d = c.in-Ok.ensures.moves in
    let r : Readying = with_count c.self.inside.mirrored.mirror (g.L.Link.calls c.self.inside.mirrored.link) in
    let n : g.L.Link.calls c.ready.new.self.link ≡ (preparing c.args.stamp c.query.result.now r).count = ap (λ (s : Readying). s.count) d.reached in (
      c.self.invariant.0 ∙ sym d.runs,
      record {
        mirrored = d.mirrored;
        unfaulted = d.faults ∙ c.self.invariant.1.unfaulted;
        counted = omega (arith, n, preparing_grows c.args.stamp c.query.result.now r, d.runs, c.self.invariant.1.counted);
      },
    )

pub returns-in-Ok-clause-calls : goal.returns-in-Ok-clause-calls
returns-in-Ok-clause-calls g c =
    let d = c.in-Ok.ensures.moves in
    rw (← c.self.view_is) (ap (λ (s : Readying). s.count) (d.reached ∙ prepared_by c.self.inside.mirrored.mirror c.args.stamp c.query.result.now c.args.key.now (g.L.Link.calls c.self.inside.mirrored.link) c.query.ensures.same))

pub returns-in-Ok-clause-few : goal.returns-in-Ok-clause-few
returns-in-Ok-clause-few g c = valid_readying (arc_value c.args.extract.now).heading.sorts c.args.self.mirror c.args.stamp c.args.key.now c.requires.valid

pub returns-in-Ok-clause-mirror : goal.returns-in-Ok-clause-mirror
returns-in-Ok-clause-mirror g c =
    let d = c.in-Ok.ensures.moves in
    rw (← c.self.view_is) (ap (λ (s : Readying). s.mirror) (d.reached ∙ prepared_by c.self.inside.mirrored.mirror c.args.stamp c.query.result.now c.args.key.now (g.L.Link.calls c.self.inside.mirrored.link) c.query.ensures.same))

pub returns-in-Err-Memory-clause-calls : goal.returns-in-Err-Memory-clause-calls
returns-in-Err-Memory-clause-calls g c =
    let at : MirroredLink g.row.L.Denot → Moment = moment g.L.Link.mounts g.L.Link.tables g.L.Link.faults g.L.Link.runs g.L.Link.calls g.L.Link.planned in
    let e : c.ready.result ≡ Err fault.Memory = cc (c.in-Err-Memory.is, c.in-Err-Memory.field-0-is) in
    let d : IsStopped (preparing c.args.stamp c.query.result.now) (at c.self.inside.mirrored) (at c.ready.new.self) = stopped-by c.ready.result (preparing c.args.stamp c.query.result.now) (at c.self.inside.mirrored) (at c.ready.new.self) e c.ready.ensures.moves in
    let n = prepared_count c.self.inside.mirrored.mirror c.args.stamp c.query.result.now c.args.key.now (g.L.Link.calls c.self.inside.mirrored.link) c.query.ensures.same in
    rw (← c.self.view_is) (d.some, omega (arith, n, d.most))

pub returns-in-Err-Memory-clause-few : goal.returns-in-Err-Memory-clause-few
returns-in-Err-Memory-clause-few g c = valid_readying (arc_value c.args.extract.now).heading.sorts c.args.self.mirror c.args.stamp c.args.key.now c.requires.valid

pub returns-in-Err-Failed-clause-calls : goal.returns-in-Err-Failed-clause-calls
returns-in-Err-Failed-clause-calls g c =
    let at : MirroredLink g.row.L.Denot → Moment = moment g.L.Link.mounts g.L.Link.tables g.L.Link.faults g.L.Link.runs g.L.Link.calls g.L.Link.planned in
    let e : c.ready.result ≡ Err fault.Failed = cc (c.in-Err-Failed.is, c.in-Err-Failed.field-0-is) in
    let d : IsBroken (preparing c.args.stamp c.query.result.now) (at c.self.inside.mirrored) (at c.ready.new.self) = broken-by c.ready.result (preparing c.args.stamp c.query.result.now) (at c.self.inside.mirrored) (at c.ready.new.self) e c.ready.ensures.moves in
    let n = prepared_count c.self.inside.mirrored.mirror c.args.stamp c.query.result.now c.args.key.now (g.L.Link.calls c.self.inside.mirrored.link) c.query.ensures.same in
    rw (← c.self.view_is, c.into_link.ensures) (d.some, omega (arith, n, d.most))

pub returns-in-Err-Failed-clause-few : goal.returns-in-Err-Failed-clause-few
returns-in-Err-Failed-clause-few g c = valid_readying (arc_value c.args.extract.now).heading.sorts c.args.self.mirror c.args.stamp c.args.key.now c.requires.valid

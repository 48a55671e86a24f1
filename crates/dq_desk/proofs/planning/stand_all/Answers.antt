use Rattle.std.proofs.Common.{◌≡◌, ◌∙◌, ◌<◌, List, [], ◌∷◌, ◌++◌, take, sym, arith, length, map, subst}
use Rattle.std.specs.Arc.{arc_value}
use Rattle.std.specs.List.{AllByRecursion}
use Rattle.dq_base.specs.declared.query.Query.{Query}
use Rattle.dq_desk.specs.Admissions.{StoodOf}
use Rattle.dq_desk.specs.Plans.{AllStand, StandsAs}
use Rattle.dq_desk.proofs.Growing.{all_at, read_more, stand_push}
use Rattle.dq_desk.proofs.planning.stand_all.Goals as goal

pub stood_at-requires : goal.stood_at-requires
stood_at-requires c =
    let items = c.as_slice-q-items.result.now in
    let i = c.loop-q.q-index in
    let x = c.q-item.result in
    let lt : i < length items = omega arith in
    let P : Query → Type 0 = λ q. q.source < length c.args.stands.now in
    let Q : List Query → Type 0 = λ qs. AllByRecursion P qs in
    let q : c.query.result.now ≡ arc_value x = c.query.ensures.same ∙ c.deref.ensures in
    subst P (sym q) (all_at arc_value P items i x lt c.q-item.is (subst Q (sym c.loop-q.invariant.items) c.requires))

pub loop-q-preserved : goal.loop-q-preserved
loop-q-preserved c =
    let items = c.as_slice-q-items.result.now in
    let i = c.loop-q.q-index in
    let x = c.q-item.result in
    let s = c.in_ok-stood_at.field-0 in
    let stamps = c.args.stamps.now in
    let stands = c.args.stands.now in
    let lt : i < length items = omega arith in
    let q : c.query.result.now ≡ arc_value x = c.query.ensures.same ∙ c.deref.ensures in
    let read : List Query = map arc_value (take i items) in
    let P : Query → Type 0 = λ k. StandsAs stamps stands k.source s in
    let Q : List Query → Type 0 = λ qs. AllStand stamps stands qs c.push.new.self in
    let R : List StoodOf → Type 0 = λ ss. AllStand stamps stands (read ++ arc_value x ∷ []) ss in
    record {
      stood = subst Q (read_more arc_value items i x lt c.q-item.is)
          (subst R (sym c.in_ok-push.ensures.ok) (stand_push stamps stands read c.loop-q.stood (arc_value x) s c.loop-q.invariant.stood (subst P q c.in_ok-stood_at.ensures)));
      items = c.loop-q.invariant.items;
    }

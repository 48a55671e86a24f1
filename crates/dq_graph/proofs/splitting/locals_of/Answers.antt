use Rattle.std.proofs.Common.{◌≡◌, ◌<◌, ◌≤◌, [], ◌∷◌, ◌++◌, take, map, length, ap, ◌∙◌, sym, arith, Bool}
use Rattle.std.specs.Arc.{arc_value}
use Rattle.std.specs.List.{enumerate_from}
use Rattle.std.proofs.lemmas.List.{map-append}
use Rattle.dq_base.specs.Batches.{is_local}
use Rattle.dq_base.specs.declared.query.Query.{Query}
use Rattle.dq_graph.proofs.Walking.{take_at, take_end}
use Rattle.dq_graph.proofs.splitting.locals_of.Goals as goal

pub loop-place-preserved : goal.loop-place-preserved
loop-place-preserved c =
    let xs = c.args.batch.now in
    let i = c.loop-place.place in
    let x = c.index-batch-place.result in
    let whole = enumerate_from 0 (map arc_value xs) in
    let lt : i < length xs = omega arith in
    let v : c.deref.result.now ≡ arc_value x = cc in
    let b = c.is_outdone.ensures ∙ ap (λ (y : Query). is_local whole (i, y)) v in
    c.in_ok-push.ensures.items
    ∙ ap (λ ys. ys ++ c.is_outdone.result ∷ []) c.loop-place.invariant
    ∙ ap (λ (z : Bool). map (is_local whole) (take i whole) ++ z ∷ []) b
    ∙ sym (map-append (is_local whole) (take i whole) ((i, arc_value x) ∷ []))
    ∙ ap (map (is_local whole)) (sym (take_at arc_value xs i x lt c.index-batch-place.is))

pub returns : goal.returns
returns c =
    let xs = c.args.batch.now in
    let i = c.loop-place.place in
    let whole = enumerate_from 0 (map arc_value xs) in
    let le : length xs ≤ i = omega arith in
    c.loop-place.invariant ∙ ap (map (is_local whole)) (take_end arc_value xs i le)

use Rattle.std.proofs.Common.{◌≡◌, ◌<◌, ◌≤◌, [], ◌∷◌, ◌++◌, take, map, length, ap, ◌∙◌, sym, arith}
use Rattle.std.specs.Arc.{arc_value}
use Rattle.std.specs.List.{enumerate_from}
use Rattle.std.proofs.lemmas.List.{map-append}
use Rattle.dq_base.specs.Batches as batches
use Rattle.dq_base.specs.Batches.{role_of}
use Rattle.dq_base.specs.declared.query.Query.{Query}
use Rattle.dq_base.specs.declared.canon.Role.{Role}
use Rattle.dq_graph.proofs.Walking.{take_at, take_end}
use Rattle.dq_graph.proofs.splitting.split.Goals as goal

pub loop-place-preserved : goal.loop-place-preserved
loop-place-preserved c =
    let xs = c.as_slice-batch.result.now in
    let i = c.loop-place.place in
    let x = c.index-batch-place.result in
    let whole = enumerate_from 0 (map arc_value xs) in
    let lt : i < length xs = omega arith in
    let v : c.deref.result.now ≡ arc_value x = cc in
    let r = c.in_ok-role_at.ensures ∙ ap (λ (y : Query). role_of whole (i, y)) v in
    c.in_ok-push.ensures.ok
    ∙ ap (λ ys. ys ++ c.in_ok-role_at.field-0 ∷ []) c.loop-place.invariant
    ∙ ap (λ (z : Role). map (role_of whole) (take i whole) ++ z ∷ []) r
    ∙ sym (map-append (role_of whole) (take i whole) ((i, arc_value x) ∷ []))
    ∙ ap (map (role_of whole)) (sym (take_at arc_value xs i x lt c.index-batch-place.is))

pub returns : goal.returns
returns c =
    let xs = c.as_slice-batch.result.now in
    let i = c.loop-place.place in
    let whole = enumerate_from 0 (map arc_value xs) in
    let le : length xs ≤ i = omega arith in
    c.loop-place.invariant ∙ ap (map (role_of whole)) (take_end arc_value xs i le) ∙ ap batches.roles c.as_slice-batch.ensures

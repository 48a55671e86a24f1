use Rattle.std.proofs.Common.{◌≡◌, ◌<◌, ◌≤◌, ◌+◌, ◌&&◌, not, true, false, drop, map, length, get_or, ap, ◌∙◌, sym, arith, Bool}
use Rattle.std.specs.Arc.{arc_value}
use Rattle.std.specs.List.{enumerate_from}
use Rattle.dq_base.specs.Batches.{is_local, local_to}
use Rattle.dq_base.specs.Covering.{covers}
use Rattle.dq_base.specs.declared.canon.Role.TheVariants.{Local}
use Rattle.dq_base.specs.declared.query.Query.{Query}
use Rattle.dq_graph.proofs.Walking.{drop_at, drop_end, find_here, find_on, find_end, length_mapped, mapped_at}
use Rattle.dq_graph.proofs.splitting.first_source.Goals as goal

pub bounds-locals-place : goal.bounds-locals-place
bounds-locals-place c =
    let xs = c.args.batch.now in
    let whole = enumerate_from 0 (map arc_value xs) in
    omega (arith, ap length c.requires, length_mapped arc_value (is_local whole) xs)

pub returns-then-is_source : goal.returns-then-is_source
returns-then-is_source c =
    let xs = c.args.batch.now in
    let i = c.loop-place.place in
    let x = c.index-batch-place.result in
    let whole = enumerate_from 0 (map arc_value xs) in
    let lt : i < length xs = omega arith in
    let v : arc_value x ≡ c.deref.result.now = cc in
    let l : get_or c.args.locals.now i false ≡ is_local whole (i, arc_value x) = ap (λ bs. get_or bs i false) c.requires ∙ mapped_at arc_value (is_local whole) xs i x false lt c.index-batch-place.is in
    let t : (not (is_local whole (i, arc_value x)) && covers (arc_value x) c.args.q.now) ≡ true =
    ap (λ (y : Query). not (is_local whole (i, arc_value x)) && covers y c.args.q.now) v
    ∙ ap (λ (b : Bool). not b && covers c.deref.result.now c.args.q.now) (sym l) ∙ sym c.is_source.ensures ∙ c.if-is_source.true in
    let found = find_here (λ p. not (is_local whole p) && covers p.1 c.args.q.now) whole (drop i whole) (drop (i + 1) whole) (i, arc_value x) c.loop-place.invariant (drop_at arc_value xs i x lt c.index-batch-place.is) t in
    λ place. ap Local c.in-Ok.ensures.1 ∙ ap local_to found

pub loop-place-preserved : goal.loop-place-preserved
loop-place-preserved c =
    let xs = c.args.batch.now in
    let i = c.loop-place.place in
    let x = c.index-batch-place.result in
    let whole = enumerate_from 0 (map arc_value xs) in
    let lt : i < length xs = omega arith in
    let v : arc_value x ≡ c.deref.result.now = cc in
    let l : get_or c.args.locals.now i false ≡ is_local whole (i, arc_value x) = ap (λ bs. get_or bs i false) c.requires ∙ mapped_at arc_value (is_local whole) xs i x false lt c.index-batch-place.is in
    let t : (not (is_local whole (i, arc_value x)) && covers (arc_value x) c.args.q.now) ≡ false =
    ap (λ (y : Query). not (is_local whole (i, arc_value x)) && covers y c.args.q.now) v
    ∙ ap (λ (b : Bool). not b && covers c.deref.result.now c.args.q.now) (sym l) ∙ sym c.is_source.ensures ∙ c.if-is_source.false in
    find_on (λ p. not (is_local whole p) && covers p.1 c.args.q.now) whole (drop i whole) (drop (i + 1) whole) (i, arc_value x) c.loop-place.invariant (drop_at arc_value xs i x lt c.index-batch-place.is) t

pub returns : goal.returns
returns c =
    let xs = c.args.batch.now in
    let i = c.loop-place.place in
    let whole = enumerate_from 0 (map arc_value xs) in
    let le : length xs ≤ i = omega arith in
    let none = find_end (λ p. not (is_local whole p) && covers p.1 c.args.q.now) whole (drop i whole) c.loop-place.invariant (drop_end arc_value xs i le) in
    λ place. ap local_to none

use Rattle.std.proofs.Common.{◌≡◌, true, false, map, length, get_or, ap, ◌∙◌, sym, arith}
use Rattle.std.specs.Prelude.{if◌then◌else◌}
use Rattle.std.specs.Arc.{arc_value}
use Rattle.std.specs.List.{enumerate_from}
use Rattle.dq_base.specs.Batches.{is_local, local_to, source_of, role_of}
use Rattle.dq_base.specs.declared.canon.Role.TheVariants.{Remote}
use Rattle.dq_graph.proofs.Walking.{length_map, length_mapped, got_mapped, got_below}
use Rattle.dq_graph.proofs.splitting.role_at.Goals as goal

pub bounds-locals-place : goal.bounds-locals-place
bounds-locals-place c =
    let xs = c.args.batch.now in
    let whole = enumerate_from 0 (map arc_value xs) in
    let below = got_below (map arc_value xs) c.args.place c.args.q.now c.requires.there in
    let same = length_map arc_value xs in
    omega (arith, ap length c.requires.locals, length_mapped arc_value (is_local whole) xs, below, same)

pub returns-then-locals-place : goal.returns-then-locals-place
returns-then-locals-place c =
    let xs = c.args.batch.now in
    let whole = enumerate_from 0 (map arc_value xs) in
    let q = c.args.q.now in
    let l : is_local whole (c.args.place, q) ≡ true = sym (got_mapped (is_local whole) (map arc_value xs) c.args.place q false c.requires.there) ∙ ap (λ bs. get_or bs c.args.place false) (sym c.requires.locals) ∙ c.if-locals-place.true in
    let e : local_to (source_of whole (c.args.place, q)) ≡ role_of whole (c.args.place, q) = ap (λ b. if b then local_to (source_of whole (c.args.place, q)) else Remote) (sym l) in
    rw (← e) (c.first_source.ensures c.args.place)

pub returns : goal.returns
returns c =
    let xs = c.args.batch.now in
    let whole = enumerate_from 0 (map arc_value xs) in
    let q = c.args.q.now in
    let l : is_local whole (c.args.place, q) ≡ false = sym (got_mapped (is_local whole) (map arc_value xs) c.args.place q false c.requires.there) ∙ ap (λ bs. get_or bs c.args.place false) (sym c.requires.locals) ∙ c.if-locals-place.false in
    ap (λ b. if b then local_to (source_of whole (c.args.place, q)) else Remote) (sym l)

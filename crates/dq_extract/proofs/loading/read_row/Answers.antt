use Rattle.std.proofs.Common.{arith, ◌<◌, length, sym, ap, ◌∙◌}
use Rattle.csv.specs.Records.{fields_of}
use Rattle.csv.proofs.RecordFacts.{field-get, field-there}
use Rattle.dq_base.specs.declared.schema.Sort.TheVariants as sort
use Rattle.dq_extract.proofs.Walk.{with_all, values_from-drop, next_item, next_fault, Answers-part}
use Rattle.dq_extract.proofs.loading.read_row.Goals as goal

pub unreachable-requires : goal.unreachable-requires
unreachable-requires c =
    field-there (fields_of c.args.row.now) c.loop-place.place (omega arith) (sym (rw c.in_default.is at c.get.ensures.value))

pub returns-in-Err : goal.returns-in-Err
returns-in-Err c =
    let row = c.args.number in
    let within : c.loop-place.place < length (fields_of c.args.row.now) = omega arith in
    let field = field-get (fields_of c.args.row.now) c.loop-place.place c.in-Some.field.now (sym c.in-Some.ensures.value) in
    let next = values_from-drop row c.loop-place.place c.args.sorts.now (fields_of c.args.row.now) sort.Whole c.in-Some.field.now c.loop-place-test.true within field in
    let so_far = c.loop-place.invariant ∙ ap (with_all c.loop-place.values) next in
    Answers-part _ _ _ (next_fault _ c.loop-place.values _ _ so_far) c.in-Err.ensures

pub loop-place-preserved : goal.loop-place-preserved
loop-place-preserved c =
    let row = c.args.number in
    let within : c.loop-place.place < length (fields_of c.args.row.now) = omega arith in
    let field = field-get (fields_of c.args.row.now) c.loop-place.place c.in-Some.field.now (sym c.in-Some.ensures.value) in
    let next = values_from-drop row c.loop-place.place c.args.sorts.now (fields_of c.args.row.now) sort.Whole c.in-Some.field.now c.loop-place-test.true within field in
    let so_far = c.loop-place.invariant ∙ ap (with_all c.loop-place.values) next in
    rw c.in_ok-push.ensures.ok (next_item _ c.loop-place.values _ _ _ so_far c.in-Ok.ensures)

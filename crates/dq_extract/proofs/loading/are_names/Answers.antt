use Rattle.std.proofs.Common.{arith, ◌<◌, length, sym, ◌∙◌}
use Rattle.csv.specs.Records.{fields_of}
use Rattle.csv.proofs.RecordFacts.{field-get, field-there}
use Rattle.dq_extract.proofs.Walk.{pointwise-drop, other_name, same_name}
use Rattle.dq_extract.proofs.loading.are_names.Goals as goal

pub unreachable-requires : goal.unreachable-requires
unreachable-requires c =
    field-there (fields_of c.args.row.now) c.loop-place.place (omega arith) (sym (rw c.in_default.is at c.get.ensures.value))

pub returns-then-ne : goal.returns-then-ne
returns-then-ne c =
    let within : c.loop-place.place < length (fields_of c.args.row.now) = omega arith in
    let field = field-get (fields_of c.args.row.now) c.loop-place.place c.in-Some.field.now (sym c.in-Some.ensures.value) in
    let next = pointwise-drop c.args.names.now (fields_of c.args.row.now) c.loop-place.place c.index-names-place.result c.in-Some.field.now c.loop-place-test.true within c.index-names-place.is field in
    other_name _ _ _ _ _ c.bytes.ensures (c.loop-place.invariant ∙ next) c.if-ne.ensures

pub loop-place-preserved : goal.loop-place-preserved
loop-place-preserved c =
    let within : c.loop-place.place < length (fields_of c.args.row.now) = omega arith in
    let field = field-get (fields_of c.args.row.now) c.loop-place.place c.in-Some.field.now (sym c.in-Some.ensures.value) in
    let next = pointwise-drop c.args.names.now (fields_of c.args.row.now) c.loop-place.place c.index-names-place.result c.in-Some.field.now c.loop-place-test.true within c.index-names-place.is field in
    same_name _ _ _ _ _ c.bytes.ensures (c.loop-place.invariant ∙ next) c.if-ne.ensures

use Rattle.std.proofs.Common.{arith, ℕ, subst, ◌≡◌, ◌≤◌, ◌*◌, ◌+◌, ◌∷◌, [], length, length-append, ◌∙◌, ap}
use Rattle.csv.specs.Records.{fields_of}
use Rattle.std.specs.Prelude.{Err}
use Rattle.dq_extract.specs.Rows.{Answers, values_from}
use Rattle.dq_extract.proofs.Walk.{next_fault, row_next, row_joins, Answers-part}
use Rattle.dq_extract.proofs.loading.read_rows.Goals as goal

pub returns-in-Err-clause-rows : goal.returns-in-Err-clause-rows
returns-in-Err-clause-rows c =
    let inv = c.loop-rows.invariant in
    let next : c.loop-rows.records.left ≡ c.next.new.self.fields ∷ c.next.new.self.left = rw c.if-not-branch.false at c.in_ok-next.ensures in
    let columns : c.len-columns.result ≡ length c.args.schema.now.names = c.len-columns.ensures ∙ ap length c.names.ensures.names in
    let wide : length (fields_of c.current-row.result.now) ≡ length c.args.schema.now.names = omega arith in
    let room : (length c.loop-rows.rows + 1) * length c.args.schema.now.names ≤ c.args.room =
    omega (arith, inv.cells, inv.within, ap (λ n. (length c.loop-rows.rows + 1) * n) columns) in
    let row = row_next c.args.schema.now c.args.room (length c.loop-rows.rows + 1) _ c.loop-rows.rows c.loop-rows.records.left c.next.new.self.left
    c.next.new.self.fields (fields_of c.current-row.result.now) c.as_slice.result.now inv.so_far next c.current-row.ensures
    (c.as_slice.ensures ∙ c.sorts.ensures.sorts) wide room in
    let P : ℕ → Type 0 = λ n. Answers (values_from (n + 1) 1 c.as_slice.result.now (fields_of c.current-row.result.now)) (Err c.in-Err.fault) in
    let answered : P c.len-number.result = c.in-Err.ensures in
    Answers-part _ _ _ (next_fault _ c.loop-rows.rows _ _ row) (subst P c.len-number.ensures answered)

pub loop-rows-preserved : goal.loop-rows-preserved
loop-rows-preserved c =
    let inv = c.loop-rows.invariant in
    let next : c.loop-rows.records.left ≡ c.next.new.self.fields ∷ c.next.new.self.left = rw c.if-not-branch.false at c.in_ok-next.ensures in
    let columns : c.len-columns.result ≡ length c.args.schema.now.names = c.len-columns.ensures ∙ ap length c.names.ensures.names in
    let wide : length (fields_of c.current-row.result.now) ≡ length c.args.schema.now.names = omega arith in
    let room : (length c.loop-rows.rows + 1) * length c.args.schema.now.names ≤ c.args.room =
    omega (arith, inv.cells, inv.within, ap (λ n. (length c.loop-rows.rows + 1) * n) columns) in
    let row = row_next c.args.schema.now c.args.room (length c.loop-rows.rows + 1) _ c.loop-rows.rows c.loop-rows.records.left c.next.new.self.left
    c.next.new.self.fields (fields_of c.current-row.result.now) c.as_slice.result.now inv.so_far next c.current-row.ensures
    (c.as_slice.ensures ∙ c.sorts.ensures.sorts) wide room in
    let longer : length c.push.new.self ≡ length c.loop-rows.rows + 1 = ap length c.in_ok-push.ensures.ok ∙ length-append c.loop-rows.rows (c.in-Ok.values ∷ []) in
    record {
      so_far = row_joins c.args.schema.now c.args.room _ c.loop-rows.rows c.push.new.self c.in-Ok.values _ c.next.new.self.left row
          (rw c.len-number.ensures at c.in-Ok.ensures) c.in_ok-push.ensures.ok;
      cells = omega (arith, inv.cells, ap (λ n. n * c.len-columns.result) longer);
      within = omega (arith, inv.within);
    }

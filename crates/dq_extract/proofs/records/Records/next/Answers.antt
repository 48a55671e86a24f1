use Rattle.std.proofs.Common.{arith, ◌≡◌, ◌<◌, ◌+◌, ◌-◌, List, ℕ, Some, Bor, sym, ap, ◌∙◌}
use Rattle.dq_extract.specs.Left.{records_left}
use Rattle.dq_extract.proofs.Leaves.{left_after, left_at_end, reads_on, none_left}
use Rattle.dq_extract.proofs.records.Records.next.Goals as goal

pub returns-then-self-eq0 : goal.returns-then-self-eq0
returns-then-self-eq0 c =
    ap (λ reading. reading.left) (sym c.self.view_is) ∙ none_left (λ (s : Bor (List ℕ)). Some s.now) c.self.inside.reader c.self.inside.fuel c.if-self-eq0.true

pub returns-in-Ok-false : goal.returns-in-Ok-false
returns-in-Ok-false c =
    let some_left : 0 < c.self.inside.fuel = omega arith in
    let reading = c.self.invariant some_left in
    let read = rw c.in-Ok-false.field-0-test at (c.in-Ok-false.ensures.reads reading.trim reading.ready) in
    ap (λ reading. reading.left) (sym c.self.view_is) ∙ left_at_end (λ (s : Bor (List ℕ)). Some s.now) c.self.inside.reader c.read_byte_record.new.self _ c.self.inside.fuel reading read

pub invariant_of-self-2 : goal.invariant_of-self-2
invariant_of-self-2 c =
    λ more.
    let some_left : 0 < c.self.inside.fuel = omega arith in
    let reading = c.self.invariant some_left in
    let ok = c.in-Ok-true.ensures in
    let read = rw c.in-Ok-true.field-0-test at (ok.reads reading.trim reading.ready) in
    reads_on (λ (s : Bor (List ℕ)). Some s.now) c.self.inside.reader c.read_byte_record.new.self _ reading read (ok.ready reading.trim) ok.flexible ok.goes

pub returns : goal.returns
returns c =
    let some_left : 0 < c.self.inside.fuel = omega arith in
    let reading = c.self.invariant some_left in
    let read = rw c.in-Ok-true.field-0-test at (c.in-Ok-true.ensures.reads reading.trim reading.ready) in
    let one_less : c.self.inside.fuel ≡ c.self.inside.fuel - 1 + 1 = omega arith in
    let (z, at_z, left) = left_after (λ (s : Bor (List ℕ)). Some s.now) c.self.inside.reader c.read_byte_record.new.self _ (c.self.inside.fuel - 1) reading read in
    ap (λ reading. reading.left) (sym c.self.view_is) ∙ ap (λ n. records_left (λ (s : Bor (List ℕ)). Some s.now) n c.self.inside.reader) one_less ∙ left

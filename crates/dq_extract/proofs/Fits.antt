-- The rows of a file fit their schema.
use Rattle.std.proofs.Common.{◌≡◌, ℕ, ◌+◌, ◌*◌, ◌<◌, ◌≤◌, zero, suc, ℤ, List, [], ◌∷◌, length, Bool, true, false, Option, Some, None, refl, ◌∙◌, arith, mul-suc}
use Rattle.std.proofs.lemmas.Grind.{common_steps}
use Rattle.std.specs.Prelude.{Result, Ok, Err, if◌then◌else◌, nat_lt, ◌==◌, ◌&&◌, bytes_eq}
use Rattle.std.specs.Cmp.Lexicographic.{pointwise}
use Rattle.std.specs.List.{list_all}
use Rattle.std.specs.Str.{is_utf8}
use Rattle.dq_base.specs.Headings.{Heading}
use Rattle.dq_base.specs.Limits.{cell_room}
use Rattle.dq_base.specs.Versions.{value_fits, row_fits}
use Rattle.dq_base.specs.declared.schema.Sort.{Sort}
use Rattle.dq_base.specs.declared.schema.Sort.TheVariants as sort
use Rattle.dq_base.specs.declared.value.Value.{Value}
use Rattle.dq_base.specs.declared.value.Value.TheVariants as value
use Rattle.dq_extract.specs.Rows.{RowFault, Header, Width, TooManyCells, Number, NotText, whole_value, full_value, value_of, with_first, values_from, row_of, rows_from, rows_after}
use Rattle.dq_extract.specs.Segments.{IsSegment}
use Rattle.dq_extract.specs.Wholes.{whole_of}

whole_fits : (fault : RowFault) (o : Option ℤ) (v : Value) → whole_value fault o ≡ Ok v → value_fits sort.Whole v ≡ true
whole_fits fault None v is = cc
whole_fits fault (Some z) value.Null is = refl
whole_fits fault (Some z) (value.Int n) is = refl
whole_fits fault (Some z) (value.Word t) is = cc

text_fits : (b : Bool) (fault : RowFault) (bytes : List ℕ) (v : Value) → (if b then Ok (value.Word bytes) else Err fault) ≡ Ok v → value_fits sort.Word v ≡ true
text_fits true fault bytes value.Null is = refl
text_fits true fault bytes (value.Int n) is = cc
text_fits true fault bytes (value.Word t) is = refl
text_fits false fault bytes v is = cc

null_fits : (s : Sort) (v : Value) (none : Result Value RowFault) → none ≡ Ok value.Null → none ≡ Ok v → value_fits s v ≡ true
null_fits sort.Whole value.Null none null is = refl
null_fits sort.Word value.Null none null is = refl
null_fits s (value.Int n) none null is = cc
null_fits s (value.Word t) none null is = cc

full_fits : (s : Sort) (row column : ℕ) (bytes : List ℕ) (v : Value) → full_value s row column bytes ≡ Ok v → value_fits s v ≡ true
full_fits sort.Whole row column bytes v is = whole_fits (Number row column) (whole_of bytes) v is
full_fits sort.Word row column bytes v is = text_fits (is_utf8 bytes) (NotText row column) bytes v is

value_of-fits : (s : Sort) (row column : ℕ) (bytes : List ℕ) (v : Value) → value_of s row column bytes ≡ Ok v → value_fits s v ≡ true
value_of-fits s row column [] v is = null_fits s v (value_of s row column []) refl is
value_of-fits s row column (b ∷ bs) v is = full_fits s row column (b ∷ bs) v is

-- the parts of a list without fault
with_first-ok : {X : Type 0} (first : Result X RowFault) (more : Result (List X) RowFault) (xs : List X) → with_first first more ≡ Ok xs
    → (y : X) × (ys : List X) × (first ≡ Ok y) × (more ≡ Ok ys) × (y ∷ ys ≡ xs)
with_first-ok (Err fault) more xs is = cc
with_first-ok (Ok x) (Err fault) xs is = cc
with_first-ok (Ok x) (Ok ys) xs is = (x, ys, refl, refl, cc)

both : (a b : Bool) → a ≡ true → b ≡ true → (a && b) ≡ true
both a b p q = rw (p, q) refl

no_values : (values : List Value) (none : Result (List Value) RowFault) → none ≡ Ok [] → none ≡ Ok values → row_fits [] values ≡ true
no_values [] none empty is = refl
no_values (v ∷ vs) none empty is = cc

values_from-fit : (row column : ℕ) (sorts : List Sort) (fields : List (List ℕ)) (values : List Value)
    → length fields ≡ length sorts → values_from row column sorts fields ≡ Ok values → row_fits sorts values ≡ true
values_from-fit row column [] fields values same is = no_values values (values_from row column [] fields) refl is
values_from-fit row column (s ∷ sorts) [] values same is = absurd (omega arith)
values_from-fit row column (s ∷ sorts) (field ∷ fields) values same is =
    let (v, vs, first, more, joined) = with_first-ok (value_of s row column field) (values_from row (column + 1) sorts fields) values is in
    let rest = values_from-fit row (column + 1) sorts fields vs (omega arith) more in
    rw (← joined) (both (value_fits s v) (row_fits sorts vs) (value_of-fits s row column field v first) rest)

tests_passed : (wide above : Bool) (f g : RowFault) (r : Result (List Value) RowFault) (values : List Value)
    → (if wide then (if above then Err f else r) else Err g) ≡ Ok values → (wide ≡ true) × (r ≡ Ok values)
tests_passed true true f g r values is = cc
tests_passed true false f g r values is = (refl, is)
tests_passed false above f g r values is = cc

row_of-fits : (heading : Heading) (room row : ℕ) (fields : List (List ℕ)) (values : List Value) → length heading.names ≡ length heading.sorts
    → row_of heading room row fields ≡ Ok values → row_fits heading.sorts values ≡ true
row_of-fits heading room row fields values paired is =
    let passed = tests_passed (length fields == length heading.names) (nat_lt room (row * length heading.names)) TooManyCells (Width row)
    (values_from row 1 heading.sorts fields) values is in
    let same : length fields ≡ length heading.names = let wide = passed.0 in grind (arith, common_steps) in
    values_from-fit row 1 heading.sorts fields values (same ∙ paired) passed.1

no_rows : (p : List Value → Bool) (rows : List (List Value)) (none : Result (List (List Value)) RowFault) → none ≡ Ok [] → none ≡ Ok rows → list_all p rows ≡ true
no_rows p [] none empty is = refl
no_rows p (x ∷ xs) none empty is = cc

pub rows_from-fit : (heading : Heading) (room row : ℕ) (left : List (List (List ℕ))) (rows : List (List Value)) → length heading.names ≡ length heading.sorts
    → rows_from heading room row left ≡ Ok rows → list_all (row_fits heading.sorts) rows ≡ true
rows_from-fit heading room row [] rows paired is = no_rows (row_fits heading.sorts) rows (rows_from heading room row []) refl is
rows_from-fit heading room row (fields ∷ left) rows paired is =
    let (v, vs, first, more, joined) = with_first-ok (row_of heading room row fields) (rows_from heading room (row + 1) left) rows is in
    let rest = rows_from-fit heading room (row + 1) left vs paired more in
    rw (← joined) (both (row_fits heading.sorts v) (list_all (row_fits heading.sorts) vs) (row_of-fits heading room row fields v paired first) rest)

header_passed : (b : Bool) (f : RowFault) (r : Result (List (List Value)) RowFault) (rows : List (List Value)) → (if b then r else Err f) ≡ Ok rows → r ≡ Ok rows
header_passed true f r rows is = is
header_passed false f r rows is = cc

pub rows_after-fit : (heading : Heading) (room : ℕ) (left : List (List (List ℕ))) (rows : List (List Value)) → length heading.names ≡ length heading.sorts
    → rows_after heading room left ≡ Ok rows → list_all (row_fits heading.sorts) rows ≡ true
rows_after-fit heading room [] rows paired is = cc
rows_after-fit heading room (first ∷ left) rows paired is =
    rows_from-fit heading room 1 left rows paired (header_passed (pointwise bytes_eq heading.names first) Header (rows_from heading room 1 left) rows is)

-- with a column at least there are no more rows than cells
pub fewer : (n columns : ℕ) → 0 < columns → n ≤ n * columns
fewer n zero some = absurd (omega arith)
fewer n (suc m) some = omega (arith, mul-suc n m)

-- the segment of a file
pub IsSegment-loaded : (heading kept : Heading) (room : ℕ) (left : List (List (List ℕ))) (rows : List (List Value)) → length heading.names ≡ length heading.sorts
    → 0 < length heading.names → room ≤ cell_room → rows_after heading room left ≡ Ok rows → length rows * length heading.names ≤ room → kept ≡ heading
    → IsSegment (record { heading = kept; rows = rows })
IsSegment-loaded heading kept room left rows paired columns few is within same =
    let fit : list_all (row_fits heading.sorts) rows ≡ true = rows_after-fit heading room left rows paired is in
    let cells : length rows * length heading.names ≤ cell_room = omega arith in
    let rows_fit : length rows ≤ cell_room = grind (arith, fewer (length rows) (length heading.names) columns) in
    rw same (record { version = record { paired = paired; fit = fit; few_rows = rows_fit; few_cells = cells }; columns = columns })

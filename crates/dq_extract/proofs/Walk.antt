-- Walks over records and fields.
use Rattle.std.proofs.Common.{◌≡◌, ◌≢◌, ◌<◌, ◌≤◌, ℕ, ◌+◌, ◌*◌, List, [], ◌∷◌, ◌++◌, length, drop, get_or, true, false, refl, ap, sym, ◌∙◌, arith, append_assoc, Bool, length-append}
use Rattle.std.proofs.lemmas.Grind.{common_steps}
use Rattle.std.proofs.lemmas.List.{append-nil, drop_more}
use Rattle.std.specs.Prelude.{Result, Ok, Err, nat_lt, ◌==◌, ◌&&◌, not, bytes_eq}
use Rattle.std.specs.Cmp.Lexicographic.{pointwise}
use Rattle.dq_base.specs.Headings.{Heading}
use Rattle.dq_base.specs.declared.schema.Sort.{Sort}
use Rattle.dq_base.specs.declared.value.Value.{Value}
use Rattle.dq_extract.specs.declared.fault.LoadFault.{LoadFault}
use Rattle.dq_extract.specs.declared.fault.LoadFault.TheVariants as fault
use Rattle.dq_extract.specs.Rows.{RowFault, Header, Width, Number, NotText, TooManyCells, Answers, rows_from, row_of, values_from, value_of, with_first}

-- items that stand before those of what follows
abbrev pub with_all : {X : Type 0} → List X → Result (List X) RowFault → Result (List X) RowFault
with_all xs (Err fault) = Err fault
with_all xs (Ok ys) = Ok (xs ++ ys)

pub with_all-nil : {X : Type 0} (more : Result (List X) RowFault) → more ≡ with_all [] more
with_all-nil (Err fault) = refl
with_all-nil (Ok ys) = refl

pub with_all-end : {X : Type 0} (xs : List X) → with_all xs (Ok []) ≡ Ok xs
with_all-end xs = ap Ok (append-nil xs)

pub with_all-first : {X : Type 0} (xs : List X) (x : X) (more : Result (List X) RowFault) → with_all xs (with_first (Ok x) more) ≡ with_all (xs ++ x ∷ []) more
with_all-first xs x (Err fault) = refl
with_all-first xs x (Ok ys) = ap Ok (sym (append_assoc xs (x ∷ []) ys))

-- a fault stays the first
with_first-fault : {X : Type 0} (first : Result X RowFault) (more : Result (List X) RowFault) (f : RowFault) → first ≡ Err f → with_first first more ≡ Err f
with_first-fault first more f is = rw is refl

with_all-fault : {X : Type 0} (xs : List X) (more : Result (List X) RowFault) (f : RowFault) → more ≡ Err f → with_all xs more ≡ Err f
with_all-fault xs more f is = rw is refl

-- a fault that a part answers
pub Answers-part : {X Y : Type 0} (whole : Result X RowFault) (part : Result Y RowFault) (e : LoadFault) → ((f : RowFault) → part ≡ Err f → whole ≡ Err f)
    → Answers part (Err e) → Answers whole (Err e)
Answers-part whole part fault.Header fails answer = fails Header answer
Answers-part whole part (fault.Width row) fails answer = fails (Width row) answer
Answers-part whole part (fault.Number row column) fails answer = fails (Number row column) answer
Answers-part whole part (fault.NotText row column) fails answer = fails (NotText row column) answer
Answers-part whole part fault.TooManyCells fails answer = fails TooManyCells answer
Answers-part whole part fault.Memory fails answer = tt

-- the fault of the item that comes next
pub next_fault : {X : Type 0} (want : Result (List X) RowFault) (done : List X) (first : Result X RowFault) (more : Result (List X) RowFault)
    → want ≡ with_all done (with_first first more) → (f : RowFault) → first ≡ Err f → want ≡ Err f
next_fault want done first more so_far f is = so_far ∙ with_all-fault done (with_first first more) f (with_first-fault first more f is)

-- the item that comes next
pub next_item : {X : Type 0} (want : Result (List X) RowFault) (done : List X) (first : Result X RowFault) (x : X) (more : Result (List X) RowFault)
    → want ≡ with_all done (with_first first more) → first ≡ Ok x → want ≡ with_all (done ++ x ∷ []) more
next_item want done first x more so_far is = so_far ∙ ap (λ r. with_all done (with_first r more)) is ∙ with_all-first done x more

-- the fields from a place on
pub values_from-drop : (row i : ℕ) (sorts : List Sort) (fields : List (List ℕ)) (d : Sort) (field : List ℕ)
    → i < length sorts → i < length fields → get_or fields i [] ≡ field
    → values_from row (i + 1) (drop i sorts) (drop i fields) ≡ with_first (value_of (get_or sorts i d) row (i + 1) field) (values_from row (i + 1 + 1) (drop (i + 1) sorts) (drop (i + 1) fields))
values_from-drop row i sorts fields d field sort_there field_there at_field =
    let more = values_from row (i + 1 + 1) (drop (i + 1) sorts) (drop (i + 1) fields) in
    ap (λ ss. values_from row (i + 1) ss (drop i fields)) (drop_more sorts i d sort_there)
    ∙ ap (λ fs. values_from row (i + 1) (get_or sorts i d ∷ drop (i + 1) sorts) fs) (drop_more fields i [] field_there)
    ∙ ap (λ f. with_first (value_of (get_or sorts i d) row (i + 1) f) more) at_field

-- a row of another width
pub width_at : (heading : Heading) (room row : ℕ) (fields : List (List ℕ))
    → length fields ≢ length heading.names → row_of heading room row fields ≡ Err (Width row)
width_at heading room row fields other =
    let test : (length fields == length heading.names) ≡ false = grind (arith, common_steps) in rw test refl

-- a row with which the cells are too many
pub cells_at : (heading : Heading) (room row : ℕ) (fields : List (List ℕ))
    → length fields ≡ length heading.names → room < row * length heading.names → row_of heading room row fields ≡ Err TooManyCells
cells_at heading room row fields same above =
    let width : (length fields == length heading.names) ≡ true = grind (arith, common_steps) in
    let cells : nat_lt room (row * length heading.names) ≡ true = grind (arith, common_steps) in
    rw (width, cells) refl

-- a row that has the width, and room
pub row_at : (heading : Heading) (room row : ℕ) (fields : List (List ℕ))
    → length fields ≡ length heading.names → row * length heading.names ≤ room
    → row_of heading room row fields ≡ values_from row 1 heading.sorts fields
row_at heading room row fields same within =
    let width : (length fields == length heading.names) ≡ true = grind (arith, common_steps) in
    let cells : nat_lt room (row * length heading.names) ≡ false = grind (arith, common_steps) in
    rw (width, cells) refl

-- the names and the fields from a place on
pub pointwise-drop : (names fields : List (List ℕ)) (i : ℕ) (name field : List ℕ)
    → i < length names → i < length fields → name ≡ get_or names i name → get_or fields i [] ≡ field
    → pointwise bytes_eq (drop i names) (drop i fields) ≡ (bytes_eq name field && pointwise bytes_eq (drop (i + 1) names) (drop (i + 1) fields))
pointwise-drop names fields i name field name_there field_there at_name at_field =
    let more = pointwise bytes_eq (drop (i + 1) names) (drop (i + 1) fields) in
    ap (λ ns. pointwise bytes_eq ns (drop i fields)) (drop_more names i name name_there)
    ∙ ap (λ fs. pointwise bytes_eq (get_or names i name ∷ drop (i + 1) names) fs) (drop_more fields i [] field_there)
    ∙ ap (λ n. bytes_eq n (get_or fields i []) && more) (sym at_name)
    ∙ ap (λ f. bytes_eq name f && more) at_field

not_true : (b : Bool) → true ≡ not b → b ≡ false
not_true true e = cc
not_true false e = refl

not_false : (b : Bool) → false ≡ not b → b ≡ true
not_false true e = refl
not_false false e = cc

-- a field that isn't the name
pub other_name : (want more : Bool) (name field bytes : List ℕ) → bytes ≡ name → want ≡ (bytes_eq name field && more)
    → true ≡ not (bytes_eq bytes field) → false ≡ want
other_name want more name field bytes same is test =
    let differs : bytes_eq name field ≡ false = ap (λ b. bytes_eq b field) (sym same) ∙ not_true (bytes_eq bytes field) test in
    sym (is ∙ ap (λ b. b && more) differs)

-- a field that is the name
pub same_name : (want more : Bool) (name field bytes : List ℕ) → bytes ≡ name → want ≡ (bytes_eq name field && more)
    → false ≡ not (bytes_eq bytes field) → want ≡ more
same_name want more name field bytes same is test =
    let equal : bytes_eq name field ≡ true = ap (λ b. bytes_eq b field) (sym same) ∙ not_false (bytes_eq bytes field) test in
    is ∙ ap (λ b. b && more) equal

-- the record that comes next, as a row
pub row_next : (heading : Heading) (room number : ℕ) (want : Result (List (List Value)) RowFault) (rows : List (List Value)) (before after : List (List (List ℕ)))
    (fields fields' : List (List ℕ)) (sorts : List Sort)
    → want ≡ with_all rows (rows_from heading room number before) → before ≡ fields ∷ after → fields' ≡ fields → sorts ≡ heading.sorts
    → length fields' ≡ length heading.names → number * length heading.names ≤ room
    → want ≡ with_all rows (with_first (values_from number 1 sorts fields') (rows_from heading room (number + 1) after))
row_next heading room number want rows before after fields fields' sorts so_far next same sorted wide within =
    let more = rows_from heading room (number + 1) after in
    so_far ∙ ap (λ left. with_all rows (rows_from heading room number left)) next
    ∙ ap (λ fs. with_all rows (with_first (row_of heading room number fs) more)) (sym same)
    ∙ ap (λ r. with_all rows (with_first r more)) (row_at heading room number fields' wide within)
    ∙ ap (λ ss. with_all rows (with_first (values_from number 1 ss fields') more)) (sym sorted)

-- one more row
pub row_joins : (heading : Heading) (room : ℕ) (want : Result (List (List Value)) RowFault) (rows rows' : List (List Value)) (values : List Value) (first : Result (List Value) RowFault)
    (after : List (List (List ℕ)))
    → want ≡ with_all rows (with_first first (rows_from heading room (length rows + 1 + 1) after)) → first ≡ Ok values → rows' ≡ rows ++ values ∷ []
    → want ≡ with_all rows' (rows_from heading room (length rows' + 1) after)
row_joins heading room want rows rows' values first after so_far is joined =
    let longer : length rows' ≡ length rows + 1 = omega (arith, ap length joined ∙ length-append rows (values ∷ [])) in
    rw (longer, joined) (next_item want rows first values (rows_from heading room (length rows + 1 + 1) after) so_far is)

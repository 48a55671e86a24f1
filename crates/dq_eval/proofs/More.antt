-- The rows of one more segment.
use Rattle.std.proofs.Common.{◌≡◌, ◌<◌, ◌≤◌, ◌+◌, ℕ, List, [], ◌∷◌, ◌++◌, length, take, drop, ap, sym, ◌∙◌, arith, length-append}
use Rattle.std.proofs.lemmas.List.{append-nil, take_more, take-append-drop, length-take, take_all}
use Rattle.std.proofs.lemmas.List.Concat.{flat_map-append}
use Rattle.std.proofs.lemmas.Option.{slice_get_within, get_or_from_slice_get}
use Rattle.std.specs.Prelude.{slice_get, Some}
use Rattle.dq_base.specs.Versions.{Version}
use Rattle.dq_base.specs.declared.value.Value.{Value}
use Rattle.dq_base.specs.declared.query.Query.{Query}
use Rattle.dq_extract.specs.Segments.{rows_in}
use Rattle.dq_fold.specs.Folding.{Folded, folded}

pub rows_more : (versions : List Version) (place : ℕ) (v : Version) → slice_get versions place ≡ Some v → rows_in (take (place + 1) versions) ≡ rows_in (take place versions) ++ v.rows
rows_more versions place v is =
    let lt = slice_get_within versions place v is in
    ap rows_in (take_more versions place v lt ∙ ap (λ w. take place versions ++ w ∷ []) (get_or_from_slice_get versions place v v is))
    ∙ flat_map-append (λ w. w.rows) (take place versions) (v ∷ []) ∙ ap (λ rows. rows_in (take place versions) ++ rows) (append-nil v.rows)

rows_of_some : (versions : List Version) (count : ℕ) → length (rows_in (take count versions)) ≤ length (rows_in versions)
rows_of_some versions count =
    let whole = ap (λ vs. length (rows_in vs)) (sym (take-append-drop count versions)) ∙ ap length (flat_map-append (λ w. w.rows) (take count versions) (drop count versions)) in
    omega (arith, whole, length-append (rows_in (take count versions)) (rows_in (drop count versions)))

-- a row of the segment at a place is one of fewer than all
pub row_within : (versions : List Version) (place i : ℕ) (v : Version) (rows : List (List Value)) (fold : Folded) (key : Query)
    → slice_get versions place ≡ Some v → rows ≡ v.rows → i < length rows
    → fold ≡ folded key (rows_in (take place versions) ++ take i rows) → fold.rows < length (rows_in versions)
row_within versions place i v rows fold key is own lt held =
    let count = ap (λ f. f.rows) held ∙ length-append (rows_in (take place versions)) (take i rows) in
    let more = ap length (rows_more versions place v is) ∙ length-append (rows_in (take place versions)) v.rows in
    omega (arith, count, more, ap length own, length-take i rows, rows_of_some versions (place + 1))

-- all rows of the segment at a place
pub segment_added : (versions : List Version) (place i : ℕ) (v : Version) (rows : List (List Value)) (fold : Folded) (key : Query)
    → slice_get versions place ≡ Some v → rows ≡ v.rows → length rows ≤ i
    → fold ≡ folded key (rows_in (take place versions) ++ take i rows) → fold ≡ folded key (rows_in (take (place + 1) versions))
segment_added versions place i v rows fold key is own all held =
    held ∙ ap (λ taken. folded key (rows_in (take place versions) ++ taken)) (take_all i rows all ∙ own) ∙ ap (folded key) (sym (rows_more versions place v is))

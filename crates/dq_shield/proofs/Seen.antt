-- The visible rows of one more segment.
use Rattle.std.proofs.Common.{◌≡◌, ◌+◌, ℕ, List, [], ◌∷◌, ◌++◌, take, ap, sym, ◌∙◌}
use Rattle.std.specs.Prelude.{slice_get, Some}
use Rattle.std.proofs.lemmas.List.{append-nil, take_more}
use Rattle.std.proofs.lemmas.List.Concat.{flat_map-append}
use Rattle.std.proofs.lemmas.List.Elements.{filter-append}
use Rattle.std.proofs.lemmas.Option.{slice_get_within, get_or_from_slice_get}
use Rattle.dq_base.specs.Filters.{passes}
use Rattle.dq_base.specs.Sessions.{visible}
use Rattle.dq_base.specs.Versions.{Version}
use Rattle.dq_base.specs.declared.predicate.Predicate.{Predicate}
use Rattle.dq_base.specs.declared.value.Value.{Value}
use Rattle.dq_extract.specs.Segments.{rows_in}

rows_more : (versions : List Version) (place : ℕ) (v : Version) → slice_get versions place ≡ Some v → rows_in (take (place + 1) versions) ≡ rows_in (take place versions) ++ v.rows
rows_more versions place v is =
    let lt = slice_get_within versions place v is in
    ap rows_in (take_more versions place v lt ∙ ap (λ w. take place versions ++ w ∷ []) (get_or_from_slice_get versions place v v is))
    ∙ flat_map-append (λ w. w.rows) (take place versions) (v ∷ []) ∙ ap (λ rows. rows_in (take place versions) ++ rows) (append-nil v.rows)

pub visible_more : (filters : List Predicate) (versions : List Version) (place : ℕ) (v : Version) (rows before after : List (List Value))
    → slice_get versions place ≡ Some v → rows ≡ v.rows → before ≡ visible filters (rows_in (take place versions)) → after ≡ before ++ visible filters rows
    → after ≡ visible filters (rows_in (take (place + 1) versions))
visible_more filters versions place v rows before after is own old new =
    new ∙ ap (λ rs. rs ++ visible filters rows) old ∙ ap (λ rs. visible filters (rows_in (take place versions)) ++ visible filters rs) own
    ∙ sym (filter-append (passes filters) (rows_in (take place versions)) v.rows) ∙ ap (visible filters) (sym (rows_more versions place v is))

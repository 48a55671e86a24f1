-- One more segment behind those of an extract.
use Rattle.std.proofs.Common.{◌≡◌, ◌≤◌, ℕ, ◌+◌, ◌*◌, List, [], ◌∷◌, ◌++◌, length, take, true, refl, ◌<◌, ap, sym, ◌∙◌, arith, rules, length-append, add-mul, Some}
use Rattle.std.proofs.lemmas.Grind.{flat_map-append}
use Rattle.std.proofs.lemmas.List.{append-nil, take_more}
use Rattle.std.proofs.lemmas.List.Elements.{All-append}
use Rattle.std.proofs.lemmas.List.Folds.{list_all-append}
use Rattle.std.proofs.lemmas.Option.{slice_get_within, get_or_from_slice_get}
use Rattle.std.specs.Prelude.{slice_get}
use Rattle.std.specs.List.{list_all}
use Rattle.dq_base.specs.Headings.{Heading}
use Rattle.dq_base.specs.Limits.{cell_room}
use Rattle.dq_base.specs.Versions.{Version, IsVersion, cells_of, row_fits}
use Rattle.dq_extract.proofs.Fits.{fewer}
use Rattle.dq_extract.specs.Segments.{rows_in, AreUnder, IsExtract}

pub rows_in-push : (versions : List Version) (v : Version) → rows_in (versions ++ v ∷ []) ≡ rows_in versions ++ v.rows
rows_in-push versions v = flat_map-append (λ w. w.rows) versions (v ∷ []) ∙ ap (λ rows. rows_in versions ++ rows) (append-nil v.rows)

-- the first places of a list, and the next
pub take-push : {X : Type 0} (xs : List X) (i : ℕ) (x : X) → slice_get xs i ≡ Some x → take (i + 1) xs ≡ take i xs ++ x ∷ []
take-push xs i x is = take_more xs i x (slice_get_within xs i x is) ∙ ap (λ y. take i xs ++ y ∷ []) (get_or_from_slice_get xs i x x is)

more_under : (heading : Heading) (versions : List Version) (v : Version) → AreUnder heading versions → v.heading ≡ heading → AreUnder heading (versions ++ v ∷ [])
more_under heading versions v under same = All-append (λ w. w.heading ≡ heading) versions (v ∷ []) under (search (rules, same))

-- an extract with one more segment
pub IsExtract-push : (heading : Heading) (versions : List Version) (v : Version) → IsExtract heading versions → IsVersion v → v.heading ≡ heading
    → cells_of (record { heading = heading; rows = rows_in versions }) + cells_of v ≤ cell_room
    → length (rows_in versions) + length v.rows ≤ cell_room
    → IsExtract heading (versions ++ v ∷ [])
IsExtract-push heading versions v old new same cells rows =
    let joined = rows_in-push versions v in
    let count : length (rows_in (versions ++ v ∷ [])) ≡ length (rows_in versions) + length v.rows = ap length joined ∙ length-append (rows_in versions) v.rows in
    let fits : list_all (row_fits heading.sorts) v.rows ≡ true = rw (ap (λ h. h.sorts) same) at new.fit in
    record {
      under = more_under heading versions v old.under same;
      version = record {
        paired = old.version.paired;
        fit = ap (list_all (row_fits heading.sorts)) joined ∙ list_all-append (row_fits heading.sorts) (rows_in versions) v.rows ∙ rw (old.version.fit, fits) refl;
        few_rows = omega arith;
        few_cells = omega (arith, ap (λ n. n * length heading.names) count, ap (λ h. length v.rows * length h.names) same);
      };
    }

-- the same, by equations
pub IsExtract-next : (heading heading' : Heading) (versions versions' : List Version) (whole v : Version)
    → IsExtract heading versions → record { heading = heading; rows = rows_in versions } ≡ whole → IsVersion v → v.heading ≡ whole.heading
    → cells_of whole + cells_of v ≤ cell_room → 0 < length v.heading.names
    → heading' ≡ heading → versions' ≡ versions ++ v ∷ []
    → IsExtract heading' versions'
IsExtract-next heading heading' versions versions' whole v old is new same cells some same_heading next =
    let columns : length v.heading.names ≡ length whole.heading.names = ap (λ h. length h.names) same in
    let all : (length whole.rows + length v.rows) * length whole.heading.names ≤ cell_room =
    omega (arith, cells, ap (λ n. length v.rows * n) columns, add-mul (length whole.rows) (length v.rows) (length whole.heading.names)) in
    let rows : length whole.rows + length v.rows ≤ cell_room = omega (arith, all, fewer (length whole.rows + length v.rows) (length whole.heading.names) (omega arith)) in
    let pushed = IsExtract-push heading versions v old new (same ∙ ap (λ w. w.heading) (sym is))
    (omega (arith, ap cells_of is)) (omega (arith, ap (λ w. length w.rows) is)) in
    rw (same_heading, next) pushed

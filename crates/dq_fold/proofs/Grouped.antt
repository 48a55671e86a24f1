-- The groups of rows, and one more row.
use Rattle.std.proofs.Common.{◌≡◌, ℕ, ◌+◌, ◌^◌, ◌≤◌, ◌<◌, Bool, true, false, ◌||◌, cond, List, [], ◌∷◌, ◌++◌, map, length, refl, sym, ap, ◌∙◌, subst, Some, None, arith}
use Rattle.std.specs.List.{All, filter, list_any}
use Rattle.std.specs.Ordering.{is_eq}
use Rattle.std.specs.Cmp.{IsTotalOrder}
use Rattle.std.specs.BTreeMap.{insert_entry, is_at}
use Rattle.std.specs.Map.{lookup, set_value}
use Rattle.std.proofs.lemmas.Cmp.{lists_total, eq_by_cmp_equiv}
use Rattle.std.proofs.lemmas.List.{append-nil, map_push}
use Rattle.std.proofs.lemmas.List.Elements.{filter-append}
use Rattle.dq_base.specs.Answers.{answer, cell_of, first_rows, group_row, key_of, keys, keys_of, plain, row_cmp, rows_with}
use Rattle.dq_base.specs.Dims.{Dimension}
use Rattle.dq_base.specs.Filters.{keeps, kept}
use Rattle.dq_base.specs.Orders.{key_cmp}
use Rattle.dq_base.specs.Sets.{ascending, has, set_of, with}
use Rattle.dq_base.specs.ValueOrder.{value_cmp_total}
use Rattle.dq_base.proofs.Exact.{exact_keys}
use Rattle.dq_base.proofs.SetLaws.{Ascends, ascends_set_of}
use Rattle.dq_base.proofs.SetTests.{any_set_of}
use Rattle.dq_base.specs.declared.value.Value.{Value}
use Rattle.dq_base.specs.declared.cell.Cell.{Cell}
use Rattle.dq_base.specs.declared.query.Measure.{Measure}
use Rattle.dq_base.specs.declared.query.Query.{Query}
use Rattle.dq_fold.specs.Folding.{AllSmall, entries_by, group_cells, groups_of, tallies_of}
use Rattle.dq_fold.specs.Tallies.{added, count_in, tally_of}
use Rattle.dq_fold.specs.declared.tally.Tally.{Tally}
use Rattle.dq_fold.proofs.Mapped.{insert_mapped, lookup_mapped, set_mapped}
use Rattle.dq_fold.proofs.Tallied.{added_tallies, all_map, count_small, fold_push, length_filter, tally_cells_of}

pub keys_total : IsTotalOrder key_cmp
keys_total = lists_total value_cmp_total

chosen_one : {X : Type 0} (p : X → Bool) (x : X) (b : Bool) → p x ≡ b → filter p (x ∷ []) ≡ cond b (x ∷ []) []
chosen_one p x b e = ap (λ c. cond c (x ∷ []) []) e

filter_push : {X : Type 0} (p : X → Bool) (xs : List X) (x : X) (b : Bool) → p x ≡ b → filter p (xs ++ x ∷ []) ≡ filter p xs ++ cond b (x ∷ []) []
filter_push p xs x b e = filter-append p xs (x ∷ []) ∙ ap (λ zs. filter p xs ++ zs) (chosen_one p x b e)

filter_skip : {X : Type 0} (p : X → Bool) (xs : List X) (x : X) → p x ≡ false → filter p (xs ++ x ∷ []) ≡ filter p xs
filter_skip p xs x e = filter_push p xs x false e ∙ append-nil (filter p xs)

none_here : {X : Type 0} (b any : Bool) (x : X) (rest : List X) → (b || any) ≡ false → (any ≡ false → rest ≡ []) → cond b (x ∷ rest) rest ≡ []
none_here true any x rest e h = cc
none_here false any x rest e h = h e

-- where none passes, none is kept
filter_none : {X : Type 0} (p : X → Bool) (xs : List X) → list_any p xs ≡ false → filter p xs ≡ []
filter_none p [] e = refl
filter_none p (x ∷ xs) e = none_here (p x) (list_any p xs) x (filter p xs) e (filter_none p xs)

any_map : {X Y : Type 0} (p : Y → Bool) (h : X → Y) (xs : List X) → list_any p (map h xs) ≡ list_any (λ x. p (h x)) xs
any_map p h [] = refl
any_map p h (x ∷ xs) = ap (λ b. p (h x) || b) (any_map p h xs)

pub ascends_keys : (dims : List Dimension) (rows : List (List Value)) → Ascends key_cmp (keys_of dims rows)
ascends_keys [] rows = (tt, tt)
ascends_keys (d ∷ dims) rows = ascends_set_of key_cmp keys_total (map (key_of (d ∷ dims)) rows)

keys_push : (dims : List Dimension) (rows : List (List Value)) (row : List Value) → keys_of dims (rows ++ row ∷ []) ≡ with key_cmp (key_of dims row) (keys_of dims rows)
keys_push [] rows row = refl
keys_push (d ∷ dims) rows row =
    ap (set_of key_cmp) (map_push (key_of (d ∷ dims)) rows row) ∙ fold_push (λ set x. with key_cmp x set) [] (map (key_of (d ∷ dims)) rows) (key_of (d ∷ dims) row)

never : {X : Type 0} (b : Bool) (xs : List X) → (b || false) ≡ false → list_any (λ (x : X). b) xs ≡ false
never true xs e = cc
never false [] e = refl
never false (x ∷ xs) e = never false xs e

-- a key that no row has
pub no_rows : (dims : List Dimension) (rows : List (List Value)) (key : List Value) → has key_cmp (keys_of dims rows) key ≡ false → rows_with dims key rows ≡ []
no_rows [] rows key e = filter_none (λ r. is_eq (key_cmp key (key_of [] r))) rows (never (is_eq (key_cmp key [])) rows e)
no_rows (d ∷ dims) rows key e =
    let p : List Value → Bool = λ x. is_eq (key_cmp key x) in
    filter_none (λ r. p (key_of (d ∷ dims) r)) rows
    (sym (any_set_of p key_cmp exact_keys (map (key_of (d ∷ dims)) rows) ∙ any_map p (key_of (d ∷ dims)) rows) ∙ e)

-- one more row of its key
tallies_here : (q : Query) (rows : List (List Value)) (row : List Value)
    → map (added row) (tallies_of q rows (key_of q.dims row)) ≡ tallies_of q (rows ++ row ∷ []) (key_of q.dims row)
tallies_here q rows row =
    let k = key_of q.dims row in
    added_tallies (rows_with q.dims k rows) row q.measures
    ∙ ap (λ rs. map (tally_of rs) q.measures) (sym (filter_push (λ r. is_eq (key_cmp k (key_of q.dims r))) rows row true ((eq_by_cmp_equiv keys_total).refl k)))

tallies_other : (q : Query) (rows : List (List Value)) (row key : List Value) → is_eq (key_cmp (key_of q.dims row) key) ≡ false
    → tallies_of q (rows ++ row ∷ []) key ≡ tallies_of q rows key
tallies_other q rows row key e =
    ap (λ rs. map (tally_of rs) q.measures) (filter_skip (λ r. is_eq (key_cmp key (key_of q.dims r))) rows row ((eq_by_cmp_equiv keys_total).symm key (key_of q.dims row) ∙ e))

-- what adding a row does to a map's entries
pub record Adds (es after : List (List Value × List Tally)) (k : List Value) (row : List Value) (ms : List Measure) : Type 0 where
  pub there : (ts : List Tally) → lookup (is_at (key_cmp k)) es ≡ Some ts → after ≡ set_value (is_at (key_cmp k)) es (map (added row) ts)
  pub absent : lookup (is_at (key_cmp k)) es ≡ None → after ≡ insert_entry key_cmp es k (map (added row) (map (tally_of []) ms))

module _ (q : Query) (rows : List (List Value)) (row : List Value) (after : List (List Value × List Tally)) (adds : Adds (entries_by (tallies_of q rows) (keys_of q.dims rows)) after (key_of q.dims row) row q.measures) where
  abbrev k : List Value
  k = key_of q.dims row

  abbrev f : List Value → List Tally
  f = tallies_of q rows

  abbrev g : List Value → List Tally
  g = tallies_of q (rows ++ row ∷ [])

  abbrev ks : List (List Value)
  ks = keys_of q.dims rows

  by_presence : (b : Bool) → has key_cmp ks k ≡ b → after ≡ entries_by g (with key_cmp k ks)
  by_presence true e =
      adds.there (f k) (lookup_mapped key_cmp exact_keys k f ks ∙ ap (λ b. cond b (Some (f k)) None) e)
      ∙ ap (set_value (is_at (key_cmp k)) (entries_by f ks)) (tallies_here q rows row)
      ∙ set_mapped key_cmp keys_total exact_keys k f g (tallies_other q rows row) ks (ascends_keys q.dims rows) e
  by_presence false e =
      adds.absent (lookup_mapped key_cmp exact_keys k f ks ∙ ap (λ b. cond b (Some (f k)) None) e)
      ∙ ap (λ rs. insert_entry key_cmp (entries_by f ks) k (map (added row) (map (tally_of rs) q.measures))) (sym (no_rows q.dims rows k e))
      ∙ ap (insert_entry key_cmp (entries_by f ks) k) (tallies_here q rows row)
      ∙ insert_mapped key_cmp keys_total exact_keys k f g (tallies_other q rows row) ks (ascends_keys q.dims rows)

  pub added_entries : after ≡ entries_by g (keys_of q.dims (rows ++ row ∷ []))
  added_entries = by_presence (has key_cmp ks k) refl ∙ ap (entries_by g) (sym (keys_push q.dims rows row))

-- a row that is kept
pub groups_push : (q : Query) (rows : List (List Value)) (row key : List Value) (es after : List (List Value × List Tally))
    → keeps q row ≡ true → key ≡ key_of q.dims row → es ≡ groups_of q rows → Adds es after key row q.measures → after ≡ groups_of q (rows ++ row ∷ [])
groups_push q rows row key es after keep ek ee adds =
    let P : List Value → Type 0 = λ k. Adds (groups_of q rows) after k row q.measures in
    let Q : List (List Value × List Tally) → Type 0 = λ s. Adds s after key row q.measures in
    added_entries q (kept q rows) row after (subst P ek (subst Q ee adds))
    ∙ ap (λ rs. entries_by (tallies_of q rs) (keys_of q.dims rs)) (sym (filter_push (keeps q) rows row true keep))

-- a row that isn't kept
pub groups_skip : (q : Query) (rows : List (List Value)) (row : List Value) → keeps q row ≡ false → groups_of q (rows ++ row ∷ []) ≡ groups_of q rows
groups_skip q rows row drop = ap (λ rs. entries_by (tallies_of q rs) (keys_of q.dims rs)) (filter_skip (keeps q) rows row drop)

pub same_some : {X : Type 0} (b : Bool) (x y : X) → cond b (Some x) None ≡ Some y → x ≡ y
same_some true x y e = cc
same_some false x y e = cc

-- no tally of a group counts more than the rows that were added
all_small : (q : Query) (rows : List (List Value)) (n : ℕ) → length rows < n → (key : List Value) → All (λ t. count_in t < n) (tallies_of q (kept q rows) key)
all_small q rows n h key = all_map (λ (t : Tally). count_in t < n) (tally_of (rows_with q.dims key (kept q rows)))
    (λ m. omega (arith, count_small (rows_with q.dims key (kept q rows)) m, length_filter (λ r. is_eq (key_cmp key (key_of q.dims r))) (kept q rows), length_filter (keeps q) rows)) q.measures

pub found_small : (q : Query) (rows : List (List Value)) (n : ℕ) (es : List (List Value × List Tally)) (key : List Value) (ts : List Tally)
    → length rows < n → es ≡ groups_of q rows → lookup (is_at (key_cmp key)) es ≡ Some ts → All (λ t. count_in t < n) ts
found_small q rows n es key ts h ee e =
    let P : List Tally → Type 0 = λ us. All (λ t. count_in t < n) us in
    let f = tallies_of q (kept q rows) in
    let found : cond (has key_cmp (keys q rows) key) (Some (f key)) None ≡ Some ts = sym (lookup_mapped key_cmp exact_keys key f (keys q rows)) ∙ ap (lookup (is_at (key_cmp key))) (sym ee) ∙ e in
    subst P (same_some (has key_cmp (keys q rows) key) (f key) ts found) (all_small q rows n h key)

each_entry : (q : Query) (rows : List (List Value)) → length rows ≤ 2 ^ 23 → (ks : List (List Value)) → AllSmall (entries_by (tallies_of q (kept q rows)) ks)
each_entry q rows h [] = tt
each_entry q rows h (k ∷ ks) = (λ i d lt. omega (arith, all_small q rows (2 ^ 23 + 1) (omega arith) k i d lt), each_entry q rows h ks)

pub groups_small : (q : Query) (rows : List (List Value)) → length rows ≤ 2 ^ 23 → AllSmall (groups_of q rows)
groups_small q rows h = each_entry q rows h (keys q rows)

cells_by : (q : Query) (rows : List (List Value)) (ks : List (List Value)) → map group_cells (entries_by (tallies_of q rows) ks) ≡ map (group_row q rows) ks
cells_by q rows [] = refl
cells_by q rows (k ∷ ks) =
    ap (λ cells. (map cell_of k ++ cells) ∷ map group_cells (entries_by (tallies_of q rows) ks)) (tally_cells_of (rows_with q.dims k rows) q.measures)
    ∙ ap (λ more. group_row q rows k ∷ more) (cells_by q rows ks)

-- the rows of the groups are the answer's, before it is ordered
pub cells_of_groups : (q : Query) (rows : List (List Value)) → map group_cells (groups_of q rows) ≡ plain q rows
cells_of_groups q rows = cells_by q (kept q rows) (keys q rows)

no_groups_by : (ds : List Dimension) (q : Query) → q.dims ≡ ds → (length ds ≡ 0 → ⊥) → groups_of q [] ≡ []
no_groups_by [] q e h = absurd (h refl)
no_groups_by (d ∷ ds) q e h = ap (λ dims. entries_by (tallies_of q []) (keys_of dims [])) e

-- with some dimension there is no group over no rows
pub no_groups : (q : Query) → (length q.dims ≡ 0 → ⊥) → groups_of q [] ≡ []
no_groups q h = no_groups_by q.dims q refl h

one_group_by : (ds : List Dimension) (q : Query) → q.dims ≡ ds → length ds ≡ 0 → groups_of q [] ≡ ([], map (tally_of []) q.measures) ∷ []
one_group_by [] q e h = ap (λ dims. entries_by (tallies_of q []) (keys_of dims [])) e
one_group_by (d ∷ ds) q e h = absurd (omega arith)

-- without dimensions there is one, of no rows
pub one_group : (q : Query) → length q.dims ≡ 0 → groups_of q [] ≡ ([], map (tally_of []) q.measures) ∷ []
one_group q h = one_group_by q.dims q refl h

-- the groups' rows in order, and the first of them
pub answered : (q key : Query) (rows : List (List Value)) (es : List (List Value × List Tally)) (items sorted table out : List (List Cell))
    → q ≡ key → es ≡ groups_of key rows → items ≡ map group_cells es → sorted ≡ ascending (row_cmp q) items → table ≡ sorted → out ≡ first_rows q.top table → out ≡ answer key rows
answered q key rows es items sorted table out eq ee ei es' et eo =
    let plain_items : items ≡ plain key rows = ei ∙ ap (map group_cells) ee ∙ cells_of_groups key rows in
    eo ∙ ap (first_rows q.top) (et ∙ es' ∙ ap (ascending (row_cmp q)) plain_items)
    ∙ ap (λ (p : Query). first_rows p.top (ascending (row_cmp p) (plain key rows))) eq

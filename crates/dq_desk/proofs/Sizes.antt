-- The cells of an answer are few.
use Rattle.std.proofs.Common.{◌≡◌, ℕ, zero, suc, ◌+◌, ◌*◌, ◌^◌, ◌<◌, ◌≤◌, Bool, true, false, ◌||◌, cond, List, [], ◌∷◌, length, length-take, map, filter, refl, ap, arith}
use Rattle.std.proofs.lemmas.Bool.{eq-eqb}
use Rattle.std.proofs.lemmas.Bool.Decides.{nat_tests}
use Rattle.std.proofs.lemmas.List.{length-map}
use Rattle.std.proofs.lemmas.Nat.{mul-le}
use Rattle.std.specs.List.{AllByRecursion, fold, list_any}
use Rattle.std.specs.Prelude.{Option, Some, None, nat_eq, nat_lt, not, slice_get, if◌then◌else◌}
use Rattle.std.specs.declared.cmp.Ordering.{Ordering}
use Rattle.std.specs.declared.cmp.Ordering.TheVariants.{Less, Equal, Greater}
use Rattle.dq_base.specs.Answers.{answer, first_rows, group_row, key_of, keys, keys_of, plain, row_cmp}
use Rattle.dq_base.specs.Dims.{Dimension}
use Rattle.dq_base.specs.Filters.{keeps, kept}
use Rattle.dq_base.specs.Headings.{Heading}
use Rattle.dq_base.specs.Limits.{cell_room}
use Rattle.dq_base.specs.Orders.{key_cmp}
use Rattle.dq_base.specs.Scripts.{step_of}
use Rattle.dq_base.specs.Sets.{ascending, put_by, rank_by, ranked, with}
use Rattle.dq_base.specs.Validity.{column_missing, invalid_by, list_too_long, place_missing, reason_at, repeats, shows_nothing, sorts_fit, too_long}
use Rattle.dq_base.specs.Versions.{Version}
use Rattle.dq_base.specs.declared.invalid.Invalid.{Invalid}
use Rattle.dq_base.specs.declared.invalid.Invalid.TheVariants as invalid
use Rattle.dq_base.specs.declared.query.Query.{Query}
use Rattle.dq_base.specs.declared.script.Step.{Step}
use Rattle.dq_base.specs.declared.script.Step.TheVariants as step
use Rattle.dq_base.specs.declared.value.Value.{Value}
use Rattle.dq_extract.proofs.Columns.{some_columns}
use Rattle.dq_extract.proofs.Places.{FitsStep-segment_of}
use Rattle.dq_extract.specs.Loads.{FitsStep, IsLoaded, LoadedFiles, segment_of}
use Rattle.dq_journal.specs.Standing.{Rows, published, version_rows}
use Rattle.dq_journal.specs.declared.entry.Entry.{Entry}
use Rattle.dq_journal.specs.declared.entry.Entry.TheVariants.{Publish, Admit, Lease, Give, Lose, Land, Fall, Take, End}
use Rattle.dq_machine.proofs.Bounds.{IsBounded, IsBounded-reached}
use Rattle.dq_machine.proofs.Reached.{IsReached-next, IsReached-start, reached_keeps}
use Rattle.dq_machine.specs.Machine.{IsReached, allowed, next}
use Rattle.dq_machine.specs.Publishing.{rows_at, rows_in, versions_after}
use Rattle.dq_machine.specs.State.{Publication, State, Work}

-- an answer has no more rows than there are, or one

put_length : {X : Type 0} (o : Ordering) (x y : X) (ys more : List X) → length more ≤ length ys + 1 → length (put_by o x y ys more) ≤ length (y ∷ ys) + 1
put_length Less x y ys more le = omega arith
put_length Equal x y ys more le = omega arith
put_length Greater x y ys more le = omega arith

with_length : {X : Type 0} (cmp : X → X → Ordering) (x : X) (xs : List X) → length (with cmp x xs) ≤ length xs + 1
with_length cmp x [] = omega arith
with_length cmp x (y ∷ ys) = put_length (cmp x y) x y ys (with cmp x ys) (with_length cmp x ys)

set_length : {X : Type 0} (cmp : X → X → Ordering) (set xs : List X) → length (fold (λ s x. with cmp x s) set xs) ≤ length set + length xs
set_length cmp set [] = omega arith
set_length cmp set (x ∷ xs) = omega (arith, set_length cmp (with cmp x set) xs, with_length cmp x set)

rank_length : {X : Type 0} (o : Ordering) (x y : X) (ys more : List X) → length more ≤ length ys + 1 → length (rank_by o x y ys more) ≤ length (y ∷ ys) + 1
rank_length Less x y ys more le = omega arith
rank_length Equal x y ys more le = omega arith
rank_length Greater x y ys more le = omega arith

ranked_length : {X : Type 0} (cmp : X → X → Ordering) (x : X) (xs : List X) → length (ranked cmp x xs) ≤ length xs + 1
ranked_length cmp x [] = omega arith
ranked_length cmp x (y ∷ ys) = rank_length (cmp x y) x y ys (ranked cmp x ys) (ranked_length cmp x ys)

ascending_length : {X : Type 0} (cmp : X → X → Ordering) (sorted xs : List X) → length (fold (λ s x. ranked cmp x s) sorted xs) ≤ length sorted + length xs
ascending_length cmp sorted [] = omega arith
ascending_length cmp sorted (x ∷ xs) = omega (arith, ascending_length cmp (ranked cmp x sorted) xs, ranked_length cmp x sorted)

kept_by : (b : Bool) (row : List Value) (some rows : List (List Value)) → length some ≤ length rows → length (cond b (row ∷ some) some) ≤ length (row ∷ rows)
kept_by true row some rows le = omega arith
kept_by false row some rows le = omega arith

kept_length : (q : Query) (rows : List (List Value)) → length (filter (keeps q) rows) ≤ length rows
kept_length q [] = omega arith
kept_length q (row ∷ rows) = kept_by (keeps q row) row (filter (keeps q) rows) rows (kept_length q rows)

keys_length : (dims : List Dimension) (rows : List (List Value)) → length (keys_of dims rows) ≤ length rows + 1
keys_length [] rows = omega arith
keys_length (d ∷ dims) rows = omega (arith, set_length key_cmp [] (map (key_of (d ∷ dims)) rows), length-map rows (key_of (d ∷ dims)))

first_length : {X : Type 0} (top : Option ℕ) (xs : List X) → length (first_rows top xs) ≤ length xs
first_length None xs = omega arith
first_length (Some n) xs = omega (arith, length-take n xs)

pub answer-length : (q : Query) (rows : List (List Value)) → length (answer q rows) ≤ length rows + 1
answer-length q rows =
    omega (
      arith,
      first_length q.top (ascending (row_cmp q) (plain q rows)),
      ascending_length (row_cmp q) [] (plain q rows),
      length-map (keys q rows) (group_row q (kept q rows)),
      keys_length q.dims (kept q rows),
      kept_length q rows,
    )

-- a valid query has few columns

none_by : (b : Bool) (reason : Invalid) (o : Option Invalid) → (if b then Some reason else o) ≡ None → (b ≡ false) × (o ≡ None)
none_by true reason o h = let no : ⊥ = cc in absurd no
none_by false reason o h = (refl, h)

neither : (a b : Bool) → (a || b) ≡ false → (a ≡ false) × (b ≡ false)
neither true b h = let no : ⊥ = cc in absurd no
neither false b h = (refl, h)

not_below : (m n : ℕ) → nat_lt m n ≡ false → n ≤ m
not_below m n h = grind (arith, nat_tests)

few_by : (filters dims measures order lists : Bool) → (filters || dims || measures || order || lists) ≡ false → (dims ≡ false) × (measures ≡ false)
few_by filters dims measures order lists h =
    let a = neither (filters || dims || measures || order) lists h in
    let b = neither (filters || dims || measures) order a.0 in
    let c = neither (filters || dims) measures b.0 in
    ((neither filters dims c.0).1, c.1)

few_columns : (q : Query) → too_long q ≡ false → (length q.dims ≤ 64) × (length q.measures ≤ 512)
few_columns q h =
    let short = few_by (nat_lt 16 (length q.filters)) (nat_lt 64 (length q.dims)) (nat_lt 512 (length q.measures)) (nat_lt 64 (length q.order)) (list_any (λ p. list_too_long p.test) q.filters) h in
    (not_below 64 (length q.dims) short.0, not_below 512 (length q.measures) short.1)

short_by : (q : Query) (o : Option Heading) → reason_at o q ≡ None → too_long q ≡ false
short_by q None h = let no : ⊥ = cc in absurd no
short_by q (Some schema) h =
    let a = none_by (column_missing (length schema.sorts) q) invalid.Column _ h in
    let b = none_by (repeats q.dims) invalid.RepeatedDim _ a.1 in
    let c = none_by (not (sorts_fit schema.sorts q)) invalid.WrongSort _ b.1 in
    let d = none_by (shows_nothing q) invalid.NothingShown _ c.1 in
    let e = none_by (place_missing q) invalid.OrderKey _ d.1 in
    (none_by (too_long q) invalid.TooLong None e.1).0

pub valid-columns : (schemas : List Heading) (q : Query) → invalid_by schemas q ≡ None → (length q.dims ≤ 64) × (length q.measures ≤ 512)
valid-columns schemas q valid = few_columns q (short_by q (slice_get schemas q.source) valid)

-- rows times columns fit
pub cells-fit : (rows dims measures : ℕ) → rows ≤ cell_room + 1 → dims ≤ 64 → measures ≤ 512 → rows * (dims + measures) < 2 ^ 64
cells-fit rows dims measures few narrow short =
    let most = mul-le rows (dims + measures) (cell_room + 1) (64 + 512) few (omega arith) in omega (arith, most)

-- the rows that any stamp names are within the room for cells

abbrev AreSmall : List Publication → Type 0
AreSmall versions = AllByRecursion (λ (v : Publication). length v.rows ≤ cell_room) versions

rows_few : (rows n left : ℕ) → 0 < n → rows * n + left ≤ cell_room → rows ≤ cell_room
rows_few rows zero left some le = absurd (omega arith)
rows_few rows (suc n) left some le = omega arith

rows_front : (source : ℕ) (rows : Rows) (versions : List Publication) → rows_in (record { source = source; rows = rows } ∷ versions) source ≡ rows
rows_front source rows versions = rw (eq-eqb source source refl) refl

small_by : (l : LoadedFiles) (versions : List Publication) (works : List Work) (o : Option Step) (found : Option Version) → IsLoaded l → FitsStep l.script.schemas o found
    → IsBounded l (versions_after versions (version_rows found) o) works → AreSmall versions → AreSmall (versions_after versions (version_rows found) o)
small_by l versions works None found loaded fits bounded h = h
small_by l versions works (Some (step.Batch zones)) found loaded fits bounded h = h
small_by l versions works (Some (step.Publish source how file)) None loaded fits bounded h = absurd fits
small_by l versions works (Some (step.Publish source how file)) (Some v) loaded fits bounded h =
    let rows : Rows = published how (rows_in versions source) v.rows in
    let within = bounded.each source v.heading fits in
    let front = ap length (rows_front source rows versions) in
    let some = some_columns l.script.schemas source v.heading loaded.script.columns fits in
    let few = rows_few (length (rows_in (record { source = source; rows = rows } ∷ versions) source)) (length v.heading.names) _ some within in
    (omega (arith, few, front), h)

record Small (l : LoadedFiles) (s : State) : Type 0 where
  reached : IsReached l s
  each : AreSmall s.versions

small_next : (l : LoadedFiles) (s : State) (e : Entry) → IsLoaded l → IsBounded l (next l s e).versions (next l s e).works → AreSmall s.versions → AreSmall (next l s e).versions
small_next l s (Publish lane number) loaded bounded h =
    small_by l s.versions (next l s (Publish lane number)).works (step_of l.script.lanes lane number) (segment_of l lane number) loaded (FitsStep-segment_of l lane number loaded) bounded h
small_next l s (Admit lane number met) loaded bounded h = h
small_next l s (Lease lane flight link fresh) loaded bounded h = h
small_next l s (Give lane flight link ran runs calls) loaded bounded h = h
small_next l s (Lose lane flight link dialled ran runs calls) loaded bounded h = h
small_next l s (Land lane flight cells clever literal) loaded bounded h = h
small_next l s (Fall lane flight cause) loaded bounded h = h
small_next l s (Take lane flight started) loaded bounded h = h
small_next l s (End lane) loaded bounded h = h

Small-next : (l : LoadedFiles) (s : State) (e : Entry) → IsLoaded l → Small l s → allowed l s e ≡ true → Small l (next l s e)
Small-next l s e loaded h may =
    let reached = IsReached-next l s e h.reached may in
    record { reached = reached; each = small_next l s e loaded (IsBounded-reached l (next l s e) loaded reached) h.each }

rows_by : (b : Bool) (v : Publication) (rows : Rows) → length v.rows ≤ cell_room → length rows ≤ cell_room → length (if b then v.rows else rows) ≤ cell_room
rows_by true v rows here elsewhere = here
rows_by false v rows here elsewhere = elsewhere

rows_small : (versions : List Publication) (stamp : ℕ) → AreSmall versions → length (rows_at versions stamp) ≤ cell_room
rows_small [] stamp h = omega arith
rows_small (v ∷ versions) stamp h = rows_by (nat_eq stamp (length versions + 1)) v (rows_at versions stamp) h.0 (rows_small versions stamp h.1)

pub rows-small : (l : LoadedFiles) (s : State) (stamp : ℕ) → IsLoaded l → IsReached l s → length (rows_at s.versions stamp) ≤ cell_room
rows-small l s stamp loaded r =
    let all : Small l s = reached_keeps l (Small l) (λ s e h may. Small-next l s e loaded h may) s (record { reached = IsReached-start l; each = tt }) r in
    rows_small s.versions stamp all.each

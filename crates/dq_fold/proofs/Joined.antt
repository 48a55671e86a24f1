-- The groups of rows, and those of more rows merged into them.
use Rattle.std.proofs.Common.{◌≡◌, ℕ, ◌+◌, ◌^◌, ◌≤◌, Bool, true, false, ◌||◌, cond, List, [], ◌∷◌, ◌++◌, map, length, refl, sym, ap, ◌∙◌, subst, Some, None, arith, length-append}
use Rattle.std.specs.List.{list_any}
use Rattle.std.specs.declared.cmp.Ordering.{Ordering}
use Rattle.std.specs.declared.cmp.Ordering.TheVariants.{Less, Equal, Greater}
use Rattle.std.specs.Ordering.{is_eq}
use Rattle.std.specs.BTreeMap.{insert_entry, is_at}
use Rattle.std.specs.Map.{set_value}
use Rattle.std.proofs.lemmas.Cmp.{eq_by_cmp_equiv, tied_itself}
use Rattle.std.proofs.lemmas.List.{append-nil, map-append}
use Rattle.std.proofs.lemmas.List.Elements.{filter-append}
use Rattle.dq_base.specs.Answers.{key_of, keys_of, rows_with}
use Rattle.dq_base.specs.Dims.{Dimension}
use Rattle.dq_base.specs.Filters.{keeps, kept}
use Rattle.dq_base.specs.Orders.{key_cmp}
use Rattle.dq_base.specs.Sets.{has, put_by, set_of, with}
use Rattle.dq_base.proofs.Exact.{exact_keys}
use Rattle.dq_base.proofs.SetLaws.{Ascends, Each, ascends_with}
use Rattle.dq_base.specs.declared.value.Value.{Value}
use Rattle.dq_base.specs.declared.query.Measure.{Measure}
use Rattle.dq_base.specs.declared.query.Query.{Query}
use Rattle.dq_fold.specs.Folding.{AreMergeable, entries_by, folded, groups_of, merged_by, merged_groups, merged_in, tallies_of}
use Rattle.dq_fold.specs.Tallies.{Mergeable, merged_all, tally_of}
use Rattle.dq_fold.specs.declared.tally.Tally.{Tally}
use Rattle.dq_fold.proofs.Grouped.{ascends_keys, keys_total, no_rows, same_some}
use Rattle.dq_fold.proofs.Mapped.{insert_mapped, lookup_mapped, set_mapped}
use Rattle.dq_fold.proofs.Merged.{merged_tallies}
use Rattle.dq_fold.proofs.Tallied.{count_small, length_filter}
use Rattle.dq_fold.proofs.Unions.{set_of_append, with_each}

entries_same : (f g : List Value → List Tally) → ((key : List Value) → f key ≡ g key) → (ks : List (List Value)) → entries_by f ks ≡ entries_by g ks
entries_same f g e [] = refl
entries_same f g e (k ∷ ks) = ap (λ ts. (k, ts) ∷ entries_by f ks) (e k) ∙ ap (λ es. (k, g k) ∷ es) (entries_same f g e ks)

or_right : (a b : Bool) → (a || b) ≡ false → b ≡ false
or_right true b e = cc
or_right false b e = e

or_kept : (a b c : Bool) → (a || b) ≡ false → (b ≡ false → c ≡ false) → (a || c) ≡ false
or_kept true b c e h = cc
or_kept false b c e h = h e

any_put : (p : List Value → Bool) (r : Ordering) (k y : List Value) (ks more : List (List Value)) → list_any p (put_by r k y ks more) ≡ false
    → (list_any p more ≡ false → list_any p ks ≡ false) → list_any p (y ∷ ks) ≡ false
any_put p Less k y ks more e h = or_right (p k) (list_any p (y ∷ ks)) e
any_put p Equal k y ks more e h = e
any_put p Greater k y ks more e h = or_kept (p y) (list_any p more) (list_any p ks) e h

-- what is in no larger set is in no smaller one
any_with : (p : List Value → Bool) (k : List Value) (ks : List (List Value)) → list_any p (with key_cmp k ks) ≡ false → list_any p ks ≡ false
any_with p k [] e = refl
any_with p k (y ∷ ks) e = any_put p (key_cmp k y) k y ks (with key_cmp k ks) e (any_with p k ks)

-- h at a key, and f at the other keys
abbrev changed_at : (List Value → List Tally) → (List Value → List Tally) → List Value → List Value → List Tally
changed_at f h k key = cond (is_eq (key_cmp k key)) (h key) (f key)

changed_here : (f h : List Value → List Tally) (k : List Value) → changed_at f h k k ≡ h k
changed_here f h k = ap (λ r. cond (is_eq r) (h k) (f k)) (tied_itself keys_total k)

changed_other : (f h : List Value → List Tally) (k key : List Value) → is_eq (key_cmp k key) ≡ false → changed_at f h k key ≡ f key
changed_other f h k key e = ap (λ b. cond b (h key) (f key)) e

-- at a key that is still to come: f of the groups ks, and g of the others, give h
record Comes (f g h : List Value → List Tally) (ks : List (List Value)) (key : List Value) : Type 0 where
  both : merged_all (f key) (g key) ≡ h key
  new : has key_cmp ks key ≡ false → g key ≡ h key
  small : Mergeable (f key) (g key)

module _ (g h : List Value → List Tally) where
  step_by : (f : List Value → List Tally) (ks : List (List Value)) (k : List Value) (b : Bool) → has key_cmp ks k ≡ b → Ascends key_cmp ks → Comes f g h ks k
      → merged_in (entries_by f ks) (k, g k) ≡ entries_by (changed_at f h k) (with key_cmp k ks)
  step_by f ks k true e a c =
      ap (λ found. merged_by found (entries_by f ks) k (g k)) (lookup_mapped key_cmp exact_keys k f ks ∙ ap (λ b. cond b (Some (f k)) None) e)
      ∙ ap (set_value (is_at (key_cmp k)) (entries_by f ks)) (c.both ∙ sym (changed_here f h k))
      ∙ set_mapped key_cmp keys_total exact_keys k f (changed_at f h k) (changed_other f h k) ks a e
  step_by f ks k false e a c =
      ap (λ found. merged_by found (entries_by f ks) k (g k)) (lookup_mapped key_cmp exact_keys k f ks ∙ ap (λ b. cond b (Some (f k)) None) e)
      ∙ ap (insert_entry key_cmp (entries_by f ks) k) (c.new e ∙ sym (changed_here f h k))
      ∙ insert_mapped key_cmp keys_total exact_keys k f (changed_at f h k) (changed_other f h k) ks a

  step : (f : List Value → List Tally) (ks : List (List Value)) (k : List Value) → Ascends key_cmp ks → Comes f g h ks k
      → merged_in (entries_by f ks) (k, g k) ≡ entries_by (changed_at f h k) (with key_cmp k ks)
  step f ks k a c = step_by f ks k (has key_cmp ks k) refl a c

  -- a key above the one that comes isn't touched
  comes_later : (f : List Value → List Tally) (ks : List (List Value)) (k key : List Value) → key_cmp k key ≡ Less → Comes f g h ks key → Comes (changed_at f h k) g h (with key_cmp k ks) key
  comes_later f ks k key e c =
      let same : changed_at f h k key ≡ f key = changed_other f h k key (ap is_eq e) in
      let P : List Tally → Type 0 = λ ts. Mergeable ts (g key) in
      record {
        both = ap (λ ts. merged_all ts (g key)) same ∙ c.both;
        new = λ n. c.new (any_with (λ y. is_eq (key_cmp key y)) k ks n);
        small = subst P (sym same) c.small;
      }

  each_later : (f : List Value → List Tally) (ks : List (List Value)) (k : List Value) (os : List (List Value)) → Each (λ key. key_cmp k key ≡ Less) os → Each (Comes f g h ks) os
      → Each (Comes (changed_at f h k) g h (with key_cmp k ks)) os
  each_later f ks k [] e c = tt
  each_later f ks k (y ∷ os) e c = (comes_later f ks k y e.0 c.0, each_later f ks k os e.1 c.1)

  rest_by : (f : List Value → List Tally) (k key : List Value) (os : List (List Value)) (b : Bool) → is_eq (key_cmp k key) ≡ b → has key_cmp os key ≡ false
      → (has key_cmp (k ∷ os) key ≡ false → f key ≡ h key) → changed_at f h k key ≡ h key
  rest_by f k key os true e n r = ap (λ b. cond b (h key) (f key)) e
  rest_by f k key os false e n r = changed_other f h k key e ∙ r (ap (λ b. b || has key_cmp os key) ((eq_by_cmp_equiv keys_total).symm key k ∙ e) ∙ n)

  -- the groups, once all have come
  joined : (os ks : List (List Value)) (f : List Value → List Tally) → Ascends key_cmp os → Ascends key_cmp ks → Each (Comes f g h ks) os
      → ((key : List Value) → has key_cmp os key ≡ false → f key ≡ h key) → merged_groups (entries_by f ks) (entries_by g os) ≡ entries_by h (with_each key_cmp ks os)
  joined [] ks f ao ak c r = entries_same f h (λ key. r key refl) ks
  joined (k ∷ os) ks f ao ak c r =
      ap (λ es. merged_groups es (entries_by g os)) (step f ks k ak c.0)
      ∙ joined os (with key_cmp k ks) (changed_at f h k) ao.1 (ascends_with key_cmp keys_total k ks ak) (each_later f ks k os ao.0 c.1)
      (λ key n. rest_by f k key os (is_eq (key_cmp k key)) refl n (r key))

  all_mergeable : (os ks : List (List Value)) (f : List Value → List Tally) → Ascends key_cmp os → Ascends key_cmp ks → Each (Comes f g h ks) os
      → AreMergeable (entries_by f ks) (entries_by g os)
  all_mergeable [] ks f ao ak c = tt
  all_mergeable (k ∷ os) ks f ao ak c =
      let P : List Tally → Type 0 = λ ts. Mergeable ts (g k) in
      let Q : List (List Value × List Tally) → Type 0 = λ es. AreMergeable es (entries_by g os) in (
        λ ts e. subst P (same_some (has key_cmp ks k) (f k) ts (sym (lookup_mapped key_cmp exact_keys k f ks) ∙ e)) c.0.small,
        subst Q (sym (step f ks k ak c.0))
            (all_mergeable os (with key_cmp k ks) (changed_at f h k) ao.1 (ascends_with key_cmp keys_total k ks ak) (each_later f ks k os ao.0 c.1)),
      )

keys_append : (dims : List Dimension) (rows more : List (List Value)) → with_each key_cmp (keys_of dims rows) (keys_of dims more) ≡ keys_of dims (rows ++ more)
keys_append [] rows more = refl
keys_append (d ∷ dims) rows more =
    sym (set_of_append key_cmp keys_total exact_keys (map (key_of (d ∷ dims)) rows) (map (key_of (d ∷ dims)) more))
    ∙ ap (set_of key_cmp) (sym (map-append (key_of (d ∷ dims)) rows more))

with_append : (dims : List Dimension) (key : List Value) (rows more : List (List Value)) → rows_with dims key (rows ++ more) ≡ rows_with dims key rows ++ rows_with dims key more
with_append dims key rows more = filter-append (λ row. is_eq (key_cmp key (key_of dims row))) rows more

mergeable_tallies : (rows more : List (List Value)) (ms : List Measure) → length rows + length more ≤ 2 ^ 23 → Mergeable (map (tally_of rows) ms) (map (tally_of more) ms)
mergeable_tallies rows more [] n = tt
mergeable_tallies rows more (m ∷ ms) n = (omega (arith, count_small rows m, count_small more m), mergeable_tallies rows more ms n)

module _ (q : Query) (rows more : List (List Value)) (few : length rows + length more ≤ 2 ^ 23) where
  abbrev f : List Value → List Tally
  f = tallies_of q rows

  abbrev g : List Value → List Tally
  g = tallies_of q more

  abbrev h : List Value → List Tally
  h = tallies_of q (rows ++ more)

  abbrev by : List (List Value) → List Tally
  by rs = map (tally_of rs) q.measures

  comes : (key : List Value) → Comes f g h (keys_of q.dims rows) key
  comes key =
      let here = rows_with q.dims key rows in
      let there = rows_with q.dims key more in
      record {
        both = merged_tallies here there q.measures ∙ ap by (sym (with_append q.dims key rows more));
        new = λ n. ap (λ rs. by (rs ++ there)) (sym (no_rows q.dims rows key n)) ∙ ap by (sym (with_append q.dims key rows more));
        small = mergeable_tallies here there q.measures
            (omega (arith, length_filter (λ row. is_eq (key_cmp key (key_of q.dims row))) rows, length_filter (λ row. is_eq (key_cmp key (key_of q.dims row))) more));
      }

  each_comes : (os : List (List Value)) → Each (Comes f g h (keys_of q.dims rows)) os
  each_comes [] = tt
  each_comes (k ∷ os) = (comes k, each_comes os)

  others : (key : List Value) → has key_cmp (keys_of q.dims more) key ≡ false → f key ≡ h key
  others key n =
      let here = rows_with q.dims key rows in
      ap by (sym (append-nil here) ∙ ap (λ rs. here ++ rs) (sym (no_rows q.dims more key n)) ∙ sym (with_append q.dims key rows more))

  merged_entries : merged_groups (entries_by f (keys_of q.dims rows)) (entries_by g (keys_of q.dims more)) ≡ entries_by h (keys_of q.dims (rows ++ more))
  merged_entries =
      joined g h (keys_of q.dims more) (keys_of q.dims rows) f (ascends_keys q.dims more) (ascends_keys q.dims rows) (each_comes (keys_of q.dims more)) others
      ∙ ap (entries_by h) (keys_append q.dims rows more)

  mergeable_entries : AreMergeable (entries_by f (keys_of q.dims rows)) (entries_by g (keys_of q.dims more))
  mergeable_entries = all_mergeable g h (keys_of q.dims more) (keys_of q.dims rows) f (ascends_keys q.dims more) (ascends_keys q.dims rows) (each_comes (keys_of q.dims more))

few_kept : (q : Query) (rows more : List (List Value)) → length rows + length more ≤ 2 ^ 23 → length (kept q rows) + length (kept q more) ≤ 2 ^ 23
few_kept q rows more n = omega (arith, length_filter (keeps q) rows, length_filter (keeps q) more)

-- the groups of rows and those of more rows merge to the groups of all
pub groups_append : (q : Query) (rows more : List (List Value)) → length rows + length more ≤ 2 ^ 23 → merged_groups (groups_of q rows) (groups_of q more) ≡ groups_of q (rows ++ more)
groups_append q rows more n =
    merged_entries q (kept q rows) (kept q more) (few_kept q rows more n)
    ∙ ap (λ rs. entries_by (tallies_of q rs) (keys_of q.dims rs)) (sym (filter-append (keeps q) rows more))

pub groups_mergeable : (q : Query) (rows more : List (List Value)) → length rows + length more ≤ 2 ^ 23 → AreMergeable (groups_of q rows) (groups_of q more)
groups_mergeable q rows more n = mergeable_entries q (kept q rows) (kept q more) (few_kept q rows more n)

-- the groups of two folds of one query can be merged
pub folds_mergeable : (q : Query) (rows more : List (List Value)) (es os : List (List Value × List Tally)) (n m : ℕ)
    → es ≡ groups_of q rows → os ≡ groups_of q more → n ≡ length rows → m ≡ length more → n + m ≤ 2 ^ 23 → AreMergeable es os
folds_mergeable q rows more es os n m ee eo en em few =
    let P : List (List Value × List Tally) → Type 0 = λ gs. AreMergeable gs os in
    let Q : List (List Value × List Tally) → Type 0 = λ gs. AreMergeable (groups_of q rows) gs in
    subst P (sym ee) (subst Q (sym eo) (groups_mergeable q rows more (omega arith)))

-- and are then what a fold holds over the rows of both
pub folds_merged : (q p : Query) (rows more : List (List Value)) (es os after : List (List Value × List Tally)) (n m : ℕ)
    → p ≡ q → es ≡ groups_of q rows → os ≡ groups_of q more → n ≡ length rows → m ≡ length more → n + m ≤ 2 ^ 23 → after ≡ merged_groups es os
    → record { key = p; groups = after; rows = n + m; spent = false } ≡ folded q (rows ++ more)
folds_merged q p rows more es os after n m ep ee eo en em few ea =
    let all : after ≡ groups_of q (rows ++ more) = ea ∙ ap (λ gs. merged_groups gs os) ee ∙ ap (merged_groups (groups_of q rows)) eo ∙ groups_append q rows more (omega arith) in
    let count : n + m ≡ length (rows ++ more) = omega (arith, length-append rows more) in
    cc

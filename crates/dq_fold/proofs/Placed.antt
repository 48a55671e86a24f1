-- Groups that stand in slots: one more slot, and other tallies in a slot.
use Rattle.std.proofs.Common.{◌≡◌, ℕ, zero, suc, ◌<◌, Bool, true, false, cond, List, [], ◌∷◌, ◌++◌, length, refl, sym, ap, ◌∙◌, subst, Option, Some, None, inl, inr}
use Rattle.std.specs.Prelude.{slice_get, slice_set, option_map, ◌⊎◌, Result, Ok, Err, OnOk}
use Rattle.std.specs.List.{AllByRecursion}
use Rattle.std.specs.List.Sorted.{IsStrictlySortedBy}
use Rattle.std.specs.declared.cmp.Ordering.{Ordering}
use Rattle.std.specs.declared.cmp.Ordering.TheVariants.{Less, Equal, Greater}
use Rattle.std.specs.Ordering.{is_eq, match_ordering}
use Rattle.std.specs.BTreeMap.{insert_entry, is_at}
use Rattle.std.specs.Map.{keys_of, lookup, set_value}
use Rattle.std.proofs.lemmas.Cmp.{eq_by_cmp_equiv}
use Rattle.std.proofs.lemmas.Option.{slice_get_within}
use Rattle.dq_base.specs.Orders.{key_cmp}
use Rattle.dq_base.specs.declared.value.Value.{Value}
use Rattle.dq_base.proofs.Exact.{exact_keys}
use Rattle.dq_base.proofs.SetLaws.{Ascends, Each}
use Rattle.dq_fold.specs.Folding.{AreMergeable, merged_groups, merged_in}
use Rattle.dq_fold.specs.Placed.{AreNumbered, SetsTallies, emptied, emptied_by, entries_at, entry_at, slot_keys, tallies_in}
use Rattle.dq_fold.specs.declared.slots.Slot.{Slot}
use Rattle.dq_fold.specs.declared.tally.Tally.{Tally}
use Rattle.dq_fold.proofs.Grouped.{keys_total}
use Rattle.dq_fold.proofs.Inserts.{ascends_from}

-- lists

get_set_same : {X : Type 0} (xs : List X) (i : ℕ) (x y : X) → slice_get xs i ≡ Some x → slice_get (slice_set xs i y) i ≡ Some y
get_set_same [] i x y e = cc
get_set_same (z ∷ zs) zero x y e = refl
get_set_same (z ∷ zs) (suc i) x y e = get_set_same zs i x y e

get_set_other : {X : Type 0} (xs : List X) (i j : ℕ) (y : X) → (j ≡ i → ⊥) → slice_get (slice_set xs i y) j ≡ slice_get xs j
get_set_other [] i j y n = refl
get_set_other (z ∷ zs) zero zero y n = absurd (n refl)
get_set_other (z ∷ zs) zero (suc j) y n = refl
get_set_other (z ∷ zs) (suc i) zero y n = refl
get_set_other (z ∷ zs) (suc i) (suc j) y n = get_set_other zs i j y (λ e. n (ap suc e))

get_front : {X : Type 0} (xs ys : List X) (i : ℕ) (x : X) → slice_get xs i ≡ Some x → slice_get (xs ++ ys) i ≡ Some x
get_front [] ys i x e = cc
get_front (z ∷ zs) ys zero x e = e
get_front (z ∷ zs) ys (suc i) x e = get_front zs ys i x e

get_end : {X : Type 0} (xs : List X) (y : X) → slice_get (xs ++ y ∷ []) (length xs) ≡ Some y
get_end [] y = refl
get_end (x ∷ xs) y = get_end xs y

same_some : {X : Type 0} (x y : X) → Some x ≡ Some y → x ≡ y
same_some x y e = cc

-- the keys of slots

pub key_at : (slots : List Slot) (i : ℕ) (s : Slot) → slice_get slots i ≡ Some s → slice_get (slot_keys slots) i ≡ Some s.key
key_at [] i s e = cc
key_at (t ∷ slots) zero s e = let same : t ≡ s = same_some t s e in ap (λ (r : Slot). Some r.key) same
key_at (t ∷ slots) (suc i) s e = key_at slots i s e

slot_at : (slots : List Slot) (i : ℕ) (k : List Value) → slice_get (slot_keys slots) i ≡ Some k → (s : Slot) × (slice_get slots i ≡ Some s) × (s.key ≡ k)
slot_at [] i k e = cc
slot_at (t ∷ slots) zero k e = (t, refl, same_some t.key k e)
slot_at (t ∷ slots) (suc i) k e = slot_at slots i k e

keys_set : (slots : List Slot) (i : ℕ) (s : Slot) (us : List Tally) → slice_get slots i ≡ Some s → slot_keys (slice_set slots i (record s { tallies = us })) ≡ slot_keys slots
keys_set [] i s us e = cc
keys_set (t ∷ slots) zero s us e = let same : t ≡ s = same_some t s e in ap (λ (r : Slot). r.key ∷ slot_keys slots) (sym same)
keys_set (t ∷ slots) (suc i) s us e = ap (λ ks. t.key ∷ ks) (keys_set slots i s us e)

keys_push : (slots : List Slot) (s : Slot) → slot_keys (slots ++ s ∷ []) ≡ slot_keys slots ++ s.key ∷ []
keys_push [] s = refl
keys_push (t ∷ slots) s = ap (λ ks. t.key ∷ ks) (keys_push slots s)

keys_count : (slots : List Slot) → length (slot_keys slots) ≡ length slots
keys_count [] = refl
keys_count (t ∷ slots) = ap suc (keys_count slots)

-- what stands at places

abbrev pub Holds : List (List Value) → List (List Value × ℕ) → Type 0
Holds keys es = AllByRecursion (λ e. slice_get keys e.1 ≡ Some e.0) es

map_cond : {X Y : Type 0} (f : X → Y) (b : Bool) (x : X) (o : Option X) (p : Option Y) → p ≡ option_map f o → cond b (Some (f x)) p ≡ option_map f (cond b (Some x) o)
map_cond f true x o p h = refl
map_cond f false x o p h = h

pub lookup_entries : (p : List Value → Bool) (slots : List Slot) (es : List (List Value × ℕ)) → lookup p (entries_at slots es) ≡ option_map (λ i. tallies_in (slice_get slots i)) (lookup p es)
lookup_entries p slots [] = refl
lookup_entries p slots (e ∷ es) = map_cond (λ i. tallies_in (slice_get slots i)) (p e.0) e.1 (lookup p es) (lookup p (entries_at slots es)) (lookup_entries p slots es)

self_equal : (k : List Value) → is_eq (key_cmp k k) ≡ true
self_equal k = (eq_by_cmp_equiv keys_total).refl k

-- a key that stands at another place is another key
apart : (keys : List (List Value)) (i j : ℕ) (k y : List Value) → slice_get keys i ≡ Some k → slice_get keys j ≡ Some y → is_eq (key_cmp k y) ≡ false → (j ≡ i → ⊥)
apart keys i j k y ei ej n e =
    let same : k ≡ y = same_some k y (sym ei ∙ ap (λ m. slice_get keys m) (sym e) ∙ ej) in
    let equal : is_eq (key_cmp k y) ≡ true = ap (λ z. is_eq (key_cmp k z)) (sym same) ∙ self_equal k in cc

module _ (slots : List Slot) (i : ℕ) (s : Slot) (us : List Tally) (at : slice_get slots i ≡ Some s) where
  abbrev after : List Slot
  after = slice_set slots i (record s { tallies = us })

  abbrev keys : List (List Value)
  keys = slot_keys slots

  other_entry : (e : List Value × ℕ) → slice_get keys e.1 ≡ Some e.0 → is_eq (key_cmp s.key e.0) ≡ false → entry_at after e ≡ entry_at slots e
  other_entry e h n = ap (λ o. (e.0, tallies_in o)) (get_set_other slots i e.1 (record s { tallies = us }) (apart keys i e.1 s.key e.0 (key_at slots i s at) h n))

  above_entries : (es : List (List Value × ℕ)) → Holds keys es → Each (λ y. key_cmp s.key y ≡ Less) (keys_of es) → entries_at after es ≡ entries_at slots es
  above_entries [] h a = refl
  above_entries (e ∷ es) h a = ap (λ x. x ∷ entries_at after es) (other_entry e h.0 (ap is_eq a.0)) ∙ ap (λ xs. entry_at slots e ∷ xs) (above_entries es h.1 a.1)

  set_by : (r : Ordering) (e : List Value × ℕ) (es : List (List Value × ℕ)) → key_cmp s.key e.0 ≡ r → slice_get keys e.1 ≡ Some e.0 → Holds keys es → Ascends key_cmp (e.0 ∷ keys_of es)
      → cond (is_eq r) (Some e.1) (lookup (is_at (key_cmp s.key)) es) ≡ Some i
      → (lookup (is_at (key_cmp s.key)) es ≡ Some i → entries_at after es ≡ set_value (is_at (key_cmp s.key)) (entries_at slots es) us)
      → entry_at after e ∷ entries_at after es ≡ cond (is_eq r) ((e.0, us) ∷ entries_at slots es) (entry_at slots e ∷ set_value (is_at (key_cmp s.key)) (entries_at slots es) us)
  set_by Less e es r h hs a l more = ap (λ x. x ∷ entries_at after es) (other_entry e h (ap is_eq r)) ∙ ap (λ xs. entry_at slots e ∷ xs) (more l)
  set_by Equal e es r h hs a l more =
      let same : s.key ≡ e.0 = exact_keys s.key e.0 r in
      let here : e.1 ≡ i = same_some e.1 i l in
      ap (λ j. (e.0, tallies_in (slice_get after j)) ∷ entries_at after es) here
      ∙ ap (λ o. (e.0, tallies_in o) ∷ entries_at after es) (get_set_same slots i s (record s { tallies = us }) at)
      ∙ ap (λ xs. (e.0, us) ∷ xs) (above_entries es hs (subst (λ k. Each (λ y. key_cmp k y ≡ Less) (keys_of es)) (sym same) a.0))
  set_by Greater e es r h hs a l more = ap (λ x. x ∷ entries_at after es) (other_entry e h (ap is_eq r)) ∙ ap (λ xs. entry_at slots e ∷ xs) (more l)

  -- other tallies at a key's place
  pub set_entries : (es : List (List Value × ℕ)) → Holds keys es → Ascends key_cmp (keys_of es) → lookup (is_at (key_cmp s.key)) es ≡ Some i
      → entries_at after es ≡ set_value (is_at (key_cmp s.key)) (entries_at slots es) us
  set_entries [] h a l = cc
  set_entries (e ∷ es) h a l = set_by (key_cmp s.key e.0) e es refl h.0 h.1 a l (set_entries es h.1 a.1)

  pub set_numbered : (es : List (List Value × ℕ)) → AreNumbered keys es → AreNumbered (slot_keys after) es
  set_numbered es n = subst (λ ks. AreNumbered ks es) (sym (keys_set slots i s us at)) n

-- keys that compare as equal are one
pub equal_by : (k y : List Value) (r : Ordering) → r ≡ key_cmp k y → is_eq r ≡ true → k ≡ y
equal_by k y Less e t = cc
equal_by k y Equal e t = exact_keys k y (sym e)
equal_by k y Greater e t = cc

-- one more slot

grown_entry : (slots : List Slot) (s : Slot) (e : List Value × ℕ) → slice_get (slot_keys slots) e.1 ≡ Some e.0 → entry_at (slots ++ s ∷ []) e ≡ entry_at slots e
grown_entry slots s e h =
    let at = slot_at slots e.1 e.0 h in
    ap (λ o. (e.0, tallies_in o)) (get_front slots (s ∷ []) e.1 at.0 at.1 ∙ sym at.1)

grown_entries : (slots : List Slot) (s : Slot) (es : List (List Value × ℕ)) → Holds (slot_keys slots) es → entries_at (slots ++ s ∷ []) es ≡ entries_at slots es
grown_entries slots s [] h = refl
grown_entries slots s (e ∷ es) h = ap (λ x. x ∷ entries_at (slots ++ s ∷ []) es) (grown_entry slots s e h.0) ∙ ap (λ xs. entry_at slots e ∷ xs) (grown_entries slots s es h.1)

new_entry : (slots : List Slot) (s : Slot) → entry_at (slots ++ s ∷ []) (s.key, length slots) ≡ (s.key, s.tallies)
new_entry slots s = ap (λ o. (s.key, tallies_in o)) (get_end slots s)

insert_by : (r : Ordering) (slots : List Slot) (s : Slot) (e : List Value × ℕ) (es more : List (List Value × ℕ)) → slice_get (slot_keys slots) e.1 ≡ Some e.0 → Holds (slot_keys slots) es
    → entries_at (slots ++ s ∷ []) more ≡ insert_entry key_cmp (entries_at slots es) s.key s.tallies
    → is_eq r ≡ false
    → entries_at (slots ++ s ∷ []) (match_ordering r ((s.key, length slots) ∷ e ∷ es) ((e.0, length slots) ∷ es) (e ∷ more))
    ≡ match_ordering r ((s.key, s.tallies) ∷ entries_at slots (e ∷ es)) ((e.0, s.tallies) ∷ entries_at slots es) (entry_at slots e ∷ insert_entry key_cmp (entries_at slots es) s.key s.tallies)
insert_by Less slots s e es more h hs m n = ap (λ x. x ∷ entries_at (slots ++ s ∷ []) (e ∷ es)) (new_entry slots s) ∙ ap (λ xs. (s.key, s.tallies) ∷ xs) (grown_entries slots s (e ∷ es) (h, hs))
insert_by Equal slots s e es more h hs m n = cc
insert_by Greater slots s e es more h hs m n = ap (λ x. x ∷ entries_at (slots ++ s ∷ []) more) (grown_entry slots s e h) ∙ ap (λ xs. entry_at slots e ∷ xs) m

unlike_first : (b : Bool) (x : ℕ) (o : Option ℕ) → cond b (Some x) o ≡ None → b ≡ false
unlike_first true x o e = cc
unlike_first false x o e = refl

unlike_rest : (b : Bool) (x : ℕ) (o : Option ℕ) → cond b (Some x) o ≡ None → o ≡ None
unlike_rest true x o e = cc
unlike_rest false x o e = e

-- a slot of a new key behind the others
pub insert_entries : (slots : List Slot) (s : Slot) (es : List (List Value × ℕ)) → Holds (slot_keys slots) es → lookup (is_at (key_cmp s.key)) es ≡ None
    → entries_at (slots ++ s ∷ []) (insert_entry key_cmp es s.key (length slots)) ≡ insert_entry key_cmp (entries_at slots es) s.key s.tallies
insert_entries slots s [] h n = ap (λ x. x ∷ []) (new_entry slots s)
insert_entries slots s (e ∷ es) h n =
    let r = is_eq (key_cmp s.key e.0) in
    insert_by (key_cmp s.key e.0) slots s e es (insert_entry key_cmp es s.key (length slots)) h.0 h.1
    (insert_entries slots s es h.1 (unlike_rest r e.1 (lookup (is_at (key_cmp s.key)) es) n)) (unlike_first r e.1 (lookup (is_at (key_cmp s.key)) es) n)

holds_more : (keys : List (List Value)) (k : List Value) (es : List (List Value × ℕ)) → Holds keys es → Holds (keys ++ k ∷ []) es
holds_more ks k [] h = tt
holds_more ks k (e ∷ es) h = (get_front ks (k ∷ []) e.1 e.0 h.0, holds_more ks k es h.1)

holds_by : (r : Ordering) (keys : List (List Value)) (k : List Value) (n : ℕ) (e : List Value × ℕ) (es more : List (List Value × ℕ)) → slice_get keys n ≡ Some k → Holds keys (e ∷ es) → Holds keys more → is_eq r ≡ false
    → Holds keys (match_ordering r ((k, n) ∷ e ∷ es) ((e.0, n) ∷ es) (e ∷ more))
holds_by Less keys k n e es more g h m d = (g, h)
holds_by Equal keys k n e es more g h m d = cc
holds_by Greater keys k n e es more g h m d = (h.0, m)

holds_insert : (keys : List (List Value)) (k : List Value) (n : ℕ) (es : List (List Value × ℕ)) → slice_get keys n ≡ Some k → Holds keys es → lookup (is_at (key_cmp k)) es ≡ None → Holds keys (insert_entry key_cmp es k n)
holds_insert ks k n [] g h d = (g, tt)
holds_insert ks k n (e ∷ es) g h d =
    let r = is_eq (key_cmp k e.0) in
    holds_by (key_cmp k e.0) ks k n e es (insert_entry key_cmp es k n) g h
    (holds_insert ks k n es g h.1 (unlike_rest r e.1 (lookup (is_at (key_cmp k)) es) d)) (unlike_first r e.1 (lookup (is_at (key_cmp k)) es) d)

-- where an item of one more stands
split_get : {X : Type 0} (xs : List X) (y : X) (j : ℕ) (x : X) → slice_get (xs ++ y ∷ []) j ≡ Some x → (slice_get xs j ≡ Some x) ⊎ ((j ≡ length xs) × (x ≡ y))
split_get [] y zero x e = inr (refl, sym (same_some y x e))
split_get [] y (suc j) x e = cc
split_get (z ∷ zs) y zero x e = inl e
split_get (z ∷ zs) y (suc j) x e = split_next z zs y j x (split_get zs y j x e)
  where
    split_next : {X : Type 0} (z : X) (zs : List X) (y : X) (j : ℕ) (x : X) → (slice_get zs j ≡ Some x) ⊎ ((j ≡ length zs) × (x ≡ y)) → (slice_get (z ∷ zs) (suc j) ≡ Some x) ⊎ ((suc j ≡ length (z ∷ zs)) × (x ≡ y))
    split_next z zs y j x (inl e) = inl e
    split_next z zs y j x (inr e) = inr (ap suc e.0, e.1)

known_old : (keys : List (List Value)) (k q : List Value) (n j : ℕ) (found : Option ℕ) (b : Bool) → is_eq (key_cmp k q) ≡ b → found ≡ None → (k ≡ q → Some j ≡ found) → cond b (Some n) (Some j) ≡ Some j
known_old keys k q n j found true e d h = let same : k ≡ q = equal_by k q (key_cmp k q) refl e in let some : Some j ≡ found = h same in cc
known_old keys k q n j found false e d h = refl

pub push_numbered : (keys : List (List Value)) (k : List Value) (es after : List (List Value × ℕ)) → AreNumbered keys es → lookup (is_at (key_cmp k)) es ≡ None → after ≡ insert_entry key_cmp es k (length keys)
    → ((q : List Value) → lookup (is_at (key_cmp q)) after ≡ cond (is_eq (key_cmp k q)) (Some (length keys)) (lookup (is_at (key_cmp q)) es))
    → AreNumbered (keys ++ k ∷ []) after
push_numbered keys k es after n d e updates = (
  subst (Holds (keys ++ k ∷ [])) (sym e) (holds_insert (keys ++ k ∷ []) k (length keys) es (get_end keys k) (holds_more keys k es n.0) d),
  λ j q g. known j q (split_get keys k j q g),
)
  where
    known : (j : ℕ) (q : List Value) → (slice_get keys j ≡ Some q) ⊎ ((j ≡ length keys) × (q ≡ k)) → lookup (is_at (key_cmp q)) after ≡ Some j
    known j q (inl old) =
        updates q ∙ ap (cond (is_eq (key_cmp k q)) (Some (length keys))) (n.1 j q old)
        ∙ known_old keys k q (length keys) j (lookup (is_at (key_cmp k)) es) (is_eq (key_cmp k q)) refl d (λ same. sym (ap (λ y. lookup (is_at (key_cmp y)) es) same ∙ n.1 j q old))
    known j q (inr new) =
        updates q ∙ ap (λ y. cond (is_eq (key_cmp k y)) (Some (length keys)) (lookup (is_at (key_cmp y)) es)) new.1
        ∙ ap (λ b. cond b (Some (length keys)) (lookup (is_at (key_cmp k)) es)) (self_equal k) ∙ ap Some (sym new.0)

none_from : {X Y : Type 0} (f : X → Y) (o : Option X) → option_map f o ≡ None → o ≡ None
none_from f None e = refl
none_from f (Some x) e = cc

pub absent : (slots : List Slot) (k : List Value) (es : List (List Value × ℕ)) (now : List (List Value × List Tally)) → entries_at slots es ≡ now → lookup (is_at (key_cmp k)) now ≡ None → lookup (is_at (key_cmp k)) es ≡ None
absent slots k es now v d = none_from (λ i. tallies_in (slice_get slots i)) (lookup (is_at (key_cmp k)) es) (sym (lookup_entries (is_at (key_cmp k)) slots es) ∙ ap (lookup (is_at (key_cmp k))) v ∙ d)

pub pushed_slots : (slots after : List Slot) (k : List Value) (ts : List Tally) (es entries : List (List Value × ℕ)) (now : List (List Value × List Tally)) → AreNumbered (slot_keys slots) es
    → entries_at slots es ≡ now → lookup (is_at (key_cmp k)) now ≡ None
    → after ≡ slots ++ (record { key = k; tallies = ts }) ∷ []
    → entries ≡ insert_entry key_cmp es k (length slots)
    → ((q : List Value) → lookup (is_at (key_cmp q)) entries ≡ cond (is_eq (key_cmp k q)) (Some (length slots)) (lookup (is_at (key_cmp q)) es))
    → AreNumbered (slot_keys after) entries
pushed_slots slots grown k ts es entries now n v d ea ee updates =
    let count = keys_count slots in
    subst (λ ks. AreNumbered ks entries) (sym (ap slot_keys ea ∙ keys_push slots (record { key = k; tallies = ts })))
    (push_numbered (slot_keys slots) k es entries n (absent slots k es now v d) (ee ∙ ap (insert_entry key_cmp es k) (sym count))
    (λ q. updates q ∙ ap (λ m. cond (is_eq (key_cmp k q)) (Some m) (lookup (is_at (key_cmp q)) es)) (sym count)))

pub pushed_entries : (slots after : List Slot) (k : List Value) (ts : List Tally) (es entries : List (List Value × ℕ)) (now : List (List Value × List Tally)) → AreNumbered (slot_keys slots) es
    → entries_at slots es ≡ now → lookup (is_at (key_cmp k)) now ≡ None
    → after ≡ slots ++ (record { key = k; tallies = ts }) ∷ []
    → entries ≡ insert_entry key_cmp es k (length slots)
    → entries_at after entries ≡ insert_entry key_cmp now k ts
pushed_entries slots grown k ts es entries now n v d ea ee =
    ap (λ ss. entries_at ss entries) ea ∙ ap (entries_at (slots ++ (record { key = k; tallies = ts }) ∷ [])) ee
    ∙ insert_entries slots (record { key = k; tallies = ts }) es n.0 (absent slots k es now v d)
    ∙ ap (λ xs. insert_entry key_cmp xs k ts) v

-- the slot of a key

hold_by : (r : Ordering) (keys : List (List Value)) (k : List Value) (i : ℕ) (e : List Value × ℕ) (o : Option ℕ) → key_cmp k e.0 ≡ r → slice_get keys e.1 ≡ Some e.0 → cond (is_eq r) (Some e.1) o ≡ Some i
    → (o ≡ Some i → slice_get keys i ≡ Some k) → slice_get keys i ≡ Some k
hold_by Less ks k i e o r h l more = more l
hold_by Equal ks k i e o r h l more = ap (λ j. slice_get ks j) (sym (same_some e.1 i l)) ∙ h ∙ ap Some (sym (exact_keys k e.0 r))
hold_by Greater ks k i e o r h l more = more l

held_at : (keys : List (List Value)) (k : List Value) (i : ℕ) (es : List (List Value × ℕ)) → Holds keys es → lookup (is_at (key_cmp k)) es ≡ Some i → slice_get keys i ≡ Some k
held_at ks k i [] h l = cc
held_at ks k i (e ∷ es) h l = hold_by (key_cmp k e.0) ks k i e (lookup (is_at (key_cmp k)) es) refl h.0 l (held_at ks k i es h.1)

module _ (slots : List Slot) (es : List (List Value × ℕ)) (k : List Value) (i : ℕ) (n : AreNumbered (slot_keys slots) es) (l : lookup (is_at (key_cmp k)) es ≡ Some i) where
  slot_of : (s : Slot) × (slice_get slots i ≡ Some s) × (s.key ≡ k)
  slot_of = slot_at slots i k (held_at (slot_keys slots) k i es n.0 l)

  pub place_within : i < length slots
  place_within = slice_get_within slots i slot_of.0 slot_of.1

  pub found_tallies : (now : List (List Value × List Tally)) (s : Slot) → entries_at slots es ≡ now → slice_get slots i ≡ Some s → lookup (is_at (key_cmp k)) now ≡ Some s.tallies
  found_tallies now s v at =
      ap (lookup (is_at (key_cmp k))) (sym v) ∙ lookup_entries (is_at (key_cmp k)) slots es ∙ ap (option_map (λ j. tallies_in (slice_get slots j))) l ∙ ap (λ o. Some (tallies_in o)) at

  module _ (grown : List Slot) (P : List Tally → List Tally → Type 0) (sets : SetsTallies slots grown i P) where
    pub changed_numbered : AreNumbered (slot_keys grown) es
    changed_numbered =
        let s = slot_of in
        let u = sets s.0 s.1 in
        subst (λ ss. AreNumbered (slot_keys ss) es) (sym u.1) (set_numbered slots i s.0 u.0 s.1 es n)

    -- the groups afterwards, by the tallies that the key had and has
    pub changed_entries : (now : List (List Value × List Tally)) → entries_at slots es ≡ now → IsStrictlySortedBy key_cmp (keys_of es)
        → (ts : List Tally) × (us : List Tally) × (lookup (is_at (key_cmp k)) now ≡ Some ts) × (entries_at grown es ≡ set_value (is_at (key_cmp k)) now us) × P ts us
    changed_entries now v ordered =
        let s = slot_of in
        let u = sets s.0 s.1 in
        let same : s.0.key ≡ k = s.2 in (
          s.0.tallies,
          u.0,
          found_tallies now s.0 v s.1,
          ap (λ ss. entries_at ss es) u.1
              ∙ set_entries slots i s.0 u.0 s.1 es n.0 (ascends_from key_cmp (keys_of es) ordered) (ap (λ y. lookup (is_at (key_cmp y)) es) same ∙ l)
              ∙ ap (λ y. set_value (is_at (key_cmp y)) (entries_at slots es) u.0) same ∙ ap (λ xs. set_value (is_at (key_cmp k)) xs u.0) v,
          u.2,
        )

-- a key without a place has no tallies
pub none_there : (slots : List Slot) (es : List (List Value × ℕ)) (k : List Value) → lookup (is_at (key_cmp k)) es ≡ None → lookup (is_at (key_cmp k)) (entries_at slots es) ≡ None
none_there slots es k l = lookup_entries (is_at (key_cmp k)) slots es ∙ ap (option_map (λ j. tallies_in (slice_get slots j))) l

pub on_ok : {A E X Y : Type 0} (r : Result A E) → (X → Y) → OnOk r X → OnOk r Y
on_ok (Ok a) f x = f x
on_ok (Err e) f x = tt

-- what was found is what there is
pub found_same : {X : Type 0} (o : Option X) (x y : X) → o ≡ Some x → o ≡ Some y → x ≡ y
found_same o x y e f = same_some x y (sym e ∙ f)

pub found_none : {X : Type 0} {Y : Type 0} (o : Option X) (x : X) → o ≡ Some x → o ≡ None → Y
found_none o x e f = cc

-- taking the groups out one by one

abbrev pub Merging : List (List Value × List Tally) → List Slot → List (List Value × ℕ) → List (List Value × List Tally) → Type 0
Merging groups slots es all =
    (merged_groups groups (entries_at slots es) ≡ all) × AreMergeable groups (entries_at slots es) × Holds (slot_keys slots) es × Ascends key_cmp (keys_of es)

taken : (slots grown : List Slot) (k : List Value) (i : ℕ) (es : List (List Value × ℕ)) → Holds (slot_keys slots) ((k, i) ∷ es) → Ascends key_cmp (k ∷ keys_of es) → grown ≡ emptied slots i
    → (entries_at grown es ≡ entries_at slots es) × Holds (slot_keys grown) es
taken slots grown k i es h a g =
    let s = slot_at slots i k h.0 in
    let same : s.0.key ≡ k = s.2 in
    let set : grown ≡ slice_set slots i (record s.0 { tallies = [] }) = g ∙ ap (λ o. emptied_by o slots i) s.1 in (
      ap (λ ss. entries_at ss es) set ∙ above_entries slots i s.0 [] s.1 es h.1 (subst (λ y. Each (λ z. key_cmp y z ≡ Less) (keys_of es)) (sym same) a.0),
      subst (λ ks. Holds ks es) (sym (ap slot_keys set ∙ keys_set slots i s.0 [] s.1)) h.1,
    )

merge_next : (slots grown : List Slot) (k : List Value) (i : ℕ) (es : List (List Value × ℕ)) (ts : List Tally) (groups next all : List (List Value × List Tally))
    → ts ≡ tallies_in (slice_get slots i) → grown ≡ emptied slots i → next ≡ merged_in groups (k, ts) → Merging groups slots ((k, i) ∷ es) all → Merging next grown es all
merge_next slots grown k i es ts groups next all t g n m =
    let rest = taken slots grown k i es m.2 m.3 g in
    let step : next ≡ merged_in groups (k, tallies_in (slice_get slots i)) = n ∙ ap (λ us. merged_in groups (k, us)) t in (
      ap (λ gs. merged_groups gs (entries_at grown es)) step ∙ ap (merged_groups (merged_in groups (k, tallies_in (slice_get slots i)))) rest.0 ∙ m.0,
      subst (λ gs. AreMergeable gs (entries_at grown es)) (sym step) (subst (AreMergeable (merged_in groups (k, tallies_in (slice_get slots i)))) (sym rest.0) m.1.1),
      rest.1,
      m.3.1,
    )

pub merge_step : (slots grown : List Slot) (k : List Value) (i : ℕ) (es it : List (List Value × ℕ)) (ts : List Tally) (groups next all : List (List Value × List Tally))
    → it ≡ (k, i) ∷ es → ts ≡ tallies_in (slice_get slots i) → grown ≡ emptied slots i → next ≡ merged_in groups (k, ts) → Merging groups slots it all → Merging next grown es all
merge_step slots grown k i es it ts groups next all e t g n m = merge_next slots grown k i es ts groups next all t g n (subst (λ xs. Merging groups slots xs all) e m)

pub merge_start : (groups others : List (List Value × List Tally)) (slots : List Slot) (es : List (List Value × ℕ)) → entries_at slots es ≡ others → AreMergeable groups others → AreNumbered (slot_keys slots) es → IsStrictlySortedBy key_cmp (keys_of es)
    → Merging groups slots es (merged_groups groups others)
merge_start groups others slots es v m n o = (ap (merged_groups groups) v, subst (AreMergeable groups) (sym v) m, n.0, ascends_from key_cmp (keys_of es) o)

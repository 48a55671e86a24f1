-- The lists that a statement needs are held by tables once the link is ready.
use Rattle.std.proofs.Common.{◌≡◌, ℕ, ◌+◌, ◌<◌, ◌≤◌, Bool, true, false, not, cond, List, [], ◌∷◌, ◌++◌, length, Option, Some, None, refl, arith, sym, ◌∙◌, ap, subst, append_assoc}
use Rattle.std.proofs.lemmas.Bool.Decides.{nat_tests}
use Rattle.std.proofs.lemmas.Cmp.{lists_total, eq_by_cmp_equiv}
use Rattle.std.specs.Prelude.{◌||◌, nat_eq, nat_le, option_map}
use Rattle.std.specs.Cmp.{IsTotalOrder}
use Rattle.std.specs.declared.cmp.Ordering.{Ordering}
use Rattle.std.specs.declared.cmp.Ordering.TheVariants.{Less, Equal, Greater}
use Rattle.std.specs.Ordering.{is_eq}
use Rattle.std.specs.List.{AllByRecursion, find, fold}
use Rattle.dq_base.specs.Orders.{key_cmp}
use Rattle.dq_base.specs.ValueOrder.{value_cmp_total}
use Rattle.dq_base.specs.declared.value.Value.{Value}
use Rattle.dq_base.proofs.Exact.{exact_keys}
use Rattle.dq_text.specs.Said.{Tables}
use Rattle.dq_link.specs.Mirrors.{AreNumbered, Readying, alike, dropping, holding, is_among, is_held, putting, roomed, spare_table}
use Rattle.dq_link.specs.Pairs.{without}
use Rattle.dq_link.proofs.Lookups.{numbers-push, numbers-without}
use Rattle.dq_link.proofs.Needed.{any-append}

keys_total : IsTotalOrder key_cmp
keys_total = lists_total value_cmp_total

pub alike_itself : (list : List Value) → alike list list ≡ true
alike_itself list = (eq_by_cmp_equiv keys_total).refl list

is_equal : (o : Ordering) → is_eq o ≡ true → o ≡ Equal
is_equal Less e = cc
is_equal Equal e = refl
is_equal Greater e = cc

pub alike_same : (a b : List Value) → alike a b ≡ true → a ≡ b
alike_same a b e = exact_keys a b (is_equal (key_cmp a b) e)

-- the numbers of a mirror's tables
abbrev pub Numbered : Readying → Type 0
Numbered r = AreNumbered 1 r.mirror.next r.mirror.tables

dropping_numbered : (o : Option ℕ) (r : Readying) → Numbered r → Numbered (dropping o r)
dropping_numbered None r h = h
dropping_numbered (Some n) r h = numbers-without 1 r.mirror.next n r.mirror.tables h

roomed_numbered : (needed : List (List Value)) (r : Readying) → Numbered r → Numbered (roomed needed r)
roomed_numbered needed r h =
    let step : Readying = dropping (spare_table needed r.mirror.tables) r in
    elim (nat_le 16 (length r.mirror.tables)) as (λ b. Numbered (cond b step r)) [ true ↦ dropping_numbered (spare_table needed r.mirror.tables) r h | false ↦ h ]

pub holding_numbered : (needed : List (List Value)) (r : Readying) (list : List Value) → Numbered r → Numbered (holding needed r list)
holding_numbered needed r list h =
    let room : Readying = roomed needed r in
    elim (is_held r.mirror.tables list) as (λ b. Numbered (cond b r (putting list room)))
    [ true ↦ h | false ↦ numbers-push 1 room.mirror.next room.mirror.tables list (roomed_numbered needed r h) ]

-- the tables of that number aren't needed
abbrev Unneeded : List (List Value) → ℕ → Tables → Type 0
Unneeded needed n [] = Unit {0}
Unneeded needed n (t ∷ ts) = (t.0 ≡ n → is_among needed t.1 ≡ false) × Unneeded needed n ts

unneeded_below : (needed : List (List Value)) (first end n : ℕ) (ts : Tables) → AreNumbered first end ts → n < first → Unneeded needed n ts
unneeded_below needed first end n [] h k = tt
unneeded_below needed first end n (t ∷ ts) h k = (λ e. absurd (omega (arith, h.0)), unneeded_below needed (t.0 + 1) end n ts h.1 (omega (arith, h.0)))

abbrev first_spare : List (List Value) → Bool → (ℕ × List Value) → Tables → Option ℕ
first_spare needed b t ts = option_map (λ u. u.0) (cond (not b) (Some t) (find (λ u. not (is_among needed u.1)) ts))

spare_above : (needed : List (List Value)) (first end n : ℕ) (ts : Tables) → AreNumbered first end ts → spare_table needed ts ≡ Some n → first ≤ n
spare_above needed first end n [] h e = cc
spare_above needed first end n (t ∷ ts) h e =
    let by : (b : Bool) → first_spare needed b t ts ≡ Some n → first ≤ n =
    elim [
      | true ↦ λ (k : spare_table needed ts ≡ Some n). omega (arith, h.0, spare_above needed (t.0 + 1) end n ts h.1 k)
      | false ↦ λ (k : Some t.0 ≡ Some n). let m : t.0 ≡ n = cc in omega (arith, h.0, m)
    ] in
    by (is_among needed t.1) e

spare_unneeded : (needed : List (List Value)) (first end n : ℕ) (ts : Tables) → AreNumbered first end ts → spare_table needed ts ≡ Some n → Unneeded needed n ts
spare_unneeded needed first end n [] h e = tt
spare_unneeded needed first end n (t ∷ ts) h e =
    let by : (b : Bool) → is_among needed t.1 ≡ b → first_spare needed b t ts ≡ Some n → Unneeded needed n (t ∷ ts) =
    elim [
      | true ↦ λ (a : is_among needed t.1 ≡ true) (k : spare_table needed ts ≡ Some n). (λ (same : t.0 ≡ n). absurd (omega (arith, same, spare_above needed (t.0 + 1) end n ts h.1 k)), spare_unneeded needed (t.0 + 1) end n ts h.1 k)
      | false ↦ λ (a : is_among needed t.1 ≡ false) (k : Some t.0 ≡ Some n). let m : t.0 ≡ n = cc in let below : n < t.0 + 1 = omega (arith, m) in (λ (same : t.0 ≡ n). a, unneeded_below needed (t.0 + 1) end n ts h.1 below)
    ] in
    by (is_among needed t.1) refl e

or_left : (a b : Bool) → a ≡ true → (a || b) ≡ true
or_left true b e = refl
or_left false b e = cc

or_right : (a b : Bool) → b ≡ true → (a || b) ≡ true
or_right true b e = refl
or_right false b e = e

numbers_same : (a b : ℕ) → nat_eq a b ≡ true → a ≡ b
numbers_same a b e = grind (arith, nat_tests)

without_held : (needed : List (List Value)) (n : ℕ) (ts : Tables) (list : List Value) → Unneeded needed n ts → is_among needed list ≡ true → is_held ts list ≡ true → is_held (without ts n) list ≡ true
without_held needed n [] list u a h = h
without_held needed n (t ∷ ts) list u a h =
    let rest : is_held ts list ≡ true → is_held (without ts n) list ≡ true = without_held needed n ts list u.1 a in
    let kept : (c : Bool) → alike t.1 list ≡ c → (c || is_held ts list) ≡ true → (alike t.1 list || is_held (without ts n) list) ≡ true =
    elim [
      | true ↦ λ (e : alike t.1 list ≡ true) (k : true ≡ true). or_left (alike t.1 list) (is_held (without ts n) list) e
      | false ↦ λ (e : alike t.1 list ≡ false) (k : is_held ts list ≡ true). or_right (alike t.1 list) (is_held (without ts n) list) (rest k)
    ] in
    let gone : t.0 ≡ n → (c : Bool) → alike t.1 list ≡ c → (c || is_held ts list) ≡ true → is_held (without ts n) list ≡ true =
    λ (same : t.0 ≡ n). elim [
      | true ↦ λ (e : alike t.1 list ≡ true) (k : true ≡ true). let never : true ≡ false = sym (ap (is_among needed) (alike_same t.1 list e) ∙ a) ∙ u.0 same in cc
      | false ↦ λ (e : alike t.1 list ≡ false) (k : is_held ts list ≡ true). rest k
    ] in
    let by : (b : Bool) → nat_eq t.0 n ≡ b → is_held (cond (not b) (t ∷ without ts n) (without ts n)) list ≡ true =
    elim [
      | true ↦ λ (e : nat_eq t.0 n ≡ true). gone (numbers_same t.0 n e) (alike t.1 list) refl h
      | false ↦ λ (e : nat_eq t.0 n ≡ false). kept (alike t.1 list) refl h
    ] in
    by (nat_eq t.0 n) refl

pub dropping_held : (needed : List (List Value)) (o : Option ℕ) (r : Readying) (list : List Value) → Numbered r → spare_table needed r.mirror.tables ≡ o → is_among needed list ≡ true → is_held r.mirror.tables list ≡ true → is_held (dropping o r).mirror.tables list ≡ true
dropping_held needed None r list n e a h = h
dropping_held needed (Some m) r list n e a h = without_held needed m r.mirror.tables list (spare_unneeded needed 1 r.mirror.next m r.mirror.tables n e) a h

roomed_held : (needed : List (List Value)) (r : Readying) (list : List Value) → Numbered r → is_among needed list ≡ true → is_held r.mirror.tables list ≡ true → is_held (roomed needed r).mirror.tables list ≡ true
roomed_held needed r list n a h =
    let spare : Option ℕ = spare_table needed r.mirror.tables in
    elim (nat_le 16 (length r.mirror.tables)) as (λ b. is_held (cond b (dropping spare r) r).mirror.tables list ≡ true)
    [ true ↦ dropping_held needed spare r list n refl a h | false ↦ h ]

put_held : (list other : List Value) (r : Readying) → is_held r.mirror.tables other ≡ true → is_held (putting list r).mirror.tables other ≡ true
put_held list other r h =
    any-append (λ t. alike t.1 other) r.mirror.tables ((r.mirror.next, list) ∷ [])
    ∙ or_left (is_held r.mirror.tables other) (is_held ((r.mirror.next, list) ∷ []) other) h

put_holds : (list : List Value) (r : Readying) → is_held (putting list r).mirror.tables list ≡ true
put_holds list r =
    any-append (λ t. alike t.1 list) r.mirror.tables ((r.mirror.next, list) ∷ [])
    ∙ or_right (is_held r.mirror.tables list) (is_held ((r.mirror.next, list) ∷ []) list) (or_left (alike list list) false (alike_itself list))

-- a needed list stays held
holding_held : (needed : List (List Value)) (r : Readying) (list other : List Value) → Numbered r → is_among needed other ≡ true → is_held r.mirror.tables other ≡ true → is_held (holding needed r list).mirror.tables other ≡ true
holding_held needed r list other n a h =
    elim (is_held r.mirror.tables list) as (λ b. is_held (cond b r (putting list (roomed needed r))).mirror.tables other ≡ true)
    [ true ↦ h | false ↦ put_held list other (roomed needed r) (roomed_held needed r other n a h) ]

each_held : (needed lists : List (List Value)) (r : Readying) (other : List Value) → Numbered r → is_among needed other ≡ true → is_held r.mirror.tables other ≡ true → is_held (fold (holding needed) r lists).mirror.tables other ≡ true
each_held needed [] r other n a h = h
each_held needed (l ∷ ls) r other n a h = each_held needed ls (holding needed r l) other (holding_numbered needed r l n) a (holding_held needed r l other n a h)

-- a list is held once it was gone through
holding_holds : (needed : List (List Value)) (r : Readying) (list : List Value) (b : Bool) → is_held r.mirror.tables list ≡ b → is_held (cond b r (putting list (roomed needed r))).mirror.tables list ≡ true
holding_holds needed r list true e = e
holding_holds needed r list false e = put_holds list (roomed needed r)

pub all_held : (needed lists : List (List Value)) (r : Readying) → Numbered r → AllByRecursion (λ l. is_among needed l ≡ true) lists → AllByRecursion (λ l. is_held (fold (holding needed) r lists).mirror.tables l ≡ true) lists
all_held needed [] r n a = tt
all_held needed (l ∷ ls) r n a =
    let after : Numbered (holding needed r l) = holding_numbered needed r l n in
    (each_held needed ls (holding needed r l) l after a.0 (holding_holds needed r l (is_held r.mirror.tables l) refl), all_held needed ls (holding needed r l) after a.1)

-- each list is among the lists
among_from : (before lists : List (List Value)) → AllByRecursion (λ l. is_among (before ++ lists) l ≡ true) lists
among_from before [] = tt
among_from before (l ∷ ls) =
    let here : is_among (before ++ l ∷ ls) l ≡ true =
    any-append (λ k. alike k l) before (l ∷ ls) ∙ or_right (is_among before l) (is_among (l ∷ ls) l) (or_left (alike l l) (is_among ls l) (alike_itself l)) in
    (here, subst (λ ks. AllByRecursion (λ k. is_among ks k ≡ true) ls) (append_assoc before (l ∷ []) ls) (among_from (before ++ l ∷ []) ls))

pub among_itself : (lists : List (List Value)) → AllByRecursion (λ l. is_among lists l ≡ true) lists
among_itself lists = among_from [] lists

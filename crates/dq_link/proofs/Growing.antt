-- How many calls the steps of making a link ready take.
use Rattle.std.proofs.Common.{◌≡◌, ℕ, ◌+◌, ◌*◌, ◌-◌, ◌^◌, ◌≤◌, true, false, cond, List, [], ◌∷◌, length, Option, Some, None, refl, arith, ◌∙◌, ap, length-append}
use Rattle.std.specs.Prelude.{nat_le}
use Rattle.std.specs.List.{fold}
use Rattle.dq_base.specs.declared.value.Value.{Value}
use Rattle.dq_base.specs.declared.predicate.Predicate.{Predicate}
use Rattle.dq_base.specs.declared.predicate.Test.{Test}
use Rattle.dq_base.specs.declared.predicate.Test.TheVariants.{Among, Except, Between}
use Rattle.dq_base.specs.declared.query.Query.{Query}
use Rattle.dq_base.specs.declared.schema.Sort.{Sort}
use Rattle.dq_base.specs.Validity.{first_reason}
use Rattle.dq_link.specs.Mirrors.{Mirror, Readying, dropping, holding, is_held, is_stamp, lists_in, long_list, long_lists, mounting, preparing, putting, readying, readying_count, remounting, roomed, spare_table}
use Rattle.dq_link.specs.Pairs.{lookup}
use Rattle.dq_link.proofs.Valid.{valid_few}

-- a step takes no call less, and few more

dropping_grows : (o : Option ℕ) (r : Readying) → (r.count ≤ (dropping o r).count) × ((dropping o r).count ≤ r.count + 1)
dropping_grows None r = (omega arith, omega arith)
dropping_grows (Some n) r = (omega arith, omega arith)

pub roomed_grows : (needed : List (List Value)) (r : Readying) → (r.count ≤ (roomed needed r).count) × ((roomed needed r).count ≤ r.count + 1)
roomed_grows needed r =
    let step : Readying = dropping (spare_table needed r.mirror.tables) r in
    elim (nat_le 16 (length r.mirror.tables)) as (λ b. (r.count ≤ (cond b step r).count) × ((cond b step r).count ≤ r.count + 1))
    [ true ↦ dropping_grows (spare_table needed r.mirror.tables) r | false ↦ (omega arith, omega arith) ]

pub holding_grows : (needed : List (List Value)) (r : Readying) (list : List Value) → (r.count ≤ (holding needed r list).count) × ((holding needed r list).count ≤ r.count + 2)
holding_grows needed r list =
    let room : (r.count ≤ (roomed needed r).count) × ((roomed needed r).count ≤ r.count + 1) = roomed_grows needed r in
    let step : Readying = putting list (roomed needed r) in
    let low : r.count ≤ step.count = omega (arith, room.0) in
    let high : step.count ≤ r.count + 2 = omega (arith, room.1) in
    elim (is_held r.mirror.tables list) as (λ b. (r.count ≤ (cond b r step).count) × ((cond b r step).count ≤ r.count + 2))
    [ true ↦ (omega arith, omega arith) | false ↦ (low, high) ]

pub each_grows : (needed lists : List (List Value)) (r : Readying) → (r.count ≤ (fold (holding needed) r lists).count) × ((fold (holding needed) r lists).count ≤ r.count + 2 * length lists)
each_grows needed [] r = (omega arith, omega arith)
each_grows needed (l ∷ ls) r =
    let one : (r.count ≤ (holding needed r l).count) × ((holding needed r l).count ≤ r.count + 2) = holding_grows needed r l in
    let more : ((holding needed r l).count ≤ (fold (holding needed) (holding needed r l) ls).count) × ((fold (holding needed) (holding needed r l) ls).count ≤ (holding needed r l).count + 2 * length ls) = each_grows needed ls (holding needed r l) in
    (omega (arith, one.0, more.0), omega (arith, one.1, more.1))

pub mounting_grows : (source stamp : ℕ) (r : Readying) → (r.count ≤ (mounting source stamp r).count) × ((mounting source stamp r).count ≤ r.count + 1)
mounting_grows source stamp r =
    let step : Readying = remounting source stamp r in
    elim (is_stamp (lookup r.mirror.mounts source) stamp) as (λ b. (r.count ≤ (cond b r step).count) × ((cond b r step).count ≤ r.count + 1))
    [ true ↦ (omega arith, omega arith) | false ↦ (omega arith, omega arith) ]

pub preparing_grows : (stamp : ℕ) (q : Query) (r : Readying) → r.count ≤ (preparing stamp q r).count
preparing_grows stamp q r = omega (arith, (mounting_grows q.source stamp r).0, (each_grows (lists_in q.filters) (lists_in q.filters) (mounting q.source stamp r)).0)

long_list_few : (list : List Value) → length (long_list list) ≤ 1
long_list_few list = elim (nat_le (length list) 16) as (λ b. length (cond b [] (list ∷ [])) ≤ 1) [ true ↦ omega arith | false ↦ omega arith ]

long_lists_few : (test : Test) → length (long_lists test) ≤ 1
long_lists_few (Among list) = long_list_few list
long_lists_few (Except list) = long_list_few list
long_lists_few (Between low high) = omega arith

lists_few : (filters : List Predicate) → length (lists_in filters) ≤ length filters
lists_few [] = omega arith
lists_few (p ∷ ps) = omega (arith, length-append (long_lists p.test) (lists_in ps), long_lists_few p.test, lists_few ps)

-- a query of at most 16 predicates takes at most 33 calls
pub readying_few : (m : Mirror) (stamp : ℕ) (q : Query) → length q.filters ≤ 16 → readying_count m stamp q ≤ 33
readying_few m stamp q h =
    let r : Readying = record { mirror = m; count = 0 } in
    omega (arith, (mounting_grows q.source stamp r).1, (each_grows (lists_in q.filters) (lists_in q.filters) (mounting q.source stamp r)).1, lists_few q.filters)

-- so many calls before

abbrev pub shifted : ℕ → Readying → Readying
shifted k r = record { mirror = r.mirror; count = k + r.count }

abbrev pub with_count : Mirror → ℕ → Readying
with_count m k = record { mirror = m; count = k }

one_more : (m : Mirror) (k n : ℕ) → with_count m ((k + n) + 1) ≡ with_count m (k + (n + 1))
one_more m k n = let e : (k + n) + 1 ≡ k + (n + 1) = omega arith in ap (with_count m) e

dropping_shift : (k : ℕ) (o : Option ℕ) (r : Readying) → dropping o (shifted k r) ≡ shifted k (dropping o r)
dropping_shift k None r = refl
dropping_shift k (Some n) r = one_more (dropping (Some n) r).mirror k r.count

roomed_shift : (needed : List (List Value)) (k : ℕ) (r : Readying) → roomed needed (shifted k r) ≡ shifted k (roomed needed r)
roomed_shift needed k r =
    let spare : Option ℕ = spare_table needed r.mirror.tables in
    elim (nat_le 16 (length r.mirror.tables)) as (λ b. cond b (dropping spare (shifted k r)) (shifted k r) ≡ shifted k (cond b (dropping spare r) r))
    [ true ↦ dropping_shift k spare r | false ↦ refl ]

putting_shift : (list : List Value) (k : ℕ) (r : Readying) → putting list (shifted k r) ≡ shifted k (putting list r)
putting_shift list k r = one_more (putting list r).mirror k r.count

holding_shift : (needed : List (List Value)) (k : ℕ) (r : Readying) (list : List Value) → holding needed (shifted k r) list ≡ shifted k (holding needed r list)
holding_shift needed k r list =
    elim (is_held r.mirror.tables list) as (λ b. cond b (shifted k r) (putting list (roomed needed (shifted k r))) ≡ shifted k (cond b r (putting list (roomed needed r))))
    [ true ↦ refl | false ↦ ap (putting list) (roomed_shift needed k r) ∙ putting_shift list k (roomed needed r) ]

each_shift : (needed lists : List (List Value)) (k : ℕ) (r : Readying) → fold (holding needed) (shifted k r) lists ≡ shifted k (fold (holding needed) r lists)
each_shift needed [] k r = refl
each_shift needed (l ∷ ls) k r = ap (λ s. fold (holding needed) s ls) (holding_shift needed k r l) ∙ each_shift needed ls k (holding needed r l)

mounting_shift : (source stamp k : ℕ) (r : Readying) → mounting source stamp (shifted k r) ≡ shifted k (mounting source stamp r)
mounting_shift source stamp k r =
    elim (is_stamp (lookup r.mirror.mounts source) stamp) as (λ b. cond b (shifted k r) (remounting source stamp (shifted k r)) ≡ shifted k (cond b r (remounting source stamp r)))
    [ true ↦ refl | false ↦ one_more (remounting source stamp r).mirror k r.count ]

preparing_shift : (stamp : ℕ) (q : Query) (k : ℕ) (r : Readying) → preparing stamp q (shifted k r) ≡ shifted k (preparing stamp q r)
preparing_shift stamp q k r =
    ap (λ s. fold (holding (lists_in q.filters)) s (lists_in q.filters)) (mounting_shift q.source stamp k r)
    ∙ each_shift (lists_in q.filters) (lists_in q.filters) k (mounting q.source stamp r)

none_more : (m : Mirror) (k : ℕ) → with_count m k ≡ shifted k (with_count m 0)
none_more m k = let e : k ≡ k + 0 = omega arith in ap (with_count m) e

-- what is made ready after so many calls is what is made ready at once
pub prepared : (m : Mirror) (stamp : ℕ) (q : Query) (k : ℕ) → preparing stamp q (with_count m k) ≡ shifted k (readying m stamp q)
prepared m stamp q k = ap (preparing stamp q) (none_more m k) ∙ preparing_shift stamp q k (with_count m 0)

pub prepared_by : (m : Mirror) (stamp : ℕ) (p q : Query) (k : ℕ) → p ≡ q → preparing stamp p (with_count m k) ≡ shifted k (readying m stamp q)
prepared_by m stamp p q k e = ap (λ x. preparing stamp x (with_count m k)) e ∙ prepared m stamp q k

pub prepared_count : (m : Mirror) (stamp : ℕ) (p q : Query) (k : ℕ) → p ≡ q → (preparing stamp p (with_count m k)).count ≡ k + readying_count m stamp q
prepared_count m stamp p q k e = ap (λ (r : Readying). r.count) (prepared_by m stamp p q k e)

-- a valid query takes few calls, for which there is room
pub valid_readying : (sorts : List Sort) (m : Mirror) (stamp : ℕ) (q : Query) → first_reason sorts q ≡ None → readying_count m stamp q ≤ 33
valid_readying sorts m stamp q v = readying_few m stamp q (valid_few sorts q v)

pub prepare_room : (sorts : List Sort) (m : Mirror) (stamp : ℕ) (q : Query) (k : ℕ) → first_reason sorts q ≡ None → k ≤ 2 ^ 40 - 34 → (preparing stamp q (with_count m k)).count ≤ 2 ^ 40
prepare_room sorts m stamp q k v h = omega (arith, prepared_count m stamp q q k refl, valid_readying sorts m stamp q v)

pub mounting_below : (stamp : ℕ) (q : Query) (r : Readying) → (mounting q.source stamp r).count ≤ (preparing stamp q r).count
mounting_below stamp q r = (each_grows (lists_in q.filters) (lists_in q.filters) (mounting q.source stamp r)).0

-- The flight that an admission starts for a query that missed.
use Rattle.std.proofs.Common.{◌≡◌, inl, inr, ℕ, zero, suc, ◌+◌, ◌-◌, ◌≤◌, Bool, true, false, ◌||◌, not, cond, eqb, List, [], ◌∷◌, length, map, find, refl, sym, ap, arith}
use Rattle.std.proofs.lemmas.Bool.{eq-eqb, eqb-true}
use Rattle.std.proofs.lemmas.Bool.Decides.{nat_tests}
use Rattle.std.specs.List.{filter, list_all, list_any, enumerate_from}
use Rattle.std.specs.Prelude.{◌⊎◌, Some, nat_eq, slice_get, if◌then◌else◌}
use Rattle.dq_base.specs.Batches.{Group, fuses, group_with, groups, groups_from}
use Rattle.dq_base.specs.Covering.{covers}
use Rattle.dq_base.specs.declared.query.Query.{Query}
use Rattle.dq_cache.proofs.Looked.{covers_source}
use Rattle.dq_fuse.proofs.KeysCover.{keys_cover}
use Rattle.dq_fuse.specs.Covered.{covered_at, covers_members}
use Rattle.dq_laws.proofs.Each.{Each}
use Rattle.dq_laws.proofs.Losing.{numbers_among}
use Rattle.dq_laws.proofs.Owned.{Among}
use Rattle.dq_machine.proofs.Reached.{and_first, and_second}
use Rattle.dq_machine.specs.Admitting.{group_flights, number_in, numbers_from}
use Rattle.dq_machine.specs.Publishing.{stamp_in}
use Rattle.dq_machine.specs.State.{Publication, is_numbered}
use Rattle.dq_batch.specs.Fetching.{CoversAt}

abbrev pub Placed : Type 0
Placed = ℕ × Query

abbrev pub Within : Placed → List Placed → Type 0
Within p [] = ⊥
Within p (q ∷ qs) = (q ≡ p) ⊎ Within p qs

-- each miss is in a group

or_one : (a b : Bool) → a ≡ true → (a || b) ≡ true
or_one true b h = refl
or_one false b h = let no : ⊥ = cc in absurd no

or_other : (a b : Bool) → b ≡ true → (a || b) ≡ true
or_other true b h = refl
or_other false b h = h

chosen : (b : Bool) (p q : Placed) (qs : List Placed) → Within p qs → Within p (cond b (q ∷ qs) qs)
chosen true p q qs h = inr h
chosen false p q qs h = h

in_filter : (f : Placed → Bool) (p : Placed) (qs : List Placed) → f p ≡ true → Within p qs → Within p (filter f qs)
in_filter f p [] told h = h
in_filter f p (q ∷ qs) told (inl e) = let here : f q ≡ true = rw e told in rw here (inl e)
in_filter f p (q ∷ qs) told (inr h) = chosen (f q) p q (filter f qs) (in_filter f p qs told h)

short_by : (b : Bool) (q : Placed) (qs : List Placed) (n : ℕ) → length qs ≤ n → length (cond b (q ∷ qs) qs) ≤ n + 1
short_by true q qs n le = omega arith
short_by false q qs n le = omega arith

filter_short : (f : Placed → Bool) (qs : List Placed) → length (filter f qs) ≤ length qs
filter_short f [] = omega arith
filter_short f (q ∷ qs) = let le = short_by (f q) q (filter f qs) (length qs) (filter_short f qs) in omega (arith, le)

any_place : (p : Placed) (qs : List Placed) → Within p qs → list_any (nat_eq p.0) (map (λ (q : Placed). q.0) qs) ≡ true
any_place p [] h = absurd h
any_place p (q ∷ qs) (inl e) = or_one (nat_eq p.0 q.0) (list_any (nat_eq p.0) (map (λ (x : Placed). x.0) qs)) (eq-eqb p.0 q.0 (ap (λ (x : Placed). x.0) (sym e)))
any_place p (q ∷ qs) (inr h) = or_other (nat_eq p.0 q.0) (list_any (nat_eq p.0) (map (λ (x : Placed). x.0) qs)) (any_place p qs h)

abbrev pub has_place : ℕ → Group → Bool
has_place place g = list_any (nat_eq place) g.members

not_true : (b : Bool) → b ≡ false → not b ≡ true
not_true true e = let no : ⊥ = cc in absurd no
not_true false e = refl

in_group : (n : ℕ) (qs : List Placed) (p : Placed) → length qs ≤ n → Within p qs → list_any (has_place p.0) (groups_from n qs) ≡ true
in_group n [] p le h = absurd h
in_group zero (q ∷ qs) p le h = absurd (omega (arith, le))
in_group (suc n) (q ∷ qs) p le (inl e) =
    let mine = filter (λ (x : Placed). fuses q.1 x.1) qs in
    let others = filter (λ (x : Placed). not (fuses q.1 x.1)) qs in
    or_one (has_place p.0 (group_with mine q)) (list_any (has_place p.0) (groups_from n others))
    (or_one (nat_eq p.0 q.0) (list_any (nat_eq p.0) (map (λ (x : Placed). x.0) mine)) (eq-eqb p.0 q.0 (ap (λ (x : Placed). x.0) (sym e))))
in_group (suc n) (q ∷ qs) p le (inr h) =
    let others = filter (λ (x : Placed). not (fuses q.1 x.1)) qs in
    let short = filter_short (λ (x : Placed). not (fuses q.1 x.1)) qs in
    let left : length others ≤ n = omega (arith, le, short) in
    by (fuses q.1 p.1) refl (λ w. in_group n others p left w)
  where
    by : (b : Bool) → fuses q.1 p.1 ≡ b → (Within p (filter (λ (x : Placed). not (fuses q.1 x.1)) qs) → list_any (has_place p.0) (groups_from n (filter (λ (x : Placed). not (fuses q.1 x.1)) qs)) ≡ true)
        → list_any (has_place p.0) (groups_from (suc n) (q ∷ qs)) ≡ true
    by true told more =
        let mine = filter (λ (x : Placed). fuses q.1 x.1) qs in
        let others = filter (λ (x : Placed). not (fuses q.1 x.1)) qs in
        or_one (has_place p.0 (group_with mine q)) (list_any (has_place p.0) (groups_from n others))
        (or_other (nat_eq p.0 q.0) (list_any (nat_eq p.0) (map (λ (x : Placed). x.0) mine)) (any_place p mine (in_filter (λ (x : Placed). fuses q.1 x.1) p qs told h)))
    by false told more =
        let mine = filter (λ (x : Placed). fuses q.1 x.1) qs in
        let others = filter (λ (x : Placed). not (fuses q.1 x.1)) qs in
        or_other (has_place p.0 (group_with mine q)) (list_any (has_place p.0) (groups_from n others))
        (more (in_filter (λ (x : Placed). not (fuses q.1 x.1)) p qs (not_true (fuses q.1 p.1) told) h))

-- at its place

enumerated : (k : ℕ) (xs : List Query) (p : Placed) → Within p (enumerate_from k xs) → (k ≤ p.0) × (slice_get xs (p.0 - k) ≡ Some p.1)
enumerated k [] p h = absurd h
enumerated k (x ∷ xs) p (inl e) =
    let place : p.0 ≡ k = ap (λ (x : Placed). x.0) (sym e) in
    let none : p.0 - k ≡ 0 = omega (arith, place) in
    (omega (arith, place), rw none (ap (λ (y : Query). Some y) (ap (λ (x : Placed). x.1) e)))
enumerated k (x ∷ xs) p (inr h) =
    let rest = enumerated (k + 1) xs p h in
    let le = rest.0 in
    let more : p.0 - k ≡ suc (p.0 - (k + 1)) = omega (arith, le) in
    (omega (arith, le), rw more rest.1)

long_enumerated : (k : ℕ) (xs : List Query) → length (enumerate_from k xs) ≤ length xs
long_enumerated k [] = omega arith
long_enumerated k (x ∷ xs) = let le = long_enumerated (k + 1) xs in omega (arith, le)

pub each_within : (P : Placed → Type 0) (qs : List Placed) → ((p : Placed) → Within p qs → P p) → Each P qs
each_within P [] h = tt
each_within P (q ∷ qs) h = (h q (inl refl), each_within P qs (λ p w. h p (inr w)))

-- its group's flight

covered_member : (queries : List Query) (key q : Query) (place : ℕ) (members : List ℕ) → list_all (covered_at queries key) members ≡ true → list_any (nat_eq place) members ≡ true
    → slice_get queries place ≡ Some q → covers key q ≡ true
covered_member queries key q place [] all any at = let no : ⊥ = cc in absurd no
covered_member queries key q place (m ∷ members) all any at =
    by (nat_eq place m) refl any (λ h. covered_member queries key q place members (and_second (covered_at queries key m) (list_all (covered_at queries key) members) all) h at)
  where
    by : (b : Bool) → nat_eq place m ≡ b → (b || list_any (nat_eq place) members) ≡ true → (list_any (nat_eq place) members ≡ true → covers key q ≡ true) → covers key q ≡ true
    by true told h more =
        let is = eqb-true place m told in
        let here = and_first (covered_at queries key m) (list_all (covered_at queries key) members) all in
        let there = rw (← is, at) at here in there
    by false told h more = more h

module _ (versions : List Publication) (lane : ℕ) where
  -- the flight of that number is among those that start, and covers the query
  abbrev pub Starts : ℕ → List Group → Query → ℕ → Type 0
  Starts first gs q n = Among n (numbers_from first gs) × CoversAt versions q (find (is_numbered n) (group_flights versions lane first gs))

  starts_here : (first : ℕ) (g : Group) (gs : List Group) (q : Query) → covers g.key q ≡ true → Starts first (g ∷ gs) q first
  starts_here first g gs q c =
      let source : g.key.source ≡ q.source = eqb-true g.key.source q.source (covers_source q g.key c) in
      (inl refl, rw (eq-eqb first first refl) (c, ap (stamp_in versions) source))

  starts_later : (first : ℕ) (g : Group) (gs : List Group) (q : Query) (n : ℕ) → Starts (first + 1) gs q n → Starts first (g ∷ gs) q n
  starts_later first g gs q n h =
      let both = numbers_among (first + 1) n gs h.0 in
      let lt = both.0 in
      let other : eqb first n ≡ false = grind (arith, nat_tests) in
      (inr h.0, rw other h.1)

  number_starts : (queries : List Query) (gs : List Group) (first place : ℕ) (q : Query) → list_any (has_place place) gs ≡ true → list_all (covers_members queries) gs ≡ true
      → slice_get queries place ≡ Some q → Starts first gs q (number_in first gs place)
  number_starts queries [] first place q any all at = let no : ⊥ = cc in absurd no
  number_starts queries (g ∷ gs) first place q any all at =
      by (has_place place g) refl any (λ h. number_starts queries gs (first + 1) place q h (and_second (covers_members queries g) (list_all (covers_members queries) gs) all) at)
    where
      by : (b : Bool) → has_place place g ≡ b → (b || list_any (has_place place) gs) ≡ true → (list_any (has_place place) gs ≡ true → Starts (first + 1) gs q (number_in (first + 1) gs place))
          → Starts first (g ∷ gs) q (if b then first else number_in (first + 1) gs place)
      by true told h more =
          starts_here first g gs q (covered_member queries g.key q place g.members (and_first (covers_members queries g) (list_all (covers_members queries) gs) all) told at)
      by false told h more = starts_later first g gs q (number_in (first + 1) gs place) (more h)

  pub misses_start : (first : ℕ) (misses : List Query) (p : Placed) → Within p (enumerate_from 0 misses) → Starts first (groups misses) p.1 (number_in first (groups misses) p.0)
  misses_start first misses p h =
      let at = enumerated 0 misses p h in
      let none : p.0 - 0 ≡ p.0 = omega arith in
      let here : slice_get misses p.0 ≡ Some p.1 = rw none at at.1 in
      number_starts misses (groups misses) first p.0 p.1 (in_group (length misses) (enumerate_from 0 misses) p (long_enumerated 0 misses) h) (keys_cover misses) here

-- What a lane finds of the flight for which its first query waits.
use Rattle.std.proofs.Common.{◌≡◌, ◌≢◌, ℕ, zero, suc, ◌-◌, ◌<◌, ◌≤◌, true, false, eqb, List, [], ◌∷◌, ◌++◌, length, drop, find, slice_set, refl, sym, ap, ◌∙◌, arith}
use Rattle.std.proofs.lemmas.Bool.Decides.{nat_tests}
use Rattle.std.proofs.lemmas.List.{get_or-set_same}
use Rattle.std.specs.Prelude.{Option, Some, None, is_none, slice_get}
use Rattle.dq_base.specs.declared.query.Query.{Query}
use Rattle.dq_extract.specs.Loads.{LoadedFiles}
use Rattle.dq_fates.proofs.Bringing.{there}
use Rattle.dq_journal.specs.declared.entry.Entry.{Entry}
use Rattle.dq_journal.specs.declared.entry.Entry.TheVariants.{Take}
use Rattle.dq_journal.specs.declared.entry.Met.{Met}
use Rattle.dq_journal.specs.declared.entry.Met.TheVariants as meet
use Rattle.dq_laws.proofs.Each.{Each, each-weaker}
use Rattle.dq_laws.proofs.Numbered.{Ascend, ascend-numbers}
use Rattle.dq_laws.proofs.Pushed.{pushed}
use Rattle.dq_machine.specs.Machine.{after, legal, work_by}
use Rattle.dq_machine.specs.Publishing.{stamp_in}
use Rattle.dq_machine.specs.State.{Flown, Joined, Publication, State, flight_at, is_numbered, no_work, work_of}
use Rattle.dq_machine.specs.Taking.{work_taken}
use Rattle.dq_zones.specs.declared.fetch.Fetch.{Fetch}
use Rattle.dq_zones.specs.declared.fetch.Fetch.TheVariants as fetch
use Rattle.dq_batch.specs.Fetching.{AreFetches, CoversAt, IsFetch, IsWait, wait_of, waits_of}
use Rattle.dq_batch.specs.Settling.{IsFirstWait, waited}
use Rattle.dq_batch.proofs.Fetches.{IsThere, all_same, fetches_on}

-- the first that waits, and its join

waits_none : (versions : List Publication) (q : Query) (x : Fetch) → waited x ≡ None → wait_of versions q x ≡ []
waits_none versions q (fetch.Waiting n) e = let no : ⊥ = cc in absurd no
waits_none versions q (fetch.Flying n) e = refl
waits_none versions q (fetch.Brought k t) e = refl
waits_none versions q fetch.BackEnd e = refl
waits_none versions q fetch.Memory e = refl

waits_some : (versions : List Publication) (q : Query) (x : Fetch) (flight : ℕ) → waited x ≡ Some flight → wait_of versions q x ≡ record { flight = flight; query = q; stamp = stamp_in versions q.source } ∷ []
waits_some versions q (fetch.Waiting n) flight e = let is : n ≡ flight = cc in ap (λ (m : ℕ). record { flight = m; query = q; stamp = stamp_in versions q.source } ∷ []) is
waits_some versions q (fetch.Flying n) flight e = let no : ⊥ = cc in absurd no
waits_some versions q (fetch.Brought k t) flight e = let no : ⊥ = cc in absurd no
waits_some versions q fetch.BackEnd flight e = let no : ⊥ = cc in absurd no
waits_some versions q fetch.Memory flight e = let no : ⊥ = cc in absurd no

-- once another is in its place, its join is the only one that is gone
pub record FirstJoin (versions : List Publication) (queries : List Query) (xs ys : List Fetch) (place flight : ℕ) : Type 0 where
  pub query : Query
  pub at : slice_get queries place ≡ Some query
  pub joins : waits_of versions queries xs ≡ record { flight = flight; query = query; stamp = stamp_in versions query.source } ∷ waits_of versions queries ys

pub first_join : (versions : List Publication) (queries : List Query) (xs : List Fetch) (place flight : ℕ) (y : Fetch) → length queries ≡ length xs → waited y ≡ None → IsFirstWait xs place flight
    → FirstJoin versions queries xs (slice_set xs place y) place flight
first_join versions [] [] place flight y long none h = absurd h
first_join versions [] (x ∷ xs) place flight y long none h = absurd (omega (arith, long))
first_join versions (q ∷ queries) [] place flight y long none h = absurd h
first_join versions (q ∷ queries) (x ∷ xs) zero flight y long none h = record {
  query = q;
  at = refl;
  joins = rw (waits_some versions q x flight h, waits_none versions q y none) refl;
}
first_join versions (q ∷ queries) (x ∷ xs) (suc place) flight y long none h =
    let left : length queries ≡ length xs = omega (arith, long) in
    let rest = first_join versions queries xs place flight y left none h.1 in
    record { query = rest.query; at = rest.at; joins = rw (waits_none versions q x h.0) rest.joins }

pub fetches_long : (journal : List Entry) (s : State) (lane : ℕ) (versions : List Publication) (met : List Met) (takes : List (Option ℕ)) (queries : List Query) (xs : List Fetch)
    → AreFetches journal s lane versions met takes queries xs → length queries ≡ length xs
fetches_long journal s lane versions [] takes [] [] h = refl
fetches_long journal s lane versions [] takes [] (x ∷ xs) h = absurd h
fetches_long journal s lane versions [] takes (q ∷ queries) xs h = absurd h
fetches_long journal s lane versions (m ∷ met) takes [] xs h = absurd h
fetches_long journal s lane versions (m ∷ met) takes (q ∷ queries) [] h = absurd h
fetches_long journal s lane versions (meet.Hit f ∷ met) takes (q ∷ queries) (x ∷ xs) h = ap (λ n. suc n) (fetches_long journal s lane versions met takes queries xs h.1)
fetches_long journal s lane versions (meet.Literal f ∷ met) takes (q ∷ queries) (x ∷ xs) h = ap (λ n. suc n) (fetches_long journal s lane versions met takes queries xs h.1)
fetches_long journal s lane versions (meet.Join f ∷ met) takes (q ∷ queries) (x ∷ xs) h = ap (λ n. suc n) (fetches_long journal s lane versions met (drop 1 takes) queries xs h.1)
fetches_long journal s lane versions (meet.Group f ∷ met) takes (q ∷ queries) (x ∷ xs) h = ap (λ n. suc n) (fetches_long journal s lane versions met takes queries xs h.1)

-- one more Take

module _ (journal journal' : List Entry) (s s' : State) (lane : ℕ) (versions : List Publication)
    (by_fetch : (own : Option ℕ) (q : Query) (x : Fetch) → IsFetch journal s lane versions own q x → IsFetch journal' s' lane versions own q x)
    (by_cover : (flight : ℕ) (q : Query) → is_none (flight_at s' flight) ≡ false → CoversAt versions q (flight_at s flight) → CoversAt versions q (flight_at s' flight)) where
  same_fetch : (own : Option ℕ) (q : Query) (x y : Fetch) → y ≡ x → IsFetch journal s lane versions own q x → IsFetch journal' s' lane versions own q y
  same_fetch own q x y e h = rw e (by_fetch own q x h)

  same_wait : (flight : ℕ) (q : Query) (x y : Fetch) → y ≡ x → IsWait journal s lane versions flight q x → (y ≡ fetch.Waiting flight) × CoversAt versions q (flight_at s flight)
  same_wait flight q (fetch.Waiting n) y e h = (e ∙ ap fetch.Waiting h.0, h.1)
  same_wait flight q (fetch.Flying n) y e h = absurd h
  same_wait flight q (fetch.Brought k t) y e h = absurd h
  same_wait flight q fetch.BackEnd y e h = absurd h
  same_wait flight q fetch.Memory y e h = absurd h

  pub fetches_same : (met : List Met) (takes : List (Option ℕ)) (queries : List Query) (xs : List Fetch) → Each (IsThere s') (waits_of versions queries xs)
      → AreFetches journal s lane versions met takes queries xs → AreFetches journal' s' lane versions met takes queries xs
  fetches_same met takes queries xs there h =
      fetches_on journal journal' s s' lane versions (λ x y. y ≡ x) same_fetch same_wait by_cover met takes queries xs xs (all_same xs) there h

  not_waiting : (own : Option ℕ) (q : Query) (x : Fetch) (flight : ℕ) → IsFetch journal s lane versions own q x → waited x ≡ Some flight → ⊥
  not_waiting own q (fetch.Waiting n) flight h e = h
  not_waiting own q (fetch.Flying n) flight h e = cc
  not_waiting own q (fetch.Brought k t) flight h e = cc
  not_waiting own q fetch.BackEnd flight h e = cc
  not_waiting own q fetch.Memory flight h e = cc

  waits_for : (f flight : ℕ) (q : Query) (x : Fetch) → IsWait journal s lane versions f q x → waited x ≡ Some flight → CoversAt versions q (flight_at s flight)
  waits_for f flight q (fetch.Waiting n) h e = let is : n ≡ flight = cc in let from : f ≡ flight = sym h.0 ∙ is in rw (← from) h.1
  waits_for f flight q (fetch.Flying n) h e = absurd h
  waits_for f flight q (fetch.Brought k t) h e = absurd h
  waits_for f flight q fetch.BackEnd h e = absurd h
  waits_for f flight q fetch.Memory h e = absurd h

  still_waits : (f : ℕ) (q : Query) (x : Fetch) → IsWait journal s lane versions f q x → waited x ≡ None → ⊥
  still_waits f q (fetch.Waiting n) h e = cc
  still_waits f q (fetch.Flying n) h e = h
  still_waits f q (fetch.Brought k t) h e = h
  still_waits f q fetch.BackEnd h e = h
  still_waits f q fetch.Memory h e = h

  module _ (flight : ℕ) (own : Option ℕ) (y : Fetch) (none : waited y ≡ None) where
    -- it is right for the query that waited
    abbrev Right : List Query → ℕ → Type 0
    Right queries place = (q : Query) → slice_get queries place ≡ Some q → CoversAt versions q (flight_at s flight) → IsFetch journal' s' lane versions own q y

    there_rest : (q : Query) (x : Fetch) (joins : List Joined) → waited x ≡ None → Each (IsThere s') (wait_of versions q x ++ joins) → Each (IsThere s') joins
    there_rest q x joins e h = let h' = rw (waits_none versions q x e) at h in h'

    pub fetches_taken : (met : List Met) (takes : List (Option ℕ)) (queries : List Query) (xs : List Fetch) (place : ℕ) → IsFirstWait xs place flight → Right queries place
        → Each (IsThere s') (waits_of versions queries (slice_set xs place y)) → AreFetches journal s lane versions met takes queries xs
        → AreFetches journal' s' lane versions met (takes ++ own ∷ []) queries (slice_set xs place y)
    fetches_taken [] takes [] [] place first right there h = absurd first
    fetches_taken [] takes [] (x ∷ xs) place first right there h = absurd h
    fetches_taken [] takes (q ∷ queries) xs place first right there h = absurd h
    fetches_taken (m ∷ met) takes [] xs place first right there h = absurd h
    fetches_taken (m ∷ met) takes (q ∷ queries) [] place first right there h = absurd h
    fetches_taken (meet.Hit f ∷ met) takes (q ∷ queries) (x ∷ xs) zero first right there h = absurd (not_waiting None q x flight h.0 first)
    fetches_taken (meet.Hit f ∷ met) takes (q ∷ queries) (x ∷ xs) (suc place) first right there h =
        (by_fetch None q x h.0, fetches_taken met takes queries xs place first.1 right (there_rest q x (waits_of versions queries (slice_set xs place y)) first.0 there) h.1)
    fetches_taken (meet.Literal f ∷ met) takes (q ∷ queries) (x ∷ xs) zero first right there h = absurd (not_waiting None q x flight h.0 first)
    fetches_taken (meet.Literal f ∷ met) takes (q ∷ queries) (x ∷ xs) (suc place) first right there h =
        (by_fetch None q x h.0, fetches_taken met takes queries xs place first.1 right (there_rest q x (waits_of versions queries (slice_set xs place y)) first.0 there) h.1)
    fetches_taken (meet.Group f ∷ met) takes (q ∷ queries) (x ∷ xs) zero first right there h = absurd (not_waiting (Some f) q x flight h.0 first)
    fetches_taken (meet.Group f ∷ met) takes (q ∷ queries) (x ∷ xs) (suc place) first right there h =
        (by_fetch (Some f) q x h.0, fetches_taken met takes queries xs place first.1 right (there_rest q x (waits_of versions queries (slice_set xs place y)) first.0 there) h.1)
    fetches_taken (meet.Join f ∷ met) [] (q ∷ queries) (x ∷ xs) zero first right there h =
        (right q refl (waits_for f flight q x h.0 first), fetches_same met [] queries xs (there_rest q y (waits_of versions queries xs) none there) h.1)
    fetches_taken (meet.Join f ∷ met) [] (q ∷ queries) (x ∷ xs) (suc place) first right there h = absurd (still_waits f q x h.0 first.0)
    fetches_taken (meet.Join f ∷ met) (t ∷ takes) (q ∷ queries) (x ∷ xs) zero first right there h = absurd (not_waiting t q x flight h.0 first)
    fetches_taken (meet.Join f ∷ met) (t ∷ takes) (q ∷ queries) (x ∷ xs) (suc place) first right there h =
        (by_fetch t q x h.0, fetches_taken met takes queries xs place first.1 right (there_rest q x (waits_of versions queries (slice_set xs place y)) first.0 there) h.1)

-- the machine behind the Take

module _ (l : LoadedFiles) (old : List Entry) (lane flight : ℕ) (o : Option ℕ) (lawful : legal l (old ++ Take lane flight o ∷ []) ≡ true) where
  pub taken_work : work_of (after l (old ++ Take lane flight o ∷ [])) lane ≡ work_taken (work_of (after l old) lane) o
  taken_work =
      let p = pushed l old (Take lane flight o) lawful in
      let s = after l old in
      let lt = there l s (Take lane flight o) p.allowed in
      rw p.after (get_or-set_same s.works (lane - 1) (work_by l s (work_of s lane) (Take lane flight o)) no_work lt)

-- a flight is found behind others

behind : (n : ℕ) (xs ys : List Flown) → Each (λ (f : Flown). f.number ≢ n) xs → find (is_numbered n) (xs ++ ys) ≡ find (is_numbered n) ys
behind n [] ys h = refl
behind n (f ∷ xs) ys h = let told : eqb f.number n ≡ false = other f.number h.0 in rw told (behind n xs ys h.1)
  where
    other : (m : ℕ) → m ≢ n → eqb m n ≡ false
    other m ne = grind (arith, nat_tests)

pub found_behind : (n started : ℕ) (xs ys : List Flown) → Ascend 0 started xs → started < n → find (is_numbered n) (xs ++ ys) ≡ find (is_numbered n) ys
found_behind n started xs ys up lt =
    behind n xs ys
    (each-weaker (λ (f : Flown). (0 < f.number) × (f.number ≤ started)) (λ (f : Flown). f.number ≢ n) (λ f p e. absurd (omega (arith, p.1, e, lt))) xs (ascend-numbers 0 started xs up))

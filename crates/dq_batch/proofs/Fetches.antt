-- What was brought for the queries of a batch stays right behind later entries.
use Rattle.std.proofs.Common.{◌≡◌, ℕ, ◌<◌, true, false, List, [], ◌∷◌, ◌++◌, drop, refl, ◌∙◌}
use Rattle.std.specs.List.{list_any}
use Rattle.std.specs.Prelude.{Option, Some, None, is_none, nat_eq}
use Rattle.dq_base.specs.declared.query.Query.{Query}
use Rattle.dq_extract.specs.Loads.{LoadedFiles}
use Rattle.dq_fates.proofs.Ended.{fate_stays, over_stays}
use Rattle.dq_journal.specs.declared.entry.Entry.{Entry}
use Rattle.dq_journal.specs.declared.entry.Met.{Met}
use Rattle.dq_journal.specs.declared.entry.Met.TheVariants as meet
use Rattle.dq_laws.proofs.Each.{Each}
use Rattle.dq_machine.specs.Machine.{after, legal}
use Rattle.dq_machine.specs.Owning.{fate}
use Rattle.dq_machine.specs.State.{Joined, Publication, State, flight_at, work_of}
use Rattle.dq_zones.specs.declared.fetch.Fetch.{Fetch}
use Rattle.dq_zones.specs.declared.fetch.Fetch.TheVariants as fetch
use Rattle.dq_batch.specs.Fetching.{AreFetches, CoversAt, IsFetch, IsJoin, IsSettled, IsWait, wait_of, waits_of}
use Rattle.dq_batch.proofs.Keeps.{any_own, covers_on, flight_keeps, own_there}

-- a query's own flight is still to be brought, if that isn't over
abbrev pub StillOwn : List ℕ → Fetch → Type 0
StillOwn own (fetch.Waiting flight) = Unit {0}
StillOwn own (fetch.Flying flight) = list_any (nat_eq flight) own ≡ true
StillOwn own (fetch.Brought key table) = Unit {0}
StillOwn own fetch.BackEnd = Unit {0}
StillOwn own fetch.Memory = Unit {0}

module _ (l : LoadedFiles) (journal more : List Entry) (lane : ℕ) (versions : List Publication) (lawful : legal l (journal ++ more) ≡ true) (above : 0 < lane) where
  pub fate_on : (own : Option ℕ) → IsSettled (after l journal) own → fate (journal ++ more) own ≡ fate journal own
  fate_on None settled = refl
  fate_on (Some flight) settled = fate_stays l flight journal more settled lawful

  pub settled_on : (own : Option ℕ) → IsSettled (after l journal) own → IsSettled (after l (journal ++ more)) own
  settled_on None settled = tt
  settled_on (Some flight) settled = over_stays l flight journal more settled lawful

  pub covers_later : (flight : ℕ) (q : Query) → is_none (flight_at (after l (journal ++ more)) flight) ≡ false → CoversAt versions q (flight_at (after l journal) flight)
      → CoversAt versions q (flight_at (after l (journal ++ more)) flight)
  covers_later flight q here c =
      covers_on versions q (flight_at (after l journal) flight) (flight_at (after l (journal ++ more)) flight) c (flight_keeps l journal more flight lawful) here

  pub fetch_on : (own : Option ℕ) (q : Query) (x : Fetch) → StillOwn (work_of (after l (journal ++ more)) lane).own x
      → IsFetch journal (after l journal) lane versions own q x → IsFetch (journal ++ more) (after l (journal ++ more)) lane versions own q x
  fetch_on own q (fetch.Waiting flight) still h = h
  fetch_on own q (fetch.Flying flight) still h =
      (h.0, still, covers_later flight q (own_there l (journal ++ more) lane flight lawful above (any_own (work_of (after l (journal ++ more)) lane).own flight still)) h.2)
  fetch_on own q (fetch.Brought key table) still h = (fate_on own h.1 ∙ h.0, settled_on own h.1, h.2, h.3)
  fetch_on own q fetch.BackEnd still h = (fate_on own h.1 ∙ h.0, settled_on own h.1)
  fetch_on own q fetch.Memory still h = (rw (fate_on own h.1) h.0, settled_on own h.1)

-- lists in step

abbrev pub AllPairs : (Fetch → Fetch → Type 0) → List Fetch → List Fetch → Type 0
AllPairs R [] [] = Unit {0}
AllPairs R [] (y ∷ ys) = ⊥
AllPairs R (x ∷ xs) [] = ⊥
AllPairs R (x ∷ xs) (y ∷ ys) = R x y × AllPairs R xs ys

pub all_same : (xs : List Fetch) → AllPairs (λ x y. y ≡ x) xs xs
all_same [] = tt
all_same (x ∷ xs) = (refl, all_same xs)

abbrev pub IsThere : State → Joined → Type 0
IsThere s j = is_none (flight_at s j.flight) ≡ false

each_rest : (P : Joined → Type 0) (xs ys : List Joined) → Each P (xs ++ ys) → Each P ys
each_rest P [] ys h = h
each_rest P (x ∷ xs) ys h = each_rest P xs ys h.1

there_first : (s : State) (versions : List Publication) (q : Query) (y : Fetch) (flight : ℕ) (ys : List Joined) → y ≡ fetch.Waiting flight → Each (IsThere s) (wait_of versions q y ++ ys)
    → is_none (flight_at s flight) ≡ false
there_first s versions q y flight ys is h = let h' = rw is at h in h'.0

module _ (journal journal' : List Entry) (s s' : State) (lane : ℕ) (versions : List Publication) (R : Fetch → Fetch → Type 0)
    (by_fetch : (own : Option ℕ) (q : Query) (x y : Fetch) → R x y → IsFetch journal s lane versions own q x → IsFetch journal' s' lane versions own q y)
    (by_wait : (flight : ℕ) (q : Query) (x y : Fetch) → R x y → IsWait journal s lane versions flight q x → (y ≡ fetch.Waiting flight) × CoversAt versions q (flight_at s flight))
    (by_cover : (flight : ℕ) (q : Query) → is_none (flight_at s' flight) ≡ false → CoversAt versions q (flight_at s flight) → CoversAt versions q (flight_at s' flight)) where
  wait_on : (flight : ℕ) (q : Query) (x y : Fetch) (ys : List Joined) → R x y → Each (IsThere s') (wait_of versions q y ++ ys) → IsWait journal s lane versions flight q x
      → IsWait journal' s' lane versions flight q y
  wait_on flight q x y ys r there h =
      let both = by_wait flight q x y r h in
      let here = there_first s' versions q y flight ys both.0 there in
      rw both.0 (refl, by_cover flight q here both.1)

  join_on : (flight : ℕ) (takes : List (Option ℕ)) (q : Query) (x y : Fetch) (ys : List Joined) → R x y → Each (IsThere s') (wait_of versions q y ++ ys)
      → IsJoin journal s lane versions flight takes q x → IsJoin journal' s' lane versions flight takes q y
  join_on flight [] q x y ys r there h = wait_on flight q x y ys r there h
  join_on flight (own ∷ takes) q x y ys r there h = by_fetch own q x y r h

  pub fetches_on : (met : List Met) (takes : List (Option ℕ)) (queries : List Query) (xs ys : List Fetch) → AllPairs R xs ys → Each (IsThere s') (waits_of versions queries ys)
      → AreFetches journal s lane versions met takes queries xs → AreFetches journal' s' lane versions met takes queries ys
  fetches_on [] takes [] [] [] r there h = h
  fetches_on [] takes [] [] (y ∷ ys) r there h = absurd r
  fetches_on [] takes [] (x ∷ xs) ys r there h = absurd h
  fetches_on [] takes (q ∷ queries) xs ys r there h = absurd h
  fetches_on (m ∷ met) takes [] xs ys r there h = absurd h
  fetches_on (m ∷ met) takes (q ∷ queries) [] ys r there h = absurd h
  fetches_on (m ∷ met) takes (q ∷ queries) (x ∷ xs) [] r there h = absurd r
  fetches_on (meet.Hit f ∷ met) takes (q ∷ queries) (x ∷ xs) (y ∷ ys) r there h =
      (by_fetch None q x y r.0 h.0, fetches_on met takes queries xs ys r.1 (each_rest (IsThere s') (wait_of versions q y) (waits_of versions queries ys) there) h.1)
  fetches_on (meet.Literal f ∷ met) takes (q ∷ queries) (x ∷ xs) (y ∷ ys) r there h =
      (by_fetch None q x y r.0 h.0, fetches_on met takes queries xs ys r.1 (each_rest (IsThere s') (wait_of versions q y) (waits_of versions queries ys) there) h.1)
  fetches_on (meet.Join f ∷ met) takes (q ∷ queries) (x ∷ xs) (y ∷ ys) r there h = (
    join_on f takes q x y (waits_of versions queries ys) r.0 there h.0,
    fetches_on met (drop 1 takes) queries xs ys r.1 (each_rest (IsThere s') (wait_of versions q y) (waits_of versions queries ys) there) h.1,
  )
  fetches_on (meet.Group f ∷ met) takes (q ∷ queries) (x ∷ xs) (y ∷ ys) r there h =
      (by_fetch (Some f) q x y r.0 h.0, fetches_on met takes queries xs ys r.1 (each_rest (IsThere s') (wait_of versions q y) (waits_of versions queries ys) there) h.1)

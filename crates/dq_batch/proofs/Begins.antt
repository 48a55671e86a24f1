-- How far the queries of a batch are at its admission.
use Rattle.std.proofs.Common.{◌≡◌, ℕ, suc, ◌+◌, true, false, List, [], ◌∷◌, length, map, refl, ap}
use Rattle.std.specs.Arc.{arc_value}
use Rattle.std.specs.List.{list_any, enumerate_from}
use Rattle.std.specs.Prelude.{Option, Some, None, IfSome, is_none, nat_eq}
use Rattle.std.specs.declared.alloc.Global.{Global}
use Rattle.std.specs.declared.sync.Arc.{Arc}
use Rattle.dq_base.specs.Batches.{Group}
use Rattle.dq_base.specs.Headings.{Heading}
use Rattle.dq_base.specs.declared.cell.Cell.{Cell}
use Rattle.dq_base.specs.declared.query.Query.{Query}
use Rattle.dq_cache.specs.declared.entry.Found.{Found}
use Rattle.dq_journal.specs.declared.entry.Entry.{Entry}
use Rattle.dq_journal.specs.declared.entry.Met.{Met}
use Rattle.dq_journal.specs.declared.entry.Met.TheVariants as meet
use Rattle.dq_laws.proofs.Each.{Each}
use Rattle.dq_machine.specs.Admitting.{joins_of, meets_of, missed, number_in}
use Rattle.dq_machine.specs.Publishing.{stamp_in}
use Rattle.dq_machine.specs.State.{Publication, State, flight_at, work_of}
use Rattle.dq_desk.specs.Admissions.{AreHeld, IsHeld, IsShare}
use Rattle.dq_batch.specs.Beginning.{all_begun, handed, shared}
use Rattle.dq_batch.specs.Fetching.{AreFetches, CoversAt, IsFetch, wait_of, waits_of}
use Rattle.dq_batch.proofs.Fetches.{IsThere}
use Rattle.dq_batch.proofs.Groups.{Placed}
use Rattle.dq_batch.proofs.Meets.{AllFit}

-- what a cache handed out

module _ (journal : List Entry) (s : State) (lane : ℕ) (schemas : List Heading) (versions : List Publication) (q : Query) where
  shared_fetch : (share : Option (Arc Query Global × Arc (List (List Cell)) Global)) → IfSome share (λ both. IsShare schemas versions q (arc_value both.0) (arc_value both.1))
      → IsFetch journal s lane versions None q (shared share)
  shared_fetch None h = (tt, tt)
  shared_fetch (Some both) h = (refl, tt, h.covering, h.table)

  hit_fetch : (flight : ℕ) (held : Option Found) → IsHeld schemas versions q (meet.Hit flight) held → IsFetch journal s lane versions None q (handed held)
  hit_fetch flight None h = absurd h
  hit_fetch flight (Some found) h = shared_fetch found.share h.1

  literal_fetch : (flight : ℕ) (held : Option Found) → IsHeld schemas versions q (meet.Literal flight) held → IsFetch journal s lane versions None q (handed held)
  literal_fetch flight None h = absurd h
  literal_fetch flight (Some found) h = shared_fetch found.share h.1

shared_waits : (versions : List Publication) (q : Query) (share : Option (Arc Query Global × Arc (List (List Cell)) Global)) → wait_of versions q (shared share) ≡ []
shared_waits versions q None = refl
shared_waits versions q (Some both) = refl

handed_waits : (versions : List Publication) (q : Query) (held : Option Found) → wait_of versions q (handed held) ≡ []
handed_waits versions q None = refl
handed_waits versions q (Some found) = shared_waits versions q found.share

-- all of them

module _ (journal : List Entry) (s s' : State) (lane : ℕ) (schemas : List Heading) (versions : List Publication) (first : ℕ) (gs : List Group)
    (by_cover : (flight : ℕ) (q : Query) → is_none (flight_at s' flight) ≡ false → CoversAt versions q (flight_at s flight) → CoversAt versions q (flight_at s' flight)) where
  abbrev numbers : ℕ → List Query → List ℕ
  numbers k misses = map (λ (p : Placed). number_in first gs p.0) (enumerate_from k misses)

  -- the flight of a miss's group is the lane's own, and covers it
  abbrev pub Flies : Placed → Type 0
  Flies p = (list_any (nat_eq (number_in first gs p.0)) (work_of s' lane).own ≡ true) × CoversAt versions p.1 (flight_at s' (number_in first gs p.0))

  pub begun_all : (k : ℕ) (found : List (Option Met)) (queries : List Query) (held : List (Option Found)) → AllFit s.flights.flown versions queries found
      → Each (IsThere s') (joins_of versions found queries) → Each Flies (enumerate_from k (missed found queries))
      → AreHeld schemas versions queries (meets_of found (numbers k (missed found queries))) held
      → AreFetches journal s' lane versions (meets_of found (numbers k (missed found queries))) [] queries (all_begun (meets_of found (numbers k (missed found queries))) held)
  begun_all k [] [] held fit there flies h = refl
  begun_all k [] (q ∷ queries) held fit there flies h = absurd fit
  begun_all k (f ∷ found) [] held fit there flies h = absurd fit
  begun_all k (None ∷ found) (q ∷ queries) [] fit there flies h = absurd h
  begun_all k (None ∷ found) (q ∷ queries) (x ∷ held) fit there flies h = ((refl, flies.0.0, flies.0.1), begun_all (k + 1) found queries held fit.1 there flies.1 h.1)
  begun_all k (Some (meet.Hit f) ∷ found) (q ∷ queries) [] fit there flies h = absurd h
  begun_all k (Some (meet.Hit f) ∷ found) (q ∷ queries) (x ∷ held) fit there flies h =
      (hit_fetch journal s' lane schemas versions q f x h.0, begun_all k found queries held fit.1 there flies h.1)
  begun_all k (Some (meet.Literal f) ∷ found) (q ∷ queries) [] fit there flies h = absurd h
  begun_all k (Some (meet.Literal f) ∷ found) (q ∷ queries) (x ∷ held) fit there flies h =
      (literal_fetch journal s' lane schemas versions q f x h.0, begun_all k found queries held fit.1 there flies h.1)
  begun_all k (Some (meet.Join f) ∷ found) (q ∷ queries) [] fit there flies h = absurd h
  begun_all k (Some (meet.Join f) ∷ found) (q ∷ queries) (x ∷ held) fit there flies h =
      ((refl, by_cover f q there.0 fit.0), begun_all k found queries held fit.1 there.1 flies h.1)
  begun_all k (Some (meet.Group f) ∷ found) (q ∷ queries) held fit there flies h = absurd fit.0

  pub joins_begun : (k : ℕ) (found : List (Option Met)) (queries : List Query) (held : List (Option Found)) → AllFit s.flights.flown versions queries found
      → AreHeld schemas versions queries (meets_of found (numbers k (missed found queries))) held
      → joins_of versions found queries ≡ waits_of versions queries (all_begun (meets_of found (numbers k (missed found queries))) held)
  joins_begun k [] [] held fit h = refl
  joins_begun k [] (q ∷ queries) held fit h = absurd fit
  joins_begun k (f ∷ found) [] held fit h = absurd fit
  joins_begun k (None ∷ found) (q ∷ queries) [] fit h = absurd h
  joins_begun k (None ∷ found) (q ∷ queries) (x ∷ held) fit h = joins_begun (k + 1) found queries held fit.1 h.1
  joins_begun k (Some (meet.Hit f) ∷ found) (q ∷ queries) [] fit h = absurd h
  joins_begun k (Some (meet.Hit f) ∷ found) (q ∷ queries) (x ∷ held) fit h = rw (handed_waits versions q x) (joins_begun k found queries held fit.1 h.1)
  joins_begun k (Some (meet.Literal f) ∷ found) (q ∷ queries) [] fit h = absurd h
  joins_begun k (Some (meet.Literal f) ∷ found) (q ∷ queries) (x ∷ held) fit h = rw (handed_waits versions q x) (joins_begun k found queries held fit.1 h.1)
  joins_begun k (Some (meet.Join f) ∷ found) (q ∷ queries) [] fit h = absurd h
  joins_begun k (Some (meet.Join f) ∷ found) (q ∷ queries) (x ∷ held) fit h =
      ap (λ js. record { flight = f; query = q; stamp = stamp_in versions q.source } ∷ js) (joins_begun k found queries held fit.1 h.1)
  joins_begun k (Some (meet.Group f) ∷ found) (q ∷ queries) held fit h = absurd fit.0

-- there are as many of all

pub held_long : (schemas : List Heading) (versions : List Publication) (queries : List Query) (ms : List Met) (held : List (Option Found)) → AreHeld schemas versions queries ms held
    → (length held ≡ length ms) × (length ms ≡ length queries)
held_long schemas versions [] [] [] h = (refl, refl)
held_long schemas versions [] [] (x ∷ held) h = absurd h
held_long schemas versions [] (m ∷ ms) held h = absurd h
held_long schemas versions (q ∷ queries) [] held h = absurd h
held_long schemas versions (q ∷ queries) (m ∷ ms) [] h = absurd h
held_long schemas versions (q ∷ queries) (m ∷ ms) (x ∷ held) h =
    let rest = held_long schemas versions queries ms held h.1 in (ap (λ k. suc k) rest.0, ap (λ k. suc k) rest.1)

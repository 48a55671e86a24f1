-- What a flight that ended brings fits what became of it.
use Rattle.std.proofs.Common.{◌≡◌, ℕ, ◌<◌, Bool, true, false, ◌||◌, MatchBool, List, [], ◌∷◌, ◌++◌, drop, refl, ap, ◌∙◌}
use Rattle.std.proofs.lemmas.Bool.{eqb-true}
use Rattle.std.specs.Arc.{arc_value}
use Rattle.std.specs.List.{list_any}
use Rattle.std.specs.Prelude.{Option, Some, None, nat_eq}
use Rattle.dq_base.specs.Answers.{answer}
use Rattle.dq_base.specs.Covering.{covers}
use Rattle.dq_base.specs.declared.cell.Cell.{Cell}
use Rattle.dq_base.specs.declared.query.Query.{Query}
use Rattle.dq_bring.specs.Flights.{KeyAt}
use Rattle.dq_bring.specs.Told.{IsEnding}
use Rattle.dq_bring.specs.declared.telling.Ending.{Ending}
use Rattle.dq_bring.specs.declared.telling.Ending.TheVariants as ending
use Rattle.dq_extract.specs.Loads.{LoadedFiles}
use Rattle.dq_journal.specs.declared.entry.Entry.{Entry}
use Rattle.dq_journal.specs.declared.entry.Met.{Met}
use Rattle.dq_laws.specs.Settled.{IsOver}
use Rattle.dq_laws.proofs.Each.{Each}
use Rattle.dq_machine.specs.Machine.{after, legal}
use Rattle.dq_machine.specs.Owning.{Fate, Answered, Wanting, fate}
use Rattle.dq_machine.specs.Publishing.{rows_at, rows_in, stamp_in}
use Rattle.dq_machine.specs.State.{Flown, Publication, flight_at, is_first, work_of}
use Rattle.dq_desk.specs.Events.{IsAnswer}
use Rattle.dq_zones.specs.declared.fetch.Fetch.{Fetch}
use Rattle.dq_zones.specs.declared.fetch.Fetch.TheVariants as fetch
use Rattle.dq_batch.specs.Fetching.{AreFetches, CoversAt, HasNotFailed, IsFetch, IsWait, wait_of, waits_of}
use Rattle.dq_batch.specs.Settling.{AllSettle, BringsTo, FurtherTo, SettlesTo}
use Rattle.dq_batch.proofs.Fetches.{AllPairs, IsThere, covers_later, fetch_on, fetches_on}

-- what landed covers the query, and is its rows' answer
module _ (before versions : List Publication) (q key : Query) (stamp : ℕ) (rows : rows_at before (stamp_in versions q.source) ≡ rows_in versions q.source) where
  landed_covers : (o : Option Flown) → CoversAt versions q o → KeyAt o key stamp → covers key q ≡ true
  landed_covers None c k = absurd c
  landed_covers (Some f) c k = rw (← k.0) c.0

  landed_answer : (o : Option Flown) (table : List (List Cell)) → CoversAt versions q o → KeyAt o key stamp → IsAnswer before o table → table ≡ answer key (rows_in versions q.source)
  landed_answer None table c k a = absurd c
  landed_answer (Some f) table c k a = a ∙ ap (λ x. answer x (rows_at before f.stamp)) k.0 ∙ ap (λ x. answer key (rows_at before x)) c.1 ∙ ap (answer key) rows

has_answered : (f : Fate) → f ≡ Answered → HasNotFailed f
has_answered f is = rw is tt

has_wanted : (f : Fate) → f ≡ Wanting → HasNotFailed f
has_wanted f is = rw is tt

module _ (l : LoadedFiles) (old new : List Entry) (lane flight : ℕ) (versions : List Publication) (key : Query) (stamp : ℕ) (asked : KeyAt (flight_at (after l old) flight) key stamp)
    (over : IsOver (after l new) flight) (rows : (source : ℕ) → rows_at (after l old).versions (stamp_in versions source) ≡ rows_in versions source) where
  -- of a query for which the flight flew
  brings_own : (q : Query) (e : Ending) (y : Fetch) → CoversAt versions q (flight_at (after l old) flight) → IsEnding l old new flight e → BringsTo key e y
      → IsFetch new (after l new) lane versions (Some flight) q y
  brings_own q (ending.Landed table) (fetch.Waiting n) c told b = absurd b
  brings_own q (ending.Landed table) (fetch.Flying n) c told b = absurd b
  brings_own q (ending.Landed table) (fetch.Brought k t) c told b =
      let o = flight_at (after l old) flight in (
        told.0,
        over,
        rw b.0 (landed_covers (after l old).versions versions q key stamp (rows q.source) o c asked),
        rw (b.0, b.1) (landed_answer (after l old).versions versions q key stamp (rows q.source) o (arc_value table) c asked told.1),
      )
  brings_own q (ending.Landed table) fetch.BackEnd c told b = absurd b
  brings_own q (ending.Landed table) fetch.Memory c told b = (has_answered (fate new (Some flight)) told.0, over)
  brings_own q ending.BackEnd y c told b = rw b (told, over)
  brings_own q ending.Memory y c told b = rw b (has_wanted (fate new (Some flight)) told, over)

  brings : (own : Option ℕ) (number : ℕ) (q : Query) (e : Ending) (y : Fetch) → number ≡ flight → own ≡ Some number → CoversAt versions q (flight_at (after l old) number)
      → IsEnding l old new flight e → BringsTo key e y → IsFetch new (after l new) lane versions own q y
  brings own number q e y is owns c told b =
      rw (owns, is) (brings_own q e y (rw is at c) told b)

-- an own flight that isn't the first one stays

rest_by : (b rest : Bool) → b ≡ false → (b || rest) ≡ true → rest ≡ true
rest_by true rest apart h = let bad : ⊥ = cc in absurd bad
rest_by false rest apart h = h

still_rest : (own : List ℕ) (flight number : ℕ) → is_first own flight ≡ true → nat_eq number flight ≡ false → list_any (nat_eq number) own ≡ true → list_any (nat_eq number) (drop 1 own) ≡ true
still_rest [] flight number first apart h = let no : ⊥ = cc in absurd no
still_rest (f ∷ own) flight number first apart h =
    let is = eqb-true f flight first in
    let told : nat_eq number f ≡ false = rw is apart in
    rest_by (nat_eq number f) (list_any (nat_eq number) own) told h

module _ (l : LoadedFiles) (old more : List Entry) (lane flight : ℕ) (versions : List Publication) (key : Query) (stamp : ℕ) (e : Ending)
    (lawful : legal l (old ++ more) ≡ true) (above : 0 < lane)
    (asked : KeyAt (flight_at (after l old) flight) key stamp)
    (over : IsOver (after l (old ++ more)) flight)
    (rows : (source : ℕ) → rows_at (after l old).versions (stamp_in versions source) ≡ rows_in versions source)
    (told : IsEnding l old (old ++ more) flight e)
    (first : is_first (work_of (after l old) lane).own flight ≡ true)
    (own_is : (work_of (after l (old ++ more)) lane).own ≡ drop 1 (work_of (after l old) lane).own) where
  settle_flying : (own : Option ℕ) (number : ℕ) (q : Query) (y : Fetch) (b : Bool) → nat_eq number flight ≡ b → MatchBool b (BringsTo key e y) (y ≡ fetch.Flying number)
      → IsFetch old (after l old) lane versions own q (fetch.Flying number) → IsFetch (old ++ more) (after l (old ++ more)) lane versions own q y
  settle_flying own number q y true is r h =
      brings l old (old ++ more) lane flight versions key stamp asked over rows own number q e y (eqb-true number flight is) h.0 h.2 told r
  settle_flying own number q y false apart r h =
      let still : list_any (nat_eq number) (work_of (after l (old ++ more)) lane).own ≡ true = rw own_is (still_rest (work_of (after l old) lane).own flight number first apart h.1) in
      rw r (fetch_on l old more lane versions lawful above own q (fetch.Flying number) still h)

  settle_fetch : (own : Option ℕ) (q : Query) (x y : Fetch) → SettlesTo flight key e x y → IsFetch old (after l old) lane versions own q x → IsFetch (old ++ more) (after l (old ++ more)) lane versions own q y
  settle_fetch own q (fetch.Waiting n) y r h = absurd h
  settle_fetch own q (fetch.Flying n) y r h = settle_flying own n q y (nat_eq n flight) refl r h
  settle_fetch own q (fetch.Brought k t) y r h = rw r (fetch_on l old more lane versions lawful above own q (fetch.Brought k t) tt h)
  settle_fetch own q fetch.BackEnd y r h = rw r (fetch_on l old more lane versions lawful above own q fetch.BackEnd tt h)
  settle_fetch own q fetch.Memory y r h = rw r (fetch_on l old more lane versions lawful above own q fetch.Memory tt h)

  settle_wait : (number : ℕ) (q : Query) (x y : Fetch) → SettlesTo flight key e x y → IsWait old (after l old) lane versions number q x → (y ≡ fetch.Waiting number) × CoversAt versions q (flight_at (after l old) number)
  settle_wait number q (fetch.Waiting n) y r h = (r ∙ ap fetch.Waiting h.0, h.1)
  settle_wait number q (fetch.Flying n) y r h = absurd h
  settle_wait number q (fetch.Brought k t) y r h = absurd h
  settle_wait number q fetch.BackEnd y r h = absurd h
  settle_wait number q fetch.Memory y r h = absurd h

  all_pairs : (xs ys : List Fetch) → AllSettle flight key e xs ys → AllPairs (SettlesTo flight key e) xs ys
  all_pairs [] [] h = tt
  all_pairs [] (y ∷ ys) h = h
  all_pairs (x ∷ xs) [] h = h
  all_pairs (x ∷ xs) (y ∷ ys) h = (h.0, all_pairs xs ys h.1)

  pub settle_all : (met : List Met) (takes : List (Option ℕ)) (queries : List Query) (xs ys : List Fetch) → AllSettle flight key e xs ys
      → Each (IsThere (after l (old ++ more))) (waits_of versions queries ys) → AreFetches old (after l old) lane versions met takes queries xs
      → AreFetches (old ++ more) (after l (old ++ more)) lane versions met takes queries ys
  settle_all met takes queries xs ys settled there h =
      fetches_on old (old ++ more) (after l old) (after l (old ++ more)) lane versions (SettlesTo flight key e) settle_fetch settle_wait
      (covers_later l old more lane versions lawful above) met takes queries xs ys (all_pairs xs ys settled) there h

-- what waits is as before

waits_one : (flight : ℕ) (key : Query) (e : Ending) (versions : List Publication) (q : Query) (x y : Fetch) → SettlesTo flight key e x y → wait_of versions q y ≡ wait_of versions q x
waits_one flight key e versions q (fetch.Waiting n) y r = ap (wait_of versions q) r
waits_one flight key e versions q (fetch.Flying n) y r = flying_by (nat_eq n flight) e y r
  where
    further_by : (table : List (List Cell)) (z : Fetch) → FurtherTo key table z → wait_of versions q z ≡ []
    further_by table (fetch.Waiting m) b = absurd b
    further_by table (fetch.Flying m) b = absurd b
    further_by table (fetch.Brought k t) b = refl
    further_by table fetch.BackEnd b = absurd b
    further_by table fetch.Memory b = refl

    flying_by : (b : Bool) (how : Ending) (z : Fetch) → MatchBool b (BringsTo key how z) (z ≡ fetch.Flying n) → wait_of versions q z ≡ []
    flying_by true (ending.Landed table) z b = further_by (arc_value table) z b
    flying_by true ending.BackEnd z b = ap (wait_of versions q) b
    flying_by true ending.Memory z b = ap (wait_of versions q) b
    flying_by false how z b = ap (wait_of versions q) b
waits_one flight key e versions q (fetch.Brought k t) y r = ap (wait_of versions q) r
waits_one flight key e versions q fetch.BackEnd y r = ap (wait_of versions q) r
waits_one flight key e versions q fetch.Memory y r = ap (wait_of versions q) r

pub waits_settled : (flight : ℕ) (key : Query) (e : Ending) (versions : List Publication) (queries : List Query) (xs ys : List Fetch) → AllSettle flight key e xs ys
    → waits_of versions queries ys ≡ waits_of versions queries xs
waits_settled flight key e versions [] xs ys h = refl
waits_settled flight key e versions (q ∷ queries) [] [] h = refl
waits_settled flight key e versions (q ∷ queries) [] (y ∷ ys) h = absurd h
waits_settled flight key e versions (q ∷ queries) (x ∷ xs) [] h = absurd h
waits_settled flight key e versions (q ∷ queries) (x ∷ xs) (y ∷ ys) h =
    (λ i. waits_one flight key e versions q x y h.0 i ++ waits_settled flight key e versions queries xs ys h.1 i)

-- A flight keeps its key and its stamp for as long as it is there.
use Rattle.std.proofs.Common.{◌≡◌, inl, inr, ℕ, ◌+◌, ◌<◌, ◌≤◌, Bool, true, false, ◌&&◌, cond, ◌-◌, ◌∙◌, List, [], ◌∷◌, ◌++◌, length, find, refl, ap, arith}
use Rattle.std.proofs.lemmas.Bool.{eqb-true, eq-eqb}
use Rattle.std.specs.List.{list_any}
use Rattle.std.specs.Prelude.{Option, Some, None, is_none, nat_eq}
use Rattle.dq_base.specs.declared.query.Query.{Query}
use Rattle.dq_bring.specs.Flights.{KeyAt}
use Rattle.dq_extract.specs.Loads.{LoadedFiles}
use Rattle.dq_fates.proofs.Bringing.{legal_first, more_keeps, started_grows}
use Rattle.dq_flight.specs.Flights.{replaced}
use Rattle.dq_journal.specs.declared.entry.Entry.{Entry}
use Rattle.dq_journal.specs.declared.entry.Entry.TheVariants.{Publish, Admit, Lease, Give, Lose, Land, Fall, Take, End}
use Rattle.dq_laws.specs.Flying.{RunsFor}
use Rattle.dq_laws.proofs.Each.{Each, each-append, each-either, each-found, each-replaced, each-weaker}
use Rattle.dq_laws.proofs.Flying.{IsFlying-reached}
use Rattle.dq_laws.proofs.Goes.{legal_reached}
use Rattle.dq_laws.proofs.Numbered.{Ascend, ascend-groups, ascend-numbers, ascend-own}
use Rattle.dq_laws.proofs.Owned.{Among, IsOwned-reached, next_of}
use Rattle.dq_laws.proofs.Pushed.{IsPushed}
use Rattle.dq_machine.proofs.Reached.{allowed_may, and_second}
use Rattle.dq_machine.specs.Admitting.{admission_of, group_flights, joined_by, with_joiner}
use Rattle.dq_machine.specs.Landing.{ended, over}
use Rattle.dq_machine.specs.Machine.{after, allowed, legal, next}
use Rattle.dq_machine.specs.State.{Course, Landed, Fallen, Flown, Joined, Publication, State, Work, flight_at, is_numbered, none_left, work_of}
use Rattle.dq_machine.specs.Taking.{flights_taken, is_first_join, let_go, own_flight, takes_as, without_joiner}
use Rattle.dq_batch.specs.Fetching.{CoversAt}

-- what is found passes

passes_by : (p : Flown → Bool) (b : Bool) (x y : Flown) (o : Option Flown) → p x ≡ b → cond b (Some x) o ≡ Some y → (o ≡ Some y → p y ≡ true) → p y ≡ true
passes_by p true x y o told e more = let same : x ≡ y = cc in rw (← same) told
passes_by p false x y o told e more = more e

pub passes : (p : Flown → Bool) (flown : List Flown) (y : Flown) → find p flown ≡ Some y → p y ≡ true
passes p [] y e = let no : ⊥ = cc in absurd no
passes p (x ∷ flown) y e = passes_by p (p x) x y (find p flown) refl e (passes p flown y)

-- such is each flight of that number
abbrev Such : ℕ → Query → ℕ → Flown → Type 0
Such n key stamp f = f.number ≡ n → (f.key ≡ key) × (f.stamp ≡ stamp)

-- where both are there, they have the same key and stamp
abbrev pub Alike : Option Flown → Option Flown → Type 0
Alike None o = Unit {0}
Alike (Some f) None = Unit {0}
Alike (Some f) (Some g) = (g.key ≡ f.key) × (g.stamp ≡ f.stamp)

module _ (n : ℕ) (key : Query) (stamp : ℕ) where
  such_over : (course : Course) (f : Flown) → Such n key stamp f → Each (Such n key stamp) (over course f)
  such_over course f h = each-either (Such n key stamp) (nat_eq f.joiners 0) [] (record f { course = course } ∷ []) tt (h, tt)

  such_less : (f : Flown) → Such n key stamp f → Each (Such n key stamp) (without_joiner f)
  such_less f h = each-either (Such n key stamp) (nat_eq (f.joiners - 1) 0) [] (record f { joiners = f.joiners - 1 } ∷ []) tt (h, tt)

  such_replaced : (p : Flown → Bool) (g : Flown → List Flown) → ((f : Flown) → Such n key stamp f → Each (Such n key stamp) (g f))
      → (flown : List Flown) → Each (Such n key stamp) flown → Each (Such n key stamp) (replaced p g flown)
  such_replaced p g by flown h = each-replaced (Such n key stamp) (Such n key stamp) p g (λ f h. h) by flown h

  such_joined : (flown : List Flown) (joins : List Joined) → Each (Such n key stamp) flown → Each (Such n key stamp) (joined_by flown joins)
  such_joined flown [] h = h
  such_joined flown (j ∷ joins) h =
      such_joined (replaced (is_numbered j.flight) with_joiner flown) joins
      (such_replaced (is_numbered j.flight) with_joiner (λ f such. (such, tt)) flown h)

  -- those with higher numbers are none of that number
  such_above : (low high : ℕ) (flown : List Flown) → n ≤ low → Ascend low high flown → Each (Such n key stamp) flown
  such_above low high flown le up =
      each-weaker (λ f. (low < f.number) × (f.number ≤ high)) (Such n key stamp) (λ f p e. absurd (omega (arith, p.0, e, le))) flown
      (ascend-numbers low high flown up)

  record Keeps (s : State) : Type 0 where
    within : n ≤ s.flights.started
    such : Each (Such n key stamp) s.flights.flown

  module _ (l : LoadedFiles) (s : State) (h : Keeps s) where
    such_ended : (course : Course) (flight : ℕ) → Each (Such n key stamp) (ended course flight s.flights.flown)
    such_ended course flight = such_replaced (is_numbered flight) (over course) (such_over course) s.flights.flown h.such

    such_let_go : (flight : ℕ) → Each (Such n key stamp) (let_go flight s.flights.flown)
    such_let_go flight = such_replaced (is_numbered flight) without_joiner such_less s.flights.flown h.such

    such_taken : (lane taken : ℕ) (o : Option ℕ) → allowed l s (Take lane taken o) ≡ true → Each (Such n key stamp) (flights_taken s.flights lane taken (work_of s lane).joins o).flown
    such_taken lane taken None may = such_let_go taken
    such_taken lane taken (Some number) may =
        let w : Work = work_of s lane in
        let is = next_of s.flights.started number (flight_at s taken)
        (and_second (none_left w.own && is_first_join w.joins taken) (takes_as s.flights.started (flight_at s taken) (Some number)) (allowed_may l s (Take lane taken (Some number)) may)) in
        each-append (Such n key stamp) (let_go taken s.flights.flown) (own_flight number lane w.joins) (such_let_go taken)
        (such_above s.flights.started number (own_flight number lane w.joins) h.within (ascend-own number lane s.flights.started w.joins is))

    such_next : (e : Entry) → allowed l s e ≡ true → Each (Such n key stamp) (next l s e).flights.flown
    such_next (Publish lane number) may = h.such
    such_next (Admit lane number met) may =
        let adm = admission_of l s lane number in
        each-append (Such n key stamp) (joined_by s.flights.flown adm.joins) (group_flights s.versions lane (s.flights.started + 1) adm.groups)
        (such_joined s.flights.flown adm.joins h.such)
        (such_above s.flights.started (s.flights.started + length adm.groups) (group_flights s.versions lane (s.flights.started + 1) adm.groups) h.within
        (ascend-groups s.versions lane s.flights.started adm.groups))
    such_next (Lease lane f link fresh) may = h.such
    such_next (Give lane f link ran runs calls) may = h.such
    such_next (Lose lane f link dialled ran runs calls) may = h.such
    such_next (Land lane f cells clever literal) may = such_ended Landed f
    such_next (Fall lane f cause) may = such_ended Fallen f
    such_next (Take lane f o) may = such_taken lane f o may
    such_next (End lane) may = h.such

  keeps_next : (l : LoadedFiles) (past : List Entry) (e : Entry) → IsPushed l past e → Keeps (after l past) → Keeps (after l (past ++ e ∷ []))
  keeps_next l past e p h =
      let more = started_grows l (after l past) e p.allowed in
      rw p.after (record { within = omega (arith, h.within, more); such = such_next l (after l past) h e p.allowed })

  keeps_on : (l : LoadedFiles) (journal more : List Entry) → legal l (journal ++ more) ≡ true → Keeps (after l journal) → Keeps (after l (journal ++ more))
  keeps_on l journal more lawful h = more_keeps l (λ past. Keeps (after l past)) (keeps_next l) journal more lawful h

-- no two have the same number

only_by : (n low high : ℕ) (x f : Flown) (flown : List Flown) (b : Bool) → is_numbered n x ≡ b → Ascend x.number high flown → cond b (Some x) (find (is_numbered n) flown) ≡ Some f
    → (find (is_numbered n) flown ≡ Some f → Each (Such n f.key f.stamp) flown) → Each (Such n f.key f.stamp) (x ∷ flown)
only_by n low high x f flown true told up at more =
    let same : x ≡ f = cc in
    let is = eqb-true x.number n told in
    let le : n ≤ x.number = omega (arith, is) in
    (λ e. (ap (λ (g : Flown). g.key) same, ap (λ (g : Flown). g.stamp) same), such_above n f.key f.stamp x.number high flown le up)
only_by n low high x f flown false told up at more =
    (λ e. let yes = eq-eqb x.number n e in let no : ⊥ = cc in absurd no, more at)

only : (n low high : ℕ) (flown : List Flown) (f : Flown) → Ascend low high flown → find (is_numbered n) flown ≡ Some f → Each (Such n f.key f.stamp) flown
only n low high [] f up at = tt
only n low high (x ∷ flown) f up at = only_by n low high x f flown (is_numbered n x) refl up.1 at (only n x.number high flown f up.1)

such_found : (n : ℕ) (flown : List Flown) (f : Flown) (o : Option Flown) → find (is_numbered n) flown ≡ o → Each (Such n f.key f.stamp) flown → Alike (Some f) o
such_found n flown f None at h = tt
such_found n flown f (Some g) at h =
    each-found (Such n f.key f.stamp) (is_numbered n) flown g at h (eqb-true g.number n (passes (is_numbered n) flown g at))

module _ (l : LoadedFiles) (journal more : List Entry) (n : ℕ) (lawful : legal l (journal ++ more) ≡ true) where
  alike_from : (o : Option Flown) → flight_at (after l journal) n ≡ o → Alike o (flight_at (after l (journal ++ more)) n)
  alike_from None at = tt
  alike_from (Some f) at =
      let s = after l journal in
      let owned = IsOwned-reached l s (legal_reached l journal (legal_first l journal more lawful)) in
      let both = each-found (λ (g : Flown). (0 < g.number) × (g.number ≤ s.flights.started)) (is_numbered n) s.flights.flown f at (ascend-numbers 0 s.flights.started s.flights.flown owned.numbers) in
      let is = eqb-true f.number n (passes (is_numbered n) s.flights.flown f at) in
      let first : Keeps n f.key f.stamp s = record { within = omega (arith, both.1, is); such = only n 0 s.flights.started s.flights.flown f owned.numbers at } in
      let last = keeps_on n f.key f.stamp l journal more lawful first in
      such_found n (after l (journal ++ more)).flights.flown f (flight_at (after l (journal ++ more)) n) refl last.such

  -- a flight that is there before and after later entries has the same key and stamp
  pub flight_keeps : Alike (flight_at (after l journal) n) (flight_at (after l (journal ++ more)) n)
  flight_keeps = alike_from (flight_at (after l journal) n) refl

-- which flights are there

pub runs_there : (lane : ℕ) (o : Option Flown) → RunsFor lane o → is_none o ≡ false
runs_there lane None r = absurd r
runs_there lane (Some f) r = refl

any_by : (n m : ℕ) (b c : Bool) (own : List ℕ) → nat_eq n m ≡ b → list_any (nat_eq n) (m ∷ own) ≡ true → (list_any (nat_eq n) own ≡ true → Among n own) → Among n (m ∷ own)
any_by n m true c own told h more = inl (let is = eqb-true n m told in omega (arith, is))
any_by n m false c own told h more = inr (more (rw told at h))

pub any_own : (own : List ℕ) (n : ℕ) → list_any (nat_eq n) own ≡ true → Among n own
any_own [] n h = let no : ⊥ = cc in absurd no
any_own (m ∷ own) n h = any_by n m (nat_eq n m) (nat_eq n m) own refl h (any_own own n)

pub own_there : (l : LoadedFiles) (journal : List Entry) (lane n : ℕ) → legal l journal ≡ true → 0 < lane → Among n (work_of (after l journal) lane).own → is_none (flight_at (after l journal) n) ≡ false
own_there l journal lane n lawful above a =
    runs_there lane (flight_at (after l journal) n) ((IsFlying-reached l (after l journal) (legal_reached l journal lawful)).each lane n above a)

-- what is known of a flight is known of it later

pub covers_on : (versions : List Publication) (q : Query) (o p : Option Flown) → CoversAt versions q o → Alike o p → is_none p ≡ false → CoversAt versions q p
covers_on versions q None p c same here = absurd c
covers_on versions q (Some f) None c same here = let no : ⊥ = cc in absurd no
covers_on versions q (Some f) (Some g) c same here = (rw same.0 c.0, same.1 ∙ c.1)

pub key_on : (key : Query) (stamp : ℕ) (o p : Option Flown) → KeyAt o key stamp → Alike o p → is_none p ≡ false → KeyAt p key stamp
key_on key stamp None p k same here = absurd k
key_on key stamp (Some f) None k same here = let no : ⊥ = cc in absurd no
key_on key stamp (Some f) (Some g) k same here = (same.0 ∙ k.0, same.1 ∙ k.1)

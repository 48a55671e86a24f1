-- How many links a journal's flights lost.
use Rattle.std.proofs.Common.{◌≡◌, ◌≢◌, inl, inr, ℕ, zero, suc, ◌+◌, ◌-◌, ◌<◌, ◌≤◌, Bool, true, false, ◌&&◌, cond, eqb, List, [], ◌∷◌, ◌++◌, length, drop, get_or, slice_set, replicate, refl, ap, sym, ◌∙◌, arith, length-append, append_assoc, append-nil}
use Rattle.std.proofs.lemmas.Bool.{eqb-true, eq-eqb, leb-true}
use Rattle.std.proofs.lemmas.Bool.Decides.{eqb_tells, nat_tests}
use Rattle.std.proofs.lemmas.List.{get_or-set_other, get_or-set_same}
use Rattle.std.proofs.lemmas.List.Elements.{filter-append}
use Rattle.std.specs.Prelude.{◌⊎◌, Option, Some, None, nat_eq, filter}
use Rattle.dq_base.specs.Batches.{Group}
use Rattle.dq_extract.specs.Loads.{LoadedFiles}
use Rattle.dq_journal.specs.Journals.{lane_of}
use Rattle.dq_journal.specs.declared.entry.Entry.{Entry}
use Rattle.dq_journal.specs.declared.entry.Entry.TheVariants.{Publish, Admit, Lease, Give, Lose, Land, Fall, Take, End}
use Rattle.dq_machine.proofs.Reached.{allowed_above, allowed_may, allowed_within, and_first, and_second}
use Rattle.dq_machine.specs.Admitting.{admission_of, numbers_from}
use Rattle.dq_machine.specs.Leasing.{is_next, leased, leased_from, lost, may_lease, may_lose}
use Rattle.dq_machine.specs.Machine.{after, allowed, legal, legal_from, next, run, work_admitted}
use Rattle.dq_machine.specs.Owning.{loses, losses_of}
use Rattle.dq_machine.specs.State.{Flown, LinkOf, Phase, New, Leased, Given, State, Work, flight_at, is_first, is_free, no_work, none_left, start, work_of}
use Rattle.dq_machine.specs.Taking.{flights_taken, is_first_join, may_take, takes_as, work_taken}
use Rattle.dq_laws.proofs.Each.{Each}
use Rattle.dq_laws.proofs.Owned.{Among, admit_free, next_of}

-- what the phase tells of its flight's losses
abbrev pub Tells : Phase → ℕ → Type 0
Tells (New losses) n = (n ≡ losses) × (losses ≤ 2)
Tells (Leased losses fresh k) n = (n ≡ losses) × (losses ≤ 1)
Tells (Given ran) n = Unit {0}

-- the first own flight has lost as many links as the phase tells, and those behind it none
abbrev pub OwnLost : (ℕ → ℕ) → Phase → List ℕ → Type 0
OwnLost m p [] = Unit {0}
OwnLost m p (f ∷ own) = Tells p (m f) × Each (λ g. m g ≡ 0) own

abbrev pub Rises : List ℕ → Type 0
Rises [] = Unit {0}
Rises (f ∷ own) = Each (λ g. f < g) own × Rises own

pub record IsLost (m : ℕ → ℕ) (w : Work) : Type 0 where
  pub own : OwnLost m w.phase w.own
  pub rises : Rises w.own

-- own flights were started, and no two lanes have the same
pub record AreApart (works : List Work) (started : ℕ) : Type 0 where
  pub begun : (i n : ℕ) → Among n (get_or works i no_work).own → n ≤ started
  pub apart : (i j n : ℕ) → i ≢ j → Among n (get_or works i no_work).own → Among n (get_or works j no_work).own → ⊥

-- m tells how many links each flight has lost
pub record IsLosing (m : ℕ → ℕ) (works : List Work) (started : ℕ) : Type 0 where
  pub few : (f : ℕ) → m f ≤ 2
  pub none : (f : ℕ) → started < f → m f ≡ 0
  pub each : (i : ℕ) → IsLost m (get_or works i no_work)
  pub others : AreApart works started

-- at first

no_lost : (m : ℕ → ℕ) (n i : ℕ) → IsLost m (get_or (replicate n no_work) i no_work)
no_lost m zero zero = record { own = tt; rises = tt }
no_lost m zero (suc i) = record { own = tt; rises = tt }
no_lost m (suc n) zero = record { own = tt; rises = tt }
no_lost m (suc n) (suc i) = no_lost m n i

pub no_own : (n i k : ℕ) → Among k (get_or (replicate n no_work) i no_work).own → ⊥
no_own zero zero k a = a
no_own zero (suc i) k a = a
no_own (suc n) zero k a = a
no_own (suc n) (suc i) k a = no_own n i k a

IsLosing-start : (l : LoadedFiles) → IsLosing (losses_of []) (start l).works (start l).flights.started
IsLosing-start l = record {
  few = λ f. omega arith;
  none = λ f lt. refl;
  each = no_lost (losses_of []) (length l.script.lanes);
  others = record {
    begun = λ i n a. absurd (no_own (length l.script.lanes) i n a);
    apart = λ i j n ne a b. no_own (length l.script.lanes) i n a;
  };
}

-- counts

count_one : (b : Bool) (e : Entry) → length (cond b (e ∷ []) []) ≡ cond b 1 0
count_one true e = refl
count_one false e = refl

losses_push : (past : List Entry) (e : Entry) (f : ℕ) → losses_of (past ++ e ∷ []) f ≡ losses_of past f + cond (loses f e) 1 0
losses_push past e f =
    ap length (filter-append (loses f) past (e ∷ [])) ∙ length-append (filter (loses f) past) (filter (loses f) (e ∷ [])) ∙ ap (λ k. losses_of past f + k) (count_one (loses f e) e)

push_kept : (past : List Entry) (e : Entry) (f : ℕ) → loses f e ≡ false → losses_of (past ++ e ∷ []) f ≡ losses_of past f
push_kept past e f told = let plus : losses_of (past ++ e ∷ []) f ≡ losses_of past f + 0 = rw told at (losses_push past e f) in omega (arith, plus)

push_lost : (past : List Entry) (e : Entry) (f : ℕ) → loses f e ≡ true → losses_of (past ++ e ∷ []) f ≡ losses_of past f + 1
push_lost past e f told = rw told at (losses_push past e f)

rest_same : (m m' : ℕ → ℕ) (own : List ℕ) → ((n : ℕ) → Among n own → m' n ≡ m n) → Each (λ g. m g ≡ 0) own → Each (λ g. m' g ≡ 0) own
rest_same m m' [] same h = tt
rest_same m m' (f ∷ own) same h = (same f (inl refl) ∙ h.0, rest_same m m' own (λ n a. same n (inr a)) h.1)

own_same : (m m' : ℕ → ℕ) (p : Phase) (own : List ℕ) → ((n : ℕ) → Among n own → m' n ≡ m n) → OwnLost m p own → OwnLost m' p own
own_same m m' p [] same h = tt
own_same m m' p (f ∷ own) same h = let e = same f (inl refl) in (rw e h.0, rest_same m m' own (λ n a. same n (inr a)) h.1)

lost_same : (m m' : ℕ → ℕ) (w : Work) → ((n : ℕ) → Among n w.own → m' n ≡ m n) → IsLost m w → IsLost m' w
lost_same m m' w same h = record { own = own_same m m' w.phase w.own same h.own; rises = h.rises }

losing_same : (m m' : ℕ → ℕ) (works : List Work) (started : ℕ) → ((n : ℕ) → m' n ≡ m n) → IsLosing m works started → IsLosing m' works started
losing_same m m' works started same h = record {
  few = λ f. let e = same f in let le = h.few f in omega (arith, e, le);
  none = λ f lt. same f ∙ h.none f lt;
  each = λ i. lost_same m m' (get_or works i no_work) (λ n a. same n) (h.each i);
  others = h.others;
}

-- a lane's work changes

module _ (works : List Work) (i : ℕ) (w : Work) (lt : i < length works) where
  one_lost : (m : ℕ → ℕ) (j : ℕ) → IsLost m w → (i ≢ j → IsLost m (get_or works j no_work)) → ((eqb i j ≡ true) × (i ≡ j)) ⊎ ((eqb i j ≡ false) × (i ≢ j))
      → IsLost m (get_or (slice_set works i w) j no_work)
  one_lost m j here there (inl (told, same)) = rw (← same, get_or-set_same works i w no_work lt) here
  one_lost m j here there (inr (told, apart)) = let ne : j ≢ i = λ e. apart (sym e) in rw (get_or-set_other works i j w no_work ne) (there apart)

  among_set : (j n : ℕ) → Among n (get_or (slice_set works i w) j no_work).own → ((eqb i j ≡ true) × (i ≡ j)) ⊎ ((eqb i j ≡ false) × (i ≢ j))
      → ((i ≡ j) × Among n w.own) ⊎ ((i ≢ j) × Among n (get_or works j no_work).own)
  among_set j n a (inl (told, same)) = let b = rw (← same, get_or-set_same works i w no_work lt) at a in inl (same, b)
  among_set j n a (inr (told, apart)) =
      let ne : j ≢ i = λ e. apart (sym e) in
      let b = rw (get_or-set_other works i j w no_work ne) at a in inr (apart, b)

  module _ (started started' : ℕ) (le : started ≤ started') (h : AreApart works started)
      (keeps : (n : ℕ) → Among n w.own → Among n (get_or works i no_work).own ⊎ ((started < n) × (n ≤ started'))) where
    own_begun : (n : ℕ) → Among n (get_or works i no_work).own ⊎ ((started < n) × (n ≤ started')) → n ≤ started'
    own_begun n (inl a) = let b = h.begun i n a in omega (arith, b, le)
    own_begun n (inr p) = p.1

    begun_by : (j n : ℕ) → ((i ≡ j) × Among n w.own) ⊎ ((i ≢ j) × Among n (get_or works j no_work).own) → n ≤ started'
    begun_by j n (inl p) = own_begun n (keeps n p.1)
    begun_by j n (inr p) = let b = h.begun j n p.1 in omega (arith, b, le)

    own_apart : (j n : ℕ) → i ≢ j → Among n (get_or works j no_work).own → Among n (get_or works i no_work).own ⊎ ((started < n) × (n ≤ started')) → ⊥
    own_apart j n ne b (inl a) = h.apart i j n ne a b
    own_apart j n ne b (inr p) = let c = h.begun j n b in absurd (omega (arith, c, p.0))

    apart_by : (j k n : ℕ) → j ≢ k → ((i ≡ j) × Among n w.own) ⊎ ((i ≢ j) × Among n (get_or works j no_work).own)
        → ((i ≡ k) × Among n w.own) ⊎ ((i ≢ k) × Among n (get_or works k no_work).own) → ⊥
    apart_by j k n ne (inl p) (inl q) = ne (sym p.0 ∙ q.0)
    apart_by j k n ne (inl p) (inr q) = own_apart k n q.0 q.1 (keeps n p.1)
    apart_by j k n ne (inr p) (inl q) = own_apart j n p.0 p.1 (keeps n q.1)
    apart_by j k n ne (inr p) (inr q) = h.apart j k n ne p.1 q.1

    apart_step : AreApart (slice_set works i w) started'
    apart_step = record {
      begun = λ j n a. begun_by j n (among_set j n a (eqb_tells i j));
      apart = λ j k n ne a b. apart_by j k n ne (among_set j n a (eqb_tells i j)) (among_set k n b (eqb_tells i k));
    }

  losing_step : (m : ℕ → ℕ) (started started' : ℕ) → started ≤ started' → IsLosing m works started → IsLost m w
      → ((n : ℕ) → Among n w.own → Among n (get_or works i no_work).own ⊎ ((started < n) × (n ≤ started'))) → IsLosing m (slice_set works i w) started'
  losing_step m started started' le h here keeps = record {
    few = h.few;
    none = λ f more. h.none f (omega (arith, more, le));
    each = λ j. one_lost m j here (λ ne. h.each j) (eqb_tells i j);
    others = apart_step started started' le h.others keeps;
  }

-- what each entry does to it

told_phase : (m : ℕ → ℕ) (p p' : Phase) (own : List ℕ) → ((n : ℕ) → Tells p n → Tells p' n) → OwnLost m p own → OwnLost m p' own
told_phase m p p' [] more h = tt
told_phase m p p' (f ∷ own) more h = (more (m f) h.0, h.1)

leased_told : (losses link n : ℕ) (idle : List LinkOf) → n ≡ losses → losses ≤ 1 → Tells (leased_from losses link idle) n
leased_told losses link n [] e le = (e, le)
leased_told losses link n (k ∷ idle) e le = (e, le)

lease_told : (p : Phase) (link : ℕ) (idle : List LinkOf) → may_lease p ≡ true → (n : ℕ) → Tells p n → Tells (leased p link idle) n
lease_told (New losses) link idle may n t = leased_told losses link n idle t.0 (leb-true losses 1 may)
lease_told (Leased losses fresh k) link idle may n t = t
lease_told (Given ran) link idle may n t = t

own_dropped : (m : ℕ → ℕ) (p : Phase) (own : List ℕ) → OwnLost m p own → OwnLost m (New 0) (drop 1 own)
own_dropped m p [] h = tt
own_dropped m p (f ∷ []) h = tt
own_dropped m p (f ∷ g ∷ own) h = ((h.1.0, omega arith), h.1.1)

rises_dropped : (own : List ℕ) → Rises own → Rises (drop 1 own)
rises_dropped [] h = tt
rises_dropped (f ∷ own) h = h.1

pub drop_among : (own : List ℕ) (n : ℕ) → Among n (drop 1 own) → Among n own
drop_among [] n a = a
drop_among (f ∷ own) n a = inr a

numbers_above : (low number : ℕ) (gs : List Group) → low < number → Each (λ g. low < g) (numbers_from number gs)
numbers_above low number [] lt = tt
numbers_above low number (g ∷ gs) lt = let more : low < number + 1 = omega arith in (lt, numbers_above low (number + 1) gs more)

numbers_rise : (number : ℕ) (gs : List Group) → Rises (numbers_from number gs)
numbers_rise number [] = tt
numbers_rise number (g ∷ gs) = (numbers_above number (number + 1) gs (omega arith), numbers_rise (number + 1) gs)

numbers_none : (m : ℕ → ℕ) (number : ℕ) (gs : List Group) → ((f : ℕ) → number ≤ f → m f ≡ 0) → Each (λ g. m g ≡ 0) (numbers_from number gs)
numbers_none m number [] none = tt
numbers_none m number (g ∷ gs) none = (none number (omega arith), numbers_none m (number + 1) gs (λ f le. let more : number ≤ f = omega arith in none f more))

numbers_lost : (m : ℕ → ℕ) (number : ℕ) (gs : List Group) → ((f : ℕ) → number ≤ f → m f ≡ 0) → OwnLost m (New 0) (numbers_from number gs)
numbers_lost m number [] none = tt
numbers_lost m number (g ∷ gs) none =
    ((none number (omega arith), omega arith), numbers_none m (number + 1) gs (λ f le. let more : number ≤ f = omega arith in none f more))

pub numbers_among : (number n : ℕ) (gs : List Group) → Among n (numbers_from number gs) → (number ≤ n) × (n + 1 ≤ number + length gs)
numbers_among number n [] a = absurd a
numbers_among number n (g ∷ gs) (inl e) = (omega (arith, e), omega (arith, e))
numbers_among number n (g ∷ gs) (inr a) = let both = numbers_among (number + 1) n gs a in (omega (arith, both.0), omega (arith, both.1))

-- a loss

abbrev is_leased : Phase → Bool
is_leased (New losses) = false
is_leased (Leased losses fresh k) = true
is_leased (Given ran) = false

lose_leased : (p : Phase) (o : Option Flown) (link : ℕ) (dialled ran : Bool) (runs calls : ℕ) → may_lose p o link dialled ran runs calls ≡ true → is_leased p ≡ true
lose_leased (New losses) o link dialled ran runs calls may = cc
lose_leased (Leased losses fresh k) o link dialled ran runs calls may = refl
lose_leased (Given given) o link dialled ran runs calls may = cc

pub first_among : (own : List ℕ) (flight : ℕ) → is_first own flight ≡ true → Among flight own
first_among [] flight first = let no : ⊥ = cc in absurd no
first_among (f ∷ own) flight first = inl (eqb-true f flight first)

first_told : (m : ℕ → ℕ) (p : Phase) (own : List ℕ) (flight : ℕ) → is_first own flight ≡ true → OwnLost m p own → Tells p (m flight)
first_told m p [] flight first h = let no : ⊥ = cc in absurd no
first_told m p (f ∷ own) flight first h = let e = eqb-true f flight first in rw (← e) h.0

lost_told : (p : Phase) (n n' : ℕ) → n' ≡ n + 1 → is_leased p ≡ true → Tells p n → Tells (lost p) n' × (n' ≤ 2)
lost_told (New losses) n n' e may t = let no : ⊥ = cc in absurd no
lost_told (Leased losses fresh k) n n' e may t = ((omega (arith, e, t.0), omega (arith, t.1)), omega (arith, e, t.0, t.1))
lost_told (Given ran) n n' e may t = let no : ⊥ = cc in absurd no

pub above_among : (low n : ℕ) (own : List ℕ) → Each (λ g. low < g) own → Among n own → low < n
above_among low n [] h a = absurd a
above_among low n (f ∷ own) h (inl e) = omega (arith, h.0, e)
above_among low n (f ∷ own) h (inr a) = above_among low n own h.1 a

own_lost : (m m' : ℕ → ℕ) (p p' : Phase) (own : List ℕ) (flight : ℕ) → is_first own flight ≡ true → Rises own → OwnLost m p own → Tells p' (m' flight)
    → ((n : ℕ) → n ≢ flight → m' n ≡ m n) → OwnLost m' p' own
own_lost m m' p p' [] flight first rises h told same = tt
own_lost m m' p p' (f ∷ own) flight first rises h told same =
    let e = eqb-true f flight first in
    (rw e told, rest_same m m' own (λ n a. same n (λ is. let lt = above_among f n own rises.0 a in absurd (omega (arith, lt, e, is)))) h.1)

few_by : (m m' : ℕ → ℕ) (f flight : ℕ) → m f ≤ 2 → m' flight ≤ 2 → ((n : ℕ) → n ≢ flight → m' n ≡ m n)
    → ((eqb f flight ≡ true) × (f ≡ flight)) ⊎ ((eqb f flight ≡ false) × (f ≢ flight)) → m' f ≤ 2
few_by m m' f flight old new same (inl (told, is)) = rw is new
few_by m m' f flight old new same (inr (told, ne)) = let e = same f ne in omega (arith, e, old)

lose_losing : (m m' : ℕ → ℕ) (works : List Work) (started i flight : ℕ) (w : Work) → i < length works → IsLosing m works started
    → is_first (get_or works i no_work).own flight ≡ true → is_leased (get_or works i no_work).phase ≡ true
    → w.own ≡ (get_or works i no_work).own → w.phase ≡ lost (get_or works i no_work).phase
    → m' flight ≡ m flight + 1 → ((n : ℕ) → n ≢ flight → m' n ≡ m n) → IsLosing m' (slice_set works i w) started
lose_losing m m' works started i flight w lt h first may own phase more same =
    let v : Work = get_or works i no_work in
    let told = lost_told v.phase (m flight) (m' flight) more may (first_told m v.phase v.own flight first (h.each i).own) in
    let mine : Among flight v.own = first_among v.own flight first in
    let begun = h.others.begun i flight mine in
    let here : IsLost m' w = record {
      own = rw (own, phase) (own_lost m m' v.phase (lost v.phase) v.own flight first (h.each i).rises (h.each i).own told.0 same);
      rises = rw own (h.each i).rises;
    } in
    record {
      few = λ f. few_by m m' f flight (h.few f) told.1 same (eqb_tells f flight);
      none = λ f above. same f (λ is. absurd (omega (arith, above, begun, is))) ∙ h.none f above;
      each = λ j. one_lost works i w lt m' j here
          (λ ne. lost_same m m' (get_or works j no_work) (λ n a. same n (λ is. h.others.apart i j flight ne mine (rw (← is) a))) (h.each j)) (eqb_tells i j);
      others = apart_step works i w lt started started (omega arith) h.others (λ n a. inl (rw (← own) a));
    }

-- each entry

there : (l : LoadedFiles) (s : State) (e : Entry) → allowed l s e ≡ true → lane_of e - 1 < length s.works
there l s e a = omega (arith, allowed_above l s e a, allowed_within l s e a)

same_step : (m : ℕ → ℕ) (works : List Work) (started i : ℕ) (w : Work) → i < length works → IsLosing m works started → w.own ≡ (get_or works i no_work).own
    → OwnLost m w.phase w.own → IsLosing m (slice_set works i w) started
same_step m works started i w lt h own phase =
    losing_step works i w lt m started started (omega arith) h (record { own = phase; rises = rw own (h.each i).rises }) (λ n a. inl (rw (← own) a))

admit_step : (m : ℕ → ℕ) (l : LoadedFiles) (s : State) (lane number : ℕ) → lane - 1 < length s.works → is_free (work_of s lane) ≡ true → IsLosing m s.works s.flights.started
    → IsLosing m (slice_set s.works (lane - 1) (work_admitted s (work_of s lane) number (admission_of l s lane number)))
    (s.flights.started + length (admission_of l s lane number).groups)
admit_step m l s lane number lt free h =
    let started = s.flights.started in
    let gs = (admission_of l s lane number).groups in
    losing_step s.works (lane - 1) _ lt m started (started + length gs) (omega arith) h
    (record {
      own = numbers_lost m (started + 1) gs (λ f le. let more : started < f = omega (arith, le) in h.none f more);
      rises = numbers_rise (started + 1) gs;
    })
    (λ n a. let both = numbers_among (started + 1) n gs a in inr (omega (arith, both.0), omega (arith, both.1)))

drop_step : (m : ℕ → ℕ) (works : List Work) (started i : ℕ) (w : Work) → i < length works → IsLosing m works started → w.own ≡ drop 1 (get_or works i no_work).own
    → w.phase ≡ New 0 → IsLosing m (slice_set works i w) started
drop_step m works started i w lt h own phase =
    let v : Work = get_or works i no_work in
    losing_step works i w lt m started started (omega arith) h
    (record { own = rw (own, phase) (own_dropped m v.phase v.own (h.each i).own); rises = rw own (rises_dropped v.own (h.each i).rises) })
    (λ n a. inl (drop_among v.own n (rw (← own) a)))

one_new : (started number n : ℕ) (own : List ℕ) → started < number → Among n (number ∷ []) → Among n own ⊎ ((started < n) × (n ≤ number))
one_new started number n own more (inl e) = inr (omega (arith, more, e), omega (arith, e))
one_new started number n own more (inr a) = absurd a

other_number : (flight n : ℕ) → n ≢ flight → nat_eq flight n ≡ false
other_number flight n ne = grind (arith, nat_tests)

take_step : (m : ℕ → ℕ) (s : State) (lane flight : ℕ) (next : Option ℕ) → lane - 1 < length s.works → may_take s (work_of s lane) flight next ≡ true → IsLosing m s.works s.flights.started
    → IsLosing m (slice_set s.works (lane - 1) (work_taken (work_of s lane) next)) (flights_taken s.flights lane flight (work_of s lane).joins next).started
take_step m s lane flight None lt may h = same_step m s.works s.flights.started (lane - 1) _ lt h refl (h.each (lane - 1)).own
take_step m s lane flight (Some number) lt may h =
    let v : Work = work_of s lane in
    let is = next_of s.flights.started number (flight_at s flight) (and_second (none_left v.own && is_first_join v.joins flight) (takes_as s.flights.started (flight_at s flight) (Some number)) may) in
    let more : s.flights.started < number = omega (arith, is) in
    losing_step s.works (lane - 1) _ lt m s.flights.started number (omega (arith, is)) h
    (record { own = ((h.none number more, omega arith), tt); rises = (tt, tt) }) (λ n a. one_new s.flights.started number n (get_or s.works (lane - 1) no_work).own more a)

IsLosing-next : (l : LoadedFiles) (past : List Entry) (s : State) (e : Entry) → IsLosing (losses_of past) s.works s.flights.started → allowed l s e ≡ true
    → IsLosing (losses_of (past ++ e ∷ [])) (next l s e).works (next l s e).flights.started
IsLosing-next l past s (Publish lane number) h a =
    let e : Entry = Publish lane number in
    losing_same (losses_of past) (losses_of (past ++ e ∷ [])) _ _ (λ n. push_kept past e n refl)
    (same_step (losses_of past) s.works s.flights.started (lane - 1) _ (there l s e a) h refl (h.each (lane - 1)).own)
IsLosing-next l past s (Admit lane number met) h a =
    let e : Entry = Admit lane number met in
    losing_same (losses_of past) (losses_of (past ++ e ∷ [])) _ _ (λ n. push_kept past e n refl)
    (admit_step (losses_of past) l s lane number (there l s e a) (admit_free l s (work_of s lane) lane number met (allowed_may l s e a)) h)
IsLosing-next l past s (Lease lane flight link fresh) h a =
    let e : Entry = Lease lane flight link fresh in
    let w : Work = work_of s lane in
    let both = and_first (is_first w.own flight && may_lease w.phase) (is_next s.links.idle s.links.fresh link fresh) (allowed_may l s e a) in
    let may = and_second (is_first w.own flight) (may_lease w.phase) both in
    losing_same (losses_of past) (losses_of (past ++ e ∷ [])) _ _ (λ n. push_kept past e n refl)
    (same_step (losses_of past) s.works s.flights.started (lane - 1) _ (there l s e a) h refl
    (told_phase (losses_of past) w.phase (leased w.phase link s.links.idle) w.own (lease_told w.phase link s.links.idle may) (h.each (lane - 1)).own))
IsLosing-next l past s (Give lane flight link ran runs calls) h a =
    let e : Entry = Give lane flight link ran runs calls in
    let w : Work = work_of s lane in
    losing_same (losses_of past) (losses_of (past ++ e ∷ [])) _ _ (λ n. push_kept past e n refl)
    (same_step (losses_of past) s.works s.flights.started (lane - 1) _ (there l s e a) h refl
    (told_phase (losses_of past) w.phase (Given ran) w.own (λ n t. tt) (h.each (lane - 1)).own))
IsLosing-next l past s (Lose lane flight link dialled ran runs calls) h a =
    let e : Entry = Lose lane flight link dialled ran runs calls in
    let w : Work = work_of s lane in
    let may = allowed_may l s e a in
    let first = and_first (is_first w.own flight) (may_lose w.phase (flight_at s flight) link dialled ran runs calls) may in
    let leased = lose_leased w.phase (flight_at s flight) link dialled ran runs calls (and_second (is_first w.own flight) (may_lose w.phase (flight_at s flight) link dialled ran runs calls) may) in
    lose_losing (losses_of past) (losses_of (past ++ e ∷ [])) s.works s.flights.started (lane - 1) flight _ (there l s e a) h first leased refl refl
    (push_lost past e flight (eq-eqb flight flight refl)) (λ n ne. push_kept past e n (other_number flight n ne))
IsLosing-next l past s (Land lane flight cells clever literal) h a =
    let e : Entry = Land lane flight cells clever literal in
    losing_same (losses_of past) (losses_of (past ++ e ∷ [])) _ _ (λ n. push_kept past e n refl)
    (drop_step (losses_of past) s.works s.flights.started (lane - 1) _ (there l s e a) h refl refl)
IsLosing-next l past s (Fall lane flight cause) h a =
    let e : Entry = Fall lane flight cause in
    losing_same (losses_of past) (losses_of (past ++ e ∷ [])) _ _ (λ n. push_kept past e n refl)
    (drop_step (losses_of past) s.works s.flights.started (lane - 1) _ (there l s e a) h refl refl)
IsLosing-next l past s (Take lane flight next) h a =
    let e : Entry = Take lane flight next in
    losing_same (losses_of past) (losses_of (past ++ e ∷ [])) _ _ (λ n. push_kept past e n refl)
    (take_step (losses_of past) s lane flight next (there l s e a) (allowed_may l s e a) h)
IsLosing-next l past s (End lane) h a =
    let e : Entry = End lane in
    losing_same (losses_of past) (losses_of (past ++ e ∷ [])) _ _ (λ n. push_kept past e n refl)
    (same_step (losses_of past) s.works s.flights.started (lane - 1) _ (there l s e a) h refl (h.each (lane - 1)).own)

run_losing : (l : LoadedFiles) (past : List Entry) (s : State) (es : List Entry) → IsLosing (losses_of past) s.works s.flights.started → legal_from l s es ≡ true
    → IsLosing (losses_of (past ++ es)) (run l s es).works (run l s es).flights.started
run_losing l past s [] h legal = rw (append-nil past) h
run_losing l past s (e ∷ es) h legal =
    let one = IsLosing-next l past s e h (and_first (allowed l s e) (legal_from l (next l s e) es) legal) in
    let rest = run_losing l (past ++ e ∷ []) (next l s e) es one (and_second (allowed l s e) (legal_from l (next l s e) es) legal) in
    rw (← append_assoc past (e ∷ []) es) rest

pub IsLosing-after : (l : LoadedFiles) (journal : List Entry) → legal l journal ≡ true
    → IsLosing (losses_of journal) (after l journal).works (after l journal).flights.started
unfolding after legal
IsLosing-after l journal h = run_losing l [] (start l) journal (IsLosing-start l) h

pub losses_few : (l : LoadedFiles) (journal : List Entry) (flight : ℕ) → legal l journal ≡ true → losses_of journal flight ≤ 2
losses_few l journal flight h = (IsLosing-after l journal h).few flight

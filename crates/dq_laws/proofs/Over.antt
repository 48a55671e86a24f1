-- A flight that no lane brings any more is over.
use Rattle.std.proofs.Common.{◌≡◌, ◌≢◌, inl, inr, ℕ, ◌+◌, ◌-◌, ◌<◌, ◌≤◌, Bool, true, false, ◌&&◌, ◌||◌, eqb, List, [], ◌∷◌, ◌++◌, length, filter, get_or, slice_set, refl, ap, sym, ◌∙◌, arith, append-nil}
use Rattle.std.proofs.lemmas.Bool.Decides.{eqb_tells}
use Rattle.std.proofs.lemmas.List.{get_or-set_other, get_or-set_same}
use Rattle.std.proofs.lemmas.List.Elements.{filter-append}
use Rattle.std.proofs.lemmas.List.Folds.{list_any-append}
use Rattle.std.specs.List.{list_any}
use Rattle.std.specs.Prelude.{◌⊎◌, Option, Some, None, nat_eq}
use Rattle.dq_base.specs.Batches.{Group}
use Rattle.dq_extract.specs.Loads.{LoadedFiles}
use Rattle.dq_journal.specs.Journals.{lane_of}
use Rattle.dq_journal.specs.declared.entry.Cause.{Cause}
use Rattle.dq_journal.specs.declared.entry.Cause.TheVariants as cause
use Rattle.dq_journal.specs.declared.entry.Entry.{Entry}
use Rattle.dq_journal.specs.declared.entry.Entry.TheVariants.{Publish, Admit, Lease, Give, Lose, Land, Fall, Take, End}
use Rattle.dq_machine.proofs.Reached.{allowed_above, allowed_may, allowed_within, and_both, and_first, and_second}
use Rattle.dq_machine.specs.Admitting.{admission_of, numbers_from}
use Rattle.dq_machine.specs.Landing.{has_run, may_fall, may_land_at}
use Rattle.dq_machine.specs.Leasing.{is_next, may_give, may_lease, may_lose}
use Rattle.dq_machine.specs.Machine.{after, allowed, legal, legal_from, next, run, work_by}
use Rattle.dq_machine.specs.Owning.{falls_wanting, fate_by, loses, losses_of}
use Rattle.dq_machine.specs.State.{State, Work, flight_at, is_first, no_work, none_left, start, work_of}
use Rattle.dq_machine.specs.Taking.{is_first_join, takes_as}
use Rattle.dq_laws.specs.Settled.{IsOver, brings}
use Rattle.dq_laws.proofs.Losing.{drop_among, first_among, numbers_among}
use Rattle.dq_laws.proofs.Owned.{Among, next_of}
use Rattle.dq_laws.proofs.Owners.{any_among}

-- tests

pub or_none : (a b : Bool) → a ≡ false → b ≡ false → (a || b) ≡ false
or_none true b h k = cc
or_none false b h k = k

pub none_first : (a b : Bool) → (a || b) ≡ false → a ≡ false
none_first true b h = cc
none_first false b h = refl

pub none_second : (a b : Bool) → (a || b) ≡ false → b ≡ false
none_second true b h = cc
none_second false b h = h

or_left : (a b : Bool) → b ≡ false → (a || b) ≡ a
or_left true b h = refl
or_left false b h = h

-- the flight was started, and is no lane's own
record IsGone (flight : ℕ) (s : State) : Type 0 where
  started : flight ≤ s.flights.started
  left : (lane : ℕ) → Among flight (work_of s lane).own → ⊥

module _ (works : List Work) (i n : ℕ) (w : Work) (lt : i < length works) (here : Among n w.own → ⊥) where
  gone_at : (j : ℕ) → (Among n (get_or works j no_work).own → ⊥) → ((eqb i j ≡ true) × (i ≡ j)) ⊎ ((eqb i j ≡ false) × (i ≢ j))
      → Among n (get_or (slice_set works i w) j no_work).own → ⊥
  gone_at j there (inl (told, same)) a = let b = rw (← same, get_or-set_same works i w no_work lt) at a in here b
  gone_at j there (inr (told, apart)) a =
      let ne : j ≢ i = λ e. apart (sym e) in
      let b = rw (get_or-set_other works i j w no_work ne) at a in there b

there : (l : LoadedFiles) (s : State) (e : Entry) → allowed l s e ≡ true → lane_of e - 1 < length s.works
there l s e a = omega (arith, allowed_above l s e a, allowed_within l s e a)

-- after an entry

gone_step : (l : LoadedFiles) (flight : ℕ) (s : State) (e : Entry) → IsGone flight s → allowed l s e ≡ true → flight ≤ (next l s e).flights.started
    → (Among flight (work_by l s (work_of s (lane_of e)) e).own → ⊥) → IsGone flight (next l s e)
gone_step l flight s e h a more here = record {
  started = more;
  left = λ lane. gone_at s.works (lane_of e - 1) flight (work_by l s (work_of s (lane_of e)) e) (there l s e a) here (lane - 1) (h.left lane)
      (eqb_tells (lane_of e - 1) (lane - 1));
}

numbers_new : (flight started : ℕ) (gs : List Group) → flight ≤ started → Among flight (numbers_from (started + 1) gs) → ⊥
numbers_new flight started gs le a = let both = numbers_among (started + 1) flight gs a in absurd (omega (arith, both.0, le))

take_gone : (l : LoadedFiles) (flight : ℕ) (s : State) (lane taken : ℕ) (o : Option ℕ) → IsGone flight s → allowed l s (Take lane taken o) ≡ true
    → IsGone flight (next l s (Take lane taken o))
take_gone l flight s lane taken None h a = gone_step l flight s (Take lane taken None) h a h.started (h.left lane)
take_gone l flight s lane taken (Some number) h a =
    let w : Work = work_of s lane in
    let may = allowed_may l s (Take lane taken (Some number)) a in
    let is = next_of s.flights.started number (flight_at s taken) (and_second (none_left w.own && is_first_join w.joins taken) (takes_as s.flights.started (flight_at s taken) (Some number)) may) in
    let le = h.started in
    gone_step l flight s (Take lane taken (Some number)) h a (omega (arith, is, le)) (λ has. one_new number has (omega (arith, is, le)))
  where
    one_new : (number : ℕ) → Among flight (number ∷ []) → flight < number → ⊥
    one_new number (inl e) lt = absurd (omega (arith, e, lt))
    one_new number (inr a) lt = a

IsGone-next : (l : LoadedFiles) (flight : ℕ) (s : State) (e : Entry) → IsGone flight s → allowed l s e ≡ true → IsGone flight (next l s e)
IsGone-next l flight s (Publish lane number) h a = gone_step l flight s (Publish lane number) h a h.started (h.left lane)
IsGone-next l flight s (Admit lane number met) h a =
    let le = h.started in
    gone_step l flight s (Admit lane number met) h a (omega (arith, le)) (numbers_new flight s.flights.started (admission_of l s lane number).groups le)
IsGone-next l flight s (Lease lane f link fresh) h a = gone_step l flight s (Lease lane f link fresh) h a h.started (h.left lane)
IsGone-next l flight s (Give lane f link ran runs calls) h a = gone_step l flight s (Give lane f link ran runs calls) h a h.started (h.left lane)
IsGone-next l flight s (Lose lane f link dialled ran runs calls) h a = gone_step l flight s (Lose lane f link dialled ran runs calls) h a h.started (h.left lane)
IsGone-next l flight s (Land lane f cells clever literal) h a =
    gone_step l flight s (Land lane f cells clever literal) h a h.started (λ has. h.left lane (drop_among (work_of s lane).own flight has))
IsGone-next l flight s (Fall lane f cause) h a =
    gone_step l flight s (Fall lane f cause) h a h.started (λ has. h.left lane (drop_among (work_of s lane).own flight has))
IsGone-next l flight s (Take lane f next) h a = take_gone l flight s lane f next h a
IsGone-next l flight s (End lane) h a = gone_step l flight s (End lane) h a h.started (h.left lane)

-- the entry names another flight

other_by : (own : List ℕ) (f flight : ℕ) → is_first own f ≡ true → (Among flight own → ⊥) → ((eqb f flight ≡ true) × (f ≡ flight)) ⊎ ((eqb f flight ≡ false) × (f ≢ flight))
    → nat_eq f flight ≡ false
other_by own f flight first gone (inl (told, same)) = let a = first_among own f first in absurd (gone (rw same at a))
other_by own f flight first gone (inr (told, apart)) = told

other : (own : List ℕ) (f flight : ℕ) → is_first own f ≡ true → (Among flight own → ⊥) → nat_eq f flight ≡ false
other own f flight first gone = other_by own f flight first gone (eqb_tells f flight)

not_brought : (l : LoadedFiles) (flight : ℕ) (s : State) (e : Entry) → IsGone flight s → allowed l s e ≡ true → brings flight e ≡ false
not_brought l flight s (Publish lane number) h a = refl
not_brought l flight s (Admit lane number met) h a = refl
not_brought l flight s (Lease lane f link fresh) h a =
    let w : Work = work_of s lane in
    let both = and_first (is_first w.own f && may_lease w.phase) (is_next s.links.idle s.links.fresh link fresh) (allowed_may l s (Lease lane f link fresh) a) in
    other w.own f flight (and_first (is_first w.own f) (may_lease w.phase) both) (h.left lane)
not_brought l flight s (Give lane f link ran runs calls) h a =
    let w : Work = work_of s lane in
    other w.own f flight (and_first (is_first w.own f) (may_give w.phase (flight_at s f) link ran runs calls) (allowed_may l s (Give lane f link ran runs calls) a)) (h.left lane)
not_brought l flight s (Lose lane f link dialled ran runs calls) h a =
    let w : Work = work_of s lane in
    other w.own f flight (and_first (is_first w.own f) (may_lose w.phase (flight_at s f) link dialled ran runs calls) (allowed_may l s (Lose lane f link dialled ran runs calls) a)) (h.left lane)
not_brought l flight s (Land lane f cells clever literal) h a =
    let w : Work = work_of s lane in
    let both = and_first (is_first w.own f && has_run w.phase) (may_land_at l s.versions (flight_at s f) cells clever literal) (allowed_may l s (Land lane f cells clever literal) a) in
    other w.own f flight (and_first (is_first w.own f) (has_run w.phase) both) (h.left lane)
not_brought l flight s (Fall lane f cause) h a =
    let w : Work = work_of s lane in
    other w.own f flight (and_first (is_first w.own f) (may_fall w.phase cause) (allowed_may l s (Fall lane f cause) a)) (h.left lane)
not_brought l flight s (Take lane f next) h a = refl
not_brought l flight s (End lane) h a = refl

-- journals

none_brought : (l : LoadedFiles) (flight : ℕ) (s : State) (es : List Entry) → IsGone flight s → legal_from l s es ≡ true → list_any (brings flight) es ≡ false
none_brought l flight s [] h legal = refl
none_brought l flight s (e ∷ es) h legal =
    let may = and_first (allowed l s e) (legal_from l (next l s e) es) legal in
    or_none (brings flight e) (list_any (brings flight) es) (not_brought l flight s e h may)
    (none_brought l flight (next l s e) es (IsGone-next l flight s e h may) (and_second (allowed l s e) (legal_from l (next l s e) es) legal))

pub legal_behind : (l : LoadedFiles) (s : State) (es fs : List Entry) → legal_from l s (es ++ fs) ≡ true → legal_from l (run l s es) fs ≡ true
legal_behind l s [] fs legal = legal
legal_behind l s (e ∷ es) fs legal = legal_behind l (next l s e) es fs (and_second (allowed l s e) (legal_from l (next l s e) (es ++ fs)) legal)

pub legal_before : (l : LoadedFiles) (s : State) (es fs : List Entry) → legal_from l s (es ++ fs) ≡ true → legal_from l s es ≡ true
legal_before l s [] fs legal = refl
legal_before l s (e ∷ es) fs legal =
    and_both (allowed l s e) (legal_from l (next l s e) es) (and_first (allowed l s e) (legal_from l (next l s e) (es ++ fs)) legal)
    (legal_before l (next l s e) es fs (and_second (allowed l s e) (legal_from l (next l s e) (es ++ fs)) legal))

gone : (s : State) (flight : ℕ) → IsOver s flight → IsGone flight s
gone s flight o = record {
  started = o.started;
  left = λ lane a. let yes = any_among (work_of s lane).own flight a in let no = o.left lane in let none : ⊥ = cc in none;
}

pub over : (l : LoadedFiles) (journal more : List Entry) (flight : ℕ) → legal l (journal ++ more) ≡ true → IsOver (after l journal) flight → list_any (brings flight) more ≡ false
unfolding after legal
over l journal more flight legal o =
    none_brought l flight (run l (start l) journal) more (gone (run l (start l) journal) flight o) (legal_behind l (start l) journal more legal)

-- what became of it

not_lost : (flight : ℕ) (e : Entry) → brings flight e ≡ false → loses flight e ≡ false
not_lost flight (Publish lane number) h = refl
not_lost flight (Admit lane number met) h = refl
not_lost flight (Lease lane f link fresh) h = refl
not_lost flight (Give lane f link ran runs calls) h = refl
not_lost flight (Lose lane f link dialled ran runs calls) h = h
not_lost flight (Land lane f cells clever literal) h = refl
not_lost flight (Fall lane f cause) h = refl
not_lost flight (Take lane f next) h = refl
not_lost flight (End lane) h = refl

not_wanting : (flight f lane : ℕ) (c : Cause) → nat_eq f flight ≡ false → falls_wanting flight (Fall lane f c) ≡ false
not_wanting flight f lane cause.BackEnd h = refl
not_wanting flight f lane cause.Memory h = h

not_fallen : (flight : ℕ) (e : Entry) → brings flight e ≡ false → falls_wanting flight e ≡ false
not_fallen flight (Publish lane number) h = refl
not_fallen flight (Admit lane number met) h = refl
not_fallen flight (Lease lane f link fresh) h = refl
not_fallen flight (Give lane f link ran runs calls) h = refl
not_fallen flight (Lose lane f link dialled ran runs calls) h = refl
not_fallen flight (Land lane f cells clever literal) h = refl
not_fallen flight (Fall lane f c) h = not_wanting flight f lane c h
not_fallen flight (Take lane f next) h = refl
not_fallen flight (End lane) h = refl

none_lost : (flight : ℕ) (es : List Entry) → list_any (brings flight) es ≡ false → filter (loses flight) es ≡ []
none_lost flight [] h = refl
none_lost flight (e ∷ es) h =
    rw (not_lost flight e (none_first (brings flight e) (list_any (brings flight) es) h)) (none_lost flight es (none_second (brings flight e) (list_any (brings flight) es) h))

none_fallen : (flight : ℕ) (es : List Entry) → list_any (brings flight) es ≡ false → list_any (falls_wanting flight) es ≡ false
none_fallen flight [] h = refl
none_fallen flight (e ∷ es) h =
    or_none (falls_wanting flight e) (list_any (falls_wanting flight) es) (not_fallen flight e (none_first (brings flight e) (list_any (brings flight) es) h))
    (none_fallen flight es (none_second (brings flight e) (list_any (brings flight) es) h))

module _ (l : LoadedFiles) (journal more : List Entry) (flight : ℕ) (lawful : legal l (journal ++ more) ≡ true) (o : IsOver (after l journal) flight) where
  pub losses_stay : losses_of (journal ++ more) flight ≡ losses_of journal flight
  losses_stay =
      let none = none_lost flight more (over l journal more flight lawful o) in
      ap length (filter-append (loses flight) journal more) ∙ ap (λ es. length (filter (loses flight) journal ++ es)) none ∙ ap length (append-nil (filter (loses flight) journal))

  pub falls_stay : list_any (falls_wanting flight) (journal ++ more) ≡ list_any (falls_wanting flight) journal
  falls_stay =
      list_any-append (falls_wanting flight) journal more
      ∙ or_left (list_any (falls_wanting flight) journal) (list_any (falls_wanting flight) more) (none_fallen flight more (over l journal more flight lawful o))

  pub fate_stays : fate_by (losses_of (journal ++ more) flight) (list_any (falls_wanting flight) (journal ++ more))
      ≡ fate_by (losses_of journal flight) (list_any (falls_wanting flight) journal)
  fate_stays = rw (losses_stay, falls_stay) refl

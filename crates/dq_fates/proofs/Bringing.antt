-- Who brings a flight, before and after a journal's last entry.
use Rattle.std.proofs.Common.{◌≡◌, ◌≢◌, inl, inr, ℕ, ◌+◌, ◌-◌, ◌<◌, ◌≤◌, Bool, true, false, ◌&&◌, eqb, List, [], ◌∷◌, ◌++◌, length, get_or, slice_set, refl, ap, sym, ◌∙◌, arith, append_assoc, append-nil}
use Rattle.std.proofs.lemmas.Bool.{eqb-true}
use Rattle.std.proofs.lemmas.Bool.Decides.{eqb_tells}
use Rattle.std.proofs.lemmas.List.{get_or-set_other, get_or-set_same}
use Rattle.std.proofs.lemmas.List.Elements.{filter-append}
use Rattle.std.proofs.lemmas.List.Folds.{list_any-append}
use Rattle.std.specs.List.{list_any}
use Rattle.std.specs.Prelude.{◌⊎◌, Some, None, filter, nat_eq}
use Rattle.dq_extract.specs.Loads.{LoadedFiles}
use Rattle.dq_journal.specs.Journals.{lane_of}
use Rattle.dq_journal.specs.declared.entry.Cause.{Cause}
use Rattle.dq_journal.specs.declared.entry.Cause.TheVariants as cause
use Rattle.dq_journal.specs.declared.entry.Entry.{Entry}
use Rattle.dq_journal.specs.declared.entry.Entry.TheVariants.{Publish, Admit, Lease, Give, Lose, Land, Fall, Take, End}
use Rattle.dq_laws.specs.Settled.{brings}
use Rattle.dq_laws.proofs.Losing.{IsLosing, IsLosing-after, drop_among, first_among, numbers_among}
use Rattle.dq_laws.proofs.Over.{legal_before, or_none}
use Rattle.dq_laws.proofs.Owned.{Among, next_of}
use Rattle.dq_laws.proofs.Pushed.{IsPushed, pushed}
use Rattle.dq_machine.proofs.Reached.{allowed_above, allowed_may, allowed_within, and_first, and_second}
use Rattle.dq_machine.specs.Admitting.{admission_of}
use Rattle.dq_machine.specs.Landing.{has_run, may_fall, may_land_at}
use Rattle.dq_machine.specs.Leasing.{is_next, may_give, may_lease, may_lose}
use Rattle.dq_machine.specs.Machine.{after, allowed, legal, next, work_by}
use Rattle.dq_machine.specs.Owning.{falls_wanting, loses, losses_of}
use Rattle.dq_machine.specs.State.{State, Work, flight_at, is_first, no_work, none_left, start, work_of}
use Rattle.dq_machine.specs.Taking.{is_first_join, takes_as}

-- journals by their last entries

pub legal_first : (l : LoadedFiles) (journal more : List Entry) → legal l (journal ++ more) ≡ true → legal l journal ≡ true
unfolding legal
legal_first l journal more lawful = legal_before l (start l) journal more lawful

-- what each entry that may come keeps
module _ (l : LoadedFiles) (P : List Entry → Type 0) (keeps : (past : List Entry) (e : Entry) → IsPushed l past e → P past → P (past ++ e ∷ [])) where
  pub more_keeps : (past more : List Entry) → legal l (past ++ more) ≡ true → P past → P (past ++ more)
  more_keeps past [] lawful h = rw (append-nil past) h
  more_keeps past (e ∷ more) lawful h =
      let longer : legal l ((past ++ e ∷ []) ++ more) ≡ true = rw (append_assoc past (e ∷ []) more) lawful in
      let one = pushed l past e (legal_first l (past ++ e ∷ []) more longer) in
      rw (← append_assoc past (e ∷ []) more) (more_keeps (past ++ e ∷ []) more longer (keeps past e one h))

  pub journal_keeps : P [] → (journal : List Entry) → legal l journal ≡ true → P journal
  journal_keeps first journal lawful = more_keeps [] journal lawful first

-- works by lanes, of which one changes
module _ (P : ℕ → Work → Type 0) (works : List Work) (i : ℕ) (w : Work) (lt : i < length works) (here : P i w)
    (others : (j : ℕ) → i ≢ j → P j (get_or works j no_work)) where
  set_by : (j : ℕ) → ((eqb i j ≡ true) × (i ≡ j)) ⊎ ((eqb i j ≡ false) × (i ≢ j)) → P j (get_or (slice_set works i w) j no_work)
  set_by j (inl (told, same)) = rw (← same, get_or-set_same works i w no_work lt) here
  set_by j (inr (told, apart)) = let ne : j ≢ i = λ e. apart (sym e) in rw (get_or-set_other works i j w no_work ne) (others j apart)

  pub set_keeps : (j : ℕ) → P j (get_or (slice_set works i w) j no_work)
  set_keeps j = set_by j (eqb_tells i j)

pub there : (l : LoadedFiles) (s : State) (e : Entry) → allowed l s e ≡ true → lane_of e - 1 < length s.works
there l s e a = omega (arith, allowed_above l s e a, allowed_within l s e a)

-- an entry that names a flight is of the lane that has it first

first_same : (own : List ℕ) (f n : ℕ) → is_first own f ≡ true → nat_eq f n ≡ true → is_first own n ≡ true
first_same own f n first same = rw (← eqb-true f n same) first

brings_first : (l : LoadedFiles) (s : State) (e : Entry) (n : ℕ) → allowed l s e ≡ true → brings n e ≡ true → is_first (work_of s (lane_of e)).own n ≡ true
brings_first l s (Publish lane number) n a b = cc
brings_first l s (Admit lane number met) n a b = cc
brings_first l s (Lease lane f link fresh) n a b =
    let w : Work = work_of s lane in
    let both = and_first (is_first w.own f && may_lease w.phase) (is_next s.links.idle s.links.fresh link fresh) (allowed_may l s (Lease lane f link fresh) a) in
    first_same w.own f n (and_first (is_first w.own f) (may_lease w.phase) both) b
brings_first l s (Give lane f link ran runs calls) n a b =
    let w : Work = work_of s lane in
    first_same w.own f n (and_first (is_first w.own f) (may_give w.phase (flight_at s f) link ran runs calls) (allowed_may l s (Give lane f link ran runs calls) a)) b
brings_first l s (Lose lane f link dialled ran runs calls) n a b =
    let w : Work = work_of s lane in
    first_same w.own f n (and_first (is_first w.own f) (may_lose w.phase (flight_at s f) link dialled ran runs calls) (allowed_may l s (Lose lane f link dialled ran runs calls) a)) b
brings_first l s (Land lane f cells clever literal) n a b =
    let w : Work = work_of s lane in
    let both = and_first (is_first w.own f && has_run w.phase) (may_land_at l s.versions (flight_at s f) cells clever literal) (allowed_may l s (Land lane f cells clever literal) a) in
    first_same w.own f n (and_first (is_first w.own f) (has_run w.phase) both) b
brings_first l s (Fall lane f cause) n a b =
    let w : Work = work_of s lane in
    first_same w.own f n (and_first (is_first w.own f) (may_fall w.phase cause) (allowed_may l s (Fall lane f cause) a)) b
brings_first l s (Take lane f next) n a b = cc
brings_first l s (End lane) n a b = cc

-- the own flights after it

one_own : (started number n : ℕ) (own : List ℕ) → number ≡ started + 1 → Among n (number ∷ []) → Among n own ⊎ ((started < n) × (n ≤ number))
one_own started number n own is (inl e) = inr (omega (arith, is, e), omega (arith, e))
one_own started number n own is (inr a) = absurd a

next_number : (l : LoadedFiles) (s : State) (lane f number : ℕ) → allowed l s (Take lane f (Some number)) ≡ true → number ≡ s.flights.started + 1
next_number l s lane f number a =
    let w : Work = work_of s lane in
    let may = allowed_may l s (Take lane f (Some number)) a in
    next_of s.flights.started number (flight_at s f) (and_second (none_left w.own && is_first_join w.joins f) (takes_as s.flights.started (flight_at s f) (Some number)) may)

pub started_grows : (l : LoadedFiles) (s : State) (e : Entry) → allowed l s e ≡ true → s.flights.started ≤ (next l s e).flights.started
started_grows l s (Publish lane number) a = omega arith
started_grows l s (Admit lane number met) a = omega arith
started_grows l s (Lease lane f link fresh) a = omega arith
started_grows l s (Give lane f link ran runs calls) a = omega arith
started_grows l s (Lose lane f link dialled ran runs calls) a = omega arith
started_grows l s (Land lane f cells clever literal) a = omega arith
started_grows l s (Fall lane f cause) a = omega arith
started_grows l s (Take lane f None) a = omega arith
started_grows l s (Take lane f (Some number)) a = omega (arith, next_number l s lane f number a)
started_grows l s (End lane) a = omega arith

-- each was an own one before, or is started by it
pub own_comes : (l : LoadedFiles) (s : State) (e : Entry) (n : ℕ) → allowed l s e ≡ true → Among n (work_by l s (work_of s (lane_of e)) e).own
    → Among n (work_of s (lane_of e)).own ⊎ ((s.flights.started < n) × (n ≤ (next l s e).flights.started))
own_comes l s (Publish lane number) n a has = inl has
own_comes l s (Admit lane number met) n a has =
    let both = numbers_among (s.flights.started + 1) n (admission_of l s lane number).groups has in inr (omega (arith, both.0), omega (arith, both.1))
own_comes l s (Lease lane f link fresh) n a has = inl has
own_comes l s (Give lane f link ran runs calls) n a has = inl has
own_comes l s (Lose lane f link dialled ran runs calls) n a has = inl has
own_comes l s (Land lane f cells clever literal) n a has = inl (drop_among (work_of s lane).own n has)
own_comes l s (Fall lane f cause) n a has = inl (drop_among (work_of s lane).own n has)
own_comes l s (Take lane f None) n a has = inl has
own_comes l s (Take lane f (Some number)) n a has = one_own s.flights.started number n (work_of s lane).own (next_number l s lane f number a) has
own_comes l s (End lane) n a has = inl has

-- it names no flight of another lane, and none that wasn't started
module _ (l : LoadedFiles) (past : List Entry) (e : Entry) (p : IsPushed l past e) where
  losing : IsLosing (losses_of past) (after l past).works (after l past).flights.started
  losing = IsLosing-after l past p.legal

  silent_by : (n : ℕ) (b : Bool) → brings n e ≡ b → (Among n (work_of (after l past) (lane_of e)).own → ⊥) → brings n e ≡ false
  silent_by n true is never = absurd (never (first_among (work_of (after l past) (lane_of e)).own n (brings_first l (after l past) e n p.allowed is)))
  silent_by n false is never = is

  pub others_silent : (j n : ℕ) → lane_of e - 1 ≢ j → Among n (get_or (after l past).works j no_work).own → brings n e ≡ false
  others_silent j n ne has = silent_by n (brings n e) refl (λ mine. losing.others.apart (lane_of e - 1) j n ne mine has)

  pub later_silent : (n : ℕ) → (after l past).flights.started < n → brings n e ≡ false
  later_silent n lt = silent_by n (brings n e) refl (λ mine. let begun = losing.others.begun (lane_of e - 1) n mine in absurd (omega (arith, begun, lt)))

-- counts and falls

pub not_lost : (flight : ℕ) (e : Entry) → brings flight e ≡ false → loses flight e ≡ false
not_lost flight (Publish lane number) h = refl
not_lost flight (Admit lane number met) h = refl
not_lost flight (Lease lane f link fresh) h = refl
not_lost flight (Give lane f link ran runs calls) h = refl
not_lost flight (Lose lane f link dialled ran runs calls) h = h
not_lost flight (Land lane f cells clever literal) h = refl
not_lost flight (Fall lane f cause) h = refl
not_lost flight (Take lane f next) h = refl
not_lost flight (End lane) h = refl

pub not_wanting : (flight f lane : ℕ) (c : Cause) → nat_eq f flight ≡ false → falls_wanting flight (Fall lane f c) ≡ false
not_wanting flight f lane cause.BackEnd h = refl
not_wanting flight f lane cause.Memory h = h

pub not_fallen : (flight : ℕ) (e : Entry) → brings flight e ≡ false → falls_wanting flight e ≡ false
not_fallen flight (Publish lane number) h = refl
not_fallen flight (Admit lane number met) h = refl
not_fallen flight (Lease lane f link fresh) h = refl
not_fallen flight (Give lane f link ran runs calls) h = refl
not_fallen flight (Lose lane f link dialled ran runs calls) h = refl
not_fallen flight (Land lane f cells clever literal) h = refl
not_fallen flight (Fall lane f c) h = not_wanting flight f lane c h
not_fallen flight (Take lane f next) h = refl
not_fallen flight (End lane) h = refl

pub losses_kept : (past : List Entry) (e : Entry) (flight : ℕ) → loses flight e ≡ false → losses_of (past ++ e ∷ []) flight ≡ losses_of past flight
losses_kept past e flight told =
    let none : filter (loses flight) (e ∷ []) ≡ [] = rw told refl in
    ap length (filter-append (loses flight) past (e ∷ [])) ∙ ap (λ es. length (filter (loses flight) past ++ es)) none ∙ ap length (append-nil (filter (loses flight) past))

pub fell_kept : (past : List Entry) (e : Entry) (flight : ℕ) → falls_wanting flight e ≡ false → list_any (falls_wanting flight) past ≡ false
    → list_any (falls_wanting flight) (past ++ e ∷ []) ≡ false
fell_kept past e flight told old =
    list_any-append (falls_wanting flight) past (e ∷ [])
    ∙ or_none (list_any (falls_wanting flight) past) (list_any (falls_wanting flight) (e ∷ [])) old (or_none (falls_wanting flight e) false told refl)

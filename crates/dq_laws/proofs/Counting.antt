-- Links, runs and calls are few: each entry brings few.
use Rattle.std.proofs.Common.{◌≡◌, ◌≢◌, inl, inr, ℕ, zero, suc, ◌+◌, ◌-◌, ◌<◌, ◌≤◌, Bool, true, false, ◌&&◌, cond, eqb, List, [], ◌∷◌, length, get_or, slice_set, replicate, find, refl, sym, arith}
use Rattle.std.proofs.lemmas.Bool.{eqb-true, leb-true}
use Rattle.std.proofs.lemmas.Bool.Decides.{eqb_tells}
use Rattle.std.proofs.lemmas.List.{get_or-set_other, get_or-set_same}
use Rattle.std.specs.Prelude.{◌⊎◌, Option, Some, None, nat_eq, nat_le}
use Rattle.dq_base.specs.declared.script.Step.{Step}
use Rattle.dq_base.specs.declared.script.Step.TheVariants as step
use Rattle.dq_base.specs.Scripts.{step_of}
use Rattle.dq_extract.specs.Loads.{LoadedFiles, segment_of}
use Rattle.dq_journal.specs.Journals.{lane_of}
use Rattle.dq_journal.specs.Standing.{Rows, version_rows}
use Rattle.dq_journal.specs.declared.entry.Entry.{Entry}
use Rattle.dq_journal.specs.declared.entry.Entry.TheVariants.{Publish, Admit, Lease, Give, Lose, Land, Fall, Take, End}
use Rattle.dq_link.proofs.Growing.{readying_few}
use Rattle.dq_link.specs.Mirrors.{readying_count}
use Rattle.dq_machine.proofs.Reached.{allowed_above, allowed_may, allowed_within, and_first, and_second}
use Rattle.dq_machine.specs.Leasing.{Reach, exactly, fresh_link, given_as, is_next, leased, link_given, links_given, links_leased, lost, may_give, may_lease, ran_as, reach, unran_as}
use Rattle.dq_machine.specs.Machine.{after, allowed, legal, legal_from, next, run}
use Rattle.dq_machine.specs.Publishing.{versions_after, versions_published}
use Rattle.dq_machine.specs.State.{Flown, LinkOf, Links, Phase, New, Leased, Given, Publication, State, Work, flight_at, is_first, is_numbered, no_work, start, work_of}
use Rattle.dq_machine.specs.Taking.{work_taken}
use Rattle.dq_laws.specs.Counts.{AreCounted, IsCounted, IsCountedOut}
use Rattle.dq_laws.proofs.Briefs.{AreBrief, AreBrief-next, AreBrief-start}
use Rattle.dq_laws.proofs.Each.{Each, all_each, each-found, each-weaker}

pub record IsCounting (n : ℕ) (published : List Publication) (links : Links) (works : List Work) : Type 0 where
  pub versions : length published ≤ n
  pub fresh : links.fresh ≤ n
  pub idle : Each (IsCounted n links.fresh) links.idle
  pub out : (i : ℕ) → IsCountedOut n links.fresh (get_or works i no_work).phase

-- at first

none_out : (n fresh k i : ℕ) → IsCountedOut n fresh (get_or (replicate k no_work) i no_work).phase
none_out n fresh zero zero = tt
none_out n fresh zero (suc i) = tt
none_out n fresh (suc k) zero = tt
none_out n fresh (suc k) (suc i) = none_out n fresh k i

IsCounting-start : (l : LoadedFiles) → IsCounting 0 (start l).versions (start l).links (start l).works
IsCounting-start l = record { versions = omega arith; fresh = omega arith; idle = tt; out = none_out 0 0 (length l.script.lanes) }

-- more entries, and more links

counted_more : (n m fresh fresh' : ℕ) → n ≤ m → fresh ≤ fresh' → (k : LinkOf) → IsCounted n fresh k → IsCounted m fresh' k
counted_more n m fresh fresh' le more k h =
    record { above = h.above; within = omega (arith, h.within, more); runs = omega (arith, h.runs, le); calls = omega (arith, h.calls, le) }

out_more : (n m fresh fresh' : ℕ) (p : Phase) → n ≤ m → fresh ≤ fresh' → IsCountedOut n fresh p → IsCountedOut m fresh' p
out_more n m fresh fresh' (New losses) le more h = tt
out_more n m fresh fresh' (Leased losses new k) le more h = counted_more n m fresh fresh' le more k h
out_more n m fresh fresh' (Given ran) le more h = tt

counting_more : (n m : ℕ) (versions : List Publication) (links : Links) (works : List Work) → n ≤ m → IsCounting n versions links works → IsCounting m versions links works
counting_more n m versions links works le h = record {
  versions = omega (arith, h.versions, le);
  fresh = omega (arith, h.fresh, le);
  idle = each-weaker (IsCounted n links.fresh) (IsCounted m links.fresh) (counted_more n m links.fresh links.fresh le (omega arith)) links.idle h.idle;
  out = λ i. out_more n m links.fresh links.fresh (get_or works i no_work).phase le (omega arith) (h.out i);
}

-- a lane's work changes

one_out : (n fresh : ℕ) (works : List Work) (i j : ℕ) (w : Work) → i < length works → IsCountedOut n fresh w.phase → IsCountedOut n fresh (get_or works j no_work).phase
    → ((eqb i j ≡ true) × (i ≡ j)) ⊎ ((eqb i j ≡ false) × (i ≢ j)) → IsCountedOut n fresh (get_or (slice_set works i w) j no_work).phase
one_out n fresh works i j w lt here there (inl (told, same)) = rw (← same, get_or-set_same works i w no_work lt) here
one_out n fresh works i j w lt here there (inr (told, apart)) = let ne : j ≢ i = λ e. apart (sym e) in rw (get_or-set_other works i j w no_work ne) there

-- with one entry more
counting_step : (n : ℕ) (versions versions' : List Publication) (links links' : Links) (works : List Work) (i : ℕ) (w : Work) → i < length works
    → length versions' ≤ length versions + 1 → links.fresh ≤ links'.fresh → links'.fresh ≤ n + 1
    → Each (IsCounted (n + 1) links'.fresh) links'.idle → IsCountedOut (n + 1) links'.fresh w.phase
    → IsCounting n versions links works → IsCounting (n + 1) versions' links' (slice_set works i w)
counting_step n versions versions' links links' works i w lt few more fresh idle here h = record {
  versions = omega (arith, h.versions, few);
  fresh = fresh;
  idle = idle;
  out = λ j. one_out (n + 1) links'.fresh works i j w lt here
      (out_more n (n + 1) links.fresh links'.fresh (get_or works j no_work).phase (omega arith) more (h.out j)) (eqb_tells i j);
}

-- the links that nobody uses stay
counting_kept : (n : ℕ) (versions versions' : List Publication) (links : Links) (works : List Work) (i : ℕ) (w : Work) → i < length works
    → length versions' ≤ length versions + 1 → IsCountedOut (n + 1) links.fresh w.phase → IsCounting n versions links works → IsCounting (n + 1) versions' links (slice_set works i w)
counting_kept n versions versions' links works i w lt few here h =
    let more : IsCounting (n + 1) versions links works = counting_more n (n + 1) versions links works (omega arith) h in
    counting_step n versions versions' links links works i w lt few (omega arith) more.fresh more.idle here h

-- a publication

publish_few : (versions : List Publication) (new : Rows) (o : Option Step) → length (versions_after versions new o) ≤ length versions + 1
publish_few versions new None = omega arith
publish_few versions new (Some (step.Batch zones)) = omega arith
publish_few versions new (Some (step.Publish source how file)) = omega arith

-- a lease

fresh_counted : (n fresh link : ℕ) → link ≡ fresh + 1 → IsCounted n (fresh + 1) (fresh_link link)
fresh_counted n fresh link is = record { above = omega (arith, is); within = omega (arith, is); runs = omega arith; calls = omega arith }

fresh_number : (fresh : ℕ) (link : ℕ) (new : Bool) → (new && nat_eq link (fresh + 1)) ≡ true → link ≡ fresh + 1
fresh_number fresh link new h = eqb-true link (fresh + 1) (and_second new (nat_eq link (fresh + 1)) h)

lease_out : (n fresh : ℕ) (p : Phase) (link : ℕ) → may_lease p ≡ true → link ≡ fresh + 1 → IsCountedOut n (fresh + 1) (leased p link [])
lease_out n fresh (New losses) link may is = fresh_counted n fresh link is
lease_out n fresh (Leased losses new k) link may is = let no : ⊥ = cc in absurd no
lease_out n fresh (Given ran) link may is = let no : ⊥ = cc in absurd no

again_out : (n fresh : ℕ) (p : Phase) (link : ℕ) (k : LinkOf) (idle : List LinkOf) → may_lease p ≡ true → IsCounted n fresh k → IsCountedOut n fresh (leased p link (k ∷ idle))
again_out n fresh (New losses) link k idle may h = h
again_out n fresh (Leased losses new j) link k idle may h = let no : ⊥ = cc in absurd no
again_out n fresh (Given ran) link k idle may h = let no : ⊥ = cc in absurd no

lease_counting : (n : ℕ) (versions : List Publication) (fresh : ℕ) (idle : List LinkOf) (works : List Work) (i link : ℕ) (new : Bool) → i < length works
    → may_lease (get_or works i no_work).phase ≡ true → is_next idle fresh link new ≡ true
    → IsCounting n versions (record { idle = idle; fresh = fresh }) works
    → IsCounting (n + 1) versions (links_leased (record { idle = idle; fresh = fresh }))
    (slice_set works i (record (get_or works i no_work) { phase = leased (get_or works i no_work).phase link idle }))
lease_counting n versions fresh [] works i link new lt may is h =
    counting_step n versions versions (record { idle = []; fresh = fresh }) (record { idle = []; fresh = fresh + 1 }) works i _ lt (omega arith) (omega arith) (omega (arith, h.fresh)) tt
    (lease_out (n + 1) fresh (get_or works i no_work).phase link may (fresh_number fresh link new is)) h
lease_counting n versions fresh (k ∷ idle) works i link new lt may is h =
    let more : IsCounting (n + 1) versions (record { idle = k ∷ idle; fresh = fresh }) works = counting_more n (n + 1) versions (record { idle = k ∷ idle; fresh = fresh }) works (omega arith) h in
    counting_step n versions versions (record { idle = k ∷ idle; fresh = fresh }) (record { idle = idle; fresh = fresh }) works i _ lt (omega arith) (omega arith) more.fresh more.idle.1
    (again_out (n + 1) fresh (get_or works i no_work).phase link k idle may more.idle.0) h

-- a gift

high_either : (b : Bool) (r q : Reach) → r.high ≤ 33 → q.high ≤ 33 → (cond b r q).high ≤ 33
high_either true r q here elsewhere = here
high_either false r q here elsewhere = elsewhere

reach_few : (k : LinkOf) (number : ℕ) (flown : List Flown) (o : Option Flown) → find (is_numbered number) flown ≡ o → Each (λ (f : Flown). length f.key.filters ≤ 16) flown
    → (reach k o).high ≤ 33
reach_few k number flown None at h = omega arith
reach_few k number flown (Some f) at h =
    high_either k.sure (exactly (readying_count k.mirror f.stamp f.key)) (record { low = 0; high = 33 })
    (readying_few k.mirror f.stamp f.key (each-found (λ (f : Flown). length f.key.filters ≤ 16) (is_numbered number) flown f at h)) (omega arith)

ran_few : (ran called : ℕ) (r : Reach) (runs calls : ℕ) → ran_as ran called r runs calls ≡ true → (runs ≡ ran + 1) × (calls ≤ called + r.high + 1)
ran_few ran called r runs calls h =
    let both = and_second (nat_eq runs (ran + 1)) (nat_le (called + r.low + 1) calls && nat_le calls (called + r.high + 1)) h in (
      eqb-true runs (ran + 1) (and_first (nat_eq runs (ran + 1)) (nat_le (called + r.low + 1) calls && nat_le calls (called + r.high + 1)) h),
      leb-true calls (called + r.high + 1) (and_second (nat_le (called + r.low + 1) calls) (nat_le calls (called + r.high + 1)) both),
    )

unran_few : (least ran called : ℕ) (r : Reach) (runs calls : ℕ) → unran_as least ran called r runs calls ≡ true → (runs ≡ ran) × (calls ≤ called + r.high)
unran_few least ran called r runs calls h =
    let both = and_second (nat_eq runs ran) (nat_le (called + least) calls && nat_le calls (called + r.high)) h in (
      eqb-true runs ran (and_first (nat_eq runs ran) (nat_le (called + least) calls && nat_le calls (called + r.high)) h),
      leb-true calls (called + r.high) (and_second (nat_le (called + least) calls) (nat_le calls (called + r.high)) both),
    )

given_counted : (n fresh : ℕ) (k : LinkOf) (o : Option Flown) (ran : Bool) (runs calls : ℕ) → given_as ran k (reach k o) runs calls ≡ true → (reach k o).high ≤ 33
    → IsCounted n fresh k → IsCounted (n + 1) fresh (link_given k o ran runs calls)
given_counted n fresh k o true runs calls given few h =
    let both = ran_few k.runs k.calls (reach k o) runs calls given in
    record { above = h.above; within = h.within; runs = omega (arith, h.runs, both.0); calls = omega (arith, h.calls, both.1, few) }
given_counted n fresh k o false runs calls given few h =
    let both = unran_few 0 k.runs k.calls (reach k o) runs calls given in
    record { above = h.above; within = h.within; runs = omega (arith, h.runs, both.0); calls = omega (arith, h.calls, both.1, few) }

give_idle : (n : ℕ) (links : Links) (p : Phase) (o : Option Flown) (link : ℕ) (ran : Bool) (runs calls : ℕ) → may_give p o link ran runs calls ≡ true
    → ((k : LinkOf) → (reach k o).high ≤ 33) → IsCountedOut n links.fresh p → Each (IsCounted (n + 1) links.fresh) links.idle
    → Each (IsCounted (n + 1) links.fresh) (links_given links p o ran runs calls).idle
give_idle n links (New losses) o link ran runs calls may few here h = let no : ⊥ = cc in absurd no
give_idle n links (Leased losses new k) o link ran runs calls may few here h =
    (given_counted n links.fresh k o ran runs calls (and_second (nat_eq k.number link) (given_as ran k (reach k o) runs calls) may) (few k) here, h)
give_idle n links (Given before) o link ran runs calls may few here h = let no : ⊥ = cc in absurd no

give_fresh : (links : Links) (p : Phase) (o : Option Flown) (ran : Bool) (runs calls : ℕ) → (links_given links p o ran runs calls).fresh ≡ links.fresh
give_fresh links (New losses) o ran runs calls = refl
give_fresh links (Leased losses new k) o ran runs calls = refl
give_fresh links (Given before) o ran runs calls = refl

-- a loss and a take

lose_out : (n fresh : ℕ) (p : Phase) → IsCountedOut n fresh p → IsCountedOut n fresh (lost p)
lose_out n fresh (New losses) h = tt
lose_out n fresh (Leased losses new k) h = tt
lose_out n fresh (Given ran) h = tt

take_out : (n fresh : ℕ) (w : Work) (next : Option ℕ) → IsCountedOut n fresh w.phase → IsCountedOut n fresh (work_taken w next).phase
take_out n fresh w None h = h
take_out n fresh w (Some number) h = tt

-- each entry

there : (l : LoadedFiles) (s : State) (e : Entry) → allowed l s e ≡ true → lane_of e - 1 < length s.works
there l s e a = omega (arith, allowed_above l s e a, allowed_within l s e a)

same_out : (n : ℕ) (s : State) (lane : ℕ) → IsCounting n s.versions s.links s.works → IsCountedOut (n + 1) s.links.fresh (work_of s lane).phase
same_out n s lane h = out_more n (n + 1) s.links.fresh s.links.fresh (work_of s lane).phase (omega arith) (omega arith) (h.out (lane - 1))

IsCounting-next : (l : LoadedFiles) (n : ℕ) (s : State) (e : Entry) → AreBrief s.works s.flights.flown → IsCounting n s.versions s.links s.works → allowed l s e ≡ true
    → IsCounting (n + 1) (next l s e).versions (next l s e).links (next l s e).works
IsCounting-next l n s (Publish lane number) b h a =
    counting_kept n s.versions (versions_published l s.versions lane number) s.links s.works (lane - 1) _ (there l s (Publish lane number) a)
    (publish_few s.versions (version_rows (segment_of l lane number)) (step_of l.script.lanes lane number)) (same_out n s lane h) h
IsCounting-next l n s (Admit lane number met) b h a =
    counting_kept n s.versions s.versions s.links s.works (lane - 1) _ (there l s (Admit lane number met) a) (omega arith) tt h
IsCounting-next l n s (Lease lane flight link fresh) b h a =
    let e : Entry = Lease lane flight link fresh in
    let w : Work = work_of s lane in
    let may = allowed_may l s e a in
    let both = and_first (is_first w.own flight && may_lease w.phase) (is_next s.links.idle s.links.fresh link fresh) may in
    lease_counting n s.versions s.links.fresh s.links.idle s.works (lane - 1) link fresh (there l s e a) (and_second (is_first w.own flight) (may_lease w.phase) both)
    (and_second (is_first w.own flight && may_lease w.phase) (is_next s.links.idle s.links.fresh link fresh) may) h
IsCounting-next l n s (Give lane flight link ran runs calls) b h a =
    let e : Entry = Give lane flight link ran runs calls in
    let w : Work = work_of s lane in
    let o : Option Flown = flight_at s flight in
    let gives = and_second (is_first w.own flight) (may_give w.phase o link ran runs calls) (allowed_may l s e a) in
    let same = give_fresh s.links w.phase o ran runs calls in
    let more : IsCounting (n + 1) s.versions s.links s.works = counting_more n (n + 1) s.versions s.links s.works (omega arith) h in
    counting_step n s.versions s.versions s.links (links_given s.links w.phase o ran runs calls) s.works (lane - 1) _ (there l s e a) (omega arith)
    (omega (arith, same)) (omega (arith, same, more.fresh))
    (rw same (give_idle n s.links w.phase o link ran runs calls gives (λ k. reach_few k flight s.flights.flown o refl b.flown) (h.out (lane - 1)) more.idle)) tt h
IsCounting-next l n s (Lose lane flight link dialled ran runs calls) b h a =
    counting_kept n s.versions s.versions s.links s.works (lane - 1) _ (there l s (Lose lane flight link dialled ran runs calls) a) (omega arith)
    (lose_out (n + 1) s.links.fresh (work_of s lane).phase (same_out n s lane h)) h
IsCounting-next l n s (Land lane flight cells clever literal) b h a =
    counting_kept n s.versions s.versions s.links s.works (lane - 1) _ (there l s (Land lane flight cells clever literal) a) (omega arith) tt h
IsCounting-next l n s (Fall lane flight cause) b h a =
    counting_kept n s.versions s.versions s.links s.works (lane - 1) _ (there l s (Fall lane flight cause) a) (omega arith) tt h
IsCounting-next l n s (Take lane flight next) b h a =
    counting_kept n s.versions s.versions s.links s.works (lane - 1) _ (there l s (Take lane flight next) a) (omega arith)
    (take_out (n + 1) s.links.fresh (work_of s lane) next (same_out n s lane h)) h
IsCounting-next l n s (End lane) b h a =
    counting_kept n s.versions s.versions s.links s.works (lane - 1) _ (there l s (End lane) a) (omega arith) (same_out n s lane h) h

run_counting : (l : LoadedFiles) (n : ℕ) (s : State) (es : List Entry) → AreBrief s.works s.flights.flown → IsCounting n s.versions s.links s.works → legal_from l s es ≡ true
    → IsCounting (n + length es) (run l s es).versions (run l s es).links (run l s es).works
run_counting l n s [] b h legal = counting_more n (n + 0) s.versions s.links s.works (omega arith) h
run_counting l n s (e ∷ es) b h legal =
    let a = and_first (allowed l s e) (legal_from l (next l s e) es) legal in
    let t : State = run l (next l s e) es in
    counting_more (n + 1 + length es) (n + suc (length es)) t.versions t.links t.works (omega arith)
    (run_counting l (n + 1) (next l s e) es (AreBrief-next l s e b a) (IsCounting-next l n s e b h a) (and_second (allowed l s e) (legal_from l (next l s e) es) legal))

counting_after : (l : LoadedFiles) (journal : List Entry) → legal l journal ≡ true
    → IsCounting (length journal) (after l journal).versions (after l journal).links (after l journal).works
unfolding after legal
counting_after l journal h =
    let t : State = run l (start l) journal in
    counting_more (0 + length journal) (length journal) t.versions t.links t.works (omega arith) (run_counting l 0 (start l) journal (AreBrief-start l) (IsCounting-start l) h)

pub counted_within : (l : LoadedFiles) (journal : List Entry) (n : ℕ) → length journal ≤ n → legal l journal ≡ true → AreCounted n (after l journal)
counted_within l journal n le legal =
    let s = after l journal in
    let h : IsCounting n s.versions s.links s.works = counting_more (length journal) n s.versions s.links s.works le (counting_after l journal legal) in
    record {
      versions = h.versions;
      fresh = h.fresh;
      idle = all_each (IsCounted n s.links.fresh) s.links.idle h.idle;
      out = λ lane. h.out (lane - 1);
    }

pub counted : (l : LoadedFiles) (journal : List Entry) → legal l journal ≡ true → AreCounted (length journal) (after l journal)
counted l journal legal = counted_within l journal (length journal) (omega arith) legal

-- Idle links and those that lanes have are together at most as many as the lanes.
use Rattle.std.proofs.Common.{◌≡◌, ℕ, suc, ◌+◌, ◌-◌, ◌<◌, ◌≤◌, Bool, true, ◌&&◌, List, [], ◌∷◌, length, get_or, length-set, slice_set, refl, arith}
use Rattle.std.proofs.lemmas.List.Folds.{sum_by-replicate}
use Rattle.std.proofs.lemmas.List.Sums.{sum_by-cons, sum_by-set}
use Rattle.std.specs.Prelude.{Option, Some, None}
use Rattle.dq_extract.specs.Loads.{LoadedFiles}
use Rattle.dq_journal.specs.Journals.{lane_of}
use Rattle.dq_journal.specs.declared.entry.Entry.{Entry}
use Rattle.dq_journal.specs.declared.entry.Entry.TheVariants.{Publish, Admit, Lease, Give, Lose, Land, Fall, Take, End}
use Rattle.dq_machine.proofs.Reached.{allowed_above, allowed_may, allowed_within, and_first, and_second, reached-works, reached_keeps}
use Rattle.dq_machine.specs.Leasing.{is_next, leased, links_given, links_leased, lost, may_give, may_lease}
use Rattle.dq_machine.specs.Machine.{after, allowed, legal, next}
use Rattle.dq_machine.specs.State.{Flown, LinkOf, Links, Phase, New, Leased, Given, State, Work, flight_at, is_first, no_work, start, work_of}
use Rattle.dq_machine.specs.Taking.{work_taken}
use Rattle.dq_laws.specs.Links.{links_out, out_in}
use Rattle.dq_laws.proofs.Goes.{legal_reached}

pub record AreFewLinks (links : Links) (works : List Work) : Type 0 where
  pub few : length links.idle + links_out works ≤ length works

AreFewLinks-start : (l : LoadedFiles) → AreFewLinks (start l).links (start l).works
AreFewLinks-start l = record { few = omega (arith, sum_by-replicate (λ (w : Work). out_in w.phase) (length l.script.lanes) no_work) }

-- no lane has more than one

one_out : (p : Phase) → out_in p ≤ 1
one_out (New losses) = omega arith
one_out (Leased losses fresh k) = omega arith
one_out (Given ran) = omega arith

outs_few : (works : List Work) → links_out works ≤ length works
outs_few [] = omega arith
outs_few (w ∷ works) = omega (arith, one_out w.phase, outs_few works, sum_by-cons (λ (v : Work). out_in v.phase) w works)

-- a lane's work changes

module _ (works : List Work) (i : ℕ) (w : Work) (lt : i < length works) where
  -- with those that became idle the lane has no more than it had
  links_step : (old new : Links) → length new.idle + out_in w.phase ≤ length old.idle + out_in (get_or works i no_work).phase
      → AreFewLinks old works → AreFewLinks new (slice_set works i w)
  links_step old new less h =
      record { few = omega (arith, less, h.few, length-set works i w, sum_by-set (λ (v : Work). out_in v.phase) works i w no_work lt) }

  -- no link is idle
  none_idle : (new : Links) → length new.idle ≡ 0 → AreFewLinks new (slice_set works i w)
  none_idle new none = record { few = omega (arith, none, outs_few (slice_set works i w)) }

-- where there is an idle link it is leased, and a lane that may lease has none
leased_links : (p : Phase) (link fresh : ℕ) (idle : List LinkOf) (k : LinkOf) → may_lease p ≡ true
    → length idle + out_in (leased p link (k ∷ idle)) ≤ suc (length idle) + out_in p
leased_links (New losses) link fresh idle k may = omega arith
leased_links (Leased losses old j) link fresh idle k may = cc
leased_links (Given ran) link fresh idle k may = cc

given_links : (links : Links) (p : Phase) (o : Option Flown) (link : ℕ) (ran : Bool) (runs calls : ℕ) → may_give p o link ran runs calls ≡ true
    → length (links_given links p o ran runs calls).idle + 0 ≤ length links.idle + out_in p
given_links links (New losses) o link ran runs calls may = cc
given_links links (Leased losses fresh k) o link ran runs calls may = omega arith
given_links links (Given before) o link ran runs calls may = cc

lost_links : (p : Phase) → out_in (lost p) ≤ out_in p
lost_links (New losses) = omega arith
lost_links (Leased losses fresh k) = omega arith
lost_links (Given ran) = omega arith

taken_links : (w : Work) (next : Option ℕ) → out_in (work_taken w next).phase ≤ out_in w.phase
taken_links w None = omega arith
taken_links w (Some n) = omega arith

-- each entry

there : (l : LoadedFiles) (s : State) (e : Entry) → allowed l s e ≡ true → lane_of e - 1 < length s.works
there l s e a = omega (arith, allowed_above l s e a, allowed_within l s e a)

lease_step : (works : List Work) (fresh : ℕ) (idle : List LinkOf) (i link : ℕ) → i < length works → may_lease (get_or works i no_work).phase ≡ true
    → AreFewLinks (record { idle = idle; fresh = fresh }) works
    → AreFewLinks (links_leased (record { idle = idle; fresh = fresh })) (slice_set works i (record (get_or works i no_work) { phase = leased (get_or works i no_work).phase link idle }))
lease_step works fresh [] i link lt may h = none_idle works i _ lt _ refl
lease_step works fresh (k ∷ idle) i link lt may h =
    links_step works i _ lt (record { idle = k ∷ idle; fresh = fresh }) (record { idle = idle; fresh = fresh })
    (omega (arith, leased_links (get_or works i no_work).phase link fresh idle k may)) h

AreFewLinks-next : (l : LoadedFiles) (s : State) (e : Entry) → AreFewLinks s.links s.works → allowed l s e ≡ true → AreFewLinks (next l s e).links (next l s e).works
AreFewLinks-next l s (Publish lane number) h a = links_step s.works (lane - 1) _ (there l s (Publish lane number) a) s.links s.links (omega arith) h
AreFewLinks-next l s (Admit lane number met) h a = links_step s.works (lane - 1) _ (there l s (Admit lane number met) a) s.links s.links (omega arith) h
AreFewLinks-next l s (Lease lane flight link fresh) h a =
    let e : Entry = Lease lane flight link fresh in
    let w : Work = work_of s lane in
    let both = and_first (is_first w.own flight && may_lease w.phase) (is_next s.links.idle s.links.fresh link fresh) (allowed_may l s e a) in
    lease_step s.works s.links.fresh s.links.idle (lane - 1) link (there l s e a) (and_second (is_first w.own flight) (may_lease w.phase) both) h
AreFewLinks-next l s (Give lane flight link ran runs calls) h a =
    let e : Entry = Give lane flight link ran runs calls in
    let w : Work = work_of s lane in
    let gives = and_second (is_first w.own flight) (may_give w.phase (flight_at s flight) link ran runs calls) (allowed_may l s e a) in
    links_step s.works (lane - 1) _ (there l s e a) s.links (links_given s.links w.phase (flight_at s flight) ran runs calls)
    (given_links s.links w.phase (flight_at s flight) link ran runs calls gives) h
AreFewLinks-next l s (Lose lane flight link dialled ran runs calls) h a =
    links_step s.works (lane - 1) _ (there l s (Lose lane flight link dialled ran runs calls) a) s.links s.links (omega (arith, lost_links (work_of s lane).phase)) h
AreFewLinks-next l s (Land lane flight cells clever literal) h a =
    links_step s.works (lane - 1) _ (there l s (Land lane flight cells clever literal) a) s.links s.links (omega arith) h
AreFewLinks-next l s (Fall lane flight cause) h a = links_step s.works (lane - 1) _ (there l s (Fall lane flight cause) a) s.links s.links (omega arith) h
AreFewLinks-next l s (Take lane flight next) h a =
    links_step s.works (lane - 1) _ (there l s (Take lane flight next) a) s.links s.links (omega (arith, taken_links (work_of s lane) next)) h
AreFewLinks-next l s (End lane) h a = links_step s.works (lane - 1) _ (there l s (End lane) a) s.links s.links (omega arith) h

pub few_links : (l : LoadedFiles) (journal : List Entry) → legal l journal ≡ true
    → (length (after l journal).links.idle + links_out (after l journal).works ≤ length l.script.lanes)
    × (length (after l journal).links.idle + links_out (after l journal).works ≤ length (after l journal).works)
few_links l journal legal =
    let s = after l journal in
    let r = legal_reached l journal legal in
    let h : AreFewLinks s.links s.works = reached_keeps l (λ s. AreFewLinks s.links s.works) (λ s e h a. AreFewLinks-next l s e h a) s (AreFewLinks-start l) r in
    (omega (arith, h.few, reached-works l s r), h.few)

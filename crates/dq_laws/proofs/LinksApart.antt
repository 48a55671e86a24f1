-- No two links have the same number.
use Rattle.std.proofs.Common.{◌≡◌, ◌≢◌, inl, inr, ℕ, ◌+◌, ◌-◌, ◌<◌, ◌≤◌, Bool, true, false, ◌&&◌, cond, eqb, List, [], ◌∷◌, length, get_or, slice_set, sum_by, refl, ap, arith}
use Rattle.std.proofs.lemmas.Bool.{eqb-true}
use Rattle.std.proofs.lemmas.Bool.Decides.{eqb_tells}
use Rattle.std.proofs.lemmas.List.Folds.{sum_by-replicate}
use Rattle.std.proofs.lemmas.List.Sums.{sum_by-cons, sum_by-set}
use Rattle.std.specs.Prelude.{◌⊎◌, Option, Some, None, nat_eq}
use Rattle.dq_extract.specs.Loads.{LoadedFiles}
use Rattle.dq_journal.specs.Journals.{lane_of}
use Rattle.dq_journal.specs.declared.entry.Entry.{Entry}
use Rattle.dq_journal.specs.declared.entry.Entry.TheVariants.{Publish, Admit, Lease, Give, Lose, Land, Fall, Take, End}
use Rattle.dq_machine.proofs.Reached.{allowed_above, allowed_may, allowed_within, and_first, and_second, reached_keeps}
use Rattle.dq_machine.specs.Leasing.{is_next, leased, link_given, links_given, links_leased, lost, may_give, may_lease}
use Rattle.dq_machine.specs.Machine.{after, allowed, legal, next}
use Rattle.dq_machine.specs.State.{Flown, LinkOf, Links, Phase, New, Leased, Given, State, Work, flight_at, is_first, no_work, start, work_of}
use Rattle.dq_machine.specs.Taking.{work_taken}
use Rattle.dq_laws.specs.Links.{has_number, links_numbered, out_numbered}
use Rattle.dq_laws.proofs.Goes.{legal_reached}

abbrev pub numbered_among : ℕ → List LinkOf → List Work → ℕ
numbered_among n idle works = sum_by (has_number n) idle + sum_by (λ w. out_numbered n w.phase) works

-- of each number there is one at most, and none above those that were fresh
pub record AreLinksApart (links : Links) (works : List Work) : Type 0 where
  pub one : (n : ℕ) → numbered_among n links.idle works ≤ 1
  pub none : (n : ℕ) → links.fresh < n → numbered_among n links.idle works ≡ 0

AreLinksApart-start : (l : LoadedFiles) → AreLinksApart (start l).links (start l).works
AreLinksApart-start l = record {
  one = λ n. omega (arith, sum_by-replicate (λ (w : Work). out_numbered n w.phase) (length l.script.lanes) no_work);
  none = λ n lt. omega (arith, sum_by-replicate (λ (w : Work). out_numbered n w.phase) (length l.script.lanes) no_work);
}

-- a lane's work changes

module _ (works : List Work) (i : ℕ) (w : Work) (lt : i < length works) where
  -- with those that became idle the lane has none that it hadn't
  apart_step : (old new : Links) → old.fresh ≤ new.fresh
      → ((n : ℕ) → sum_by (has_number n) new.idle + out_numbered n w.phase ≤ sum_by (has_number n) old.idle + out_numbered n (get_or works i no_work).phase)
      → AreLinksApart old works → AreLinksApart new (slice_set works i w)
  apart_step old new more less h = record {
    one = λ n. omega (arith, less n, h.one n, sum_by-set (λ (v : Work). out_numbered n v.phase) works i w no_work lt);
    none = λ n above. omega (arith, less n, h.none n (omega (arith, above, more)), sum_by-set (λ (v : Work). out_numbered n v.phase) works i w no_work lt);
  }

  -- or it has the next fresh one besides
  module _ (old new : Links) (next : new.fresh ≡ old.fresh + 1) (h : AreLinksApart old works)
      (less : (n : ℕ) → sum_by (has_number n) new.idle + out_numbered n w.phase ≤ sum_by (has_number n) old.idle + cond (nat_eq (old.fresh + 1) n) 1 0) where
    fresh_count : (n : ℕ) → numbered_among n new.idle (slice_set works i w) ≤ numbered_among n old.idle works + cond (nat_eq (old.fresh + 1) n) 1 0
    fresh_count n = omega (arith, less n, sum_by-set (λ (v : Work). out_numbered n v.phase) works i w no_work lt)

    one_fresh : (n : ℕ) → ((eqb (old.fresh + 1) n ≡ true) × (old.fresh + 1 ≡ n)) ⊎ ((eqb (old.fresh + 1) n ≡ false) × (old.fresh + 1 ≢ n))
        → numbered_among n new.idle (slice_set works i w) ≤ 1
    one_fresh n (inl (told, same)) =
        let none = h.none n (omega (arith, same)) in
        let count : numbered_among n new.idle (slice_set works i w) ≤ numbered_among n old.idle works + 1 = rw told at (fresh_count n) in omega (arith, none, count)
    one_fresh n (inr (told, apart)) =
        let one = h.one n in
        let count : numbered_among n new.idle (slice_set works i w) ≤ numbered_among n old.idle works + 0 = rw told at (fresh_count n) in omega (arith, one, count)

    none_fresh : (n : ℕ) → new.fresh < n → ((eqb (old.fresh + 1) n ≡ true) × (old.fresh + 1 ≡ n)) ⊎ ((eqb (old.fresh + 1) n ≡ false) × (old.fresh + 1 ≢ n))
        → numbered_among n new.idle (slice_set works i w) ≡ 0
    none_fresh n above (inl (told, same)) = absurd (omega (arith, above, next, same))
    none_fresh n above (inr (told, apart)) =
        let none = h.none n (omega (arith, above, next)) in
        let count : numbered_among n new.idle (slice_set works i w) ≤ numbered_among n old.idle works + 0 = rw told at (fresh_count n) in omega (arith, none, count)

    fresh_step : AreLinksApart new (slice_set works i w)
    fresh_step = record { one = λ n. one_fresh n (eqb_tells (old.fresh + 1) n); none = λ n above. none_fresh n above (eqb_tells (old.fresh + 1) n) }

-- leases

fresh_leased : (n fresh : ℕ) (p : Phase) (link : ℕ) → may_lease p ≡ true → link ≡ fresh + 1 → out_numbered n (leased p link []) ≡ cond (nat_eq (fresh + 1) n) 1 0
fresh_leased n fresh (New losses) link may is = ap (λ k. cond (nat_eq k n) 1 0) is
fresh_leased n fresh (Leased losses new k) link may is = let no : ⊥ = cc in absurd no
fresh_leased n fresh (Given ran) link may is = let no : ⊥ = cc in absurd no

again_leased : (n : ℕ) (p : Phase) (link : ℕ) (k : LinkOf) (idle : List LinkOf) → may_lease p ≡ true → out_numbered n (leased p link (k ∷ idle)) ≡ has_number n k
again_leased n (New losses) link k idle may = refl
again_leased n (Leased losses new j) link k idle may = let no : ⊥ = cc in absurd no
again_leased n (Given ran) link k idle may = let no : ⊥ = cc in absurd no

lease_apart : (fresh : ℕ) (idle : List LinkOf) (works : List Work) (i link : ℕ) (new : Bool) → i < length works → may_lease (get_or works i no_work).phase ≡ true
    → is_next idle fresh link new ≡ true → AreLinksApart (record { idle = idle; fresh = fresh }) works
    → AreLinksApart (links_leased (record { idle = idle; fresh = fresh }))
    (slice_set works i (record (get_or works i no_work) { phase = leased (get_or works i no_work).phase link idle }))
lease_apart fresh [] works i link new lt may is h =
    let number : link ≡ fresh + 1 = eqb-true link (fresh + 1) (and_second new (nat_eq link (fresh + 1)) is) in
    fresh_step works i _ lt (record { idle = []; fresh = fresh }) (record { idle = []; fresh = fresh + 1 }) refl h
    (λ n. omega (arith, fresh_leased n fresh (get_or works i no_work).phase link may number))
lease_apart fresh (k ∷ idle) works i link new lt may is h =
    apart_step works i _ lt (record { idle = k ∷ idle; fresh = fresh }) (record { idle = idle; fresh = fresh }) (omega arith)
    (λ n. omega (arith, again_leased n (get_or works i no_work).phase link k idle may, sum_by-cons (has_number n) k idle)) h

-- what is given back, lost or taken

same_number : (n : ℕ) (k : LinkOf) (o : Option Flown) (ran : Bool) (runs calls : ℕ) → has_number n (link_given k o ran runs calls) ≡ has_number n k
same_number n k o true runs calls = refl
same_number n k o false runs calls = refl

given_numbers : (n : ℕ) (links : Links) (p : Phase) (o : Option Flown) (link : ℕ) (ran : Bool) (runs calls : ℕ) → may_give p o link ran runs calls ≡ true
    → sum_by (has_number n) (links_given links p o ran runs calls).idle + 0 ≤ sum_by (has_number n) links.idle + out_numbered n p
given_numbers n links (New losses) o link ran runs calls may = let no : ⊥ = cc in absurd no
given_numbers n links (Leased losses new k) o link ran runs calls may =
    omega (arith, same_number n k o ran runs calls, sum_by-cons (has_number n) (link_given k o ran runs calls) links.idle)
given_numbers n links (Given before) o link ran runs calls may = let no : ⊥ = cc in absurd no

given_fresh : (links : Links) (p : Phase) (o : Option Flown) (ran : Bool) (runs calls : ℕ) → (links_given links p o ran runs calls).fresh ≡ links.fresh
given_fresh links (New losses) o ran runs calls = refl
given_fresh links (Leased losses new k) o ran runs calls = refl
given_fresh links (Given before) o ran runs calls = refl

lost_numbers : (n : ℕ) (p : Phase) → out_numbered n (lost p) ≤ out_numbered n p
lost_numbers n (New losses) = omega arith
lost_numbers n (Leased losses new k) = omega arith
lost_numbers n (Given ran) = omega arith

taken_numbers : (n : ℕ) (w : Work) (next : Option ℕ) → out_numbered n (work_taken w next).phase ≤ out_numbered n w.phase
taken_numbers n w None = omega arith
taken_numbers n w (Some number) = omega arith

-- each entry

there : (l : LoadedFiles) (s : State) (e : Entry) → allowed l s e ≡ true → lane_of e - 1 < length s.works
there l s e a = omega (arith, allowed_above l s e a, allowed_within l s e a)

-- the links that nobody uses stay
apart_kept : (l : LoadedFiles) (s : State) (e : Entry) (w : Work) → allowed l s e ≡ true → ((n : ℕ) → out_numbered n w.phase ≤ out_numbered n (work_of s (lane_of e)).phase)
    → AreLinksApart s.links s.works → AreLinksApart s.links (slice_set s.works (lane_of e - 1) w)
apart_kept l s e w a less h = apart_step s.works (lane_of e - 1) w (there l s e a) s.links s.links (omega arith) (λ n. omega (arith, less n)) h

AreLinksApart-next : (l : LoadedFiles) (s : State) (e : Entry) → AreLinksApart s.links s.works → allowed l s e ≡ true → AreLinksApart (next l s e).links (next l s e).works
AreLinksApart-next l s (Publish lane number) h a = apart_kept l s (Publish lane number) _ a (λ n. omega arith) h
AreLinksApart-next l s (Admit lane number met) h a = apart_kept l s (Admit lane number met) _ a (λ n. omega arith) h
AreLinksApart-next l s (Lease lane flight link fresh) h a =
    let e : Entry = Lease lane flight link fresh in
    let w : Work = work_of s lane in
    let may = allowed_may l s e a in
    let both = and_first (is_first w.own flight && may_lease w.phase) (is_next s.links.idle s.links.fresh link fresh) may in
    lease_apart s.links.fresh s.links.idle s.works (lane - 1) link fresh (there l s e a) (and_second (is_first w.own flight) (may_lease w.phase) both)
    (and_second (is_first w.own flight && may_lease w.phase) (is_next s.links.idle s.links.fresh link fresh) may) h
AreLinksApart-next l s (Give lane flight link ran runs calls) h a =
    let e : Entry = Give lane flight link ran runs calls in
    let w : Work = work_of s lane in
    let o : Option Flown = flight_at s flight in
    let gives = and_second (is_first w.own flight) (may_give w.phase o link ran runs calls) (allowed_may l s e a) in
    apart_step s.works (lane - 1) _ (there l s e a) s.links (links_given s.links w.phase o ran runs calls) (omega (arith, given_fresh s.links w.phase o ran runs calls))
    (λ n. given_numbers n s.links w.phase o link ran runs calls gives) h
AreLinksApart-next l s (Lose lane flight link dialled ran runs calls) h a =
    apart_kept l s (Lose lane flight link dialled ran runs calls) _ a (λ n. lost_numbers n (work_of s lane).phase) h
AreLinksApart-next l s (Land lane flight cells clever literal) h a = apart_kept l s (Land lane flight cells clever literal) _ a (λ n. omega arith) h
AreLinksApart-next l s (Fall lane flight cause) h a = apart_kept l s (Fall lane flight cause) _ a (λ n. omega arith) h
AreLinksApart-next l s (Take lane flight next) h a = apart_kept l s (Take lane flight next) _ a (λ n. taken_numbers n (work_of s lane) next) h
AreLinksApart-next l s (End lane) h a = apart_kept l s (End lane) _ a (λ n. omega arith) h

pub links_apart : (l : LoadedFiles) (journal : List Entry) (link : ℕ) → legal l journal ≡ true → links_numbered link (after l journal) ≤ 1
links_apart l journal link legal =
    let s = after l journal in
    let h : AreLinksApart s.links s.works =
    reached_keeps l (λ s. AreLinksApart s.links s.works) (λ s e h a. AreLinksApart-next l s e h a) s (AreLinksApart-start l) (legal_reached l journal legal) in
    h.one link

-- No flight loses more than two links.
use Rattle.std.proofs.Common.{◌≡◌, ◌≢◌, inl, inr, ℕ, zero, suc, ◌+◌, ◌-◌, ◌<◌, ◌≤◌, Bool, true, false, ◌&&◌, eqb, List, [], ◌∷◌, length, get_or, slice_set, replicate, refl, ap, sym, ◌∙◌, arith}
use Rattle.std.proofs.lemmas.Bool.{leb-true}
use Rattle.std.proofs.lemmas.Bool.Decides.{eqb_tells}
use Rattle.std.proofs.lemmas.List.{get_or-set_other, get_or-set_same}
use Rattle.std.specs.Prelude.{◌⊎◌, Option, Some, None}
use Rattle.dq_extract.specs.Loads.{LoadedFiles}
use Rattle.dq_journal.specs.Journals.{lane_of}
use Rattle.dq_journal.specs.declared.entry.Entry.{Entry}
use Rattle.dq_journal.specs.declared.entry.Entry.TheVariants.{Publish, Admit, Lease, Give, Lose, Land, Fall, Take, End}
use Rattle.dq_machine.proofs.Reached.{allowed_above, allowed_may, allowed_within, and_first, and_second, reached_keeps}
use Rattle.dq_machine.specs.Leasing.{is_next, leased, leased_from, lost, may_lease}
use Rattle.dq_machine.specs.Losses.{LostFew}
use Rattle.dq_machine.specs.Machine.{IsReached, allowed, next}
use Rattle.dq_machine.specs.State.{LinkOf, Phase, New, Leased, Given, State, Work, is_first, no_work, start, work_of}
use Rattle.dq_machine.specs.Taking.{work_taken}

record AllLostFew (works : List Work) : Type 0 where
  each : (i : ℕ) → LostFew (get_or works i no_work).phase

none_lost : (n i : ℕ) → LostFew (get_or (replicate n no_work) i no_work).phase
none_lost zero zero = omega arith
none_lost zero (suc i) = omega arith
none_lost (suc n) zero = omega arith
none_lost (suc n) (suc i) = none_lost n i

one_lost : (works : List Work) (i j : ℕ) (w : Work) → i < length works → LostFew w.phase → LostFew (get_or works j no_work).phase
    → ((eqb i j ≡ true) × (i ≡ j)) ⊎ ((eqb i j ≡ false) × (i ≢ j)) → LostFew (get_or (slice_set works i w) j no_work).phase
one_lost works i j w lt here there (inl (told, same)) = rw (← same, get_or-set_same works i w no_work lt) here
one_lost works i j w lt here there (inr (told, apart)) = let ne : j ≢ i = λ e. apart (sym e) in rw (get_or-set_other works i j w no_work ne) there

lost_step : (works : List Work) (i : ℕ) (w : Work) → AllLostFew works → i < length works → LostFew w.phase → AllLostFew (slice_set works i w)
lost_step works i w h lt few = record { each = λ j. one_lost works i j w lt few (h.each j) (eqb_tells i j) }

leased_from_few : (losses link : ℕ) (idle : List LinkOf) → losses ≤ 1 → LostFew (leased_from losses link idle)
leased_from_few losses link [] few = few
leased_from_few losses link (k ∷ idle) few = few

leased_few : (p : Phase) (link : ℕ) (idle : List LinkOf) → may_lease p ≡ true → LostFew (leased p link idle)
leased_few (New losses) link idle may = leased_from_few losses link idle (leb-true losses 1 may)
leased_few (Leased losses fresh k) link idle may = cc
leased_few (Given ran) link idle may = tt

lost_few : (p : Phase) → LostFew p → LostFew (lost p)
lost_few (New losses) few = few
lost_few (Leased losses fresh k) few = omega (arith, few)
lost_few (Given ran) few = tt

taken_few : (w : Work) (next : Option ℕ) → LostFew w.phase → LostFew (work_taken w next).phase
taken_few w None few = few
taken_few w (Some n) few = omega arith

AllLostFew-next : (l : LoadedFiles) (s : State) (e : Entry) → AllLostFew s.works → lane_of e - 1 < length s.works → allowed l s e ≡ true → AllLostFew (next l s e).works
AllLostFew-next l s (Publish lane number) h lt a = lost_step s.works (lane - 1) _ h lt (h.each (lane - 1))
AllLostFew-next l s (Admit lane number met) h lt a = lost_step s.works (lane - 1) _ h lt (omega arith)
AllLostFew-next l s (Lease lane flight link fresh) h lt a =
    let w = work_of s lane in
    let both = and_first (is_first w.own flight && may_lease w.phase) (is_next s.links.idle s.links.fresh link fresh) (allowed_may l s (Lease lane flight link fresh) a) in
    lost_step s.works (lane - 1) _ h lt (leased_few w.phase link s.links.idle (and_second (is_first w.own flight) (may_lease w.phase) both))
AllLostFew-next l s (Give lane flight link ran runs calls) h lt a = lost_step s.works (lane - 1) _ h lt tt
AllLostFew-next l s (Lose lane flight link dialled ran runs calls) h lt a = lost_step s.works (lane - 1) _ h lt (lost_few (work_of s lane).phase (h.each (lane - 1)))
AllLostFew-next l s (Land lane flight cells clever literal) h lt a = lost_step s.works (lane - 1) _ h lt (omega arith)
AllLostFew-next l s (Fall lane flight cause) h lt a = lost_step s.works (lane - 1) _ h lt (omega arith)
AllLostFew-next l s (Take lane flight next) h lt a = lost_step s.works (lane - 1) _ h lt (taken_few (work_of s lane) next (h.each (lane - 1)))
AllLostFew-next l s (End lane) h lt a = lost_step s.works (lane - 1) _ h lt (h.each (lane - 1))

pub LostFew-reached : (l : LoadedFiles) (s : State) (lane : ℕ) → IsReached l s → LostFew (work_of s lane).phase
LostFew-reached l s lane r =
    let all : AllLostFew s.works =
    reached_keeps l (λ s. AllLostFew s.works) (λ s e h a. AllLostFew-next l s e h (omega (arith, allowed_above l s e a, allowed_within l s e a)) a) s
    (record { each = none_lost (length l.script.lanes) }) r in
    all.each (lane - 1)

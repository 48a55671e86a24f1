-- A flight whose link was given back lost one link before at most.
use Rattle.std.proofs.Common.{◌≡◌, inl, ℕ, zero, suc, ◌-◌, Bool, true, false, List, [], ◌∷◌, ◌++◌, length, get_or, replicate, refl, arith}
use Rattle.std.specs.Prelude.{Option, Some, None}
use Rattle.dq_extract.specs.Loads.{LoadedFiles}
use Rattle.dq_journal.specs.Journals.{lane_of}
use Rattle.dq_journal.specs.declared.entry.Entry.{Entry}
use Rattle.dq_journal.specs.declared.entry.Entry.TheVariants.{Publish, Admit, Lease, Give, Lose, Land, Fall, Take, End}
use Rattle.dq_laws.proofs.Losing.{IsLosing-after, OwnLost}
use Rattle.dq_laws.proofs.Owned.{Among}
use Rattle.dq_laws.proofs.Pushed.{IsPushed}
use Rattle.dq_machine.proofs.Reached.{allowed_may, and_first, and_second}
use Rattle.dq_machine.specs.Leasing.{leased, lost, may_give, may_lose}
use Rattle.dq_machine.specs.Machine.{after, legal, work_by}
use Rattle.dq_machine.specs.Owning.{loses, losses_of}
use Rattle.dq_machine.specs.State.{Flown, LinkOf, Phase, New, Leased, Given, Work, flight_at, is_first, no_work, work_of}
use Rattle.dq_fates.specs.Ends.{GaveFew}
use Rattle.dq_fates.proofs.Bringing.{journal_keeps, losses_kept, not_lost, others_silent, set_keeps, there}

gave_same : (past : List Entry) (e : Entry) (p : Phase) (own : List ℕ) → ((n : ℕ) → Among n own → loses n e ≡ false) → GaveFew past p own → GaveFew (past ++ e ∷ []) p own
gave_same past e (New losses) own silent h = tt
gave_same past e (Leased losses fresh k) own silent h = tt
gave_same past e (Given ran) [] silent h = h
gave_same past e (Given ran) (f ∷ own) silent h = rw (losses_kept past e f (silent f (inl refl))) h

gave_leased : (journal : List Entry) (p : Phase) (link : ℕ) (idle : List LinkOf) (own : List ℕ) → GaveFew journal p own → GaveFew journal (leased p link idle) own
gave_leased journal (New losses) link [] own h = tt
gave_leased journal (New losses) link (k ∷ idle) own h = tt
gave_leased journal (Leased losses fresh k) link idle own h = tt
gave_leased journal (Given ran) link idle own h = h

gave_now : (journal : List Entry) (p : Phase) (own : List ℕ) (o : Option Flown) (flight link : ℕ) (ran : Bool) (runs calls : ℕ) → is_first own flight ≡ true
    → may_give p o link ran runs calls ≡ true → OwnLost (losses_of journal) p own → GaveFew journal (Given ran) own
gave_now journal (New losses) own o flight link ran runs calls first may h = let no : ⊥ = cc in absurd no
gave_now journal (Leased losses fresh k) [] o flight link ran runs calls first may h = cc
gave_now journal (Leased losses fresh k) (f ∷ own) o flight link ran runs calls first may h = omega (arith, h.0.0, h.0.1)
gave_now journal (Given given) own o flight link ran runs calls first may h = let no : ⊥ = cc in absurd no

gave_lost : (journal : List Entry) (p : Phase) (own : List ℕ) (o : Option Flown) (link : ℕ) (dialled ran : Bool) (runs calls : ℕ)
    → may_lose p o link dialled ran runs calls ≡ true → GaveFew journal (lost p) own
gave_lost journal (New losses) own o link dialled ran runs calls may = tt
gave_lost journal (Leased losses fresh k) own o link dialled ran runs calls may = tt
gave_lost journal (Given given) own o link dialled ran runs calls may = let no : ⊥ = cc in absurd no

none_gave : (n i : ℕ) → GaveFew [] (get_or (replicate n no_work) i no_work).phase (get_or (replicate n no_work) i no_work).own
none_gave zero zero = tt
none_gave zero (suc i) = tt
none_gave (suc n) zero = tt
none_gave (suc n) (suc i) = none_gave n i

module _ (l : LoadedFiles) where
  gave_here : (past : List Entry) (e : Entry) → IsPushed l past e → GaveFew past (work_of (after l past) (lane_of e)).phase (work_of (after l past) (lane_of e)).own
      → GaveFew (past ++ e ∷ []) (work_by l (after l past) (work_of (after l past) (lane_of e)) e).phase (work_by l (after l past) (work_of (after l past) (lane_of e)) e).own
  gave_here past (Publish lane number) p h =
      let w : Work = work_of (after l past) lane in gave_same past (Publish lane number) w.phase w.own (λ n a. refl) h
  gave_here past (Admit lane number met) p h = tt
  gave_here past (Lease lane flight link fresh) p h =
      let s = after l past in
      let w : Work = work_of s lane in
      gave_same past (Lease lane flight link fresh) (leased w.phase link s.links.idle) w.own (λ n a. refl) (gave_leased past w.phase link s.links.idle w.own h)
  gave_here past (Give lane flight link ran runs calls) p h =
      let e : Entry = Give lane flight link ran runs calls in
      let s = after l past in
      let w : Work = work_of s lane in
      let may = allowed_may l s e p.allowed in
      let gives = may_give w.phase (flight_at s flight) link ran runs calls in
      let lost = ((IsLosing-after l past p.legal).each (lane - 1)).own in
      gave_same past e (Given ran) w.own (λ n a. refl)
      (gave_now past w.phase w.own (flight_at s flight) flight link ran runs calls (and_first (is_first w.own flight) gives may) (and_second (is_first w.own flight) gives may) lost)
  gave_here past (Lose lane flight link dialled ran runs calls) p h =
      let e : Entry = Lose lane flight link dialled ran runs calls in
      let s = after l past in
      let w : Work = work_of s lane in
      gave_lost (past ++ e ∷ []) w.phase w.own (flight_at s flight) link dialled ran runs calls
      (and_second (is_first w.own flight) (may_lose w.phase (flight_at s flight) link dialled ran runs calls) (allowed_may l s e p.allowed))
  gave_here past (Land lane flight cells clever literal) p h = tt
  gave_here past (Fall lane flight cause) p h = tt
  gave_here past (Take lane flight None) p h =
      let w : Work = work_of (after l past) lane in gave_same past (Take lane flight None) w.phase w.own (λ n a. refl) h
  gave_here past (Take lane flight (Some number)) p h = tt
  gave_here past (End lane) p h =
      let w : Work = work_of (after l past) lane in gave_same past (End lane) w.phase w.own (λ n a. refl) h

  abbrev Gave : List Entry → Type 0
  Gave journal = (j : ℕ) → GaveFew journal (get_or (after l journal).works j no_work).phase (get_or (after l journal).works j no_work).own

  gave_next : (past : List Entry) (e : Entry) → IsPushed l past e → Gave past → Gave (past ++ e ∷ [])
  gave_next past e p h =
      let s = after l past in
      rw p.after
      (set_keeps (λ j v. GaveFew (past ++ e ∷ []) v.phase v.own) s.works (lane_of e - 1) (work_by l s (work_of s (lane_of e)) e) (there l s e p.allowed) (gave_here past e p (h (lane_of e - 1)))
      (λ j ne. gave_same past e (get_or s.works j no_work).phase (get_or s.works j no_work).own (λ n a. not_lost n e (others_silent l past e p j n ne a)) (h j)))

  gave_start : Gave []
  unfolding after
  gave_start j = none_gave (length l.script.lanes) j

  pub gave_few : (journal : List Entry) → legal l journal ≡ true → (j : ℕ)
      → GaveFew journal (get_or (after l journal).works j no_work).phase (get_or (after l journal).works j no_work).own
  gave_few journal lawful = journal_keeps l Gave gave_next gave_start journal lawful

-- A flight that is under way hasn't fallen.
use Rattle.std.proofs.Common.{◌≡◌, inl, inr, ℕ, ◌-◌, ◌<◌, ◌≤◌, true, false, List, [], ◌∷◌, ◌++◌, drop, get_or, refl, arith}
use Rattle.std.proofs.lemmas.Bool.{eqb-true}
use Rattle.std.proofs.lemmas.Bool.Decides.{nat_tests}
use Rattle.std.specs.List.{list_any}
use Rattle.std.specs.Prelude.{◌⊎◌, All, nat_eq}
use Rattle.dq_extract.specs.Loads.{LoadedFiles}
use Rattle.dq_journal.specs.Journals.{lane_of}
use Rattle.dq_journal.specs.declared.entry.Entry.{Entry}
use Rattle.dq_journal.specs.declared.entry.Entry.TheVariants.{Publish, Admit, Lease, Give, Lose, Land, Fall, Take, End}
use Rattle.dq_laws.proofs.Each.{all_each}
use Rattle.dq_laws.proofs.Flying.{each_among}
use Rattle.dq_laws.proofs.Losing.{IsLosing-after, Rises, above_among}
use Rattle.dq_laws.proofs.Owned.{Among}
use Rattle.dq_laws.proofs.Pushed.{IsPushed}
use Rattle.dq_machine.proofs.Reached.{allowed_may, and_first}
use Rattle.dq_machine.specs.Landing.{may_fall}
use Rattle.dq_machine.specs.Machine.{after, legal, next, work_by}
use Rattle.dq_machine.specs.Owning.{falls_wanting}
use Rattle.dq_machine.specs.State.{Work, is_first, no_work, work_of}
use Rattle.dq_fates.proofs.Bringing.{fell_kept, journal_keeps, later_silent, not_fallen, not_wanting, others_silent, own_comes, set_keeps, started_grows, there}

pub dropped_above : (own : List ℕ) (f n : ℕ) → is_first own f ≡ true → Rises own → Among n (drop 1 own) → f < n
dropped_above [] f n first rises a = absurd a
dropped_above (g ∷ own) f n first rises a = let above = above_among g n own rises.0 a in omega (arith, above, eqb-true g f first)

other_number : (f n : ℕ) → f < n → nat_eq f n ≡ false
other_number f n lt = grind (arith, nat_tests)

-- neither own flights nor those that come later fell
pub record NoneFell (l : LoadedFiles) (journal : List Entry) : Type 0 where
  pub own : (j n : ℕ) → Among n (get_or (after l journal).works j no_work).own → list_any (falls_wanting n) journal ≡ false
  pub later : (n : ℕ) → (after l journal).flights.started < n → list_any (falls_wanting n) journal ≡ false

module _ (l : LoadedFiles) where
  -- a flight that falls leaves its lane's work
  falls_own : (past : List Entry) (e : Entry) (n : ℕ) → IsPushed l past e → Among n (work_by l (after l past) (work_of (after l past) (lane_of e)) e).own → falls_wanting n e ≡ false
  falls_own past (Publish lane number) n p a = refl
  falls_own past (Admit lane number met) n p a = refl
  falls_own past (Lease lane flight link fresh) n p a = refl
  falls_own past (Give lane flight link ran runs calls) n p a = refl
  falls_own past (Lose lane flight link dialled ran runs calls) n p a = refl
  falls_own past (Land lane flight cells clever literal) n p a = refl
  falls_own past (Fall lane flight cause) n p a =
      let e : Entry = Fall lane flight cause in
      let s = after l past in
      let w : Work = work_of s lane in
      let first = and_first (is_first w.own flight) (may_fall w.phase cause) (allowed_may l s e p.allowed) in
      let rises = ((IsLosing-after l past p.legal).each (lane - 1)).rises in
      not_wanting n flight lane cause (other_number flight n (dropped_above w.own flight n first rises a))
  falls_own past (Take lane flight next) n p a = refl
  falls_own past (End lane) n p a = refl

  module _ (past : List Entry) (e : Entry) (p : IsPushed l past e) (h : NoneFell l past) where
    fell_by : (n : ℕ) → falls_wanting n e ≡ false
        → Among n (work_of (after l past) (lane_of e)).own ⊎ (((after l past).flights.started < n) × (n ≤ (next l (after l past) e).flights.started))
        → list_any (falls_wanting n) (past ++ e ∷ []) ≡ false
    fell_by n told (inl a) = fell_kept past e n told (h.own (lane_of e - 1) n a)
    fell_by n told (inr new) = fell_kept past e n told (h.later n new.0)

    own_unfallen : (j n : ℕ) → Among n (get_or (next l (after l past) e).works j no_work).own → list_any (falls_wanting n) (past ++ e ∷ []) ≡ false
    own_unfallen j =
        let s = after l past in
        set_keeps (λ k v. (n : ℕ) → Among n v.own → list_any (falls_wanting n) (past ++ e ∷ []) ≡ false) s.works (lane_of e - 1) (work_by l s (work_of s (lane_of e)) e)
        (there l s e p.allowed) (λ n a. fell_by n (falls_own past e n p a) (own_comes l s e n p.allowed a))
        (λ k ne n a. fell_kept past e n (not_fallen n e (others_silent l past e p k n ne a)) (h.own k n a)) j

    later_unfallen : (n : ℕ) → (next l (after l past) e).flights.started < n → list_any (falls_wanting n) (past ++ e ∷ []) ≡ false
    later_unfallen n lt =
        let more : (after l past).flights.started < n = omega (arith, started_grows l (after l past) e p.allowed, lt) in
        fell_kept past e n (not_fallen n e (later_silent l past e p n more)) (h.later n more)

    none_next : NoneFell l (past ++ e ∷ [])
    none_next = record {
      own = λ j n a. own_unfallen j n (rw p.after at a);
      later = λ n lt. later_unfallen n (rw p.after at lt);
    }

  none_start : NoneFell l []
  none_start = record { own = λ j n a. refl; later = λ n lt. refl }

  pub none_fell : (journal : List Entry) → legal l journal ≡ true → NoneFell l journal
  none_fell journal lawful = journal_keeps l (NoneFell l) none_next none_start journal lawful

pub own_unfallen_all : (l : LoadedFiles) (journal : List Entry) (lane : ℕ) → legal l journal ≡ true
    → All (λ n. list_any (falls_wanting n) journal ≡ false) (work_of (after l journal) lane).own
own_unfallen_all l journal lane lawful =
    let own : List ℕ = (work_of (after l journal) lane).own in
    let P : ℕ → Type 0 = λ n. list_any (falls_wanting n) journal ≡ false in
    all_each P own (each_among P own (λ n a. (none_fell l journal lawful).own (lane - 1) n a))

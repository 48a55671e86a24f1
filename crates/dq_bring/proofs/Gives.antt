-- A link goes back to the desk, or is lost.
use Rattle.std.proofs.Common.{◌≡◌, ℕ, ◌+◌, ◌≤◌, Bool, true, false, List, [], ◌∷◌, ◌++◌, refl, ap, sym, ◌∙◌}
use Rattle.std.proofs.lemmas.Bool.{eq-eqb}
use Rattle.std.specs.Prelude.{Option, Some, None, nat_eq}
use Rattle.dq_extract.specs.Loads.{LoadedFiles}
use Rattle.dq_journal.specs.declared.entry.Entry.{Entry}
use Rattle.dq_journal.specs.declared.entry.Entry.TheVariants.{Give, Lose}
use Rattle.dq_laws.proofs.Goes.{legal_reached}
use Rattle.dq_link.specs.Views.{LostLink, PooledLink}
use Rattle.dq_link.specs.declared.pooled.Lost.{Lost as LostOf}
use Rattle.dq_link.specs.declared.pooled.Lost.TheVariants as lost
use Rattle.dq_machine.proofs.LostFew.{LostFew-reached}
use Rattle.dq_machine.proofs.Reached.{and_both}
use Rattle.dq_machine.specs.Leasing.{given_as, lost as lost_phase, lost_as, may_give, may_lose, reach}
use Rattle.dq_machine.specs.Machine.{after, allowed}
use Rattle.dq_machine.specs.State.{Flown, LinkOf, Phase as Course, New, Leased, Given, State, Work, flight_at, work_of}
use Rattle.dq_desk.proofs.Pushed.{legal-push}
use Rattle.dq_desk.specs.Links.{IsLost as IsLostAt, IsMirror, lose_entry}
use Rattle.dq_trial.specs.Links.{AreNamed, IsPlanned, LinkTells, RanAs}
use Rattle.dq_trial.specs.Trying.{Gives, Loses}
use Rattle.dq_bring.specs.Flights.{IsBringing, standing_at}
use Rattle.dq_bring.specs.Phases.{AreReady, IsBack, IsLost, IsLostOn, IsPhaseAt, IsReady, Standing, is_dial, is_untold, trial_on}
use Rattle.dq_bring.specs.Told.{GivenTo, Goes}
use Rattle.dq_bring.specs.declared.phase.Answer.{Answer}
use Rattle.dq_bring.specs.declared.phase.Phase.{Phase}
use Rattle.dq_bring.specs.declared.phase.Phase.TheVariants as phase
use Rattle.dq_bring.proofs.Pushed.{Goes-push}
use Rattle.dq_bring.proofs.Standings.{flight_may, mirror_so, reach_so, text_so}

-- what is left once a link was given back

ready_again : (at to : Standing) (a : Answer) → to.key ≡ at.key → to.stamp ≡ at.stamp → to.versions ≡ at.versions → IsReady at a → IsReady to a
ready_again at to a key stamp versions h =
    record { body = rw key h.body; table = rw (key, stamp, versions) h.table; further = h.further }

module _ {L : Type 0} (tells : LinkTells L) (at to : Standing) (key : to.key ≡ at.key) (stamp : to.stamp ≡ at.stamp) (versions : to.versions ≡ at.versions) where
  left_some : (ran : Bool) (a : Answer) (q : Phase L) → AreReady at ran (Some a) → GivenTo (Some a) q → IsPhaseAt tells to (Given ran) q × (is_untold q ≡ false)
  left_some false a q ready given = let no : ⊥ = cc in absurd no
  left_some true a phase.New ready given = absurd given
  left_some true a (phase.Idle p) ready given = absurd given
  left_some true a (phase.Dial number) ready given = absurd given
  left_some true a (phase.Back p ran answered) ready given = absurd given
  left_some true a (phase.Lost number what) ready given = absurd given
  left_some true a phase.Undialled ready given = absurd given
  left_some true a (phase.Landing b) ready given = rw given ((refl, ready_again at to a key stamp versions ready), refl)
  left_some true a phase.Falling ready given = absurd given

  left_none : (ran : Bool) (q : Phase L) → GivenTo None q → IsPhaseAt tells to (Given ran) q × (is_untold q ≡ false)
  left_none ran phase.New given = absurd given
  left_none ran (phase.Idle p) given = absurd given
  left_none ran (phase.Dial number) given = absurd given
  left_none ran (phase.Back p before answered) given = absurd given
  left_none ran (phase.Lost number what) given = absurd given
  left_none ran phase.Undialled given = absurd given
  left_none ran (phase.Landing b) given = absurd given
  left_none ran phase.Falling given = (tt, refl)

  left_so : (ran : Bool) (answered : Option Answer) (q : Phase L) → AreReady at ran answered → GivenTo answered q → IsPhaseAt tells to (Given ran) q × (is_untold q ≡ false)
  left_so ran None q ready given = left_none ran q given
  left_so ran (Some a) q ready given = left_some ran a q ready given

-- a link is given back

module _ {L : Type 0} (tells : LinkTells L) (l : LoadedFiles) (lane flight losses : ℕ) (old : List Entry) where
  abbrev s : State
  s = after l old

  abbrev w : Work
  w = work_of s lane

  module _ (link : PooledLink L) (ran : Bool) (answered : Option Answer) (h : IsBringing tells l lane flight losses old (phase.Back link ran answered)) where
    abbrev given : Entry
    given = Give lane flight link.number ran (tells.runs link.link) (tells.calls link.link)

    -- what the desk asks, and what comes of it
    pub record GivesBack : Type 0 where
      pub may : allowed l s given ≡ true
      pub named : AreNamed l.script.schemas s.versions (tells.mounts link.link)
      pub mirror : IsMirror ran link.mirror w.phase (flight_at s flight)
      pub text : RanAs ran link.mirror link.last (flight_at s flight)
      pub planned : IsPlanned l.script.fails (tells.planned link.link)
      pub goes : (new : List Entry) (q : Phase L) → new ≡ old ++ given ∷ [] → GivenTo answered q → Goes tells l lane flight false old new losses q

    gives_leased : (n : ℕ) (fresh : Bool) (k : LinkOf) → w.phase ≡ Leased n fresh k → Gives tells (trial_on (standing_at l s lane h.key h.stamp losses) k) ran link
        → AreReady (standing_at l s lane h.key h.stamp losses) ran answered → GivesBack
    gives_leased n fresh k course gives ready =
        let o : Option Flown = flight_at s flight in
        let runs : ℕ = tells.runs link.link in
        let calls : ℕ = tells.calls link.link in
        let counts : given_as ran k (reach k o) runs calls ≡ true = rw (reach_so h.key h.stamp k o h.asked) gives.counts in
        let row : may_give w.phase o link.number ran runs calls ≡ true =
        rw course (and_both (nat_eq k.number link.number) (given_as ran k (reach k o) runs calls) (eq-eqb k.number link.number (sym gives.number)) counts) in
        let may : allowed l s given ≡ true = flight_may tells l lane flight losses old (phase.Back link ran answered) h (may_give w.phase o link.number ran runs calls) row in
        record {
          may = may;
          named = gives.named;
          mirror = rw course (mirror_so h.key h.stamp ran link.mirror k o h.asked gives.mirror);
          text = text_so h.key h.stamp ran link.mirror link.last o h.asked gives.text;
          planned = gives.planned;
          goes = λ new q grew to.
              let at : Standing = standing_at l s lane h.key h.stamp losses in
              let left = left_so tells at (record at { course = Given ran }) refl refl refl ran answered q ready to in
              Goes-push tells l given flight losses old new (phase.Back link ran answered) h (legal-push l old given h.legal may) grew losses q (eq-eqb flight flight refl) refl left.1 refl
              (record { joins = refl; last = refl; ended = refl }) refl refl left.0;
        }

    gives_by : (c : Course) → w.phase ≡ c → IsBack tells (standing_at l s lane h.key h.stamp losses) c link ran answered → GivesBack
    gives_by (New n) course is = absurd is
    gives_by (Leased n fresh k) course is = gives_leased n fresh k course is.1 is.2
    gives_by (Given before) course is = absurd is

    pub gives_back : GivesBack
    gives_back = gives_by w.phase refl h.phase

  -- a link is lost

  module _ (number : ℕ) (what : LostOf L) (h : IsBringing tells l lane flight losses old (phase.Lost number what)) where
    pub record IsLosing : Type 0 where
      pub may : allowed l s (lose_entry tells lane flight number what) ≡ true
      pub lost : IsLostAt tells l.script.fails number what
      pub few : losses ≤ 1
      pub goes : (new : List Entry) → new ≡ old ++ lose_entry tells lane flight number what ∷ [] → Goes tells l lane flight (is_dial what) old new (losses + 1) phase.New

    few_by : (n : ℕ) (fresh : Bool) (k : LinkOf) → w.phase ≡ Leased n fresh k → n ≤ 1
    few_by n fresh k course = rw course at (LostFew-reached l s lane (legal_reached l old h.legal))

  loses_link : (number : ℕ) (v : LostLink L) (ran : Bool) (h : IsBringing tells l lane flight losses old (phase.Lost number (lost.Link v ran))) (n : ℕ) (fresh : Bool) (k : LinkOf)
      → w.phase ≡ Leased n fresh k → n ≡ losses → number ≡ k.number → Loses tells (trial_on (standing_at l s lane h.key h.stamp losses) k) ran v → IsLosing number (lost.Link v ran) h
  loses_link number v ran h n fresh k course same is loses =
      let o : Option Flown = flight_at s flight in
      let runs : ℕ = tells.runs v.link in
      let calls : ℕ = tells.calls v.link in
      let e : Entry = Lose lane flight number true ran runs calls in
      let counts : lost_as ran k (reach k o) runs calls ≡ true = rw (reach_so h.key h.stamp k o h.asked) loses.counts in
      let row : may_lose w.phase o number true ran runs calls ≡ true =
      rw course (and_both (nat_eq k.number number) (lost_as ran k (reach k o) runs calls) (eq-eqb k.number number (sym is)) counts) in
      let may : allowed l s e ≡ true = flight_may tells l lane flight losses old (phase.Lost number (lost.Link v ran)) h (may_lose w.phase o number true ran runs calls) row in
      let lost_so : lost_phase w.phase ≡ New (n + 1) = rw course refl in
      record {
        may = may;
        lost = (loses.number ∙ sym is, loses.planned);
        few = rw same at (few_by number (lost.Link v ran) h n fresh k course);
        goes = λ new grew.
            Goes-push tells l e flight losses old new (phase.Lost number (lost.Link v ran)) h (legal-push l old e h.legal may) grew (losses + 1) phase.New (eq-eqb flight flight refl)
            (rw (eq-eqb lane lane refl) refl) refl refl (record { joins = refl; last = refl; ended = refl }) refl refl (rw lost_so (ap (λ m. m + 1) same));
      }

  loses_dial : (number : ℕ) (h : IsBringing tells l lane flight losses old (phase.Lost number lost.Dial)) (n : ℕ) (fresh : Bool) (k : LinkOf)
      → w.phase ≡ Leased n fresh k → n ≡ losses → number ≡ k.number → fresh ≡ true → IsLosing number lost.Dial h
  loses_dial number h n fresh k course same is new_one =
      let o : Option Flown = flight_at s flight in
      let e : Entry = Lose lane flight number false false 0 0 in
      let row : may_lose w.phase o number false false 0 0 ≡ true =
      rw (course, new_one) (and_both (nat_eq k.number number) true (eq-eqb k.number number (sym is)) refl) in
      let may : allowed l s e ≡ true = flight_may tells l lane flight losses old (phase.Lost number lost.Dial) h (may_lose w.phase o number false false 0 0) row in
      let lost_so : lost_phase w.phase ≡ New (n + 1) = rw course refl in
      record {
        may = may;
        lost = tt;
        few = rw same at (few_by number lost.Dial h n fresh k course);
        goes = λ new grew.
            Goes-push tells l e flight losses old new (phase.Lost number lost.Dial) h (legal-push l old e h.legal may) grew (losses + 1) phase.New (eq-eqb flight flight refl)
            (rw (eq-eqb lane lane refl) refl) refl refl (record { joins = refl; last = refl; ended = refl }) refl refl (rw lost_so (ap (λ m. m + 1) same));
      }

  loses_what : (number : ℕ) (what : LostOf L) (h : IsBringing tells l lane flight losses old (phase.Lost number what)) (n : ℕ) (fresh : Bool) (k : LinkOf)
      → w.phase ≡ Leased n fresh k → n ≡ losses → IsLostOn tells (standing_at l s lane h.key h.stamp losses) fresh k number what → IsLosing number what h
  loses_what number (lost.Link v ran) h n fresh k course same is = loses_link number v ran h n fresh k course same is.0 is.1
  loses_what number lost.Dial h n fresh k course same is = loses_dial number h n fresh k course same is.0 is.1

  loses_by : (number : ℕ) (what : LostOf L) (h : IsBringing tells l lane flight losses old (phase.Lost number what)) (c : Course) → w.phase ≡ c
      → IsLost tells (standing_at l s lane h.key h.stamp losses) c number what → IsLosing number what h
  loses_by number what h (New n) course is = absurd is
  loses_by number what h (Leased n fresh k) course is = loses_what number what h n fresh k course is.0 is.1
  loses_by number what h (Given ran) course is = absurd is

  pub loses_so : (number : ℕ) (what : LostOf L) (h : IsBringing tells l lane flight losses old (phase.Lost number what)) → IsLosing number what h
  loses_so number what h = loses_by number what h w.phase refl h.phase

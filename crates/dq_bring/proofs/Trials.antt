-- What a trial leaves is as far as the machine has the flight.
use Rattle.std.proofs.Common.{◌≡◌, ℕ, zero, suc, ◌-◌, Bool, true, false, ◌||◌, cond, List, [], ◌∷◌, refl, sym, ◌∙◌, arith}
use Rattle.std.proofs.lemmas.Bool.{eq-eqb}
use Rattle.std.specs.List.{list_any}
use Rattle.std.specs.Prelude.{Option, Some, None, IfSome, nat_eq, slice_get, slice_index_or}
use Rattle.dq_base.specs.Answers.{answer}
use Rattle.dq_base.specs.Scripts.{numbered}
use Rattle.dq_base.specs.declared.cell.Cell.{Cell}
use Rattle.dq_base.specs.declared.script.Fails.{Fails}
use Rattle.dq_link.specs.Calls.{IsFresh, planned_call}
use Rattle.dq_link.specs.Mirrors.{no_mirror}
use Rattle.dq_link.specs.Mounts.{Holdings, Mounts}
use Rattle.dq_link.specs.Views.{LostLink, PooledLink}
use Rattle.dq_link.specs.declared.pooled.Lost.{Lost as LostOf}
use Rattle.dq_link.specs.declared.pooled.Lost.TheVariants as lost
use Rattle.dq_machine.specs.Publishing.{rows_at}
use Rattle.dq_machine.specs.State.{LinkOf, Phase as Course, New, Leased, Given}
use Rattle.dq_trial.specs.Links.{AreNamed, IsPlanned, LinkTells, is_planned}
use Rattle.dq_trial.specs.Trying.{Answers, Gives, Loses, TriedAs}
use Rattle.dq_trial.specs.declared.trying.Tried.{Tried}
use Rattle.dq_trial.specs.declared.trying.Tried.TheVariants.{Answered, Wanting, Lost}
use Rattle.dq_bring.specs.Phases.{AreReady, CanTry, CanTryOn, IsDialled, IsPhaseAt, IsReady, Standing, is_pending, is_untold, link_in, trial_on}
use Rattle.dq_bring.specs.Tried.{AnswersAs, TriedTo}
use Rattle.dq_bring.specs.declared.phase.Answer.{Answer}
use Rattle.dq_bring.specs.declared.phase.Phase.{Phase}
use Rattle.dq_bring.specs.declared.phase.Phase.TheVariants as phase

-- answers

ready_so : (at : Standing) (table : List (List Cell)) (o : Option Answer) → table ≡ answer at.key (rows_at at.versions at.stamp) → IfSome o (AnswersAs at.key table)
    → IfSome o (IsReady at)
ready_so at table None is h = tt
ready_so at table (Some a) is h = record { body = h.body; table = h.table ∙ is; further = h.further ∙ sym h.table }

none_ready : (at : Standing) (ran : Bool) → AreReady at ran None
none_ready at true = tt
none_ready at false = refl

module _ {L : Type 0} (tells : LinkTells L) (at : Standing) where
  -- the flight is as far as the machine has it, and what needs no turn is done
  pub record IsWorked (p : Phase L) : Type 0 where
    pub phase : IsPhaseAt tells at at.course p
    pub done : is_pending p ≡ false
    pub told : is_untold p ≡ false

  -- a trial

  answered_so : (losses : ℕ) (k : LinkOf) (p q : PooledLink L) (table : List (List Cell)) (ran : Bool) (answered : Option Answer) → losses ≡ at.losses
      → Answers tells (trial_on at k) p table → (q ≡ p) × (ran ≡ true) × IfSome answered (AnswersAs at.key table)
      → (losses ≡ at.losses) × Gives tells (trial_on at k) ran q × AreReady at ran answered
  answered_so losses k p q table ran answered same h to = rw (to.0, to.1) (same, h.gives, ready_so at table answered h.table to.2)

  wanting_so : (losses : ℕ) (k : LinkOf) (p q : PooledLink L) (before ran : Bool) (answered : Option Answer) → losses ≡ at.losses
      → Gives tells (trial_on at k) before p → (q ≡ p) × (ran ≡ before) × (answered ≡ None)
      → (losses ≡ at.losses) × Gives tells (trial_on at k) ran q × AreReady at ran answered
  wanting_so losses k p q before ran answered same h to = rw (to.0, to.1, to.2) (same, h, none_ready at before)

  lost_so : (losses : ℕ) (fresh : Bool) (k : LinkOf) (w : LostLink L) (ran : Bool) (number : ℕ) (what : LostOf L) → losses ≡ at.losses
      → Loses tells (trial_on at k) ran w → (number ≡ w.number) × (what ≡ lost.Link w ran)
      → IsPhaseAt tells at (Leased losses fresh k) (phase.Lost number what) × (is_untold (phase.Lost number what) ≡ false)
  lost_so losses fresh k w ran number what same h to = rw to.1 ((same, (to.0 ∙ h.number, h)), refl)

  abbrev Worked : Course → Phase L → Type 0
  Worked c p = IsPhaseAt tells at c p × (is_pending p ≡ false) × (is_untold p ≡ false)

  tried_leased : (losses : ℕ) (fresh : Bool) (k : LinkOf) (t : Tried L) (p : Phase L) → losses ≡ at.losses → TriedAs tells (trial_on at k) t → TriedTo at.key t p
      → Worked (Leased losses fresh k) p
  tried_leased losses fresh k (Answered p table) phase.New same h to = absurd to
  tried_leased losses fresh k (Answered p table) (phase.Idle q) same h to = absurd to
  tried_leased losses fresh k (Answered p table) (phase.Dial number) same h to = absurd to
  tried_leased losses fresh k (Answered p table) (phase.Back q ran answered) same h to = (answered_so losses k p q table ran answered same h to, refl, refl)
  tried_leased losses fresh k (Answered p table) (phase.Lost number what) same h to = absurd to
  tried_leased losses fresh k (Answered p table) phase.Undialled same h to = absurd to
  tried_leased losses fresh k (Answered p table) (phase.Landing a) same h to = absurd to
  tried_leased losses fresh k (Answered p table) phase.Falling same h to = absurd to
  tried_leased losses fresh k (Wanting p before) phase.New same h to = absurd to
  tried_leased losses fresh k (Wanting p before) (phase.Idle q) same h to = absurd to
  tried_leased losses fresh k (Wanting p before) (phase.Dial number) same h to = absurd to
  tried_leased losses fresh k (Wanting p before) (phase.Back q ran answered) same h to = (wanting_so losses k p q before ran answered same h to, refl, refl)
  tried_leased losses fresh k (Wanting p before) (phase.Lost number what) same h to = absurd to
  tried_leased losses fresh k (Wanting p before) phase.Undialled same h to = absurd to
  tried_leased losses fresh k (Wanting p before) (phase.Landing a) same h to = absurd to
  tried_leased losses fresh k (Wanting p before) phase.Falling same h to = absurd to
  tried_leased losses fresh k (Lost w ran) phase.New same h to = absurd to
  tried_leased losses fresh k (Lost w ran) (phase.Idle q) same h to = absurd to
  tried_leased losses fresh k (Lost w ran) (phase.Dial number) same h to = absurd to
  tried_leased losses fresh k (Lost w ran) (phase.Back q before answered) same h to = absurd to
  tried_leased losses fresh k (Lost w ran) (phase.Lost number what) same h to =
      let both = lost_so losses fresh k w ran number what same h to in (both.0, refl, both.1)
  tried_leased losses fresh k (Lost w ran) phase.Undialled same h to = absurd to
  tried_leased losses fresh k (Lost w ran) (phase.Landing a) same h to = absurd to
  tried_leased losses fresh k (Lost w ran) phase.Falling same h to = absurd to

  tried_at : (c : Course) (link : PooledLink L) (t : Tried L) (p : Phase L) → CanTry tells at c link → TriedAs tells (trial_on at (link_in c)) t → TriedTo at.key t p → Worked c p
  tried_at (New losses) link t p can h to = absurd can
  tried_at (Leased losses fresh k) link t p can h to = tried_leased losses fresh k t p can.0 h to
  tried_at (Given ran) link t p can h to = absurd can

  pub tried_so : (link : PooledLink L) (t : Tried L) (p : Phase L) → CanTry tells at at.course link → TriedAs tells (trial_on at (link_in at.course)) t → TriedTo at.key t p → IsWorked p
  tried_so link t p can h to = let w = tried_at at.course link t p can h to in record { phase = w.0; done = w.1; told = w.2 }

  -- what a trial asks

  can_link : (c : Course) (link : PooledLink L) → CanTry tells at c link → CanTryOn tells at (link_in c) link
  can_link (New losses) link can = absurd can
  can_link (Leased losses fresh k) link can = can.1
  can_link (Given ran) link can = absurd can

  pub can_try : (link : PooledLink L) → CanTry tells at at.course link → CanTryOn tells at (link_in at.course) link
  can_try link can = can_link at.course link can

-- a fresh link

or_second : (a b : Bool) → b ≡ true → (a || b) ≡ true
or_second true b h = refl
or_second false b h = h

or_first : (a b : Bool) → a ≡ true → (a || b) ≡ true
or_first true b h = refl
or_first false b h = cc

or_more : (a b c : Bool) → (a || b) ≡ true → (a || (c || b)) ≡ true
or_more true b c h = refl
or_more false b c h = or_second c b h

or_here : (a b c : Bool) → (a || b) ≡ true → (a || (b || c)) ≡ true
or_here true b c h = refl
or_here false b c h = or_first b c h

-- 0, or one of them
abbrev AmongOrNone : ℕ → List ℕ → Type 0
AmongOrNone call calls = (nat_eq call 0 || list_any (nat_eq call) calls) ≡ true

planned_among : (calls : List ℕ) (place : ℕ) → AmongOrNone (slice_index_or calls place 0) calls
planned_among [] zero = refl
planned_among [] (suc place) = refl
planned_among (call ∷ calls) zero = or_second (nat_eq call 0) (nat_eq call call || list_any (nat_eq call) calls) (or_first (nat_eq call call) (list_any (nat_eq call) calls) (eq-eqb call call refl))
planned_among (call ∷ calls) (suc place) =
    let n : ℕ = slice_index_or calls place 0 in or_more (nat_eq n 0) (list_any (nat_eq n) calls) (nat_eq n call) (planned_among calls place)

plan_at : (fails : List Fails) (place call : ℕ) (plan : Fails) → slice_get fails place ≡ Some plan → AmongOrNone call plan.links → is_planned fails call ≡ true
plan_at [] place call plan at h = let no : ⊥ = cc in absurd no
plan_at (f ∷ fails) zero call plan at h =
    let same : plan ≡ f = cc in
    or_here (nat_eq call 0) (list_any (nat_eq call) f.links) (list_any (λ (g : Fails). list_any (nat_eq call) g.links) fails) (rw same at h)
plan_at (f ∷ fails) (suc place) call plan at h =
    or_more (nat_eq call 0) (list_any (λ (g : Fails). list_any (nat_eq call) g.links) fails) (list_any (nat_eq call) f.links) (plan_at fails place call plan at h)

plan_numbered : (fails : List Fails) (lane call : ℕ) (plan : Fails) (b : Bool) → nat_eq lane 0 ≡ b → cond b None (slice_get fails (lane - 1)) ≡ Some plan → AmongOrNone call plan.links
    → is_planned fails call ≡ true
plan_numbered fails lane call plan true told at h = let no : ⊥ = cc in absurd no
plan_numbered fails lane call plan false told at h = plan_at fails (lane - 1) call plan at h

planned_so : (fails : List Fails) (lane given : ℕ) (plan : Option Fails) → IfSome plan (λ p. numbered fails lane ≡ Some p) → IsPlanned fails (planned_call plan given)
planned_so fails lane given None is = tt
planned_so fails lane given (Some plan) is =
    plan_numbered fails lane (slice_index_or plan.links given 0) plan (nat_eq lane 0) refl is (planned_among plan.links given)

none_named : (at : Standing) (mounts : Mounts) → ((s : ℕ) → mounts s ≡ None) → AreNamed at.loaded.script.schemas at.versions mounts
none_named at mounts none s = rw (none s) tt

module _ {L : Type 0} (tells : LinkTells L) (at : Standing) where
  -- a link as a dialer gave it, under the number that was leased
  fresh_at : (c : Course) (number : ℕ) (link : L) (tables : Holdings) (faults : ℕ) → IsDialled tells at c number
      → IsFresh (tells.mounts link) tables faults (tells.runs link) (tells.calls link) → IsPlanned at.loaded.script.fails (tells.planned link)
      → CanTry tells at c (record { number = number; link = link; mirror = no_mirror; last = None })
  fresh_at (New losses) number link tables faults is fresh planned = absurd is
  fresh_at (Leased losses new k) number link tables faults is fresh planned = (
    is.0,
    rw is.2 (record {
      link = record {
        number = refl;
        runs = fresh.unrun;
        calls = fresh.uncalled;
        mirror = λ sure. refl;
        named = none_named at (tells.mounts link) fresh.unmounted;
        planned = planned;
      };
      room = omega (arith, fresh.uncalled);
    }),
  )
  fresh_at (Given ran) number link tables faults is fresh planned = absurd is

  pub fresh_so : (lane number given : ℕ) (link : L) (tables : Holdings) (faults : ℕ) (plan : Option Fails) → IsDialled tells at at.course number
      → IsFresh (tells.mounts link) tables faults (tells.runs link) (tells.calls link) → tells.planned link ≡ planned_call plan given
      → IfSome plan (λ p. numbered at.loaded.script.fails lane ≡ Some p)
      → CanTry tells at at.course (record { number = number; link = link; mirror = no_mirror; last = None })
  fresh_so lane number given link tables faults plan is fresh planned of_lane =
      fresh_at at.course number link tables faults is fresh (rw planned (planned_so at.loaded.script.fails lane given plan of_lane))

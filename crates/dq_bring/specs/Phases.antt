-- How far a flight is that its lane brings.
use Rattle.std.specs.Prelude.{◌≡◌, ⊤, ℕ, ◌-◌, ◌≤◌, ◌^◌, Bool, true, false, List, Option, None, IfSome}
use Rattle.std.specs.Arc.{arc_value}
use Rattle.dq_base.specs.Answers.{answer}
use Rattle.dq_base.specs.declared.query.Query.{Query}
use Rattle.dq_extract.specs.Loads.{LoadedFiles}
use Rattle.dq_link.specs.Views.{PooledLink}
use Rattle.dq_link.specs.declared.pooled.Lost.{Lost as LostOf}
use Rattle.dq_link.specs.declared.pooled.Lost.TheVariants as lost
use Rattle.dq_machine.specs.Admitting.{taking_off}
use Rattle.dq_machine.specs.Leasing.{fresh_link}
use Rattle.dq_machine.specs.Publishing.{rows_at}
use Rattle.dq_machine.specs.State.{LinkOf, Phase as Course, New, Leased, Given, Publication}
use Rattle.dq_text.specs.Statements.{body}
use Rattle.dq_trial.specs.Links.{IsLink, LinkTells}
use Rattle.dq_trial.specs.Trying.{Gives, Loses, Trial}
use Rattle.dq_bring.specs.declared.phase.Answer.{Answer}
use Rattle.dq_bring.specs.declared.phase.Phase.{Phase}
use Rattle.dq_bring.specs.declared.phase.Phase.TheVariants as phase

-- where the machine is: what was loaded and published, the flight's key and stamp, its phase, and how many links it lost
pub record Standing : Type 0 where
  pub loaded : LoadedFiles
  pub versions : List Publication
  pub key : Query
  pub stamp : ℕ
  pub course : Course
  pub losses : ℕ

-- the trial of the flight on that link
abbrev pub trial_on : Standing → LinkOf → Trial
trial_on at k = record { loaded = at.loaded; versions = at.versions; link = k; flight = taking_off 0 0 at.stamp at.key }

-- the link that the flight has
abbrev pub link_in : Course → LinkOf
link_in (New losses) = fresh_link 0
link_in (Leased losses fresh k) = k
link_in (Given ran) = fresh_link 0

-- there is work before the next turn
abbrev pub is_pending : {L : Type 0} → Phase L → Bool
is_pending phase.New = false
is_pending (phase.Idle p) = true
is_pending (phase.Dial number) = true
is_pending (phase.Back p ran answered) = false
is_pending (phase.Lost number what) = false
is_pending phase.Undialled = false
is_pending (phase.Landing answered) = false
is_pending phase.Falling = false

abbrev pub is_dial : {L : Type 0} → LostOf L → Bool
is_dial (lost.Link w ran) = false
is_dial lost.Dial = true

-- a dial failed, and the desk doesn't know it yet
abbrev pub is_untold : {L : Type 0} → Phase L → Bool
is_untold phase.New = false
is_untold (phase.Idle p) = false
is_untold (phase.Dial number) = false
is_untold (phase.Back p ran answered) = false
is_untold (phase.Lost number what) = is_dial what
is_untold phase.Undialled = false
is_untold (phase.Landing answered) = false
is_untold phase.Falling = false

-- the text of the flight's query, and its answer
pub record IsReady (at : Standing) (a : Answer) : Type 0 where
  pub body : a.body ≡ body at.key
  pub table : arc_value a.table ≡ answer at.key (rows_at at.versions at.stamp)
  pub further : arc_value a.further ≡ arc_value a.table

-- only a link that ran the statement brought an answer
abbrev pub AreReady : Standing → Bool → Option Answer → Type 0
AreReady at true answered = IfSome answered (IsReady at)
AreReady at false answered = answered ≡ None

module _ {L : Type 0} (tells : LinkTells L) (at : Standing) where
  abbrev pub IsNew : Course → Type 0
  IsNew (New losses) = losses ≡ at.losses
  IsNew (Leased losses fresh k) = ⊥
  IsNew (Given ran) = ⊥

  -- the link is the machine's, and wasn't called too often
  pub record CanTryOn (k : LinkOf) (p : PooledLink L) : Type 0 where
    pub link : IsLink tells at.loaded at.versions k p
    pub room : tells.calls p.link ≤ 2 ^ 40 - 34

  abbrev pub CanTry : Course → PooledLink L → Type 0
  CanTry (New losses) p = ⊥
  CanTry (Leased losses fresh k) p = (losses ≡ at.losses) × CanTryOn k p
  CanTry (Given ran) p = ⊥

  abbrev pub IsDialled : Course → ℕ → Type 0
  IsDialled (New losses) number = ⊥
  IsDialled (Leased losses fresh k) number = (losses ≡ at.losses) × (fresh ≡ true) × (k ≡ fresh_link number)
  IsDialled (Given ran) number = ⊥

  abbrev pub IsBack : Course → PooledLink L → Bool → Option Answer → Type 0
  IsBack (New losses) p ran answered = ⊥
  IsBack (Leased losses fresh k) p ran answered = (losses ≡ at.losses) × Gives tells (trial_on at k) ran p × AreReady at ran answered
  IsBack (Given before) p ran answered = ⊥

  abbrev pub IsLostOn : Bool → LinkOf → ℕ → LostOf L → Type 0
  IsLostOn fresh k number (lost.Link w ran) = (number ≡ k.number) × Loses tells (trial_on at k) ran w
  IsLostOn fresh k number lost.Dial = (number ≡ k.number) × (fresh ≡ true)

  abbrev pub IsLost : Course → ℕ → LostOf L → Type 0
  IsLost (New losses) number what = ⊥
  IsLost (Leased losses fresh k) number what = (losses ≡ at.losses) × IsLostOn fresh k number what
  IsLost (Given ran) number what = ⊥

  abbrev pub IsUndialled : Course → Type 0
  IsUndialled (New losses) = ⊥
  IsUndialled (Leased losses fresh k) = (losses ≡ at.losses) × (fresh ≡ true)
  IsUndialled (Given ran) = ⊥

  abbrev pub IsLanding : Course → Answer → Type 0
  IsLanding (New losses) a = ⊥
  IsLanding (Leased losses fresh k) a = ⊥
  IsLanding (Given ran) a = (ran ≡ true) × IsReady at a

  abbrev pub IsFalling : Course → Type 0
  IsFalling (New losses) = ⊥
  IsFalling (Leased losses fresh k) = ⊥
  IsFalling (Given ran) = ⊤

  -- the flight is as far as the machine has it
  abbrev pub IsPhaseAt : Course → Phase L → Type 0
  IsPhaseAt c phase.New = IsNew c
  IsPhaseAt c (phase.Idle p) = CanTry c p
  IsPhaseAt c (phase.Dial number) = IsDialled c number
  IsPhaseAt c (phase.Back p ran answered) = IsBack c p ran answered
  IsPhaseAt c (phase.Lost number what) = IsLost c number what
  IsPhaseAt c phase.Undialled = IsUndialled c
  IsPhaseAt c (phase.Landing a) = IsLanding c a
  IsPhaseAt c phase.Falling = IsFalling c

  abbrev pub IsPhase : Phase L → Type 0
  IsPhase p = IsPhaseAt at.course p

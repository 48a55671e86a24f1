-- The rule of the turnstile's table. Its words are next, now and length, and its slot holds the state.
-- Tickets and turns are counted without end. The words show them modulo 2^64.
use Rattle.std.specs.Prelude.{◌≡◌, ℕ, ◌+◌, ◌%◌, ◌^◌, ◌<◌, ◌≤◌, List, [], ◌∷◌, length, Option, Some}
use Rattle.std.specs.List.{sum_by}
use Rattle.std.specs.Option.{option_map}
use mathlib.Core.Option.{none, some}
use mathlib.Core.Option as maybe
use lib.ListN.{get_elem?}
use Rattle.atomic_table.specs.Table.{State}
use Rattle.dq_journal.specs.declared.entry.Entry.{Entry}
use Rattle.dq_turn.specs.declared.views.Role.{Role}
use Rattle.dq_turn.specs.declared.views.Role.TheVariants.{Keeper, Lane, Spent}
use Rattle.dq_turn.specs.declared.views.Stage.{Stage}
use Rattle.dq_turn.specs.declared.views.Stage.TheVariants.{Outside, Waiting, Inside}
use Rattle.dq_turn.specs.declared.views.Joined.{Joined}
use Rattle.dq_turn.specs.declared.views.View.{View}
use Rattle.dq_turn.specs.Made.{Begins, made}

-- where the state is: at home, or with the seat of that number
pub data Place (S : Type 0) : Type 0 where
  home : S → Place S
  away : ℕ → Place S

-- what no single view has: how many tickets were drawn, turns passed and lanes handed out, the history, what was loaded,
-- whose each ticket and each lane is (0 for a lane that was joined, which the keeper keeps), and where the state is
pub record Book (S L : Type 0) : Type 0 where
  pub drawn : ℕ
  pub passed : ℕ
  pub handed : ℕ
  pub log : List Entry
  pub first : L
  pub owner : ℕ → ℕ
  pub seat : ℕ → ℕ
  pub place : Place S

abbrev pub lanes_at : Role → ℕ → ℕ
lanes_at Keeper n = n
lanes_at Lane n = 1
lanes_at Spent n = 0

module _ {S : Type 0} where
  -- 1 where the seat has a ticket
  abbrev pub tickets_at : Stage S → ℕ
  tickets_at Outside = 0
  tickets_at (Waiting t) = 1
  tickets_at (Inside t x) = 1

  abbrev pub tickets : View S → ℕ
  tickets v = tickets_at v.stage

  -- how many lanes a view stands for: the keeper for those that were joined
  abbrev pub lanes : View S → ℕ
  lanes v = lanes_at v.role (length v.joined)

module _ {S L : Type 0} (loaded : S → L) (journal : S → List Entry) (b : Book S L) where
  -- the state's journal is the history, and it has what was loaded
  abbrev pub Fits : S → Type 0
  Fits x = (journal x ≡ b.log) × (loaded x ≡ b.first)

  -- a ticket is between now and next and its owner's; who has the turn has the ticket of now, and its state is the last one
  abbrev pub KnowsStage : ℕ → Stage S → Type 0
  KnowsStage id Outside = Unit {0}
  KnowsStage id (Waiting t) = (b.passed ≤ t) × (t < b.drawn) × (b.owner t ≡ id)
  KnowsStage id (Inside t x) = (t ≡ b.passed) × (t < b.drawn) × (b.owner t ≡ id) × (b.place ≡ away id) × Fits x

  -- a lane that was joined: what it had seen, and its entries
  pub record KnowsJoined (all : List Entry) (j : Joined) : Type 0 where
    pub lane : (0 < j.lane) × (j.lane ≤ b.handed)
    pub seat : b.seat j.lane ≡ 0
    pub seen : Begins j.seen all
    pub own : made j.lane b.log ≡ j.own

  abbrev pub AllJoined : List Entry → List Joined → Type 0
  AllJoined seen [] = Unit {0}
  AllJoined seen (j ∷ js) = KnowsJoined seen j × AllJoined seen js

  -- the keeper is the first seat
  pub record KnowsKeeper (id : ℕ) (v : View S) : Type 0 where
    pub id_is : id ≡ 0
    pub given : option_map loaded v.given ≡ Some b.first
    pub stage : v.stage ≡ Outside
    pub handed : v.handed ≡ b.handed
    pub seen : Begins v.seen b.log
    pub before : Begins v.before v.seen
    pub joined : AllJoined v.seen v.joined

  -- the seat of a lane: of its lane the history has what it made, all of which it has seen
  pub record KnowsLane (id : ℕ) (v : View S) : Type 0 where
    pub not_keeper : 0 < id
    pub given : option_map loaded v.given ≡ Some b.first
    pub lane : (0 < v.lane) × (v.lane ≤ b.handed)
    pub seat : b.seat v.lane ≡ id
    pub seen : Begins v.seen b.log
    pub own_seen : made v.lane v.seen ≡ v.own
    pub own : made v.lane b.log ≡ v.own
    pub stage : KnowsStage id v.stage

  abbrev pub KnowsAs : Role → ℕ → View S → Type 0
  KnowsAs Keeper id v = KnowsKeeper id v
  KnowsAs Lane id v = KnowsLane id v
  KnowsAs Spent id v = v.stage ≡ Outside

  abbrev pub Knows : ℕ → View S → Type 0
  Knows id v = KnowsAs v.role id v

  -- the slot has the state, or a lane's seat has the turn and holds the slot
  abbrev pub Lies : List (maybe.Option (Option S)) → List (View S) → Place S → Type 0
  Lies homes views (home x) = (homes ≡ some (Some x) ∷ []) × Fits x
  Lies homes views (away h) =
      (homes ≡ none ∷ [])
      × ((v : View S) × (t : ℕ) × (x : S) × (get_elem? views h ≡ some v) × (v.role ≡ Lane) × (v.stage ≡ Inside t x))

  -- what is kept between any two steps. A lane that isn't handed out has no entry
  pub record Kept (s : State (Option S) (View S)) : Type 0 where
    pub words : s.words ≡ (b.drawn % 2 ^ 64) ∷ (b.passed % 2 ^ 64) ∷ length b.log ∷ []
    pub short : length b.log ≤ 2 ^ 63
    pub tickets_are : b.drawn ≡ b.passed + sum_by tickets s.views
    pub lanes_are : sum_by lanes s.views ≡ b.handed
    pub few : b.handed < 2 ^ 32
    pub lies : Lies s.homes s.views b.place
    pub each : (id : ℕ) (v : View S) → get_elem? s.views id ≡ some v → Knows id v
    pub others : (lane : ℕ) → (0 < lane → b.handed < lane) → made lane b.log ≡ []

-- the rule: there is a book of which all that is kept
abbrev pub Turning : {S L : Type 0} → (S → L) → (S → List Entry) → State (Option S) (View S) → Type 0
Turning {S} {L} loaded journal s = (b : Book S L) × Kept loaded journal b s

-- What seats of the table know and hold.
use Rattle.std.specs.Prelude.{ℕ, ◌+◌, Bool, true, false, List, [], ◌∷◌, ◌++◌, length, nat_lt, Option, Some, None}
use Rattle.dq_journal.specs.declared.entry.Entry.{Entry}
use Rattle.dq_turn.specs.declared.views.Role.TheVariants.{Keeper, Lane, Spent}
use Rattle.dq_turn.specs.declared.views.Stage.{Stage}
use Rattle.dq_turn.specs.declared.views.Stage.TheVariants.{Outside, Waiting, Inside}
use Rattle.dq_turn.specs.declared.views.Joined.{Joined}
use Rattle.dq_turn.specs.declared.views.View.{View}

-- the second list where it is longer, else the first
abbrev pub longer_by : Bool → List Entry → List Entry → List Entry
longer_by true xs ys = ys
longer_by false xs ys = xs

abbrev pub longer : List Entry → List Entry → List Entry
longer xs ys = longer_by (nat_lt (length xs) (length ys)) xs ys

module _ {S : Type 0} where
  -- the ticket of a seat that waits or has the turn
  abbrev pub ticket_of : Stage S → ℕ
  ticket_of Outside = 0
  ticket_of (Waiting t) = t
  ticket_of (Inside t x) = t

  -- the state whose turn it is in
  abbrev pub inside : Stage S → Option S
  inside Outside = None
  inside (Waiting t) = None
  inside (Inside t x) = Some x

  abbrev pub is_waiting : Stage S → Bool
  is_waiting Outside = false
  is_waiting (Waiting t) = true
  is_waiting (Inside t x) = false

  -- the slots that a seat has between two calls: the one of the state, which is empty
  abbrev pub held_at : Stage S → List (ℕ × Option S)
  held_at Outside = []
  held_at (Waiting t) = []
  held_at (Inside t x) = (0, None) ∷ []

  -- the keeper of a turnstile that was given this state
  abbrev pub first_keeper : S → View S
  first_keeper x = record { role = Keeper; given = Some x; lane = 0; stage = Outside; seen = []; own = []; handed = 0; before = []; joined = [] }

  abbrev pub spent : View S
  spent = record { role = Spent; given = None; lane = 0; stage = Outside; seen = []; own = []; handed = 0; before = []; joined = [] }

  -- the seat of a new lane, which has seen what the keeper has seen
  abbrev pub new_lane : View S → View S
  new_lane k = record { role = Lane; given = k.given; lane = k.handed + 1; stage = Outside; seen = k.seen; own = []; handed = 0; before = []; joined = [] }

  -- the keeper after a lane was handed out
  abbrev pub handing : View S → View S
  handing k = record k { handed = k.handed + 1 }

  abbrev pub left_by : View S → Joined
  left_by v = record { lane = v.lane; seen = v.seen; own = v.own }

  -- the keeper after it took a seat in
  abbrev pub joining : View S → View S → View S
  joining k v = record k { seen = longer k.seen v.seen; before = k.seen; joined = k.joined ++ left_by v ∷ [] }

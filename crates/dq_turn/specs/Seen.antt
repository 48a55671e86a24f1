-- What a contract sees of a turnstile, its keeper, its seats and its guards.
use Rattle.std.specs.Prelude.{◌≡◌, ℕ, List, [], ◌∷◌, Option, Some}
use Rattle.dq_journal.specs.declared.chronicled.Chronicled.{Ghosts}
use Rattle.dq_journal.specs.declared.entry.Entry.{Entry}
use Rattle.dq_turn.specs.declared.views.Joined.{Joined}
use Rattle.dq_turn.specs.declared.seats.Turnstile.{Turnstile}
use Rattle.dq_turn.specs.declared.seats.Keeper.{Keeper}
use Rattle.dq_turn.specs.declared.seats.LaneSeat.{LaneSeat}
use Rattle.dq_turn.specs.declared.seats.Guard.{Guard}
use Rattle.dq_turn.specs.Made.{Begins, made}
use Rattle.dq_turn.specs.Views.{inside, left_by}

module _ {S : Type 0} where
  -- the state that a turnstile was given
  abbrev pub given : Turnstile S → S
  given t = t.table.shared.key.value

  abbrev pub IsKeeperOf : Turnstile S → Keeper S → Type 0
  IsKeeperOf t k = (k.seat.table_id ≡ t.table.shared.table_id) × (k.seat.me.0.given ≡ Some (given t))

  -- how many lanes were handed out
  abbrev pub handed : Keeper S → ℕ
  handed k = k.seat.me.0.handed

  abbrev pub keeper_seen : Keeper S → List Entry
  keeper_seen k = k.seat.me.0.seen

  -- the lanes that were joined: what their seats had seen, and the entries that they made
  abbrev pub joined : Keeper S → List Joined
  joined k = k.seat.me.0.joined

  abbrev pub IsSeatOf : Turnstile S → LaneSeat S → Type 0
  IsSeatOf t s = (s.seat.table_id ≡ t.table.shared.table_id) × (s.seat.me.0.given ≡ Some (given t))

  abbrev pub lane : LaneSeat S → ℕ
  lane s = s.seat.me.0.lane

  abbrev pub seen : LaneSeat S → List Entry
  seen s = s.seat.me.0.seen

  -- the entries that the seat made, with their places from 1
  abbrev pub own : LaneSeat S → List (ℕ × Entry)
  own s = s.seat.me.0.own

  -- the state as the seat entered, or none where it has left
  abbrev pub entered : LaneSeat S → Option S
  entered s = inside s.seat.me.0.stage

  -- it is the same lane, which has seen the same and made the same entries
  abbrev pub IsSameLane : LaneSeat S → LaneSeat S → Type 0
  IsSameLane old new = (lane new ≡ lane old) × (seen new ≡ seen old) × (own new ≡ own old)

  -- what a seat leaves with the keeper
  abbrev pub left_of : LaneSeat S → Joined
  left_of s = left_by s.seat.me.0

module _ {S : Type 0} {chronicle : Ghosts S} where
  -- the state in the guard's hands
  abbrev pub state_in : Guard S chronicle → S
  state_in g = g.state

  -- the state as it was at `enter`
  abbrev pub found_by : Guard S chronicle → S
  found_by g = g.mark.entered.value

  -- the guard after a state was written through it
  abbrev pub with_state : Guard S chronicle → S → Guard S chronicle
  with_state g x = record g { state = x }

-- the journal begins with what each seat that was joined had seen, and has of its lane the entries that it made and no others
abbrev pub AllStand : List Entry → List Joined → Type 0
AllStand journal [] = Unit {0}
AllStand journal (j ∷ js) = Begins j.seen journal × (made j.lane journal ≡ j.own) × AllStand journal js

-- What each step tells its seat, which is its view and the slots that it holds.
--
-- | step | word | the seat |
-- | draw | next grows by 1 | gets a ticket |
-- | watch | now is loaded | where it is the ticket, the seat has the turn, and takes the slot |
-- | out, home | none | reads and writes the slot that it took; its view stays |
-- | count | length grows by what was added | has seen the journal of the state in the slot, and made its lane's entries there |
-- | pass | now grows by 1 | loses its ticket, and gives the slot back |
-- | hand out, take in, hear | next stays | the keeper and a lane's seat (`Views`); what the keeper then knows |
use Rattle.std.specs.Prelude.{◌≡◌, ◌≢◌, ℕ, ◌%◌, ◌^◌, ◌≤◌, List, [], ◌∷◌, length, Option, Some}
use Rattle.std.specs.Option.{option_map}
use Rattle.atomic_table.specs.Table.{Me, rest}
use Rattle.dq_journal.specs.declared.entry.Entry.{Entry}
use Rattle.dq_turn.specs.declared.views.Stage.TheVariants.{Outside, Waiting, Inside}
use Rattle.dq_turn.specs.declared.views.Joined.{Joined}
use Rattle.dq_turn.specs.declared.views.View.{View}
use Rattle.dq_turn.specs.Made.{Begins, made}
use Rattle.dq_turn.specs.Views.{ticket_of}

-- a seat: its view, and the slots that it holds
abbrev pub Seated : Type 0 → Type 0
Seated S = Me (Option S) (View S)

-- the journals of the lanes that were joined begin what the keeper has seen
abbrev pub AllSeen : List Entry → List Joined → Type 0
AllSeen seen [] = Unit {0}
AllSeen seen (j ∷ js) = Begins j.seen seen × AllSeen seen js

module _ {S : Type 0} where
  -- the seat with the state x, whose journal is the history
  abbrev pub in_turn : View S → S → View S
  in_turn v x = record v { stage = Inside (ticket_of v.stage) x }

  -- the seat, where the history is this journal
  abbrev pub counting : View S → S → List Entry → View S
  counting v x history = record v { stage = Inside (ticket_of v.stage) x; seen = history; own = made v.lane history }

  -- a ticket was drawn
  abbrev pub drew : Seated S → ℕ → Seated S → Type 0
  drew m r n = (t : ℕ) × (r ≡ t % 2 ^ 64) × (n ≡ (record m.0 { stage = Waiting t }, m.1))

  -- the turn is past
  abbrev pub passed : Seated S → Seated S → Type 0
  passed m n = n ≡ (record m.0 { stage = Outside }, rest m.1)

  -- nothing moved, and what was seen began what is seen now
  abbrev pub heard : Seated S → Seated S → Type 0
  heard m n = (n ≡ m) × Begins m.0.before m.0.seen × AllSeen m.0.seen m.0.joined

module _ {S L : Type 0} (loaded : S → L) (journal : S → List Entry) where
  -- a state with what was loaded, whose journal isn't too long, begins with what the seat has seen, and has of its lane what
  -- the seat made, all of which it has seen
  abbrev pub Follows : View S → S → Type 0
  Follows v x =
      (option_map loaded v.given ≡ Some (loaded x)) × Begins v.seen (journal x)
      × (made v.lane (journal x) ≡ v.own) × (made v.lane v.seen ≡ v.own) × (length (journal x) ≤ 2 ^ 63)

  -- the seat takes the slot, with such a state in it
  abbrev pub Takes : Seated S → Seated S → Type 0
  Takes m n = (x : S) × (n ≡ (in_turn m.0 x, (0, Some x) ∷ m.1)) × Follows m.0 x

  -- the seat has the turn where its ticket was found, and it takes the state
  abbrev pub watched : Seated S → ℕ → Seated S → Type 0
  watched m r n = (r ≡ ticket_of m.0.stage % 2 ^ 64 → Takes m n) × (r ≢ ticket_of m.0.stage % 2 ^ 64 → n ≡ m)

  -- the journal of the state that the seat has put back is the history
  abbrev pub counted : Seated S → Seated S → Type 0
  counted m n = (x : S) → m.1 ≡ (0, Some x) ∷ [] → n ≡ (counting m.0 x (journal x), m.1)

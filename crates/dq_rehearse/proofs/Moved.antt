-- What a turn of one lane is.
use Rattle.std.proofs.Common.{◌≡◌, ℕ, Bool, true, false, ◌||◌, List, inl, inr, refl, ap, sym, ◌∙◌}
use Rattle.dq_extract.specs.Loads.{LoadedFiles}
use Rattle.dq_fates.proofs.GoingOn.{goes_on_same}
use Rattle.dq_journal.specs.declared.entry.Entry.{Entry}
use Rattle.dq_machine.specs.Machine.{after, legal}
use Rattle.dq_machine.specs.State.{work_of}
use Rattle.dq_machine.specs.Taking.{waits}
use Rattle.dq_rehearse.specs.Lanes.{IsOn}
use Rattle.dq_rehearse.specs.Turns.{Turns}
use Rattle.dq_lane.specs.Turns.{IsTurn, Moves}
use Rattle.dq_lane.specs.View.{LaneOf}
use Rattle.dq_lane.specs.declared.lane.Stepped.TheVariants.{Moved, Waits, Done}

or_second : (a b : Bool) → b ≡ true → (a || b) ≡ true
or_second true b h = refl
or_second false b h = h

or_first : (a b : Bool) → a ≡ true → (a || b) ≡ true
or_first true b h = refl
or_first false b h = cc

-- the lane after its work
abbrev worked : LaneOf → Bool → LaneOf
worked v untold = record v { pending = false; untold = untold }

moves_as : (v w : LaneOf) (untold : Bool) (old new : List Entry) → Moves (worked v untold) w old new → Moves v w old new
moves_as v w untold old new (inl m) = inl (record { journal = m.journal; free = m.free; below = m.below; places = m.places; going = m.going })
moves_as v w untold old new (inr (inl m)) =
    inr (inl (record { entry = m.entry; names = m.names; of_lane = m.of_lane; journal = m.journal; below = m.below; places = m.places; going = m.going }))
moves_as v w untold old new (inr (inr (inl m))) =
    inr (inr (inl (record { entry = m.entry; names = m.names; goes = m.goes; of_lane = m.of_lane; journal = m.journal; places = m.places; going = m.going })))
moves_as v w untold old new (inr (inr (inr m))) = inr (inr (inr (record { journal = m.journal; over = m.over; places = m.places; done = m.done })))

on_after : (l : LoadedFiles) (v w : LaneOf) (new : List Entry) → v.loaded ≡ l → w.number ≡ v.number → w.loaded ≡ v.loaded → w.seen ≡ new → IsOn l new v.number w
on_after l v w new at number loaded seen = record { numbered = number; loaded = loaded ∙ at; goes_on = rw seen (goes_on_same v.number new) }

module _ (l : LoadedFiles) (v u w : LaneOf) (old new : List Entry) where
  pub turn_moved : v.loaded ≡ l → u ≡ worked v u.untold → w.number ≡ u.number → w.loaded ≡ u.loaded → w.seen ≡ new → legal l new ≡ true
      → (work_of (after l old) u.number).ended ≡ u.done → IsTurn Moved u w old new → Turns l v.number v w old new true
  turn_moved at is number loaded seen legal ended turn =
      let as_number : u.number ≡ v.number = ap (λ x. x.number) is in
      let as_loaded : u.loaded ≡ v.loaded = ap (λ x. x.loaded) is in
      let as_done : u.done ≡ v.done = ap (λ x. x.done) is in
      record {
        on = on_after l v w new at (number ∙ as_number) (loaded ∙ as_loaded) seen;
        legal = legal;
        ended = ap (λ n. (work_of (after l old) n).ended) (sym as_number) ∙ ended ∙ as_done;
        turn = (sym as_done ∙ turn.0, moves_as v w u.untold old new (rw is at turn.1));
      }

  pub turn_waits : (flight : ℕ) → v.loaded ≡ l → u ≡ worked v u.untold → w.number ≡ u.number → w.loaded ≡ u.loaded → w.seen ≡ new → legal l new ≡ true
      → (work_of (after l old) u.number).ended ≡ u.done → IsTurn (Waits flight) u w old new → Turns l v.number v w old new false
  turn_waits flight at is number loaded seen legal ended turn =
      let as_number : u.number ≡ v.number = ap (λ x. x.number) is in
      let as_loaded : u.loaded ≡ v.loaded = ap (λ x. x.loaded) is in
      let as_done : u.done ≡ v.done = ap (λ x. x.done) is in
      let as_places : u.places ≡ v.places = ap (λ x. x.places) is in
      let done : w.done ≡ u.done = ap (λ x. x.done) turn.3 in
      let places : w.places ≡ u.places = ap (λ x. x.places) turn.3 in
      let waiting : waits (after l old) (work_of (after l old) v.number) ≡ true =
      ap (λ n. waits (after l old) (work_of (after l old) n)) (sym as_number) ∙ ap (λ m. waits (after m old) (work_of (after m old) u.number)) (sym (as_loaded ∙ at)) ∙ turn.1 in
      record {
        on = on_after l v w new at (number ∙ as_number) (loaded ∙ as_loaded) seen;
        legal = legal;
        ended = ap (λ n. (work_of (after l old) n).ended) (sym as_number) ∙ ended ∙ as_done;
        turn = (or_second (work_of (after l old) v.number).ended (waits (after l old) (work_of (after l old) v.number)) waiting, done ∙ as_done, places ∙ as_places, turn.4);
      }

  pub turn_done : v.loaded ≡ l → u ≡ worked v u.untold → w.number ≡ u.number → w.loaded ≡ u.loaded → w.seen ≡ new → legal l new ≡ true
      → (work_of (after l old) u.number).ended ≡ u.done → IsTurn Done u w old new → Turns l v.number v w old new false
  turn_done at is number loaded seen legal ended turn =
      let as_number : u.number ≡ v.number = ap (λ x. x.number) is in
      let as_loaded : u.loaded ≡ v.loaded = ap (λ x. x.loaded) is in
      let as_done : u.done ≡ v.done = ap (λ x. x.done) is in
      let as_places : u.places ≡ v.places = ap (λ x. x.places) is in
      let done : w.done ≡ u.done = ap (λ x. x.done) turn.1 in
      let places : w.places ≡ u.places = ap (λ x. x.places) turn.1 in
      let over : (work_of (after l old) v.number).ended ≡ u.done = ap (λ n. (work_of (after l old) n).ended) (sym as_number) ∙ ended in
      record {
        on = on_after l v w new at (number ∙ as_number) (loaded ∙ as_loaded) seen;
        legal = legal;
        ended = over ∙ as_done;
        turn = (or_first (work_of (after l old) v.number).ended (waits (after l old) (work_of (after l old) v.number)) (over ∙ turn.0), done ∙ as_done, places ∙ as_places, turn.2);
      }

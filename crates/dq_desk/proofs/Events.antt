-- What a desk keeps, event by event: the end of a lane, leases, gives and losses.
use Rattle.std.proofs.Common.{◌≡◌, ℕ, ◌+◌, ◌-◌, ◌<◌, ◌≤◌, Bool, true, false, ◌&&◌, List, [], ◌∷◌, ◌++◌, length, length-set, refl, ap, sym, ◌∙◌, arith}
use Rattle.dq_extract.specs.Loads.{LoadedFiles}
use Rattle.dq_journal.specs.declared.entry.Entry.{Entry}
use Rattle.dq_journal.specs.declared.entry.Entry.TheVariants.{Publish, Admit, Lease, Give, Lose, Land, Fall, Take, End}
use Rattle.dq_machine.specs.Machine.{after, allowed, next}
use Rattle.dq_machine.specs.State.{State, Work, work_of}
use Rattle.dq_laws.proofs.Counting.{counted}
use Rattle.dq_laws.proofs.Owed.{owed_next}
use Rattle.dq_laws.specs.Room.{OwesAfter, owed}
use Rattle.dq_desk.specs.Kept.{Agrees, Inner, IsDesk}
use Rattle.dq_trial.specs.Links.{LinkTells}
use Rattle.dq_desk.proofs.Kept.{HasSome, joins-same, room-less, room-some}
use Rattle.dq_desk.proofs.Pushed.{IsDesk-push, desk-reached, wrecks-same}

module _ {L : Type 0} (tells : LinkTells L) (l : LoadedFiles) (journal : List Entry) (p : Inner L) (h : IsDesk tells l journal p) where
  abbrev pub s : State
  s = after l journal

  -- an entry that was owed has room
  pub has-some : (e : Entry) → allowed l s e ≡ true → owed (next l s e) + 1 ≤ owed s → HasSome p
  has-some e may less = room-some s (next l s e) p h.agrees.room less

  pub owed-less : (e : Entry) → allowed l s e ≡ true → OwesAfter e (owed s) (owed (next l s e))
  owed-less e may = owed_next l s e (desk-reached tells l journal p h) may

  -- there are no more publications than entries
  pub published-few : p.published ≤ length journal
  published-few = omega (arith, h.agrees.versions.published, (counted l journal h.legal).versions)

  -- the end of a lane
  pub IsDesk-end : (lane spare : ℕ) (journal' : List Entry) → allowed l s (End lane) ≡ true → p.spare ≤ spare + 1 → journal' ≡ journal ++ End lane ∷ []
      → IsDesk tells l journal' (record p { spare = spare; owed = p.owed - 1 })
  IsDesk-end lane spare journal' may fits is =
      let a = h.agrees in
      let p' : Inner L = record p { spare = spare; owed = p.owed - 1 } in
      IsDesk-push tells l journal journal' p p' (End lane) h may is (record {
        versions = a.versions;
        shelves = a.shelves;
        flights = a.flights;
        joins = a.joins ∙ sym (joins-same s.works (lane - 1) _ refl);
        idle = a.idle;
        fresh = a.fresh;
        room = room-less s (next l s (End lane)) p p' a.room (owed_next l s (End lane) (desk-reached tells l journal p h) may) refl fits (omega arith) (omega arith)
            (length-set s.works (lane - 1) _) (omega arith);
      }) (wrecks-same tells l.script.fails _ p.wrecks.items h.wrecks)

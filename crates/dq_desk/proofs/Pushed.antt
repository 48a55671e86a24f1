-- A desk after one more entry.
use Rattle.std.proofs.Common.{◌≡◌, ℕ, ◌+◌, ◌-◌, ◌<◌, ◌≤◌, true, List, [], ◌∷◌, ◌++◌, length, length-set, refl, ap, sym, ◌∙◌, arith, append_assoc, append-nil}
use Rattle.dq_base.specs.declared.script.Fails.{Fails}
use Rattle.dq_extract.specs.Loads.{LoadedFiles}
use Rattle.dq_journal.specs.Journals.{lane_of}
use Rattle.dq_journal.specs.declared.entry.Entry.{Entry}
use Rattle.dq_link.specs.Views.{LostLink}
use Rattle.dq_machine.proofs.Reached.{and_both, and_first, and_second}
use Rattle.dq_machine.specs.Machine.{IsReached, after, allowed, legal, legal_from, next, run}
use Rattle.dq_machine.specs.State.{State, start}
use Rattle.dq_laws.proofs.Goes.{legal_reached}
use Rattle.dq_laws.specs.Room.{owed}
use Rattle.dq_desk.specs.Kept.{Agrees, HasRoom, Inner, IsDesk}
use Rattle.dq_desk.specs.Links.{AreWrecks, IsWreck, Loss, loss_in, losses}
use Rattle.dq_trial.specs.Links.{LinkTells}

-- journals

legal_push : (l : LoadedFiles) (s : State) (es : List Entry) (e : Entry) → legal_from l s es ≡ true → allowed l (run l s es) e ≡ true → legal_from l s (es ++ e ∷ []) ≡ true
legal_push l s [] e h a = and_both (allowed l s e) true a refl
legal_push l s (x ∷ es) e h a =
    and_both (allowed l s x) (legal_from l (next l s x) (es ++ e ∷ [])) (and_first (allowed l s x) (legal_from l (next l s x) es) h)
    (legal_push l (next l s x) es e (and_second (allowed l s x) (legal_from l (next l s x) es) h) a)

pub legal-push : (l : LoadedFiles) (journal : List Entry) (e : Entry) → legal l journal ≡ true → allowed l (after l journal) e ≡ true → legal l (journal ++ e ∷ []) ≡ true
unfolding after legal
legal-push l journal e h a = legal_push l (start l) journal e h a

run_push : (l : LoadedFiles) (s : State) (es : List Entry) (e : Entry) → run l s (es ++ e ∷ []) ≡ next l (run l s es) e
run_push l s [] e = refl
run_push l s (x ∷ es) e = run_push l (next l s x) es e

pub after-push : (l : LoadedFiles) (journal : List Entry) (e : Entry) → after l (journal ++ e ∷ []) ≡ next l (after l journal) e
unfolding after
after-push l journal e = run_push l (start l) journal e

losses_push : (es : List Entry) (e : Entry) → losses (es ++ e ∷ []) ≡ losses es ++ loss_in e
losses_push [] e = append-nil (loss_in e)
losses_push (x ∷ es) e = ap (λ more. loss_in x ++ more) (losses_push es e) ∙ sym (append_assoc (loss_in x) (losses es) (loss_in e))

module _ {L : Type 0} (tells : LinkTells L) where
  pub wrecks-push : (fails : List Fails) (ks : List Loss) (ws : List (LostLink L)) (k : Loss) (w : LostLink L) → AreWrecks tells fails ks ws → IsWreck tells fails k w
      → AreWrecks tells fails (ks ++ k ∷ []) (ws ++ w ∷ [])
  wrecks-push fails [] [] k w h is = (is, tt)
  wrecks-push fails [] (v ∷ ws) k w h is = absurd h
  wrecks-push fails (j ∷ ks) [] k w h is = absurd h
  wrecks-push fails (j ∷ ks) (v ∷ ws) k w h is = (h.0, wrecks-push fails ks ws k w h.1 is)

  pub wrecks-same : (fails : List Fails) (ks : List Loss) (ws : List (LostLink L)) → AreWrecks tells fails ks ws → AreWrecks tells fails (ks ++ []) ws
  wrecks-same fails ks ws h = rw (append-nil ks) h

  -- the parts agree with the state behind an entry that may come
  pub IsDesk-push : (l : LoadedFiles) (journal journal' : List Entry) (p p' : Inner L) (e : Entry) → IsDesk tells l journal p → allowed l (after l journal) e ≡ true
      → journal' ≡ journal ++ e ∷ [] → Agrees tells l (next l (after l journal) e) p' → AreWrecks tells l.script.fails (losses journal ++ loss_in e) p'.wrecks.items
      → IsDesk tells l journal' p'
  IsDesk-push l journal journal' p p' e h may is agrees wrecks =
      rw is (record {
        loaded = h.loaded;
        legal = legal-push l journal e h.legal may;
        agrees = rw (after-push l journal e) agrees;
        wrecks = rw (losses_push journal e) wrecks;
      })

  pub desk-reached : (l : LoadedFiles) (journal : List Entry) (p : Inner L) → IsDesk tells l journal p → IsReached l (after l journal)
  desk-reached l journal p h = legal_reached l journal h.legal

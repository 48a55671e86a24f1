-- The lanes of the flights that run.
use Rattle.std.proofs.Common.{◌≡◌, inl, inr, ℕ, Bool, true, false, ◌||◌, eqb, List, [], ◌∷◌, length, refl, sym, arith}
use Rattle.std.proofs.lemmas.Bool.{eq-eqb}
use Rattle.std.specs.List.{list_any}
use Rattle.std.specs.Prelude.{nat_eq}
use Rattle.dq_extract.specs.Loads.{LoadedFiles}
use Rattle.dq_journal.specs.declared.entry.Entry.{Entry}
use Rattle.dq_machine.proofs.Reached.{reached-works}
use Rattle.dq_machine.specs.Admitting.{runs}
use Rattle.dq_machine.specs.Machine.{IsReached, after, legal}
use Rattle.dq_machine.specs.State.{Flown, State, work_of}
use Rattle.dq_laws.specs.Owning.{AreOwn, IsOwn}
use Rattle.dq_laws.proofs.Each.{all_each, each-weaker}
use Rattle.dq_laws.proofs.Goes.{lane_there, legal_reached}
use Rattle.dq_laws.proofs.Owned.{Among, IsHeld, Owns, IsOwned-reached}

or_second : (a b : Bool) → b ≡ true → (a || b) ≡ true
or_second true b h = refl
or_second false b h = h

pub any_among : (own : List ℕ) (n : ℕ) → Among n own → list_any (nat_eq n) own ≡ true
any_among [] n a = absurd a
any_among (m ∷ own) n (inl e) = let same : eqb n m ≡ true = eq-eqb n m (sym e) in rw same refl
any_among (m ∷ own) n (inr a) = or_second (nat_eq n m) (list_any (nat_eq n) own) (any_among own n a)

own_of : (l : LoadedFiles) (s : State) → IsReached l s → (f : Flown) → Owns s.works f.lane f.number → IsOwn l s f
own_of l s r f o = record {
  lane = lane_there (length l.script.lanes) f.lane o.above (omega (arith, o.within, reached-works l s r));
  own = any_among (work_of s f.lane).own f.number o.among;
}

pub owned : (l : LoadedFiles) (journal : List Entry) → legal l journal ≡ true → AreOwn l (after l journal)
owned l journal legal =
    let s = after l journal in
    let r = legal_reached l journal legal in
    record {
      each = all_each (λ (f : Flown). runs f.course ≡ true → IsOwn l s f) s.flights.flown
          (each-weaker (IsHeld s.works) (λ (f : Flown). runs f.course ≡ true → IsOwn l s f) (λ f held run. own_of l s r f (held run)) s.flights.flown (IsOwned-reached l s r).held);
    }

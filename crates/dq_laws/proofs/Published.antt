-- The stamps behind a legal journal.
use Rattle.std.proofs.Common.{◌≡◌, ℕ, ◌-◌, ◌≤◌, true, List, length}
use Rattle.dq_extract.specs.Loads.{LoadedFiles}
use Rattle.dq_journal.specs.declared.entry.Entry.{Entry}
use Rattle.dq_machine.specs.Machine.{after, legal}
use Rattle.dq_machine.specs.State.{Flown, Joined, Shelved, work_of}
use Rattle.dq_laws.specs.Stamps.{AreStamped}
use Rattle.dq_laws.proofs.Each.{all_each}
use Rattle.dq_laws.proofs.Goes.{legal_reached}
use Rattle.dq_laws.proofs.Stamped.{IsStamped-reached}

pub stamped : (l : LoadedFiles) (journal : List Entry) → legal l journal ≡ true → AreStamped (after l journal)
stamped l journal legal =
    let s = after l journal in
    let n : ℕ = length s.versions in
    let h = IsStamped-reached l s (legal_reached l journal legal) in
    record {
      flights = all_each (λ (f : Flown). f.stamp ≤ n) s.flights.flown h.flown;
      joins = λ lane. all_each (λ (j : Joined). j.stamp ≤ n) (work_of s lane).joins (h.joins (lane - 1));
      clever = all_each (λ (e : Shelved). e.stamp ≤ n) s.shelves.clever h.shelves.clever;
      literal = all_each (λ (e : Shelved). e.stamp ≤ n) s.shelves.literal h.shelves.literal;
    }

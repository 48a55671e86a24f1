-- What the order of the flights says of their numbers.
use Rattle.std.proofs.Common.{◌≡◌, ℕ, ◌<◌, ◌≤◌, true, List, [], ◌∷◌, refl, arith}
use Rattle.std.proofs.lemmas.Bool.Decides.{nat_tests}
use Rattle.std.specs.List.{list_all}
use Rattle.std.specs.Prelude.{nat_lt}
use Rattle.dq_extract.specs.Loads.{LoadedFiles, IsLoaded}
use Rattle.dq_journal.specs.declared.entry.Entry.{Entry}
use Rattle.dq_machine.proofs.Numbers.{started_few}
use Rattle.dq_machine.proofs.Reached.{and_both}
use Rattle.dq_machine.specs.Machine.{after, legal}
use Rattle.dq_machine.specs.State.{Flown}
use Rattle.dq_laws.specs.Numbers.{AreNumbered, ascends, most_flights}
use Rattle.dq_laws.proofs.Each.{all_each, each-weaker}
use Rattle.dq_laws.proofs.Goes.{legal_reached}
use Rattle.dq_laws.proofs.Numbered.{Ascend, ascend-numbers}
use Rattle.dq_laws.proofs.Owned.{IsOwned-reached}

above_all : (n low high : ℕ) (flown : List Flown) → n ≤ low → Ascend low high flown → list_all (λ g. nat_lt n g.number) flown ≡ true
above_all n low high [] le h = refl
above_all n low high (f ∷ flown) le h =
    let lt : n < f.number = omega (arith, h.0) in
    let more : n ≤ f.number = omega arith in
    let first : nat_lt n f.number ≡ true = grind (arith, nat_tests) in
    and_both (nat_lt n f.number) (list_all (λ g. nat_lt n g.number) flown) first (above_all n f.number high flown more h.1)

order : (low high : ℕ) (flown : List Flown) → Ascend low high flown → ascends flown ≡ true
order low high [] h = refl
order low high (f ∷ flown) h =
    and_both (list_all (λ g. nat_lt f.number g.number) flown) (ascends flown) (above_all f.number f.number high flown (omega arith) h.1) (order f.number high flown h.1)

pub numbered : (l : LoadedFiles) (journal : List Entry) → legal l journal ≡ true → AreNumbered (after l journal).flights
numbered l journal legal =
    let s = after l journal in
    let h = IsOwned-reached l s (legal_reached l journal legal) in
    let both = ascend-numbers 0 s.flights.started s.flights.flown h.numbers in
    record {
      above = all_each (λ (f : Flown). 0 < f.number) s.flights.flown (each-weaker (λ (f : Flown). (0 < f.number) × (f.number ≤ s.flights.started)) (λ (f : Flown). 0 < f.number) (λ f p. p.0) s.flights.flown both);
      within = all_each (λ (f : Flown). f.number ≤ s.flights.started) s.flights.flown (each-weaker (λ (f : Flown). (0 < f.number) × (f.number ≤ s.flights.started)) (λ (f : Flown). f.number ≤ s.flights.started) (λ f p. p.1) s.flights.flown both);
      order = order 0 s.flights.started s.flights.flown h.numbers;
    }

pub few : (l : LoadedFiles) (journal : List Entry) → IsLoaded l → legal l journal ≡ true → (after l journal).flights.started ≤ most_flights
few l journal loaded legal = started_few l (after l journal) loaded (legal_reached l journal legal)

-- Where each lane passes, each has ended.
use Rattle.std.proofs.Common.{◌≡◌, ℕ, ◌+◌, ◌-◌, ◌<◌, Bool, true, false, ◌||◌, List, length, refl, sym, ◌∙◌, subst, arith}
use Rattle.std.proofs.lemmas.Bool.Decides.{nat_tests}
use Rattle.std.specs.Prelude.{nat_lt, nat_le}
use Rattle.dq_extract.specs.Loads.{LoadedFiles}
use Rattle.dq_journal.specs.declared.entry.Entry.{Entry}
use Rattle.dq_laws.specs.Going.{SomeGoesOn}
use Rattle.dq_laws.proofs.Goes.{lane_there, some_goes}
use Rattle.dq_machine.proofs.Reached.{and_first, and_second}
use Rattle.dq_machine.specs.Machine.{after, legal}
use Rattle.dq_machine.specs.State.{work_of}
use Rattle.dq_machine.specs.Taking.{waits}
use Rattle.dq_rehearse.specs.Lanes.{AreOn}
use Rattle.dq_rehearse.specs.Turns.{AreOver, ArePassing, IsOver, passes_at}
use Rattle.dq_lane.specs.View.{LaneOf}

neither : (a b : Bool) → a ≡ false → b ≡ false → (a || b) ≡ true → ⊥
neither true b x y h = cc
neither false true x y h = cc
neither false false x y h = cc

module _ (l : LoadedFiles) (journal : List Entry) (lanes : List LaneOf) (lawful : legal l journal ≡ true) (count : length lanes ≡ length l.script.lanes) (h : ArePassing l journal lanes (length lanes)) where
  -- no lane goes on
  none_goes : SomeGoesOn l (after l journal) → ⊥
  none_goes some =
      let above : nat_lt 0 some.lane ≡ true = and_first (nat_lt 0 some.lane) (nat_le some.lane (length l.script.lanes)) some.within in
      let within : nat_le some.lane (length l.script.lanes) ≡ true = and_second (nat_lt 0 some.lane) (nat_le some.lane (length l.script.lanes)) some.within in
      let back : some.lane - 1 + 1 ≡ some.lane = grind (arith, nat_tests) in
      let there : some.lane - 1 < length lanes = grind (arith, nat_tests) in
      let passes : passes_at l journal some.lane ≡ true = subst (λ n. passes_at l journal n ≡ true) back (h.each (some.lane - 1) there).passes in
      neither (work_of (after l journal) some.lane).ended (waits (after l journal) (work_of (after l journal) some.lane)) some.unended some.goes passes

  ended_by : (k : ℕ) (b : Bool) → k < length lanes → (work_of (after l journal) (k + 1)).ended ≡ b → (work_of (after l journal) (k + 1)).ended ≡ true
  ended_by k true lt e = e
  ended_by k false lt e = absurd (none_goes (some_goes l journal (k + 1) lawful (lane_there (length l.script.lanes) (k + 1) (omega arith) (omega (arith, lt, count))) e))

  over_at : (k : ℕ) → k < length lanes → IsOver l journal lanes k
  over_at k lt =
      let ended = ended_by k (work_of (after l journal) (k + 1)).ended lt refl in
      record { done = sym (h.each k lt).ended ∙ ended; ended = ended }

pub all_over : (l m : LoadedFiles) (journal : List Entry) (lanes : List LaneOf) → ArePassing m journal lanes (length lanes) → AreOn m journal lanes → legal l journal ≡ true → l ≡ m → AreOver m journal lanes (length lanes)
all_over l m journal lanes passing on legal_is same =
    let here : legal m journal ≡ true = subst (λ n. legal n journal ≡ true) same legal_is in
    record { each = over_at m journal lanes here on.count passing }

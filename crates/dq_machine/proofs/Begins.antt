-- A step that begins is a later one of a lane that is free.
use Rattle.std.proofs.Common.{◌≡◌, ℕ, ◌<◌, Bool, true, ◌&&◌, List, arith}
use Rattle.std.proofs.lemmas.Bool.Decides.{nat_tests}
use Rattle.std.specs.Prelude.{nat_lt}
use Rattle.std.specs.Cmp.Lexicographic.{pointwise}
use Rattle.dq_base.specs.Scripts.{step_of}
use Rattle.dq_extract.specs.Loads.{LoadedFiles}
use Rattle.dq_journal.specs.declared.entry.Met.{Met}
use Rattle.dq_machine.proofs.Reached.{and_first, and_second}
use Rattle.dq_machine.specs.Admitting.{admission_of, is_batch, met_eq}
use Rattle.dq_machine.specs.Machine.{may_admit, may_begin, may_publish}
use Rattle.dq_machine.specs.Publishing.{is_publish}
use Rattle.dq_machine.specs.State.{State, Work, is_free}

begin_above : (w : Work) (number : ℕ) → may_begin w number ≡ true → w.last < number
begin_above w number h = let above : nat_lt w.last number ≡ true = and_second (is_free w) (nat_lt w.last number) h in grind (arith, nat_tests)

pub publish_above : (l : LoadedFiles) (w : Work) (lane number : ℕ) → may_publish l w lane number ≡ true → w.last < number
publish_above l w lane number h = begin_above w number (and_first (may_begin w number) (is_publish (step_of l.script.lanes lane number)) h)

pub publish_kind : (l : LoadedFiles) (w : Work) (lane number : ℕ) → may_publish l w lane number ≡ true → is_publish (step_of l.script.lanes lane number) ≡ true
publish_kind l w lane number h = and_second (may_begin w number) (is_publish (step_of l.script.lanes lane number)) h

admit_begins : (l : LoadedFiles) (s : State) (w : Work) (lane number : ℕ) (met : List Met) → may_admit l s w lane number met ≡ true
    → (may_begin w number && is_batch (step_of l.script.lanes lane number)) ≡ true
admit_begins l s w lane number met h =
    and_first (may_begin w number && is_batch (step_of l.script.lanes lane number)) (pointwise met_eq (admission_of l s lane number).met met) h

pub admit_above : (l : LoadedFiles) (s : State) (w : Work) (lane number : ℕ) (met : List Met) → may_admit l s w lane number met ≡ true → w.last < number
admit_above l s w lane number met h = begin_above w number (and_first (may_begin w number) (is_batch (step_of l.script.lanes lane number)) (admit_begins l s w lane number met h))

pub admit_kind : (l : LoadedFiles) (s : State) (w : Work) (lane number : ℕ) (met : List Met) → may_admit l s w lane number met ≡ true
    → is_batch (step_of l.script.lanes lane number) ≡ true
admit_kind l s w lane number met h = and_second (may_begin w number) (is_batch (step_of l.script.lanes lane number)) (admit_begins l s w lane number met h)

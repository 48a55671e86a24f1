-- A batch that may come finds numbers for its flights and joiners.
use Rattle.std.proofs.Common.{◌≡◌, ℕ, ◌+◌, ◌<◌, ◌≤◌, ◌^◌, true, List, length, refl, arith}
use Rattle.std.specs.Prelude.{All}
use Rattle.dq_base.specs.Scripts.{step_of, zones_of}
use Rattle.dq_extract.specs.Loads.{LoadedFiles, IsLoaded}
use Rattle.dq_machine.proofs.Few.{remotes_few}
use Rattle.dq_machine.proofs.Numbers.{admission_few, joiners_few, started_few, zones_few}
use Rattle.dq_machine.specs.Admitting.{admission_of, is_batch}
use Rattle.dq_machine.specs.Machine.{IsReached}
use Rattle.dq_machine.specs.Preparing.{remotes_of}
use Rattle.dq_machine.specs.State.{Flown, State}

pub meet_numbers : (l : LoadedFiles) (s : State) (lane number : ℕ) → IsLoaded l → IsReached l s → is_batch (step_of l.script.lanes lane number) ≡ true
    → s.flights.started + 1 + length (remotes_of l.script.schemas (zones_of (step_of l.script.lanes lane number))) < 2 ^ 64
meet_numbers l s lane number loaded r kind =
    omega (arith, started_few l s loaded r, remotes_few l.script.schemas (zones_of (step_of l.script.lanes lane number)), (zones_few l lane number (step_of l.script.lanes lane number) loaded refl kind).1)

pub admit_numbers : (l : LoadedFiles) (s : State) (lane number : ℕ) → IsLoaded l → IsReached l s → is_batch (step_of l.script.lanes lane number) ≡ true
    → s.flights.started + 1 + length (admission_of l s lane number).groups < 2 ^ 64
admit_numbers l s lane number loaded r kind =
    omega (arith, started_few l s loaded r, admission_few l s lane number (zones_few l lane number (step_of l.script.lanes lane number) loaded refl kind).1)

all_within : (n k : ℕ) (flown : List Flown) → n + k < 2 ^ 64 → All (λ f. f.joiners ≤ n) flown → All (λ f. f.joiners + k < 2 ^ 64) flown
all_within n k flown lt all i d within = omega (arith, lt, all i d within)

pub admit_joiners : (l : LoadedFiles) (s : State) (lane number : ℕ) → IsLoaded l → IsReached l s → is_batch (step_of l.script.lanes lane number) ≡ true
    → All (λ f. f.joiners + length (admission_of l s lane number).joins < 2 ^ 64) s.flights.flown
admit_joiners l s lane number loaded r kind =
    all_within 16777216 (length (admission_of l s lane number).joins) s.flights.flown
    (omega (arith, admission_few l s lane number (zones_few l lane number (step_of l.script.lanes lane number) loaded refl kind).1)) (joiners_few l s loaded r)

-- Who brings the flights that run.
use Rattle.std.specs.Prelude.{◌≡◌, true, nat_eq, length, All}
use Rattle.std.specs.List.{list_any}
use Rattle.dq_base.specs.Scripts.{is_lane}
use Rattle.dq_extract.specs.Loads.{LoadedFiles}
use Rattle.dq_machine.specs.Admitting.{runs}
use Rattle.dq_machine.specs.State.{Flown, State, work_of}

-- the flight's lane is one of the script, and the flight is among those that it has to bring
pub record IsOwn (l : LoadedFiles) (s : State) (f : Flown) : Type 0 where
  pub lane : is_lane (length l.script.lanes) f.lane ≡ true
  pub own : list_any (nat_eq f.number) (work_of s f.lane).own ≡ true

-- each flight that runs is
pub record AreOwn (l : LoadedFiles) (s : State) : Type 0 where
  pub each : All (λ f. runs f.course ≡ true → IsOwn l s f) s.flights.flown

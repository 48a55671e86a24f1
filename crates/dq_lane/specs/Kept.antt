-- What a lane keeps.
use Rattle.std.specs.Prelude.{◌≡◌, ℕ, ◌+◌, ◌<◌, ◌≤◌, Bool, true, false, ◌&&◌, List, [], ◌++◌, length, drop, take, Option, if◌then◌else◌}
use Rattle.std.specs.List.{flat_map, list_any}
use Rattle.dq_base.specs.Limits.{most_steps}
use Rattle.dq_base.specs.Scripts.{is_lane, step_of}
use Rattle.dq_base.specs.declared.script.Fails.{Fails}
use Rattle.dq_base.specs.declared.script.Step.{Step}
use Rattle.dq_batch.specs.Views.{BatchOf}
use Rattle.dq_bring.specs.Dials.{IsPlanOf}
use Rattle.dq_extract.specs.Loads.{LoadedFiles}
use Rattle.dq_fates.specs.Dials.{lost_dials}
use Rattle.dq_journal.specs.Steps.{entries_of, is_end, step_in}
use Rattle.dq_journal.specs.declared.entry.Entry.{Entry}
use Rattle.dq_journal.specs.declared.result.StepResult.{StepResult}
use Rattle.dq_laws.specs.Lengths.{most_entries_of_journal}
use Rattle.dq_machine.specs.Admitting.{is_batch}
use Rattle.dq_machine.specs.Machine.{after, legal}
use Rattle.dq_machine.specs.Order.{ends_once}
use Rattle.dq_machine.specs.Right.{AreResults}
use Rattle.dq_machine.specs.State.{Work, none_left, work_of}
use Rattle.dq_lane.specs.Order.{named_from, places_tell}
use Rattle.dq_lane.specs.Progress.{IsPreparedWith}
use Rattle.dq_lane.specs.Refusals.{AreRefusals}
use Rattle.dq_lane.specs.View.{closed_of, is_untold, places_of, steps_of}
use Rattle.dq_lane.specs.declared.course.Course.{Course}
use Rattle.dq_lane.specs.declared.progress.Progress.{Progress}
use Rattle.dq_lane.specs.declared.progress.Progress.TheVariants as progress

-- a lane's entries have one End, the last, exactly where the lane is done
abbrev pub EndsBy : Bool → List Entry → Type 0
EndsBy true entries = ends_once entries ≡ true
EndsBy false entries = list_any is_end entries ≡ false

-- nothing is to be brought or taken
abbrev pub is_idle : Work → Bool
is_idle w = none_left w.own && none_left w.joins

-- the batch under way is that of the step which had its turn last, and has seen this journal
pub record IsOpenLast (l : LoadedFiles) (number : ℕ) (journal : List Entry) (taken : ℕ) (done : Bool) (b : BatchOf) : Type 0 where
  pub some : 0 < taken
  pub going : done ≡ false
  pub loaded : b.loaded ≡ l
  pub lane : b.lane ≡ number
  pub step : b.step ≡ taken
  pub seen : b.seen ≡ journal
  pub kind : is_batch (step_of l.script.lanes number taken) ≡ true

-- how far the lane is
abbrev pub IsProgress : {L : Type 0} → LoadedFiles → ℕ → List Entry → ℕ → Bool → Progress L → Type 0
IsProgress l lane seen taken done progress.Fresh = (is_idle (work_of (after l seen) lane) ≡ true) × (done ≡ false)
IsProgress l lane seen taken done progress.Ready = is_idle (work_of (after l seen) lane) ≡ true
IsProgress l lane seen taken done (progress.Prepared p) =
    (is_idle (work_of (after l seen) lane) ≡ true) × IsPreparedWith l lane (taken + 1) p
IsProgress l lane seen taken done (progress.Open b) = IsOpenLast l lane seen taken done b

abbrev pub untold_count : Bool → ℕ
untold_count true = 1
untold_count false = 0

-- the journal has the lane's steps so far in order, at the places that are told, and the lane's End behind the last one alone
pub record IsTold (l : LoadedFiles) (lane : ℕ) (seen : List Entry) (done : Bool) (places : List (Option ℕ)) : Type 0 where
  pub legal : legal l seen ≡ true
  pub tells : places_tell seen lane 1 (steps_of l lane) places ≡ true
  pub order : flat_map step_in (entries_of lane seen) ≡ named_from 1 places
  pub ends : EndsBy done (entries_of lane seen)
  pub ended : (work_of (after l seen) lane).ended ≡ done
  pub short : length seen ≤ most_entries_of_journal

-- the first results are right for every legal journal that goes on from this one, and the others are as if their steps were refused
pub record HasResults (l : LoadedFiles) (lane : ℕ) (seen : List Entry) (closed : ℕ) (results : List StepResult) : Type 0 where
  pub right : (more : List Entry) → legal l (seen ++ more) ≡ true → AreResults l (seen ++ more) lane (take closed (steps_of l lane)) (take closed results)
  pub to_come : AreRefusals l.script.schemas (drop closed (steps_of l lane)) (drop closed results)

-- the dials that the journal tells to have failed are counted by the dialer, whose plan is the script's
pub record HasDialer (l : LoadedFiles) (lane : ℕ) (seen : List Entry) (untold : Bool) (faults : ℕ) (told : Option Fails) : Type 0 where
  pub dials : lost_dials lane seen + untold_count untold ≤ faults
  pub plan : IsPlanOf l lane told

pub record IsLane {L : Type 0} (l : LoadedFiles) (lane : ℕ) (seen : List Entry) (c : Course L) (faults : ℕ) (plan : Option Fails) : Type 0 where
  pub is_lane : is_lane (length l.script.lanes) lane ≡ true
  pub few : length (steps_of l lane) ≤ most_steps
  pub count : length c.results ≡ length (steps_of l lane)
  pub within : c.taken ≤ length (steps_of l lane)
  pub over : c.done ≡ true → c.taken ≡ length (steps_of l lane)
  pub told : IsTold l lane seen c.done (places_of c)
  pub results : HasResults l lane seen (closed_of c) c.results
  pub last : (work_of (after l seen) lane).last ≤ c.taken
  pub progress : IsProgress l lane seen c.taken c.done c.progress
  pub dialer : HasDialer l lane seen (is_untold c.progress) faults plan

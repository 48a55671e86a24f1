-- What contracts see of a lane.
use Rattle.std.specs.Prelude.{ℕ, ◌-◌, Bool, true, false, ◌||◌, List, [], ◌∷◌, ◌++◌, map, take, Option, Some, None, unwrap_or}
use Rattle.dq_base.specs.Scripts.{numbered}
use Rattle.dq_base.specs.declared.script.Step.{Step}
use Rattle.dq_batch.specs.Views.{BatchOf}
use Rattle.dq_extract.specs.Loads.{LoadedFiles}
use Rattle.dq_journal.specs.declared.entry.Entry.{Entry}
use Rattle.dq_journal.specs.declared.result.StepResult.{StepResult}
use Rattle.dq_journal.specs.declared.result.StepResult.TheVariants.{Published, Unpublished, Admitted, Unadmitted}
use Rattle.dq_lane.specs.declared.course.Course.{Course}
use Rattle.dq_lane.specs.declared.progress.Progress.{Progress}
use Rattle.dq_lane.specs.declared.progress.Progress.TheVariants as progress

pub record LaneOf : Type 0 where
  pub number : ℕ
  pub loaded : LoadedFiles
  -- its End stands in the journal
  pub done : Bool
  -- there is work before its next turn
  pub pending : Bool
  -- a dial failed, and the desk doesn't know it yet
  pub untold : Bool
  -- one for each step that had its turn: the place of its entry, or none where it was refused
  pub places : List (Option ℕ)
  -- the journal of its last event
  pub seen : List Entry

-- the steps of a lane; lanes count from 1
abbrev pub steps_of : LoadedFiles → ℕ → List Step
steps_of l lane = unwrap_or (numbered l.script.lanes lane) []

-- the place of the step's entry, unless it was refused
abbrev pub place_of : StepResult → Option ℕ
place_of (Published place) = Some place
place_of Unpublished = None
place_of (Admitted place outcomes) = Some place
place_of (Unadmitted outcomes) = None

module _ {L : Type 0} where
  -- a batch that is over is to be answered
  abbrev pub is_pending : Progress L → Bool
  is_pending progress.Fresh = true
  is_pending progress.Ready = false
  is_pending (progress.Prepared p) = false
  is_pending (progress.Open b) = b.pending || b.over

  abbrev pub is_untold : Progress L → Bool
  is_untold progress.Fresh = false
  is_untold progress.Ready = false
  is_untold (progress.Prepared p) = false
  is_untold (progress.Open b) = b.untold

  -- the place of the batch under way, if there is one
  abbrev pub open_place : Progress L → List (Option ℕ)
  open_place progress.Fresh = []
  open_place progress.Ready = []
  open_place (progress.Prepared p) = []
  open_place (progress.Open b) = Some b.place ∷ []

  -- how many steps are behind the lane, of so many that had their turn
  abbrev pub closed_by : ℕ → Progress L → ℕ
  closed_by taken progress.Fresh = taken
  closed_by taken progress.Ready = taken
  closed_by taken (progress.Prepared p) = taken
  closed_by taken (progress.Open b) = taken - 1

  abbrev pub closed_of : Course L → ℕ
  closed_of c = closed_by c.taken c.progress

  abbrev pub places_of : Course L → List (Option ℕ)
  places_of c = map place_of (take (closed_of c) c.results) ++ open_place c.progress

  -- what contracts see of a lane with this course
  abbrev pub lane_view : LoadedFiles → ℕ → List Entry → Course L → LaneOf
  lane_view l lane seen c = record {
    number = lane;
    loaded = l;
    done = c.done;
    pending = is_pending c.progress;
    untold = is_untold c.progress;
    places = places_of c;
    seen = seen;
  }

-- a lane that didn't begin
abbrev pub new_lane : LoadedFiles → ℕ → LaneOf
new_lane l lane = record {
  number = lane;
  loaded = l;
  done = false;
  pending = true;
  untold = false;
  places = [];
  seen = [];
}

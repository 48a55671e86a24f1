-- When a journal keeps the order of the lanes' steps.
use Rattle.std.specs.Prelude.{ℕ, ◌+◌, Bool, true, false, ◌&&◌, nat_eq, List, [], ◌∷◌, length, Option, Some, None, if◌then◌else◌}
use Rattle.std.specs.List.{flat_map, list_all}
use Rattle.std.specs.Cmp.Lexicographic.{pointwise}
use Rattle.dq_base.specs.Scripts.{is_lane, numbered}
use Rattle.dq_base.specs.declared.script.Step.{Step}
use Rattle.dq_base.specs.declared.script.Step.TheVariants as step
use Rattle.dq_extract.specs.Loads.{LoadedFiles}
use Rattle.dq_journal.specs.Journals.{lane_of}
use Rattle.dq_journal.specs.Steps.{done_from, entries_of, is_end, step_in, steps_named}
use Rattle.dq_journal.specs.declared.entry.Entry.{Entry}
use Rattle.dq_journal.specs.declared.entry.Entry.TheVariants.{Publish, Admit, Lease, Give, Lose, Land, Fall, Take, End}
use Rattle.dq_journal.specs.declared.result.StepResult.{StepResult}
use Rattle.dq_journal.specs.declared.result.StepResult.TheVariants.{Published, Unpublished, Admitted, Unadmitted}
use Rattle.dq_machine.specs.State.{none_left}

-- the entry publishes this step
abbrev pub publishes : ℕ → ℕ → Option Entry → Bool
publishes lane number None = false
publishes lane number (Some (Publish a b)) = nat_eq a lane && nat_eq b number
publishes lane number (Some (Admit a b met)) = false
publishes lane number (Some (Lease a flight link fresh)) = false
publishes lane number (Some (Give a flight link ran runs calls)) = false
publishes lane number (Some (Lose a flight link dialled ran runs calls)) = false
publishes lane number (Some (Land a flight cells clever literal)) = false
publishes lane number (Some (Fall a flight cause)) = false
publishes lane number (Some (Take a flight next)) = false
publishes lane number (Some (End a)) = false

-- the entry admits it
abbrev pub admits : ℕ → ℕ → Option Entry → Bool
admits lane number None = false
admits lane number (Some (Publish a b)) = false
admits lane number (Some (Admit a b met)) = nat_eq a lane && nat_eq b number
admits lane number (Some (Lease a flight link fresh)) = false
admits lane number (Some (Give a flight link ran runs calls)) = false
admits lane number (Some (Lose a flight link dialled ran runs calls)) = false
admits lane number (Some (Land a flight cells clever literal)) = false
admits lane number (Some (Fall a flight cause)) = false
admits lane number (Some (Take a flight next)) = false
admits lane number (Some (End a)) = false

-- the result of a refresh, which tells the place of its entry
abbrev pub refresh_tells : List Entry → ℕ → ℕ → StepResult → Bool
refresh_tells journal lane number (Published place) = publishes lane number (numbered journal place)
refresh_tells journal lane number Unpublished = true
refresh_tells journal lane number (Admitted place outcomes) = false
refresh_tells journal lane number (Unadmitted outcomes) = false

-- the result of a batch
abbrev pub batch_tells : List Entry → ℕ → ℕ → StepResult → Bool
batch_tells journal lane number (Published place) = false
batch_tells journal lane number Unpublished = false
batch_tells journal lane number (Admitted place outcomes) = admits lane number (numbered journal place)
batch_tells journal lane number (Unadmitted outcomes) = true

-- a step's result is of its kind, and tells the place of its entry
abbrev pub tells_place : List Entry → ℕ → ℕ → Step → StepResult → Bool
tells_place journal lane number (step.Publish source how file) r = refresh_tells journal lane number r
tells_place journal lane number (step.Batch zones) r = batch_tells journal lane number r

-- one result for each step of a lane, from this number on
abbrev pub tell_places : List Entry → ℕ → ℕ → List Step → List StepResult → Bool
tell_places journal lane number [] [] = true
tell_places journal lane number [] (r ∷ results) = false
tell_places journal lane number (s ∷ steps) [] = false
tell_places journal lane number (s ∷ steps) (r ∷ results) = tells_place journal lane number s r && tell_places journal lane (number + 1) steps results

-- there is one End, and it is the last
abbrev pub ends_once : List Entry → Bool
ends_once [] = false
ends_once (e ∷ entries) = if is_end e then none_left entries else ends_once entries

-- the entry's step is of its kind
abbrev pub names_kind : Entry → Option Step → Bool
names_kind (Publish lane number) (Some (step.Publish source how file)) = true
names_kind (Publish lane number) (Some (step.Batch zones)) = false
names_kind (Publish lane number) None = false
names_kind (Admit lane number met) (Some (step.Publish source how file)) = false
names_kind (Admit lane number met) (Some (step.Batch zones)) = true
names_kind (Admit lane number met) None = false
names_kind (Lease lane flight link fresh) s = true
names_kind (Give lane flight link ran runs calls) s = true
names_kind (Lose lane flight link dialled ran runs calls) s = true
names_kind (Land lane flight cells clever literal) s = true
names_kind (Fall lane flight cause) s = true
names_kind (Take lane flight next) s = true
names_kind (End lane) s = true

-- the lane is the script's, and the step that the entry names, if it names one, is of its kind
abbrev pub is_known : List (List Step) → Entry → Bool
is_known lanes e = is_lane (length lanes) (lane_of e) && names_kind e (steps_named lanes (lane_of e) (step_in e))

-- a lane's results tell the places of its entries, which name its steps in order, each once but the refused ones, and end once
abbrev pub lane_keeps : List Entry → ℕ → List Step → List StepResult → Bool
lane_keeps journal lane steps results =
    tell_places journal lane 1 steps results
    && pointwise nat_eq (flat_map step_in (entries_of lane journal)) (done_from 1 results)
    && ends_once (entries_of lane journal)

-- one item for each lane, from this number on
abbrev pub lanes_keep : List Entry → ℕ → List (List Step) → List (List StepResult) → Bool
lanes_keep journal lane [] [] = true
lanes_keep journal lane [] (rs ∷ results) = false
lanes_keep journal lane (steps ∷ lanes) [] = false
lanes_keep journal lane (steps ∷ lanes) (rs ∷ results) = lane_keeps journal lane steps rs && lanes_keep journal (lane + 1) lanes results

-- the journal keeps each lane's order, and the results tell its places
abbrev pub keeps_order : LoadedFiles → List Entry → List (List StepResult) → Bool
keeps_order l journal results = lanes_keep journal 1 l.script.lanes results && list_all (is_known l.script.lanes) journal

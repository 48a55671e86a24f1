-- What entries and results tell of steps.
use Rattle.std.specs.Prelude.{◌≡◌, ℕ, ◌+◌, Bool, true, false, nat_eq, List, [], ◌∷◌, ◌++◌, filter, Option, Some, None}
use Rattle.dq_base.specs.Headings.{Heading}
use Rattle.dq_base.specs.Scripts.{step_of}
use Rattle.dq_base.specs.Validity.{invalid_by}
use Rattle.dq_base.specs.declared.invalid.Invalid.{Invalid}
use Rattle.dq_base.specs.declared.query.Query.{Query}
use Rattle.dq_base.specs.declared.script.Step.{Step}
use Rattle.dq_journal.specs.Journals.{lane_of}
use Rattle.dq_journal.specs.declared.entry.Entry.{Entry}
use Rattle.dq_journal.specs.declared.entry.Entry.TheVariants.{Publish, Admit, Lease, Give, Lose, Land, Fall, Take, End}
use Rattle.dq_journal.specs.declared.result.ZoneResult.{ZoneResult}
use Rattle.dq_journal.specs.declared.result.ZoneResult.TheVariants as zone
use Rattle.dq_journal.specs.declared.result.StepResult.{StepResult}
use Rattle.dq_journal.specs.declared.result.StepResult.TheVariants.{Published, Unpublished, Admitted, Unadmitted}

-- zones

-- a zone of a batch that was refused for memory
abbrev pub IsRefused : Option Invalid → ZoneResult → Type 0
IsRefused reason (zone.Rows table) = ⊥
IsRefused reason (zone.Invalid told) = reason ≡ Some told
IsRefused reason zone.BackEnd = ⊥
IsRefused reason zone.Memory = reason ≡ None

abbrev pub AreRefused : List Heading → List Query → List ZoneResult → Type 0
AreRefused schemas [] [] = Unit {0}
AreRefused schemas [] (z ∷ zs) = ⊥
AreRefused schemas (q ∷ qs) [] = ⊥
AreRefused schemas (q ∷ qs) (z ∷ zs) = IsRefused (invalid_by schemas q) z × AreRefused schemas qs zs

-- steps

-- the entries of a lane
abbrev pub entries_of : ℕ → List Entry → List Entry
entries_of lane journal = filter (λ e. nat_eq (lane_of e) lane) journal

-- the step that an entry names, if it names one
abbrev pub step_in : Entry → List ℕ
step_in (Publish lane step) = step ∷ []
step_in (Admit lane step met) = step ∷ []
step_in (Lease lane flight link fresh) = []
step_in (Give lane flight link ran runs calls) = []
step_in (Lose lane flight link dialled ran runs calls) = []
step_in (Land lane flight cells clever literal) = []
step_in (Fall lane flight cause) = []
step_in (Take lane flight next) = []
step_in (End lane) = []

-- the step's number, unless it was refused
abbrev pub unless_refused : ℕ → StepResult → List ℕ
unless_refused number (Published place) = number ∷ []
unless_refused number Unpublished = []
unless_refused number (Admitted place outcomes) = number ∷ []
unless_refused number (Unadmitted outcomes) = []

-- the numbers of the steps that weren't refused
abbrev pub done_from : ℕ → List StepResult → List ℕ
done_from number [] = []
done_from number (r ∷ rs) = unless_refused number r ++ done_from (number + 1) rs

abbrev pub is_end : Entry → Bool
is_end (Publish lane step) = false
is_end (Admit lane step met) = false
is_end (Lease lane flight link fresh) = false
is_end (Give lane flight link ran runs calls) = false
is_end (Lose lane flight link dialled ran runs calls) = false
is_end (Land lane flight cells clever literal) = false
is_end (Fall lane flight cause) = false
is_end (Take lane flight next) = false
is_end (End lane) = true

-- the step of that number in the lane of an entry
abbrev pub steps_named : List (List Step) → ℕ → List ℕ → Option Step
steps_named lanes lane [] = None
steps_named lanes lane (number ∷ numbers) = step_of lanes lane number

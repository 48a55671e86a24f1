use Rattle.std.proofs.Common.{◌≡◌, Bool, true, false, List, MatchBool, sym, subst, refl}
use Rattle.dq_batch.specs.Views.{BatchOf}
use Rattle.dq_journal.specs.declared.result.StepResult.{StepResult}
use Rattle.dq_lane.specs.Courses.{HasAnswered, HasAnsweredIn, HasEndedIn}
use Rattle.dq_lane.specs.declared.course.Course.{Course}
use Rattle.dq_lane.specs.declared.progress.Progress.{Progress}
use Rattle.dq_lane.specs.declared.progress.Progress.TheVariants as progress
use Rattle.dq_lane.proofs.course.Course.end.Goals as goal

-- a batch that was answered ends its lane's course with the results and the progress that it left
answered_ends : {L : Type 0} (c : Course L) (b : BatchOf) (over : Bool) (results : List StepResult) (p : Progress L) → c.progress ≡ progress.Open b
    → MatchBool over (HasAnsweredIn b c.taken c.results results p) ((results ≡ c.results) × (p ≡ progress.Open b))
    → MatchBool over (HasAnswered b c (record c { results = results; progress = p })) (record c { results = results; progress = p } ≡ c)
answered_ends c b true results p is a = record { result = a.result; closed = a.closed; is = rw (a.is, a.shut) refl; free = a.free }
answered_ends c b false results p is a = rw (a.0, a.1, ← is) refl

pub returns-in-Open : goal.returns-in-Open
returns-in-Open g c =
    let before = c.args.self.now in
    let is : progress.Open c.in-Open.batch ≡ before.progress = c.in-Open.ensures.value in
    let ended = answered_ends before c.in-Open.batch c.in-Open.batch.over c.answered-progress.new.results c.answered-progress.result (sym is) c.answered-progress.ensures in
    rw c.go_to.ensures (subst (λ p. HasEndedIn p before (record before { results = c.answered-progress.new.results; progress = c.answered-progress.result })) is ended)

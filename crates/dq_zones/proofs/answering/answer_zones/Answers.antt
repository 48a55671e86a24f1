use Rattle.std.proofs.Common.{ℕ, length, ap, sym, subst}
use Rattle.dq_zones.specs.Answering.{AreFetched, AreRolled, FitPrepared}
use Rattle.dq_zones.proofs.Done.{rolled_first}
use Rattle.dq_zones.proofs.Whole.{answered, fetched_first}
use Rattle.dq_zones.proofs.answering.answer_zones.Goals as goal

pub answer_locals-requires : goal.answer_locals-requires
answer_locals-requires c =
    let P : ℕ → Type 0 = λ n. FitPrepared n c.args.prepared.now in
    subst P (sym c.answer_remotes.ensures.count) c.requires.prepared

pub returns : goal.returns
returns c = λ b is refused.
    let first = c.answer_remotes.new.outcomes in
    let last = c.answer_locals.new.outcomes in
    let many = ap length is.roles in
    let P : ℕ → Type 0 = λ n. AreFetched b n first in
    let Q : ℕ → Type 0 = λ n. AreRolled b n last in
    let remotes = c.answer_remotes.ensures.right b is (fetched_first b c.args.outcomes.now refused) in
    let locals = c.answer_locals.ensures.right b c.args.fetches.now is (rolled_first b first (subst P many remotes)) in
    answered b last (subst Q many locals)

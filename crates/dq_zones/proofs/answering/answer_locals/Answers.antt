use Rattle.std.proofs.Common.{◌≤◌, ℕ, length, sym, subst, ◌∙◌, arith}
use Rattle.dq_zones.specs.Answering.{FitPrepared}
use Rattle.dq_zones.proofs.Done.{rolled_end}
use Rattle.dq_zones.proofs.answering.answer_locals.Goals as goal

pub answer_if_local-requires-clause-fit : goal.answer_if_local-requires-clause-fit
answer_if_local-requires-clause-fit c =
    let P : ℕ → Type 0 = λ n. FitPrepared n c.args.prepared.now in
    subst P (sym c.loop-place.invariant.count) c.requires

pub loop-place-preserved : goal.loop-place-preserved
loop-place-preserved c =
    let old = c.loop-place.invariant in
    record {
      count = c.answer_if_local.ensures.count ∙ old.count;
      right = λ b fetches is first. c.answer_if_local.ensures.right b fetches is (old.right b fetches is first);
    }

pub returns-clause-right : goal.returns-clause-right
returns-clause-right c =
    let far : length c.args.prepared.now.roles ≤ c.loop-place.place = omega arith in
    λ b fetches is first. rolled_end b (length c.args.prepared.now.roles) c.loop-place.place c.loop-place.outcomes far (c.loop-place.invariant.right b fetches is first)

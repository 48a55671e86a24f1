use Rattle.std.proofs.Common.{◌≤◌, ℕ, length, refl, sym, subst, ◌∙◌, arith}
use Rattle.dq_zones.specs.Answering.{FitZones}
use Rattle.dq_zones.proofs.Done.{fetched_end}
use Rattle.dq_zones.proofs.Ranks.{rank_first}
use Rattle.dq_zones.proofs.answering.answer_remotes.Goals as goal

pub loop-place-init : goal.loop-place-init
loop-place-init c = record {
  next = sym (rank_first c.args.prepared.now.roles);
  count = refl;
  right = λ b is first. first;
}

pub answer_if_remote-next-requires-clause-fit : goal.answer_if_remote-next-requires-clause-fit
answer_if_remote-next-requires-clause-fit c =
    let P : ℕ → Type 0 = λ n. FitZones n c.args.prepared.now c.args.fetches.now in
    subst P (sym c.loop-place.invariant.count) c.requires

pub loop-place-preserved : goal.loop-place-preserved
loop-place-preserved c =
    let old = c.loop-place.invariant in
    record {
      next = c.answer_if_remote-next.ensures.next;
      count = c.answer_if_remote-next.ensures.count ∙ old.count;
      right = λ b is first. c.answer_if_remote-next.ensures.right b is (old.right b is first);
    }

pub returns-clause-right : goal.returns-clause-right
returns-clause-right c =
    let far : length c.args.prepared.now.roles ≤ c.loop-place.place = omega arith in
    λ b is first. fetched_end b (length c.args.prepared.now.roles) c.loop-place.place c.loop-place.outcomes far (c.loop-place.invariant.right b is first)

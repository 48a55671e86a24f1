use Rattle.std.proofs.Common.{slice_set, refl}
use Rattle.dq_zones.proofs.Done.{fetched_more}
use Rattle.dq_zones.proofs.answering.answer_remote.Goals as goal

pub returns-clause-right : goal.returns-clause-right
returns-clause-right c =
    let slot = c.slot_at-slot.result in
    let outcome = c.fetched_at-outcome.result in
    λ b is done.
    fetched_more b c.args.prepared.now c.args.fetches.now c.args.outcomes.now (slice_set c.args.outcomes.now slot outcome) c.args.place c.args.next slot outcome is done
    c.requires.remote c.requires.next c.slot_at-slot.ensures c.fetched_at-outcome.ensures refl

use Rattle.std.proofs.Common.{slice_set, refl}
use Rattle.dq_zones.proofs.Done.{rolled_more}
use Rattle.dq_zones.proofs.answering.answer_local.Goals as goal

pub returns-clause-right : goal.returns-clause-right
returns-clause-right c =
    let slot = c.slot_at-slot.result in
    let outcome = c.led_at-outcome.result in
    λ b fetches is done.
    rolled_more b c.args.prepared.now fetches c.args.outcomes.now (slice_set c.args.outcomes.now slot outcome) c.args.place c.args.source slot outcome is done
    c.requires.local c.slot_at-slot.ensures c.led_at-outcome.ensures refl

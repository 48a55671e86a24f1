use Rattle.std.proofs.Common.{◌∙◌, arith, None}
use Rattle.std.specs.Prelude.{slice_index_or}
use Rattle.dq_journal.specs.declared.entry.Met.TheVariants as meet
use Rattle.dq_batch.specs.Beginning.{all_begun, begun}
use Rattle.dq_batch.proofs.Loops.{begun_first, begun_more, begun_whole, set_long}
use Rattle.dq_batch.proofs.beginning.begin_all.Goals as goal

pub loop-place-init : goal.loop-place-init
loop-place-init c = record { held = c.requires.held; fetches = c.requires.fetches; whole = begun_first c.args.met.now c.args.held c.args.fetches.now }

pub loop-place-preserved : goal.loop-place-preserved
loop-place-preserved c =
    let lt = c.loop-place-test.true in
    let more = begun_more (all_begun c.args.met.now c.args.held) c.args.met.now c.loop-place.held c.loop-place.fetches c.loop-place.place c.loop-place.invariant.held c.loop-place.invariant.fetches
    (omega (arith, lt, c.len-place-end.ensures)) c.loop-place.invariant.whole in
    rw (c.begin_at.ensures.held, c.begin_at.ensures.fetches)
    (record {
      held = set_long c.loop-place.held c.loop-place.place None ∙ c.loop-place.invariant.held;
      fetches = set_long c.loop-place.fetches c.loop-place.place (begun (slice_index_or c.args.met.now c.loop-place.place (meet.Hit 0)) (slice_index_or c.loop-place.held c.loop-place.place None)) ∙ c.loop-place.invariant.fetches;
      whole = more;
    })

pub returns : goal.returns
returns c =
    begun_whole (all_begun c.args.met.now c.args.held) c.args.met.now c.loop-place.held c.loop-place.fetches c.loop-place.place c.loop-place.invariant.fetches
    (omega (arith, c.loop-place-test.false, c.len-place-end.ensures)) c.loop-place.invariant.whole

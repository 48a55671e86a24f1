use Rattle.std.proofs.Common.{◌≡◌, List, [], ◌++◌, drop, true, refl, ap, sym, ◌∙◌, arith, append-nil}
use Rattle.std.specs.Arc.{arc_value}
use Rattle.dq_check.proofs.Walked.{walk_ends}
use Rattle.dq_check.proofs.walking.walk.Goals as goal

pub returns : goal.returns
returns c =
    let k = c.loop-place.invariant in
    walk_ends (arc_value c.args.loaded.now) c.args.journal.now c.loop-place.machine c.loop-place.stamps c.loop-place.place k.loaded k.legal k.run k.stamps (omega arith)

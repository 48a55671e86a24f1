use Rattle.std.proofs.Common.{subst}
use Rattle.dq_extract.proofs.Places.{FitsStep-segment_of}
use Rattle.dq_extract.specs.Loads.{LoadedFiles, IsLoaded}
use Rattle.dq_extract.proofs.loaded.Loaded.segment.Goals as goal

pub returns-in_ok-place-in-Publish-clause-step : goal.returns-in_ok-place-in-Publish-clause-step
returns-in_ok-place-in-Publish-clause-step c =
    let P : LoadedFiles → Type 0 = λ l. IsLoaded l in
    FitsStep-segment_of c.args.self.now c.args.lane c.args.step (subst P c.self.view_is c.self.invariant.loaded)

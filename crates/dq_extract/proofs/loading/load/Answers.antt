use Rattle.dq_extract.proofs.Fits.{IsSegment-loaded}
use Rattle.dq_extract.proofs.loading.load.Goals as goal

pub new-requires-2 : goal.new-requires-2
new-requires-2 c =
    IsSegment-loaded c.args.schema.now c.in_ok-kept.kept c.args.room c.new.result.left c.in_ok-rows.rows c.names-names.ensures.paired c.requires.columns c.requires.room
    c.in_ok-rows.ensures.rows c.in_ok-rows.ensures.cells c.in_ok-kept.ensures

use Rattle.dq_laws.proofs.Goes.{some_goes}
use Rattle.dq_laws.proofs.going.some_lane_goes_on.Goals as goal

pub returns : goal.returns
returns c = some_goes c.args.loaded.now c.args.journal.now c.args.lane c.requires.legal c.requires.lane c.requires.unended

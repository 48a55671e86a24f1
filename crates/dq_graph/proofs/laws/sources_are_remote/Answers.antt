use Rattle.dq_graph.proofs.Sources.{sources_right}
use Rattle.dq_graph.proofs.laws.sources_are_remote.Goals as goal

pub returns : goal.returns
returns c = sources_right

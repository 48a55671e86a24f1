use Rattle.serde_json.specs.View.{view}
use Rattle.dq_script.proofs.Sourced.{over-so}
use Rattle.dq_script.proofs.zone.read_over.Goals as goal

pub returns : goal.returns
returns c = over-so c.args.known.extracts.now c.args.source c.columns_at-names.result.names.now (view c.args.zone.now) c.read_asked.result c.columns_at-names.ensures c.read_asked.ensures

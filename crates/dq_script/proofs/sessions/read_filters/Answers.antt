use Rattle.serde_json.specs.View.{view}
use Rattle.dq_script.proofs.Sourced.{filters-so}
use Rattle.dq_script.proofs.sessions.read_filters.Goals as goal

pub returns : goal.returns
returns c =
    filters-so c.args.known.extracts.now (view c.args.value.now) c.args.lane c.number_of_source-source.result c.args.name c.bytes.result.now c.columns_at-names.result.names.now c.read_filtered.result
    c.number_of_source-source.ensures c.bytes.ensures c.columns_at-names.ensures c.read_filtered.ensures

use Rattle.std.proofs.Common.{sym, ◌∙◌}
use Rattle.serde_json.specs.View.{view}
use Rattle.dq_script.proofs.Sourced.{plan-fit, plan-none}
use Rattle.dq_script.proofs.draft.read_known.Goals as goal

pub returns-then-extracts_fit : goal.returns-then-extracts_fit
returns-then-extracts_fit c =
    plan-fit c.args.form c.args.extracts.now (view c.args.script.now) c.read_plan-fitting.result (sym c.extracts_fit.ensures ∙ c.if-extracts_fit.true) c.read_plan-fitting.ensures

pub returns : goal.returns
returns c =
    plan-none c.args.form c.args.extracts.now c.no_extracts-none.result (view c.args.script.now) c.read_plan-over_none.result (sym c.extracts_fit.ensures ∙ c.if-extracts_fit.false)
    c.no_extracts-none.ensures c.read_plan-over_none.ensures

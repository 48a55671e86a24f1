use Rattle.std.proofs.Common.{◌∙◌}
use Rattle.dq_check.proofs.Settled.{refused_leaders, refused_wrong}
use Rattle.dq_check.proofs.steps.wrong_unadmitted.Goals as goal

pub wrong_of_zones-requires-clause-leaders : goal.wrong_of_zones-requires-clause-leaders
wrong_of_zones-requires-clause-leaders c =
    refused_leaders c.args.loaded.now c.args.journal.now c.args.lane c.args.number c.args.zones.now
    c.script-script.result.now.schemas c.as_slice.result.now c.as_slice-3.result.now (c.as_slice-3.ensures.value ∙ c.in_ok-dues.ensures)

pub returns : goal.returns
returns c =
    refused_wrong c.args.loaded.now c.args.journal.now c.args.lane c.args.number c.args.zones.now
    c.script-script.result.now c.as_slice-2.result.now c.as_slice.result.now c.as_slice-3.result.now c.as_slice-4.result.now c.args.shown.now c.in_ok-wrong.wrong
    c.script-script.ensures.script c.as_slice-2.ensures c.as_slice.ensures (c.as_slice-3.ensures.value ∙ c.in_ok-dues.ensures) c.as_slice-4.ensures c.in_ok-wrong.ensures

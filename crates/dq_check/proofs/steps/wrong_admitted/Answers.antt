use Rattle.std.proofs.Common.{◌∙◌}
use Rattle.dq_check.proofs.Settled.{admitted_wrong, leaders_told, length_told}
use Rattle.dq_check.proofs.steps.wrong_admitted.Goals as goal

pub wrong_of_zones-requires-clause-leaders : goal.wrong_of_zones-requires-clause-leaders
wrong_of_zones-requires-clause-leaders c =
    leaders_told c.args.loaded.now c.args.journal.now c.args.lane c.args.number c.args.place c.args.zones.now c.as_slice-2.result.now (c.as_slice-2.ensures.value ∙ c.in_ok-dues.ensures)

pub wrong_of_zones-requires-clause-count : goal.wrong_of_zones-requires-clause-count
wrong_of_zones-requires-clause-count c =
    length_told c.args.loaded.now c.args.journal.now c.args.lane c.args.number c.args.place c.args.zones.now c.as_slice-2.result.now c.as_slice.result.now
    (c.as_slice-2.ensures.value ∙ c.in_ok-dues.ensures) c.as_slice.ensures

pub returns : goal.returns
returns c =
    admitted_wrong c.args.loaded.now c.args.journal.now c.args.lane c.args.number c.args.place c.args.zones.now
    c.script.result.now c.as_slice.result.now c.as_slice-2.result.now c.as_slice-3.result.now c.args.shown.now c.in_ok-wrong.wrong
    c.script.ensures.script c.as_slice.ensures (c.as_slice-2.ensures.value ∙ c.in_ok-dues.ensures) c.as_slice-3.ensures c.in_ok-wrong.ensures

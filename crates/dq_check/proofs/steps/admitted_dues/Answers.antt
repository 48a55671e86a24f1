use Rattle.std.proofs.Common.{ap, ◌∙◌, []}
use Rattle.std.specs.Prelude.{unwrap_or}
use Rattle.dq_base.specs.Scripts.{numbered}
use Rattle.dq_check.proofs.Admitted.{admitted_told}
use Rattle.dq_check.proofs.steps.admitted_dues.Goals as goal

pub returns : goal.returns
returns c =
    admitted_told c.args.loaded.now c.args.journal.now c.args.grounds.now c.args.takes.now c.args.lane c.args.number c.args.place c.args.zones.now
    c.as_slice.result.now c.stamps_told.result.now c.in_ok-dues.dues.items
    c.script.result.now.schemas c.machine.result.now.state.versions c.losses.result.now c.met_at.result.now c.behind.result.now c.as_slice-2.result.now
    c.requires.grounds c.requires.takes c.requires.entry c.requires.zones
    (ap (λ s. s.schemas) c.script.ensures.script) (ap (λ m. m.state.versions) c.machine.ensures) c.losses.ensures c.met_at.ensures c.behind.ensures c.as_slice-2.ensures
    (c.as_slice.ensures.value ∙ c.in_ok-origins.ensures) (c.stamps_told.ensures ∙ ap (λ h. unwrap_or (numbered h.stamps c.args.place) []) c.history.ensures) c.in_ok-dues.ensures

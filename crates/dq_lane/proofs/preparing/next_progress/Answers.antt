use Rattle.std.proofs.Common.{◌≡◌, Some, ap, sym, ◌∙◌}
use Rattle.std.specs.Option.{option_copied}
use Rattle.dq_base.specs.Scripts.{step_of}
use Rattle.dq_base.specs.declared.script.Step.TheVariants.{Batch}
use Rattle.dq_lane.proofs.Limits.{few_zones}
use Rattle.dq_lane.proofs.preparing.next_progress.Goals as goal

pub new-requires : goal.new-requires
new-requires g c =
    let batch : step_of c.args.loaded.now.script.lanes c.args.lane c.args.step ≡ Some (Batch c.in-Some-Batch.zones) =
    rw (← c.script-script.ensures.script) (sym c.step_at.ensures ∙ ap option_copied c.in-Some-Batch.is ∙ ap Some c.in-Some-Batch.field-0-is) in
    few_zones c.args.loaded.now c.args.lane c.args.step c.in-Some-Batch.zones c.script-script.ensures.loaded batch

use Rattle.std.proofs.Common.{◌≡◌, Bool, true, false, ◌&&◌, Option, refl}
use Rattle.std.specs.Prelude.{is_none}
use Rattle.dq_base.specs.Scripts.{step_of}
use Rattle.dq_base.specs.declared.script.Step.{Step}
use Rattle.dq_machine.specs.Publishing.{is_publish}
use Rattle.dq_lane.proofs.Limits.{publish_is}
use Rattle.dq_lane.proofs.event.publish.Goals as goal

last_of : (a b c : Bool) → (a && (b && c)) ≡ true → c ≡ true
last_of true true c h = h
last_of true false c h = cc
last_of false b c h = cc

publish_is_there : (o : Option Step) → is_publish o ≡ true → is_none o ≡ false
publish_is_there o h = rw ((publish_is o h).3) refl

pub returns-in-Ok-clause-event : goal.returns-in-Ok-clause-event
returns-in-Ok-clause-event g c =
    let kind : is_publish (step_of c.args.desk.now.loaded.script.lanes c.args.lane c.args.step) ≡ true = last_of _ _ _ c.requires in
    record { kind = kind; journal = c.in-Ok.ensures.entry; last = c.in-Ok.ensures.place }

pub returns-in-Err-clause-event : goal.returns-in-Err-clause-event
returns-in-Err-clause-event g c =
    let kind : is_publish (step_of c.args.desk.now.loaded.script.lanes c.args.lane c.args.step) ≡ true = last_of _ _ _ c.requires in
    (publish_is_there _ kind, c.in-Err.ensures.refused)

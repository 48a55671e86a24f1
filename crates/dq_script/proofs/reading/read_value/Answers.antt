use Rattle.std.proofs.Common.{sym, subst}
use Rattle.serde_json.specs.View.{view}
use Rattle.dq_base.specs.Scripts.{IsScript}
use Rattle.dq_script.specs.Drafts.{draft_of}
use Rattle.dq_script.proofs.Drafted.{draft_of-kept}
use Rattle.dq_script.proofs.Json.{refused, made}
use Rattle.dq_script.proofs.Reasoned.{fit_of}
use Rattle.dq_script.proofs.Scripted.{can-be-made, script_with-fits}
use Rattle.dq_script.proofs.reading.read_value.Goals as goal

pub make_script-requires : goal.make_script-requires
make_script-requires c =
    can-be-made c.in-Ok.draft (draft_of-kept (view c.args.value.now) c.in-Ok.draft c.in-Ok.ensures) (fit_of c.in-Ok.draft c.in-None.ensures)

pub returns-in-Some-clause-script : goal.returns-in-Some-clause-script
returns-in-Some-clause-script c = refused (draft_of (view c.args.value.now)) c.in-Ok.draft c.in-Some.fault c.in-Ok.ensures c.in-Some.ensures

pub returns-in-Ok-make_script-clause-script : goal.returns-in-Ok-make_script-clause-script
returns-in-Ok-make_script-clause-script c = made (draft_of (view c.args.value.now)) c.in-Ok.draft c.in-Ok-make_script.script c.in-Ok.ensures c.in-None.ensures c.in-Ok-make_script.ensures

pub returns-in-Ok-make_script-clause-fits : goal.returns-in-Ok-make_script-clause-fits
returns-in-Ok-make_script-clause-fits c =
    subst IsScript (sym c.in-Ok-make_script.ensures)
    (script_with-fits c.in-Ok.draft (draft_of-kept (view c.args.value.now) c.in-Ok.draft c.in-Ok.ensures) (fit_of c.in-Ok.draft c.in-None.ensures))

use Rattle.dq_top.proofs.Content.{content_counted}
use Rattle.dq_top.proofs.loading.script_or_fault.Goals as goal

pub returns-in-Err-clause-limit : goal.returns-in-Err-clause-limit
returns-in-Err-clause-limit c = λ before now.
    content_counted c.args.bytes.now c.args.name.now c.in-Err.fault c.script_fault.result before now c.in-Err.ensures.script c.script_fault.ensures

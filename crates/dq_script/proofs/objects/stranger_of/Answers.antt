use Rattle.std.proofs.Common.{ap, sym, ◌∙◌, Some}
use Rattle.dq_script.proofs.Among.{stranger-is}
use Rattle.dq_script.proofs.objects.stranger_of.Goals as goal

pub returns-in-None : goal.returns-in-None
returns-in-None c = stranger-is c.args.names.now c.in-Some.members.now.entries _ _ c.in-None.ensures c.in-Some.ensures

pub returns-in-Some-stranger_in : goal.returns-in-Some-stranger_in
returns-in-Some-stranger_in c = ap Some c.as_str.ensures.value ∙ stranger-is c.args.names.now c.in-Some.members.now.entries _ _ c.in-Some-stranger_in.ensures c.in-Some.ensures

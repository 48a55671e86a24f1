use Rattle.std.proofs.Common.{◌∙◌, Some, None}
use Rattle.dq_blend.proofs.Entered.{row_at}
use Rattle.dq_blend.proofs.places.row_with.Goals as goal

pub returns-in-Some : goal.returns-in-Some
returns-in-Some c = c.get-in-Some.ensures ∙ row_at c.args.count c.args.table.now c.args.places.now.entries c.args.key.now (Some c.in-Some.place.now) c.requires c.in-Some.ensures.value

pub returns-in-None : goal.returns-in-None
returns-in-None c = row_at c.args.count c.args.table.now c.args.places.now.entries c.args.key.now None c.requires c.in-None.ensures.value

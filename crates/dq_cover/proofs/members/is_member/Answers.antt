use Rattle.std.proofs.Common.{◌∙◌}
use Rattle.dq_cover.proofs.Found.{search_has}
use Rattle.dq_cover.proofs.members.is_member.Goals as goal

pub returns : goal.returns
returns g c = c.is_ok.ensures.value ∙ search_has g.T.Ord.cmp g.met.T.Ord.total c.args.list.now c.args.item.now c.binary_search.result c.requires c.binary_search.ensures.bound c.binary_search.ensures.position

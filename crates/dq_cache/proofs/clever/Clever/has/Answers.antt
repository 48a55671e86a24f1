use Rattle.std.proofs.Common.{ap, is_some, ◌∙◌}
use Rattle.dq_cache.specs.Entries.{fits}
use Rattle.dq_cache.proofs.Numbers.{is_some-number_in}
use Rattle.dq_cache.proofs.clever.Clever.has.Goals as goal

pub returns : goal.returns
returns c = rw (← c.self.view_is) (c.is_some.ensures ∙ ap is_some c.number_of.ensures ∙ is_some-number_in (fits c.args.stamp c.args.q.now) c.self.inside.cache.entries)

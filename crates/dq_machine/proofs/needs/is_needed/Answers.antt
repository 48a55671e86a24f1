use Rattle.std.proofs.Common.{◌∙◌}
use Rattle.dq_link.specs.Mirrors.{alike, long_lists}
use Rattle.dq_link.proofs.Needed.{any-flat_map}
use Rattle.dq_machine.proofs.needs.is_needed.Goals as goal

pub returns : goal.returns
returns c = c.some_test_needs.ensures ∙ any-flat_map (λ l. alike l c.args.list.now) (λ p. long_lists p.test) c.args.filters.now

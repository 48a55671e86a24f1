use Rattle.dq_report.specs.Told.{FitsEntry}
use Rattle.dq_base.proofs.Reached.{reached_item, reached_all}
use Rattle.dq_report.proofs.sizes.fit_entries.Goals as goal

pub loop-entry-preserved : goal.loop-entry-preserved
loop-entry-preserved c = reached_item FitsEntry c.args.entries.now c.loop-entry.entry-index c.entry-item.result c.loop-entry-test.true c.loop-entry.invariant c.entry-item.is c.fit_entry.ensures

pub returns : goal.returns
returns c = reached_all FitsEntry c.args.entries.now c.loop-entry.entry-index c.loop-entry-test.false c.loop-entry.invariant

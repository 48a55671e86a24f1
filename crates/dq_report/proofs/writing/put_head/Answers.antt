use Rattle.std.specs.Prelude.{codes}
use Rattle.dq_report.specs.Report.{counted_line}
use Rattle.dq_report.proofs.Joined.{three_more}
use Rattle.dq_report.proofs.writing.put_head.Goals as goal

pub returns : goal.returns
returns c =
    three_more c.args.text.now (codes "report 1\n") (counted_line (codes "lanes ") c.args.lanes) (counted_line (codes "entries ") c.args.entries) _ _ _
    c.in_ok-append.ensures.ok c.in_ok-put_counted_line.ensures c.in_ok-put_counted_line-2.ensures

use Rattle.std.proofs.Common.{arith, ap, ◌∙◌, ◌++◌, ◌∷◌, []}
use Rattle.std.proofs.lemmas.Result.{err_from_is_err_and}
use Rattle.dq_parse.proofs.Counted.{begins, goes_on, breaks_off, ends}
use Rattle.dq_parse.proofs.Lines.{lines_list, journal_taken, journal_none}
use Rattle.dq_parse.proofs.Takings.{read_taken, takes_passed}
use Rattle.dq_parse.proofs.entries.read_journal.Goals as goal

pub loop-before-init : goal.loop-before-init
loop-before-init c = begins c.args.count c.args.left.now _ lines_list c.new-journal.ensures

pub returns-in_err-entry : goal.returns-in_err-entry
returns-in_err-entry c = takes_passed _ _ _ (err_from_is_err_and c.from_residual.result c.from_residual.ensures.1) c.in_err-entry.ensures (λ t. journal_none (breaks_off lines_list c.loop-before-test.true c.loop-before.invariant t))

pub loop-before-preserved : goal.loop-before-preserved
loop-before-preserved c =
    goes_on lines_list c.loop-before-test.true c.loop-before.invariant (read_taken c.in_ok-entry.ensures)
    (c.push.ensures.entries ∙ ap (λ t. t ++ c.in_ok-entry.entry ∷ []) c.reserve.ensures.entries)

pub returns : goal.returns
returns c = journal_taken _ (ends lines_list (omega arith) c.loop-before.invariant)

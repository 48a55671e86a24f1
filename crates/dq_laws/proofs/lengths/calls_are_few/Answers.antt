use Rattle.dq_laws.specs.Lengths.{most_entries_of_journal}
use Rattle.dq_laws.proofs.Coming.{short}
use Rattle.dq_laws.proofs.Counting.{counted_within}
use Rattle.dq_laws.proofs.lengths.calls_are_few.Goals as goal

pub returns : goal.returns
returns c =
    let l = c.args.loaded.now in
    let journal = c.args.journal.now in
    counted_within l journal most_entries_of_journal (short l journal c.script-script.ensures.loaded c.requires.legal) c.requires.legal

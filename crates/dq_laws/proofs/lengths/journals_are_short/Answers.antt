use Rattle.dq_laws.proofs.Coming.{short, short_for}
use Rattle.dq_laws.proofs.lengths.journals_are_short.Goals as goal

pub returns : goal.returns
returns c =
    let l = c.args.loaded.now in
    let journal = c.args.journal.now in
    record { script = short_for l journal c.requires.legal; few = short l journal c.script-script.ensures.loaded c.requires.legal }

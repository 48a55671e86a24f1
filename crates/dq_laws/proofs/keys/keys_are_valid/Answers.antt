use Rattle.dq_laws.proofs.KeysHeld.{held_canonical, held_sources, held_valid}
use Rattle.dq_laws.proofs.keys.keys_are_valid.Goals as goal

pub returns-clause-valid : goal.returns-clause-valid
returns-clause-valid c =
    let narrow = rw (c.as_slice.ensures, c.script.ensures.script) at c.read_sorts.ensures in
    held_valid c.args.loaded.now c.args.journal.now narrow c.requires.legal

pub returns-clause-sources : goal.returns-clause-sources
returns-clause-sources c =
    let narrow = rw (c.as_slice.ensures, c.script.ensures.script) at c.read_sorts.ensures in
    held_sources c.args.loaded.now c.args.journal.now narrow c.requires.legal

pub returns-clause-canonical : goal.returns-clause-canonical
returns-clause-canonical c = held_canonical c.args.loaded.now c.args.journal.now c.requires.legal

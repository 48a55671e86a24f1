use Rattle.dq_laws.proofs.LinksFew.{few_links}
use Rattle.dq_laws.proofs.linking.links_are_few.Goals as goal

pub returns : goal.returns
returns c =
    let few = few_links c.args.loaded.now c.args.journal.now c.requires.legal in
    record { lanes = few.0; works = few.1 }

use Rattle.dq_laws.proofs.LinksApart.{links_apart}
use Rattle.dq_laws.proofs.linking.links_differ.Goals as goal

pub returns : goal.returns
returns c = links_apart c.args.loaded.now c.args.journal.now c.args.link c.requires.legal

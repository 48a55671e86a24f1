use Rattle.std.proofs.Common.{◌≡◌, [], drop}
use Rattle.dq_script.specs.Batches.{links_of}
use Rattle.dq_script.proofs.batch.read_links.Given as goal

abbrev pub invariant-loop-place : goal.invariant-loop-place
invariant-loop-place l = links_of l.keys 0 [] l.by ≡ links_of l.keys l.place l.links (drop l.place l.by)

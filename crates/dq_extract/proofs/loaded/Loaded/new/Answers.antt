use Rattle.std.proofs.Common.{arith, length, ap}
use Rattle.dq_base.specs.Scripts.{sources_of}
use Rattle.dq_extract.proofs.Counts.{AreOf-length}
use Rattle.dq_extract.proofs.loaded.Loaded.new.Goals as goal

pub index_of-requires : goal.index_of-requires
index_of-requires c =
    omega (arith, ap (λ lanes. length (sources_of lanes)) c.as_slice.ensures, AreOf-length _ _ _ c.requires.fit, c.len-count.ensures)

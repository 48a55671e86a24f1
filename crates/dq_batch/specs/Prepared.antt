-- When a batch is ready to be admitted.
use Rattle.std.specs.Prelude.{◌≡◌, ◌+◌, List, length, map}
use Rattle.dq_base.specs.Headings.{Heading}
use Rattle.dq_base.specs.declared.query.Query.{Query}
use Rattle.dq_graph.specs.declared.prepared.Prepared.{Prepared}
use Rattle.dq_machine.specs.Owning.{valid_places}
use Rattle.dq_machine.specs.Preparing.{remotes_of}
use Rattle.dq_desk.specs.Admissions.{IsPrepared}
use Rattle.dq_batch.specs.declared.preparation.Preparation.{Preparation}

-- the numbers of the valid zones count from 1
pub record IsPreparedFor (schemas : List Heading) (zones : List Query) (p : Prepared) : Type 0 where
  pub prepared : IsPrepared schemas zones p
  pub zones_are : p.zones ≡ map (λ place. place + 1) (valid_places schemas 0 zones)

pub record IsPreparation (schemas : List Heading) (zones : List Query) (p : Preparation) : Type 0 where
  pub prepared : IsPreparedFor schemas zones p.prepared
  pub queries : p.queries ≡ remotes_of schemas zones
  pub room : length p.fetches ≡ length p.queries

-- What a batch asks: its valid zones, and how they are answered together.
use Rattle.std.specs.Prelude.{ℕ, ◌+◌, Bool, true, false, List, [], ◌∷◌, map, filter, is_none}
use Rattle.dq_base.specs.Batches.{roles}
use Rattle.dq_base.specs.Canonical.{canonical}
use Rattle.dq_base.specs.Headings.{Heading}
use Rattle.dq_base.specs.Validity.{invalid_by}
use Rattle.dq_base.specs.declared.query.Query.{Query}
use Rattle.dq_base.specs.declared.canon.Role.{Role}
use Rattle.dq_base.specs.declared.canon.Role.TheVariants.{Remote, Local}

abbrev pub is_valid : List Heading → Query → Bool
is_valid schemas q = is_none (invalid_by schemas q)

-- the canonical queries of the valid zones, in zone order
abbrev pub canons_of : List Heading → List Query → List Query
canons_of schemas zones = map canonical (filter (is_valid schemas) zones)

-- those that aren't answered from one another
abbrev pub remote_among : List Role → List Query → List Query
remote_among [] queries = []
remote_among (Remote ∷ rs) [] = []
remote_among (Remote ∷ rs) (q ∷ queries) = q ∷ remote_among rs queries
remote_among (Local place ∷ rs) [] = []
remote_among (Local place ∷ rs) (q ∷ queries) = remote_among rs queries

-- the remote queries of a batch, in zone order
abbrev pub remotes_of : List Heading → List Query → List Query
remotes_of schemas zones = let queries = canons_of schemas zones in remote_among (roles queries) queries

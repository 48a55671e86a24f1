-- What a schema says.
use Rattle.std.specs.Prelude.{ℕ, List}
use Rattle.dq_base.specs.declared.schema.Sort.{Sort}

-- the columns' names, and what each holds
pub record Heading : Type 0 where
  pub names : List (List ℕ)
  pub sorts : List Sort

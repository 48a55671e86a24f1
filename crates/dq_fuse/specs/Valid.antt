-- Groups whose keys are valid.
use Rattle.std.specs.Prelude.{Bool, List, is_none, length, nat_le}
use Rattle.dq_base.specs.Headings.{Heading}
use Rattle.dq_base.specs.Limits.{most_columns}
use Rattle.dq_base.specs.Validity.{invalid_by}
use Rattle.dq_base.specs.declared.query.Query.{Query}

abbrev pub is_valid : List Heading → Query → Bool
is_valid schemas q = is_none (invalid_by schemas q)

-- it has so many columns as an extract may have
abbrev pub is_narrow : Heading → Bool
is_narrow h = nat_le (length h.sorts) most_columns

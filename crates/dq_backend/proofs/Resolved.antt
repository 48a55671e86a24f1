-- Filters resolved so far.
use Rattle.std.proofs.Common.{List, ◌++◌, Option, Some, None}

-- these before those of what follows
abbrev pub ahead : {A : Type 0} → List A → Option (List A) → Option (List A)
ahead xs None = None
ahead xs (Some more) = Some (xs ++ more)

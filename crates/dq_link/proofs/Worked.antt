-- Worked examples of the definitions, each by computing.
use Rattle.std.proofs.Common.{◌≡◌, ℕ, pos, List, [], ◌∷◌, ◌++◌, None, refl}
use Rattle.std.specs.List.{range_with_len}
use Rattle.std.specs.Prelude.{map}
use Rattle.dq_base.specs.declared.value.Value.{Value}
use Rattle.dq_base.specs.declared.value.Value.TheVariants as value
use Rattle.dq_base.specs.declared.predicate.Test.TheVariants as test
use Rattle.dq_base.specs.declared.query.Measure.TheVariants.{Rows}
use Rattle.dq_base.specs.declared.query.Query.{Query}
use Rattle.dq_text.specs.Said.{Tables}
use Rattle.dq_link.specs.Mirrors.{Mirror, no_mirror, readied, readying_count}

abbrev years : ℕ → ℕ → List Value
years first n = map (λ y. value.Int (pos y)) (range_with_len first n)

abbrev of_years : ℕ → ℕ → Query
of_years first n = record { source = 0; filters = record { column = 1; test = test.Among (years first n) } ∷ []; dims = []; measures = Rows ∷ []; order = []; top = None }

-- sixteen values need a mount, seventeen also a table
short_needs_mount : readied no_mirror 1 (of_years 2010 16) ≡ record no_mirror { mounts = (0, 1) ∷ [] }
short_needs_mount = refl

one_call : readying_count no_mirror 1 (of_years 2010 16) ≡ 1
one_call = refl

long_needs_table : readied no_mirror 1 (of_years 2010 17) ≡ record { mounts = (0, 1) ∷ []; tables = (1, years 2010 17) ∷ []; next = 2 }
long_needs_table = refl

two_calls : readying_count no_mirror 1 (of_years 2010 17) ≡ 2
two_calls = refl

abbrev second : Mirror
second = readied (readied no_mirror 1 (of_years 2010 17)) 1 (of_years 2011 17)

-- another list is put, and one that stands needs nothing
other_list : second ≡ record { mounts = (0, 1) ∷ []; tables = (1, years 2010 17) ∷ (2, years 2011 17) ∷ []; next = 3 }
other_list = refl

list_stands : readying_count second 1 (of_years 2010 17) ≡ 0
list_stands = refl

stamp_moves : readied second 2 (of_years 2010 17) ≡ record second { mounts = (0, 2) ∷ [] }
stamp_moves = refl

abbrev numbered : List ℕ → Tables
numbered numbers = map (λ n. (n, years n 17)) numbers

abbrev full : Mirror
full = record { mounts = (0, 1) ∷ []; tables = numbered (range_with_len 1 16); next = 17 }

-- where sixteen tables stand the first of them is dropped
first_is_dropped : readied full 1 (of_years 2010 17) ≡ record { mounts = (0, 1) ∷ []; tables = numbered (range_with_len 2 15) ++ (17, years 2010 17) ∷ []; next = 18 }
first_is_dropped = refl

drop_and_put : readying_count full 1 (of_years 2010 17) ≡ 2
drop_and_put = refl

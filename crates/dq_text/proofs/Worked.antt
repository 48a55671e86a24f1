-- Worked examples of the definitions, each by computing.
use Rattle.std.proofs.Common.{◌≡◌, ℕ, pos, true, List, [], ◌∷◌, Some, None, codes, refl, nat_eq, if◌then◌else◌}
use Rattle.std.specs.Fmt.{digits}
use Rattle.std.specs.List.{range_with_len}
use Rattle.std.specs.Prelude.{map}
use Rattle.dq_base.specs.Dims.{plain}
use Rattle.dq_base.specs.Spelling.{spelled}
use Rattle.dq_base.specs.declared.value.Value.{Value}
use Rattle.dq_base.specs.declared.value.Value.TheVariants as value
use Rattle.dq_base.specs.declared.predicate.Test.TheVariants as test
use Rattle.dq_base.specs.declared.query.Measure.TheVariants.{Rows}
use Rattle.dq_base.specs.declared.query.Query.{Query}
use Rattle.dq_text.specs.Said.{said, resolved}
use Rattle.dq_text.specs.Statements.{spelling, body, test_text}
use Rattle.dq_text.specs.declared.statement.Listed.TheVariants.{Spelled}
use Rattle.dq_text.specs.declared.statement.SaidTest.TheVariants.{Among, Between}

-- the region with the most rows
abbrev most : Query
most = record { source = 0; filters = []; dims = plain 0 ∷ []; measures = Rows ∷ []; order = record { place = 2; down = true } ∷ []; top = Some 1 }

most_is_said : spelling (said [] 1 most) ≡ codes "from 0@1 by c0 show rows order 2- top 1"
unfolding digits
most_is_said = refl

most_has_body : body most ≡ codes "from 0 by c0 show rows order 2- top 1"
unfolding digits
most_has_body = refl

-- a band's width is written
bands_are_said : spelling (said [] 1 (record { source = 0; filters = []; dims = record { column = 2; beyond = 4 } ∷ []; measures = Rows ∷ []; order = []; top = None })) ≡ codes "from 0@1 by c2/5 show rows"
unfolding digits
bands_are_said = refl

abbrev years : ℕ → List Value
years n = map (λ y. value.Int (pos y)) (range_with_len 2010 n)

abbrev of_years : ℕ → Query
of_years n = record { source = 0; filters = record { column = 1; test = test.Among (years n) } ∷ []; dims = []; measures = Rows ∷ []; order = []; top = None }

-- sixteen values are spelled, seventeen stand in a table
short_is_spelled : spelling (said [] 1 (of_years 16)) ≡ codes "from 0@1 where c1 among (2010,2011,2012,2013,2014,2015,2016,2017,2018,2019,2020,2021,2022,2023,2024,2025) show rows"
unfolding digits
short_is_spelled = refl

long_is_named : spelling (said ((1, years 17) ∷ []) 1 (of_years 17)) ≡ codes "from 0@1 where c1 among #1 show rows"
unfolding digits
long_is_named = refl

long_is_meant : resolved (λ n. if nat_eq n 1 then Some (years 17) else None) (said ((1, years 17) ∷ []) 1 (of_years 17)) ≡ Some (of_years 17)
long_is_meant = refl

none_is_meant : resolved (λ n. None) (said ((1, years 17) ∷ []) 1 (of_years 17)) ≡ None
none_is_meant = refl

quote_is_spelled : spelled (97 ∷ 34 ∷ 98 ∷ []) ≡ codes "\"a\\22b\""
quote_is_spelled = refl

no_bounds : test_text (Between None None) ≡ codes " between *..*"
no_bounds = refl

one_bound : test_text (Between None (Some (pos 2021))) ≡ codes " between *..2021"
unfolding digits
one_bound = refl

nothing_among : test_text (Among (Spelled [])) ≡ codes " among ()"
nothing_among = refl

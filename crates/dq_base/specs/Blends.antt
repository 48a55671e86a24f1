-- Two answers blended on shared dimensions.
use Rattle.std.specs.Prelude.{ℕ, ◌+◌, ◌-◌, Bool, true, false, ◌&&◌, ◌||◌, nat_lt, nat_le, nat_eq, List, [], ◌∷◌, ◌++◌, map, drop, length, replicate, find, Option, Some, None}
use Rattle.std.specs.List.{list_all}
use Rattle.std.specs.Ordering.{is_eq, nat_cmp, int_cmp}
use Rattle.std.specs.Cmp.Lexicographic.{slice_cmp}
use Rattle.dq_base.specs.Answers.{cell_at}
use Rattle.dq_base.specs.declared.cell.Cell.{Cell}
use Rattle.dq_base.specs.declared.cell.Cell.TheVariants.{Null, Whole, Word, Ratio}
use Rattle.dq_base.specs.declared.query.Query.{Query}
use Rattle.dq_base.specs.declared.script.Blend.{Blend}

-- equal cells: null is equal to null, a text never to a number, and ratios only where sum and count are equal
abbrev pub cell_eq : Cell → Cell → Bool
cell_eq Null Null = true
cell_eq Null (Whole b) = false
cell_eq Null (Word b) = false
cell_eq Null (Ratio b) = false
cell_eq (Whole a) Null = false
cell_eq (Whole a) (Whole b) = is_eq (int_cmp a b)
cell_eq (Whole a) (Word b) = false
cell_eq (Whole a) (Ratio b) = false
cell_eq (Word a) Null = false
cell_eq (Word a) (Whole b) = false
cell_eq (Word a) (Word b) = is_eq (slice_cmp nat_cmp a b)
cell_eq (Word a) (Ratio b) = false
cell_eq (Ratio a) Null = false
cell_eq (Ratio a) (Whole b) = false
cell_eq (Ratio a) (Word b) = false
cell_eq (Ratio a) (Ratio b) = is_eq (int_cmp a.sum b.sum) && nat_eq a.others b.others

-- the cells at these places of a row, from 1, are the first cells of another row
abbrev pub agree : List ℕ → List Cell → List Cell → Bool
agree [] row other = true
agree (link ∷ links) row [] = false
agree (link ∷ links) row (c ∷ cells) = cell_eq (cell_at row link) c && agree links row cells

-- the last cells of a row, or as many nulls where there is none
abbrev pub last_cells : ℕ → Option (List Cell) → List Cell
last_cells measures None = replicate measures Null
last_cells measures (Some row) = drop (length row - measures) row

-- each row of the first table, with the measures of the row of the second that agrees with it at the links
abbrev pub blend_of : List (List Cell) → List (List Cell) → List ℕ → ℕ → List (List Cell)
blend_of first second links measures = map (λ row. row ++ last_cells measures (find (agree links row) second)) first

-- blends of a script

-- a link for each dimension of the second query, each the place of a dimension of the first, from 1
abbrev pub links_fit : List ℕ → Option Query → Option Query → Bool
links_fit links None second = false
links_fit links (Some p) None = false
links_fit links (Some p) (Some q) = nat_eq (length links) (length q.dims) && list_all (λ link. nat_lt 0 link && nat_le link (length p.dims)) links

-- the one stands before the other, and they share no zone
abbrev pub stands_before : Blend → Blend → Bool
stands_before a b = nat_lt a.lane b.lane || (nat_eq a.lane b.lane && (nat_lt a.step b.step || (nat_eq a.step b.step && nat_le (a.zone + 2) b.zone)))

abbrev pub stands_before_next : Blend → List Blend → Bool
stands_before_next a [] = true
stands_before_next a (b ∷ blends) = stands_before a b

-- blends in order of lanes, steps and zones, of which no two share a zone
abbrev pub are_apart : List Blend → Bool
are_apart [] = true
are_apart (b ∷ blends) = stands_before_next b blends && are_apart blends

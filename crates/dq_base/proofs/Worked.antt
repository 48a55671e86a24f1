-- Worked examples of the definitions, each by computing.
use Rattle.std.proofs.Common.{◌≡◌, ℕ, pos, true, false, List, [], ◌∷◌, Some, None, refl, replicate, map, negsuc}
use Rattle.dq_base.specs.Answers.{answer}
use Rattle.dq_base.specs.Batches.{roles, groups}
use Rattle.dq_base.specs.Blends.{blend_of}
use Rattle.dq_base.specs.Canonical.{canonical}
use Rattle.dq_base.specs.Covering.{covers}
use Rattle.dq_base.specs.Dims.{Dimension, plain, band_of}
use Rattle.dq_base.specs.Headings.{Heading}
use Rattle.dq_base.specs.Scripts.{blend_fits}
use Rattle.dq_base.specs.Sessions.{filter_items, shielded_query, visible}
use Rattle.dq_base.specs.Validity.{invalid_by}
use Rattle.dq_base.specs.declared.value.Value.{Value}
use Rattle.dq_base.specs.declared.value.Value.TheVariants as value
use Rattle.dq_base.specs.declared.cell.Cell.{Cell}
use Rattle.dq_base.specs.declared.cell.Cell.TheVariants as cell
use Rattle.dq_base.specs.declared.schema.Sort.TheVariants as sort
use Rattle.dq_base.specs.declared.predicate.Test.TheVariants.{Among, Between}
use Rattle.dq_base.specs.declared.predicate.Predicate.{Predicate}
use Rattle.dq_base.specs.declared.query.Measure.{Measure}
use Rattle.dq_base.specs.declared.query.Measure.TheVariants.{Rows, Count, Sum, Max, Distinct, Avg}
use Rattle.dq_base.specs.declared.query.Query.{Query}
use Rattle.dq_base.specs.declared.invalid.Invalid.TheVariants as invalid
use Rattle.dq_base.specs.declared.canon.Role.TheVariants.{Remote, Local}

abbrev east : Value
east = value.Word (69 ∷ 97 ∷ 115 ∷ 116 ∷ [])

abbrev west : Value
west = value.Word (87 ∷ 101 ∷ 115 ∷ 116 ∷ [])

abbrev east_cell : Cell
east_cell = cell.Word (69 ∷ 97 ∷ 115 ∷ 116 ∷ [])

abbrev west_cell : Cell
west_cell = cell.Word (87 ∷ 101 ∷ 115 ∷ 116 ∷ [])

abbrev int : ℕ → Value
int n = value.Int (pos n)

abbrev whole : ℕ → Cell
whole n = cell.Whole (pos n)

abbrev sales : List (List Value)
sales =
    (east ∷ int 2020 ∷ int 10 ∷ [])
    ∷ (east ∷ int 2021 ∷ int 5 ∷ [])
    ∷ (west ∷ int 2020 ∷ int 7 ∷ [])
    ∷ (west ∷ int 2021 ∷ value.Null ∷ [])
    ∷ (value.Null ∷ int 2021 ∷ int 4 ∷ [])
    ∷ []

abbrev heading : Heading
heading = record { names = []; sorts = sort.Word ∷ sort.Whole ∷ sort.Whole ∷ [] }

abbrev zone : List Predicate → List ℕ → List Measure → Query
zone filters dims measures = record { source = 0; filters = filters; dims = map plain dims; measures = measures; order = []; top = None }

-- sum of amount and rows by region
pub sums_and_rows_by_region : answer (zone [] (0 ∷ []) (Sum 2 ∷ Rows ∷ [])) sales ≡ (cell.Null ∷ whole 4 ∷ whole 1 ∷ []) ∷ (east_cell ∷ whole 15 ∷ whole 2 ∷ []) ∷ (west_cell ∷ whole 7 ∷ whole 2 ∷ []) ∷ []
sums_and_rows_by_region = refl

-- a grand total over no rows
pub total_over_no_rows : answer (zone [] [] (Rows ∷ Sum 2 ∷ [])) [] ≡ (whole 0 ∷ cell.Null ∷ []) ∷ []
total_over_no_rows = refl

pub total_over_no_kept_rows : answer (zone (record { column = 1; test = Among (int 1999 ∷ []) } ∷ []) [] (Rows ∷ Sum 2 ∷ [])) sales ≡ (whole 0 ∷ cell.Null ∷ []) ∷ []
total_over_no_kept_rows = refl

abbrev years : Query
years = zone [] (0 ∷ []) (Distinct 1 ∷ [])

abbrev cube : Query
cube = zone [] (0 ∷ 1 ∷ []) (Rows ∷ [])

abbrev amounts : Query
amounts = zone [] (0 ∷ []) (Distinct 2 ∷ [])

abbrev overall : Query
overall = zone [] [] (Distinct 1 ∷ Distinct 0 ∷ [])

pub years_cover_one_year : covers (zone (record { column = 1; test = Between None (Some (pos 2021)) } ∷ []) (0 ∷ 1 ∷ []) (Rows ∷ Sum 2 ∷ [])) (zone (record { column = 1; test = Among (int 1999 ∷ []) } ∷ []) [] (Rows ∷ Sum 2 ∷ [])) ≡ true
years_cover_one_year = refl

pub different_years_by_region : answer years sales ≡ (cell.Null ∷ whole 1 ∷ []) ∷ (east_cell ∷ whole 2 ∷ []) ∷ (west_cell ∷ whole 2 ∷ []) ∷ []
different_years_by_region = refl

pub different_amounts_by_region : answer amounts sales ≡ (cell.Null ∷ whole 1 ∷ []) ∷ (east_cell ∷ whole 2 ∷ []) ∷ (west_cell ∷ whole 1 ∷ []) ∷ []
different_amounts_by_region = refl

pub different_years_and_regions : answer overall sales ≡ (whole 2 ∷ whole 2 ∷ []) ∷ []
different_years_and_regions = refl

pub regions_are_local_to_the_cube : roles (years ∷ cube ∷ amounts ∷ overall ∷ []) ≡ Local 1 ∷ Remote ∷ Remote ∷ Local 1 ∷ []
regions_are_local_to_the_cube = refl

pub averages_by_region_and_year : answer (zone [] (0 ∷ 1 ∷ []) (Avg 2 ∷ [])) sales ≡
    (cell.Null ∷ whole 2021 ∷ cell.Ratio (record { sum = pos 4; others = 0 }) ∷ [])
    ∷ (east_cell ∷ whole 2020 ∷ cell.Ratio (record { sum = pos 10; others = 0 }) ∷ [])
    ∷ (east_cell ∷ whole 2021 ∷ cell.Ratio (record { sum = pos 5; others = 0 }) ∷ [])
    ∷ (west_cell ∷ whole 2020 ∷ cell.Ratio (record { sum = pos 7; others = 0 }) ∷ [])
    ∷ (west_cell ∷ whole 2021 ∷ cell.Null ∷ []) ∷ []
averages_by_region_and_year = refl

abbrev top_one : Measure → Query
top_one m = record { source = 0; filters = []; dims = plain 0 ∷ []; measures = m ∷ []; order = record { place = 2; down = true } ∷ []; top = Some 1 }

pub ties_go_by_key : answer (top_one Rows) sales ≡ (east_cell ∷ whole 2 ∷ []) ∷ []
ties_go_by_key = refl

pub null_is_first_among_ties : answer (top_one (Max 1)) sales ≡ (cell.Null ∷ whole 2021 ∷ []) ∷ []
null_is_first_among_ties = refl

abbrev big : List Value
big = value.Null ∷ value.Null ∷ int 9223372036854775807 ∷ []

pub sums_beyond_64_bits : answer (zone [] [] (Sum 2 ∷ Avg 2 ∷ [])) (big ∷ big ∷ []) ≡ (whole 18446744073709551614 ∷ cell.Ratio (record { sum = pos 18446744073709551614; others = 1 }) ∷ []) ∷ []
sums_beyond_64_bits = refl

pub no_such_source : invalid_by (heading ∷ []) (record { source = 1; filters = []; dims = []; measures = Rows ∷ []; order = []; top = None }) ≡ Some invalid.Source
no_such_source = refl

pub no_such_column : invalid_by (heading ∷ []) (zone [] (3 ∷ []) []) ≡ Some invalid.Column
no_such_column = refl

pub repeated_dimension : invalid_by (heading ∷ []) (zone [] (0 ∷ 0 ∷ []) []) ≡ Some invalid.RepeatedDim
repeated_dimension = refl

pub sum_of_a_text : invalid_by (heading ∷ []) (zone [] [] (Sum 0 ∷ [])) ≡ Some invalid.WrongSort
sum_of_a_text = refl

pub text_among_wholes : invalid_by (heading ∷ []) (zone (record { column = 1; test = Among (value.Word (120 ∷ []) ∷ []) } ∷ []) [] (Rows ∷ [])) ≡ Some invalid.WrongSort
text_among_wholes = refl

pub nothing_shown : invalid_by (heading ∷ []) (zone [] [] []) ≡ Some invalid.NothingShown
nothing_shown = refl

abbrev held : Query
held = zone [] (0 ∷ 1 ∷ []) (Rows ∷ Sum 2 ∷ [])

abbrev asked : List Measure → Query
asked ms = zone [] (0 ∷ []) ms

pub sum_is_covered : covers held (asked (Sum 2 ∷ [])) ≡ true
sum_is_covered = refl

pub average_needs_a_count : covers held (asked (Avg 2 ∷ [])) ≡ false
average_needs_a_count = refl

pub count_of_a_dimension : covers held (asked (Count 1 ∷ [])) ≡ true
count_of_a_dimension = refl

pub different_dimensions : covers held (asked (Distinct 0 ∷ [])) ≡ true
different_dimensions = refl

pub filter_off_the_dimensions : covers held (zone (record { column = 2; test = Between (Some (pos 1)) (Some (pos 9)) } ∷ []) (0 ∷ []) (Rows ∷ [])) ≡ false
filter_off_the_dimensions = refl

abbrev held_top : Query
held_top = record held { top = Some 1 }

pub top_covers_no_other : covers held_top held ≡ false
top_covers_no_other = refl

pub top_covers_itself : covers held_top held_top ≡ true
top_covers_itself = refl

pub canonical_form : canonical (zone (record { column = 1; test = Between (Some (pos 2021)) (Some (pos 2020)) } ∷ record { column = 0; test = Among (west ∷ east ∷ west ∷ []) } ∷ []) [] (Rows ∷ []))
    ≡ zone (record { column = 0; test = Among (east ∷ west ∷ []) } ∷ record { column = 1; test = Among [] } ∷ []) [] (Rows ∷ [])
canonical_form = refl

abbrev amount_by_region : Measure → Query
amount_by_region m = zone [] (0 ∷ []) (m ∷ [])

pub one_group_of_two : groups (amount_by_region (Sum 2) ∷ amount_by_region (Max 2) ∷ []) ≡ record { key = zone [] (0 ∷ []) (Sum 2 ∷ Max 2 ∷ []); members = 0 ∷ 1 ∷ [] } ∷ []
one_group_of_two = refl

pub maxima_by_region : answer (amount_by_region (Max 2)) sales ≡ (cell.Null ∷ whole 4 ∷ []) ∷ (east_cell ∷ whole 10 ∷ []) ∷ (west_cell ∷ whole 7 ∷ []) ∷ []
maxima_by_region = refl

pub order_place_missing : invalid_by (heading ∷ []) (record { source = 0; filters = []; dims = plain 0 ∷ []; measures = Rows ∷ []; order = record { place = 3; down = true } ∷ []; top = None }) ≡ Some invalid.OrderKey
order_place_missing = refl

pub seventeen_predicates : invalid_by (heading ∷ []) (zone (replicate 17 (record { column = 1; test = Between None None })) [] (Rows ∷ [])) ≡ Some invalid.TooLong
seventeen_predicates = refl

pub sixteen_predicates : invalid_by (heading ∷ []) (zone (replicate 16 (record { column = 1; test = Between None None })) [] (Rows ∷ [])) ≡ None
sixteen_predicates = refl

-- each of two alike covers the other: the first stands, the second is local to it
pub alike_roles : roles (cube ∷ cube ∷ []) ≡ Remote ∷ Local 0 ∷ []
alike_roles = refl

-- bands

abbrev band : ℕ → ℕ → Dimension
band column beyond = record { column = column; beyond = beyond }

abbrev by_bands : List Dimension → List Measure → Query
by_bands dims measures = record { source = 0; filters = []; dims = dims; measures = measures; order = []; top = None }

abbrev fives : Query
fives = by_bands (band 2 4 ∷ []) (Rows ∷ [])

abbrev tens : Query
tens = by_bands (band 2 9 ∷ []) (Rows ∷ [])

abbrev fours : Query
fours = by_bands (band 2 3 ∷ []) (Rows ∷ [])

pub amounts_by_fives : answer fives sales ≡ (cell.Null ∷ whole 1 ∷ []) ∷ (whole 0 ∷ whole 1 ∷ []) ∷ (whole 1 ∷ whole 2 ∷ []) ∷ (whole 2 ∷ whole 1 ∷ []) ∷ []
amounts_by_fives = refl

pub amounts_by_tens : answer tens sales ≡ (cell.Null ∷ whole 1 ∷ []) ∷ (whole 0 ∷ whole 3 ∷ []) ∷ (whole 1 ∷ whole 1 ∷ []) ∷ []
amounts_by_tens = refl

-- bands round down, not toward zero
pub band_below_zero : band_of 10 (negsuc 0) ≡ negsuc 0
band_below_zero = refl

pub bands_below_zero : band_of 10 (negsuc 9) ≡ negsuc 0
bands_below_zero = refl

pub next_band_below_zero : band_of 10 (negsuc 10) ≡ negsuc 1
next_band_below_zero = refl

pub fives_make_tens : roles (fives ∷ tens ∷ []) ≡ Remote ∷ Local 0 ∷ []
fives_make_tens = refl

pub fours_make_no_tens : roles (fours ∷ tens ∷ []) ≡ Remote ∷ Remote ∷ []
fours_make_no_tens = refl

-- a band gives no single values: no other dimension's, no least one, and no predicate can be tested on it
pub bands_count_no_values : covers fives (by_bands [] (Distinct 2 ∷ [])) ≡ false
bands_count_no_values = refl

pub bands_hide_filtered_values : covers fives (zone (record { column = 2; test = Between (Some (pos 1)) None } ∷ []) [] (Rows ∷ [])) ≡ false
bands_hide_filtered_values = refl

pub values_make_bands : covers (by_bands (plain 2 ∷ []) (Rows ∷ [])) tens ≡ true
values_make_bands = refl

pub bands_of_other_widths_dont_fuse : groups (fours ∷ tens ∷ []) ≡ record { key = fours; members = 0 ∷ [] } ∷ record { key = tens; members = 1 ∷ [] } ∷ []
bands_of_other_widths_dont_fuse = refl

pub band_of_a_text : invalid_by (heading ∷ []) (by_bands (band 0 1 ∷ []) (Rows ∷ [])) ≡ Some invalid.WrongSort
band_of_a_text = refl

-- a width of 1 is plain
pub repeated_band : invalid_by (heading ∷ []) (by_bands (plain 1 ∷ band 1 0 ∷ []) (Rows ∷ [])) ≡ Some invalid.RepeatedDim
repeated_band = refl

pub bands_of_two_widths : invalid_by (heading ∷ []) (by_bands (band 1 1 ∷ band 1 0 ∷ []) (Rows ∷ [])) ≡ None
bands_of_two_widths = refl

-- sessions

abbrev only_east : List Predicate
only_east = record { column = 0; test = Among (east ∷ []) } ∷ []

pub east_is_visible : visible only_east sales ≡ (east ∷ int 2020 ∷ int 10 ∷ []) ∷ (east ∷ int 2021 ∷ int 5 ∷ []) ∷ []
east_is_visible = refl

-- the session's filters stand behind the zone's, of its lane and source alone
pub second_lane_sees_east : shielded_query (record { lane = 2; source = 0; filters = only_east } ∷ record { lane = 1; source = 0; filters = [] } ∷ []) 2 (zone (record { column = 1; test = Between None None } ∷ []) [] (Rows ∷ []))
    ≡ zone (record { column = 1; test = Between None None } ∷ record { column = 0; test = Among (east ∷ []) } ∷ []) [] (Rows ∷ [])
second_lane_sees_east = refl

pub items_of_texts : filter_items (record { column = 0; test = Among (value.Word (replicate 33 120) ∷ value.Word [] ∷ value.Null ∷ []) } ∷ record { column = 0; test = Among [] } ∷ record { column = 1; test = Between None None } ∷ []) ≡ 6
items_of_texts = refl

-- blends

abbrev rows_of_2020 : List (List Cell)
rows_of_2020 = (east_cell ∷ whole 1 ∷ []) ∷ (west_cell ∷ whole 1 ∷ []) ∷ []

abbrev sums : List (List Cell)
sums = (cell.Null ∷ whole 4 ∷ []) ∷ (east_cell ∷ whole 15 ∷ []) ∷ (west_cell ∷ whole 7 ∷ []) ∷ []

pub blended_by_region : blend_of sums rows_of_2020 (1 ∷ []) 1 ≡ (cell.Null ∷ whole 4 ∷ cell.Null ∷ []) ∷ (east_cell ∷ whole 15 ∷ whole 1 ∷ []) ∷ (west_cell ∷ whole 7 ∷ whole 1 ∷ []) ∷ []
blended_by_region = refl

pub blended_with_a_total : blend_of sums ((whole 2 ∷ []) ∷ []) [] 1 ≡ (cell.Null ∷ whole 4 ∷ whole 2 ∷ []) ∷ (east_cell ∷ whole 15 ∷ whole 2 ∷ []) ∷ (west_cell ∷ whole 7 ∷ whole 2 ∷ []) ∷ []
blended_with_a_total = refl

pub null_blends_with_null : blend_of sums ((cell.Null ∷ whole 9 ∷ []) ∷ []) (1 ∷ []) 1 ≡ (cell.Null ∷ whole 4 ∷ whole 9 ∷ []) ∷ (east_cell ∷ whole 15 ∷ cell.Null ∷ []) ∷ (west_cell ∷ whole 7 ∷ cell.Null ∷ []) ∷ []
null_blends_with_null = refl

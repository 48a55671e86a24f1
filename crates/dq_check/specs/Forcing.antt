-- What is shown of a zone forces what became of it.
use Rattle.std.specs.Prelude.{ℕ, ◌+◌, Bool, true, false, ◌&&◌, nat_eq, List, [], ◌∷◌, ◌++◌, length, slice_get, Option, Some, None, option_and_then, if◌then◌else◌}
use Rattle.std.specs.Arc.{arc_value}
use Rattle.std.specs.Cmp.Lexicographic.{pointwise}
use Rattle.dq_base.specs.Blends.{blend_of, cell_eq}
use Rattle.dq_base.specs.declared.cell.Cell.{Cell}
use Rattle.dq_base.specs.declared.invalid.Invalid.{Invalid}
use Rattle.dq_base.specs.declared.invalid.Invalid.TheVariants as invalid
use Rattle.dq_journal.specs.Shown.{Joint}
use Rattle.dq_journal.specs.declared.result.ZoneResult.{ZoneResult}
use Rattle.dq_journal.specs.declared.result.ZoneResult.TheVariants as zone
use Rattle.dq_machine.specs.Owning.{Fate, Answered, Failed, Wanting}
use Rattle.dq_check.specs.Dues.{DueOf}
use Rattle.dq_check.specs.declared.forcing.Forced.{Forced}
use Rattle.dq_check.specs.declared.forcing.Forced.TheVariants as forced
use Rattle.dq_check.specs.declared.forcing.Group.{Group}
use Rattle.dq_check.specs.declared.forcing.Group.TheVariants.{Refused, Alone, Both}

-- tables

abbrev pub rows_eq : List Cell → List Cell → Bool
rows_eq = pointwise cell_eq

-- the same cells, one by one
abbrev pub tables_eq : List (List Cell) → List (List Cell) → Bool
tables_eq = pointwise rows_eq

-- reasons

abbrev pub reason_place : Invalid → ℕ
reason_place invalid.Source = 0
reason_place invalid.Column = 1
reason_place invalid.RepeatedDim = 2
reason_place invalid.WrongSort = 3
reason_place invalid.NothingShown = 4
reason_place invalid.OrderKey = 5
reason_place invalid.TooLong = 6

abbrev pub reason_eq : Invalid → Invalid → Bool
reason_eq a b = nat_eq (reason_place a) (reason_place b)

-- groups

-- this, where the test holds
abbrev pub where_so : Bool → Group → Group
where_so true g = g
where_so false g = Refused

-- what a zone's own outcome forces, where it is shown alone
abbrev pub alone_forces : Option Invalid → Fate → List (List Cell) → ZoneResult → Group
alone_forces (Some reason) f want (zone.Rows table) = Refused
alone_forces (Some reason) f want (zone.Invalid told) = where_so (reason_eq told reason) (Alone forced.Free)
alone_forces (Some reason) f want zone.BackEnd = Refused
alone_forces (Some reason) f want zone.Memory = Refused
alone_forces None Answered want (zone.Rows table) = where_so (tables_eq (arc_value table) want) (Alone forced.Rows)
alone_forces None Answered want (zone.Invalid told) = Refused
alone_forces None Answered want zone.BackEnd = Refused
alone_forces None Answered want zone.Memory = Alone forced.Memory
alone_forces None Failed want (zone.Rows table) = Refused
alone_forces None Failed want (zone.Invalid told) = Refused
alone_forces None Failed want zone.BackEnd = Alone forced.Free
alone_forces None Failed want zone.Memory = Refused
alone_forces None Wanting want (zone.Rows table) = Refused
alone_forces None Wanting want (zone.Invalid told) = Refused
alone_forces None Wanting want zone.BackEnd = Refused
alone_forces None Wanting want zone.Memory = Alone forced.Free

-- what a blend forces, whose first zone can have no rows
abbrev pub without_rows : Group → Group
without_rows Refused = Refused
without_rows (Alone f) = Both f forced.Free
without_rows (Both f g) = Refused

-- what a blend forces, whose first zone may have these rows, by the second
abbrev pub behind_rows : Joint → List (List Cell) → Option Invalid → Fate → List (List Cell) → ZoneResult → Group
behind_rows j first (Some reason) f want (zone.Rows table) = Refused
behind_rows j first (Some reason) f want (zone.Invalid told) = where_so (reason_eq told reason) (Both forced.Rows forced.Free)
behind_rows j first (Some reason) f want zone.BackEnd = Refused
behind_rows j first (Some reason) f want zone.Memory = Both forced.Memory forced.Free
behind_rows j first None Answered want (zone.Rows table) = where_so (tables_eq (arc_value table) (blend_of first want j.links j.measures)) (Both forced.Rows forced.Rows)
behind_rows j first None Answered want (zone.Invalid told) = Refused
behind_rows j first None Answered want zone.BackEnd = Refused
behind_rows j first None Answered want zone.Memory = Both forced.Free forced.Free
behind_rows j first None Failed want (zone.Rows table) = Refused
behind_rows j first None Failed want (zone.Invalid told) = Refused
behind_rows j first None Failed want zone.BackEnd = Both forced.Rows forced.Free
behind_rows j first None Failed want zone.Memory = Both forced.Memory forced.Free
behind_rows j first None Wanting want (zone.Rows table) = Refused
behind_rows j first None Wanting want (zone.Invalid told) = Refused
behind_rows j first None Wanting want zone.BackEnd = Refused
behind_rows j first None Wanting want zone.Memory = Both forced.Free forced.Free

abbrev pub alone : DueOf → ZoneResult → Group
alone d w = alone_forces d.reason d.fate d.want w

-- the zone's rows may be shown
abbrev pub may_answer : Option Invalid → Fate → Bool
may_answer (Some reason) f = false
may_answer None Answered = true
may_answer None Failed = false
may_answer None Wanting = false

-- what a blend of these two forces
abbrev pub blended_by : Joint → Option Invalid → Fate → List (List Cell) → Option Invalid → Fate → List (List Cell) → ZoneResult → Group
blended_by j reason f first second g want w =
    if may_answer reason f then behind_rows j first second g want w else without_rows (alone_forces reason f first w)

abbrev pub blended : Joint → DueOf → DueOf → ZoneResult → Group
blended j d e w = blended_by j d.reason d.fate d.want e.reason e.fate e.want w

-- what an outcome forces, by the blend that begins at its zone, the zone and the next one
abbrev pub group_forces : Option Joint → Option DueOf → Option DueOf → ZoneResult → Group
group_forces joint None next w = Refused
group_forces None (Some d) next w = alone d w
group_forces (Some j) (Some d) None w = alone d w
group_forces (Some j) (Some d) (Some e) w = blended j d e w

-- what the outcome shown behind so many zones forces
abbrev pub forces_at : (ℕ → Option Joint) → List DueOf → ℕ → ZoneResult → Group
forces_at at dues place w = group_forces (at (place + 1)) (slice_get dues place) (slice_get dues (place + 1)) w

abbrev pub is_refused : Group → Bool
is_refused Refused = true
is_refused (Alone f) = false
is_refused (Both f g) = false

abbrev pub forced_in : Group → List Forced
forced_in Refused = []
forced_in (Alone f) = f ∷ []
forced_in (Both f g) = f ∷ g ∷ []

-- conflicts

-- a zone for which memory must be wanting, and one computed from it that must have rows
abbrev pub agree_led : Option Forced → Forced → Bool
agree_led None f = true
agree_led (Some forced.Free) f = true
agree_led (Some forced.Rows) f = true
agree_led (Some forced.Memory) forced.Free = true
agree_led (Some forced.Memory) forced.Rows = false
agree_led (Some forced.Memory) forced.Memory = true

-- none of these zones is in conflict with that from which it is computed
abbrev pub are_clear : List Forced → List DueOf → List Forced → Bool
are_clear all [] fs = true
are_clear all (d ∷ dues) [] = true
are_clear all (d ∷ dues) (f ∷ fs) = agree_led (option_and_then (slice_get all) d.leader) f && are_clear all dues fs

-- the first outcome that can't be shown so, from the one at this place on, where those before it force the first zones so
abbrev pub wrong_by : List DueOf → Group → List Forced → ℕ → (List Forced → Option ℕ) → Option ℕ
wrong_by dues g before place more =
    if is_refused g then Some place else if are_clear (before ++ forced_in g) dues (before ++ forced_in g) then more (before ++ forced_in g) else Some place

abbrev pub first_wrong : (ℕ → Option Joint) → List DueOf → List Forced → ℕ → List ZoneResult → Option ℕ
first_wrong at dues before place [] = None
first_wrong at dues before place (w ∷ ws) =
    wrong_by dues (forces_at at dues (length before) w) before place (λ after. first_wrong at dues after (place + 1) ws)

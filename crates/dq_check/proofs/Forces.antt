-- What is shown of zones, and what it forces: each follows from the other, where the outcomes are due.
use Rattle.std.proofs.Common.{◌≡◌, Bool, true, false, List, refl, sym, ap, ◌∙◌}
use Rattle.std.specs.Prelude.{Option, Some, None}
use Rattle.std.specs.Arc.{arc_value}
use Rattle.dq_base.specs.Blends.{blend_of}
use Rattle.dq_base.specs.declared.cell.Cell.{Cell}
use Rattle.dq_base.specs.declared.invalid.Invalid.{Invalid}
use Rattle.dq_journal.specs.Shown.{IsBlend, IsSame, Joint}
use Rattle.dq_journal.specs.declared.result.ZoneResult.{ZoneResult}
use Rattle.dq_journal.specs.declared.result.ZoneResult.TheVariants as zone
use Rattle.dq_machine.specs.Owning.{Fate, Answered, Failed, Wanting}
use Rattle.dq_machine.specs.Right.{IsOutcome}
use Rattle.dq_check.specs.Forcing.{alone_forces, behind_rows, blended_by, reason_eq, tables_eq, where_so, without_rows}
use Rattle.dq_check.specs.declared.forcing.Forced.{Forced}
use Rattle.dq_check.specs.declared.forcing.Forced.TheVariants as forced
use Rattle.dq_check.specs.declared.forcing.Group.{Group}
use Rattle.dq_check.specs.declared.forcing.Group.TheVariants.{Refused, Alone, Both}
use Rattle.dq_check.proofs.TablesEqual.{reason_found, same_reason, same_table, table_found}

-- the outcome is as it is forced to be
abbrev pub IsForced : Forced → ZoneResult → Type 0
IsForced forced.Free z = Unit {0}
IsForced forced.Rows (zone.Rows table) = Unit {0}
IsForced forced.Rows (zone.Invalid told) = ⊥
IsForced forced.Rows zone.BackEnd = ⊥
IsForced forced.Rows zone.Memory = ⊥
IsForced forced.Memory (zone.Rows table) = ⊥
IsForced forced.Memory (zone.Invalid told) = ⊥
IsForced forced.Memory zone.BackEnd = ⊥
IsForced forced.Memory zone.Memory = Unit {0}

abbrev pub HeldOne : Group → ZoneResult → Type 0
HeldOne Refused z = ⊥
HeldOne (Alone f) z = IsForced f z
HeldOne (Both f g) z = ⊥

abbrev pub HeldTwo : Group → ZoneResult → ZoneResult → Type 0
HeldTwo Refused y z = ⊥
HeldTwo (Alone f) y z = ⊥
HeldTwo (Both f g) y z = IsForced f y × IsForced g z

-- only a valid zone that may have its answer is forced; a zone alone forces one, and a blend two
abbrev pub CanBe : Option Invalid → Fate → Forced → Type 0
CanBe reason f forced.Free = Unit {0}
CanBe reason f forced.Rows = (reason ≡ None) × (f ≡ Answered)
CanBe reason f forced.Memory = (reason ≡ None) × (f ≡ Answered)

abbrev pub CanOne : Option Invalid → Fate → Group → Type 0
CanOne reason f Refused = Unit {0}
CanOne reason f (Alone g) = CanBe reason f g
CanOne reason f (Both g h) = ⊥

abbrev pub CanTwo : Option Invalid → Fate → Option Invalid → Fate → Group → Type 0
CanTwo reason f second g Refused = Unit {0}
CanTwo reason f second g (Alone h) = ⊥
CanTwo reason f second g (Both h i) = CanBe reason f h × CanBe second g i

-- tests

held_so : (b : Bool) (g : Group) (z : ZoneResult) → b ≡ true → HeldOne g z → HeldOne (where_so b g) z
held_so true g z e held = held
held_so false g z e held = cc

so_held : (b : Bool) (g : Group) (z : ZoneResult) → HeldOne (where_so b g) z → (b ≡ true) × HeldOne g z
so_held true g z held = (refl, held)
so_held false g z held = absurd held

both_so : (b : Bool) (g : Group) (y z : ZoneResult) → b ≡ true → HeldTwo g y z → HeldTwo (where_so b g) y z
both_so true g y z e held = held
both_so false g y z e held = cc

so_both : (b : Bool) (g : Group) (y z : ZoneResult) → HeldTwo (where_so b g) y z → (b ≡ true) × HeldTwo g y z
so_both true g y z held = (refl, held)
so_both false g y z held = absurd held

can_one : (b : Bool) (g : Group) (reason : Option Invalid) (f : Fate) → CanOne reason f g → CanOne reason f (where_so b g)
can_one true g reason f can = can
can_one false g reason f can = tt

can_both : (b : Bool) (g : Group) (reason : Option Invalid) (f : Fate) (second : Option Invalid) (h : Fate) → CanTwo reason f second h g → CanTwo reason f second h (where_so b g)
can_both true g reason f second h can = can
can_both false g reason f second h can = tt

-- zones shown alone

pub alone_only : (reason : Option Invalid) (f : Fate) (want : List (List Cell)) (z w : ZoneResult) → IsOutcome reason f want z → IsSame z w → HeldOne (alone_forces reason f want w) z
alone_only (Some reason) f want (zone.Rows u) w is same = absurd is
alone_only (Some reason) f want (zone.Invalid t) (zone.Rows v) is same = absurd same
alone_only (Some reason) f want (zone.Invalid t) (zone.Invalid told) is same = held_so (reason_eq told reason) (Alone forced.Free) (zone.Invalid t) (reason_found told reason (same ∙ is)) tt
alone_only (Some reason) f want (zone.Invalid t) zone.BackEnd is same = absurd same
alone_only (Some reason) f want (zone.Invalid t) zone.Memory is same = absurd same
alone_only (Some reason) f want zone.BackEnd w is same = absurd is
alone_only (Some reason) f want zone.Memory w is same = absurd is
alone_only None Answered want (zone.Rows u) (zone.Rows v) is same = held_so (tables_eq (arc_value v) want) (Alone forced.Rows) (zone.Rows u) (table_found (arc_value v) want (same ∙ is)) tt
alone_only None Answered want (zone.Rows u) (zone.Invalid told) is same = absurd same
alone_only None Answered want (zone.Rows u) zone.BackEnd is same = absurd same
alone_only None Answered want (zone.Rows u) zone.Memory is same = absurd same
alone_only None Answered want (zone.Invalid t) w is same = absurd is
alone_only None Answered want zone.BackEnd w is same = absurd is
alone_only None Answered want zone.Memory (zone.Rows v) is same = absurd same
alone_only None Answered want zone.Memory (zone.Invalid told) is same = absurd same
alone_only None Answered want zone.Memory zone.BackEnd is same = absurd same
alone_only None Answered want zone.Memory zone.Memory is same = tt
alone_only None Failed want (zone.Rows u) w is same = absurd is
alone_only None Failed want (zone.Invalid t) w is same = absurd is
alone_only None Failed want zone.BackEnd (zone.Rows v) is same = absurd same
alone_only None Failed want zone.BackEnd (zone.Invalid told) is same = absurd same
alone_only None Failed want zone.BackEnd zone.BackEnd is same = tt
alone_only None Failed want zone.BackEnd zone.Memory is same = absurd same
alone_only None Failed want zone.Memory w is same = absurd is
alone_only None Wanting want (zone.Rows u) w is same = absurd is
alone_only None Wanting want (zone.Invalid t) w is same = absurd is
alone_only None Wanting want zone.BackEnd w is same = absurd is
alone_only None Wanting want zone.Memory (zone.Rows v) is same = absurd same
alone_only None Wanting want zone.Memory (zone.Invalid told) is same = absurd same
alone_only None Wanting want zone.Memory zone.BackEnd is same = absurd same
alone_only None Wanting want zone.Memory zone.Memory is same = tt

pub alone_enough : (reason : Option Invalid) (f : Fate) (want : List (List Cell)) (z w : ZoneResult) → IsOutcome reason f want z → HeldOne (alone_forces reason f want w) z → IsSame z w
alone_enough (Some reason) f want (zone.Rows u) w is held = absurd is
alone_enough (Some reason) f want (zone.Invalid t) (zone.Rows v) is held = absurd held
alone_enough (Some reason) f want (zone.Invalid t) (zone.Invalid told) is held = same_reason told reason (so_held (reason_eq told reason) (Alone forced.Free) (zone.Invalid t) held).0 ∙ sym is
alone_enough (Some reason) f want (zone.Invalid t) zone.BackEnd is held = absurd held
alone_enough (Some reason) f want (zone.Invalid t) zone.Memory is held = absurd held
alone_enough (Some reason) f want zone.BackEnd w is held = absurd is
alone_enough (Some reason) f want zone.Memory w is held = absurd is
alone_enough None Answered want (zone.Rows u) (zone.Rows v) is held = same_table (arc_value v) want (so_held (tables_eq (arc_value v) want) (Alone forced.Rows) (zone.Rows u) held).0 ∙ sym is
alone_enough None Answered want (zone.Rows u) (zone.Invalid told) is held = absurd held
alone_enough None Answered want (zone.Rows u) zone.BackEnd is held = absurd held
alone_enough None Answered want (zone.Rows u) zone.Memory is held = absurd held
alone_enough None Answered want (zone.Invalid t) w is held = absurd is
alone_enough None Answered want zone.BackEnd w is held = absurd is
alone_enough None Answered want zone.Memory (zone.Rows v) is held = absurd (so_held (tables_eq (arc_value v) want) (Alone forced.Rows) zone.Memory held).1
alone_enough None Answered want zone.Memory (zone.Invalid told) is held = absurd held
alone_enough None Answered want zone.Memory zone.BackEnd is held = absurd held
alone_enough None Answered want zone.Memory zone.Memory is held = tt
alone_enough None Failed want (zone.Rows u) w is held = absurd is
alone_enough None Failed want (zone.Invalid t) w is held = absurd is
alone_enough None Failed want zone.BackEnd (zone.Rows v) is held = absurd held
alone_enough None Failed want zone.BackEnd (zone.Invalid told) is held = absurd held
alone_enough None Failed want zone.BackEnd zone.BackEnd is held = tt
alone_enough None Failed want zone.BackEnd zone.Memory is held = absurd held
alone_enough None Failed want zone.Memory w is held = absurd is
alone_enough None Wanting want (zone.Rows u) w is held = absurd is
alone_enough None Wanting want (zone.Invalid t) w is held = absurd is
alone_enough None Wanting want zone.BackEnd w is held = absurd is
alone_enough None Wanting want zone.Memory (zone.Rows v) is held = absurd held
alone_enough None Wanting want zone.Memory (zone.Invalid told) is held = absurd held
alone_enough None Wanting want zone.Memory zone.BackEnd is held = absurd held
alone_enough None Wanting want zone.Memory zone.Memory is held = tt

pub alone_can : (reason : Option Invalid) (f : Fate) (want : List (List Cell)) (w : ZoneResult) → CanOne reason f (alone_forces reason f want w)
alone_can (Some reason) f want (zone.Rows v) = tt
alone_can (Some reason) f want (zone.Invalid told) = can_one (reason_eq told reason) (Alone forced.Free) (Some reason) f tt
alone_can (Some reason) f want zone.BackEnd = tt
alone_can (Some reason) f want zone.Memory = tt
alone_can None Answered want (zone.Rows v) = can_one (tables_eq (arc_value v) want) (Alone forced.Rows) None Answered (refl, refl)
alone_can None Answered want (zone.Invalid told) = tt
alone_can None Answered want zone.BackEnd = tt
alone_can None Answered want zone.Memory = (refl, refl)
alone_can None Failed want (zone.Rows v) = tt
alone_can None Failed want (zone.Invalid told) = tt
alone_can None Failed want zone.BackEnd = tt
alone_can None Failed want zone.Memory = tt
alone_can None Wanting want (zone.Rows v) = tt
alone_can None Wanting want (zone.Invalid told) = tt
alone_can None Wanting want zone.BackEnd = tt
alone_can None Wanting want zone.Memory = tt

-- blends

without_held : (g : Group) (y z : ZoneResult) → HeldOne g y → HeldTwo (without_rows g) y z
without_held Refused y z held = absurd held
without_held (Alone f) y z held = (held, tt)
without_held (Both f g) y z held = absurd held

held_without : (g : Group) (y z : ZoneResult) → HeldTwo (without_rows g) y z → HeldOne g y
held_without Refused y z held = absurd held
held_without (Alone f) y z held = held.0
held_without (Both f g) y z held = absurd held

can_without : (g : Group) (reason : Option Invalid) (f : Fate) (second : Option Invalid) (h : Fate) → CanOne reason f g → CanTwo reason f second h (without_rows g)
can_without Refused reason f second h can = tt
can_without (Alone g) reason f second h can = (can, tt)
can_without (Both g i) reason f second h can = tt

blended_along : (j : Joint) (v t first u want : List (List Cell)) → t ≡ first → u ≡ want → v ≡ blend_of t u j.links j.measures → v ≡ blend_of first want j.links j.measures
blended_along j v t first u want p q e =
    let One : List (List Cell) → List (List Cell) = λ a. blend_of a u j.links j.measures in
    let Two : List (List Cell) → List (List Cell) = λ b. blend_of first b j.links j.measures in
    e ∙ ap One p ∙ ap Two q

along_blended : (j : Joint) (v t first u want : List (List Cell)) → t ≡ first → u ≡ want → v ≡ blend_of first want j.links j.measures → v ≡ blend_of t u j.links j.measures
along_blended j v t first u want p q e = blended_along j v first t want u (sym p) (sym q) e

behind_only : (j : Joint) (first : List (List Cell)) (y : ZoneResult) (reason : Option Invalid) (f : Fate) (want : List (List Cell)) (z w : ZoneResult) → IsOutcome None Answered first y → IsOutcome reason f want z → IsBlend j y z w → HeldTwo (behind_rows j first reason f want w) y z
behind_only j first (zone.Rows t) (Some reason) f want (zone.Rows u) w rows is blend = absurd is
behind_only j first (zone.Rows t) (Some reason) f want (zone.Invalid u) (zone.Rows v) rows is blend = absurd blend
behind_only j first (zone.Rows t) (Some reason) f want (zone.Invalid u) (zone.Invalid told) rows is blend = both_so (reason_eq told reason) (Both forced.Rows forced.Free) (zone.Rows t) (zone.Invalid u) (reason_found told reason (blend ∙ is)) (tt, tt)
behind_only j first (zone.Rows t) (Some reason) f want (zone.Invalid u) zone.BackEnd rows is blend = absurd blend
behind_only j first (zone.Rows t) (Some reason) f want (zone.Invalid u) zone.Memory rows is blend = absurd blend
behind_only j first (zone.Rows t) (Some reason) f want zone.BackEnd w rows is blend = absurd is
behind_only j first (zone.Rows t) (Some reason) f want zone.Memory w rows is blend = absurd is
behind_only j first (zone.Rows t) None Answered want (zone.Rows u) (zone.Rows v) rows is blend =
    both_so (tables_eq (arc_value v) (blend_of first want j.links j.measures)) (Both forced.Rows forced.Rows) (zone.Rows t) (zone.Rows u)
    (table_found (arc_value v) (blend_of first want j.links j.measures) (blended_along j (arc_value v) (arc_value t) first (arc_value u) want rows is blend)) (tt, tt)
behind_only j first (zone.Rows t) None Answered want (zone.Rows u) (zone.Invalid told) rows is blend = absurd blend
behind_only j first (zone.Rows t) None Answered want (zone.Rows u) zone.BackEnd rows is blend = absurd blend
behind_only j first (zone.Rows t) None Answered want (zone.Rows u) zone.Memory rows is blend = (tt, tt)
behind_only j first (zone.Rows t) None Answered want (zone.Invalid u) w rows is blend = absurd is
behind_only j first (zone.Rows t) None Answered want zone.BackEnd w rows is blend = absurd is
behind_only j first (zone.Rows t) None Answered want zone.Memory (zone.Rows v) rows is blend = absurd blend
behind_only j first (zone.Rows t) None Answered want zone.Memory (zone.Invalid told) rows is blend = absurd blend
behind_only j first (zone.Rows t) None Answered want zone.Memory zone.BackEnd rows is blend = absurd blend
behind_only j first (zone.Rows t) None Answered want zone.Memory zone.Memory rows is blend = (tt, tt)
behind_only j first (zone.Rows t) None Failed want (zone.Rows u) w rows is blend = absurd is
behind_only j first (zone.Rows t) None Failed want (zone.Invalid u) w rows is blend = absurd is
behind_only j first (zone.Rows t) None Failed want zone.BackEnd (zone.Rows v) rows is blend = absurd blend
behind_only j first (zone.Rows t) None Failed want zone.BackEnd (zone.Invalid told) rows is blend = absurd blend
behind_only j first (zone.Rows t) None Failed want zone.BackEnd zone.BackEnd rows is blend = (tt, tt)
behind_only j first (zone.Rows t) None Failed want zone.BackEnd zone.Memory rows is blend = absurd blend
behind_only j first (zone.Rows t) None Failed want zone.Memory w rows is blend = absurd is
behind_only j first (zone.Rows t) None Wanting want (zone.Rows u) w rows is blend = absurd is
behind_only j first (zone.Rows t) None Wanting want (zone.Invalid u) w rows is blend = absurd is
behind_only j first (zone.Rows t) None Wanting want zone.BackEnd w rows is blend = absurd is
behind_only j first (zone.Rows t) None Wanting want zone.Memory (zone.Rows v) rows is blend = absurd blend
behind_only j first (zone.Rows t) None Wanting want zone.Memory (zone.Invalid told) rows is blend = absurd blend
behind_only j first (zone.Rows t) None Wanting want zone.Memory zone.BackEnd rows is blend = absurd blend
behind_only j first (zone.Rows t) None Wanting want zone.Memory zone.Memory rows is blend = (tt, tt)
behind_only j first (zone.Invalid t) reason f want z w rows is blend = absurd rows
behind_only j first zone.BackEnd reason f want z w rows is blend = absurd rows
behind_only j first zone.Memory (Some reason) f want z (zone.Rows v) rows is blend = absurd blend
behind_only j first zone.Memory (Some reason) f want z (zone.Invalid told) rows is blend = absurd blend
behind_only j first zone.Memory (Some reason) f want z zone.BackEnd rows is blend = absurd blend
behind_only j first zone.Memory (Some reason) f want z zone.Memory rows is blend = (tt, tt)
behind_only j first zone.Memory None Answered want z (zone.Rows v) rows is blend = absurd blend
behind_only j first zone.Memory None Answered want z (zone.Invalid told) rows is blend = absurd blend
behind_only j first zone.Memory None Answered want z zone.BackEnd rows is blend = absurd blend
behind_only j first zone.Memory None Answered want z zone.Memory rows is blend = (tt, tt)
behind_only j first zone.Memory None Failed want z (zone.Rows v) rows is blend = absurd blend
behind_only j first zone.Memory None Failed want z (zone.Invalid told) rows is blend = absurd blend
behind_only j first zone.Memory None Failed want z zone.BackEnd rows is blend = absurd blend
behind_only j first zone.Memory None Failed want z zone.Memory rows is blend = (tt, tt)
behind_only j first zone.Memory None Wanting want z (zone.Rows v) rows is blend = absurd blend
behind_only j first zone.Memory None Wanting want z (zone.Invalid told) rows is blend = absurd blend
behind_only j first zone.Memory None Wanting want z zone.BackEnd rows is blend = absurd blend
behind_only j first zone.Memory None Wanting want z zone.Memory rows is blend = (tt, tt)

behind_enough : (j : Joint) (first : List (List Cell)) (y : ZoneResult) (reason : Option Invalid) (f : Fate) (want : List (List Cell)) (z w : ZoneResult) → IsOutcome None Answered first y → IsOutcome reason f want z → HeldTwo (behind_rows j first reason f want w) y z → IsBlend j y z w
behind_enough j first (zone.Rows t) (Some reason) f want (zone.Rows u) w rows is held = absurd is
behind_enough j first (zone.Rows t) (Some reason) f want (zone.Invalid u) (zone.Rows v) rows is held = absurd held
behind_enough j first (zone.Rows t) (Some reason) f want (zone.Invalid u) (zone.Invalid told) rows is held = same_reason told reason (so_both (reason_eq told reason) (Both forced.Rows forced.Free) (zone.Rows t) (zone.Invalid u) held).0 ∙ sym is
behind_enough j first (zone.Rows t) (Some reason) f want (zone.Invalid u) zone.BackEnd rows is held = absurd held
behind_enough j first (zone.Rows t) (Some reason) f want (zone.Invalid u) zone.Memory rows is held = absurd held.0
behind_enough j first (zone.Rows t) (Some reason) f want zone.BackEnd w rows is held = absurd is
behind_enough j first (zone.Rows t) (Some reason) f want zone.Memory w rows is held = absurd is
behind_enough j first (zone.Rows t) None Answered want (zone.Rows u) (zone.Rows v) rows is held =
    along_blended j (arc_value v) (arc_value t) first (arc_value u) want rows is
    (same_table (arc_value v) (blend_of first want j.links j.measures) (so_both (tables_eq (arc_value v) (blend_of first want j.links j.measures)) (Both forced.Rows forced.Rows) (zone.Rows t) (zone.Rows u) held).0)
behind_enough j first (zone.Rows t) None Answered want (zone.Rows u) (zone.Invalid told) rows is held = absurd held
behind_enough j first (zone.Rows t) None Answered want (zone.Rows u) zone.BackEnd rows is held = absurd held
behind_enough j first (zone.Rows t) None Answered want (zone.Rows u) zone.Memory rows is held = tt
behind_enough j first (zone.Rows t) None Answered want (zone.Invalid u) w rows is held = absurd is
behind_enough j first (zone.Rows t) None Answered want zone.BackEnd w rows is held = absurd is
behind_enough j first (zone.Rows t) None Answered want zone.Memory (zone.Rows v) rows is held = absurd (so_both (tables_eq (arc_value v) (blend_of first want j.links j.measures)) (Both forced.Rows forced.Rows) (zone.Rows t) zone.Memory held).1.1
behind_enough j first (zone.Rows t) None Answered want zone.Memory (zone.Invalid told) rows is held = absurd held
behind_enough j first (zone.Rows t) None Answered want zone.Memory zone.BackEnd rows is held = absurd held
behind_enough j first (zone.Rows t) None Answered want zone.Memory zone.Memory rows is held = tt
behind_enough j first (zone.Rows t) None Failed want (zone.Rows u) w rows is held = absurd is
behind_enough j first (zone.Rows t) None Failed want (zone.Invalid u) w rows is held = absurd is
behind_enough j first (zone.Rows t) None Failed want zone.BackEnd (zone.Rows v) rows is held = absurd held
behind_enough j first (zone.Rows t) None Failed want zone.BackEnd (zone.Invalid told) rows is held = absurd held
behind_enough j first (zone.Rows t) None Failed want zone.BackEnd zone.BackEnd rows is held = tt
behind_enough j first (zone.Rows t) None Failed want zone.BackEnd zone.Memory rows is held = absurd held.0
behind_enough j first (zone.Rows t) None Failed want zone.Memory w rows is held = absurd is
behind_enough j first (zone.Rows t) None Wanting want (zone.Rows u) w rows is held = absurd is
behind_enough j first (zone.Rows t) None Wanting want (zone.Invalid u) w rows is held = absurd is
behind_enough j first (zone.Rows t) None Wanting want zone.BackEnd w rows is held = absurd is
behind_enough j first (zone.Rows t) None Wanting want zone.Memory (zone.Rows v) rows is held = absurd held
behind_enough j first (zone.Rows t) None Wanting want zone.Memory (zone.Invalid told) rows is held = absurd held
behind_enough j first (zone.Rows t) None Wanting want zone.Memory zone.BackEnd rows is held = absurd held
behind_enough j first (zone.Rows t) None Wanting want zone.Memory zone.Memory rows is held = tt
behind_enough j first (zone.Invalid t) reason f want z w rows is held = absurd rows
behind_enough j first zone.BackEnd reason f want z w rows is held = absurd rows
behind_enough j first zone.Memory (Some reason) f want z (zone.Rows v) rows is held = absurd held
behind_enough j first zone.Memory (Some reason) f want z (zone.Invalid told) rows is held = absurd (so_both (reason_eq told reason) (Both forced.Rows forced.Free) zone.Memory z held).1.0
behind_enough j first zone.Memory (Some reason) f want z zone.BackEnd rows is held = absurd held
behind_enough j first zone.Memory (Some reason) f want z zone.Memory rows is held = tt
behind_enough j first zone.Memory None Answered want z (zone.Rows v) rows is held = absurd (so_both (tables_eq (arc_value v) (blend_of first want j.links j.measures)) (Both forced.Rows forced.Rows) zone.Memory z held).1.0
behind_enough j first zone.Memory None Answered want z (zone.Invalid told) rows is held = absurd held
behind_enough j first zone.Memory None Answered want z zone.BackEnd rows is held = absurd held
behind_enough j first zone.Memory None Answered want z zone.Memory rows is held = tt
behind_enough j first zone.Memory None Failed want z (zone.Rows v) rows is held = absurd held
behind_enough j first zone.Memory None Failed want z (zone.Invalid told) rows is held = absurd held
behind_enough j first zone.Memory None Failed want z zone.BackEnd rows is held = absurd held.0
behind_enough j first zone.Memory None Failed want z zone.Memory rows is held = tt
behind_enough j first zone.Memory None Wanting want z (zone.Rows v) rows is held = absurd held
behind_enough j first zone.Memory None Wanting want z (zone.Invalid told) rows is held = absurd held
behind_enough j first zone.Memory None Wanting want z zone.BackEnd rows is held = absurd held
behind_enough j first zone.Memory None Wanting want z zone.Memory rows is held = tt

behind_can : (j : Joint) (first : List (List Cell)) (reason : Option Invalid) (f : Fate) (want : List (List Cell)) (w : ZoneResult) → CanTwo None Answered reason f (behind_rows j first reason f want w)
behind_can j first (Some reason) f want (zone.Rows v) = tt
behind_can j first (Some reason) f want (zone.Invalid told) = can_both (reason_eq told reason) (Both forced.Rows forced.Free) None Answered (Some reason) f ((refl, refl), tt)
behind_can j first (Some reason) f want zone.BackEnd = tt
behind_can j first (Some reason) f want zone.Memory = ((refl, refl), tt)
behind_can j first None Answered want (zone.Rows v) = can_both (tables_eq (arc_value v) (blend_of first want j.links j.measures)) (Both forced.Rows forced.Rows) None Answered None Answered ((refl, refl), (refl, refl))
behind_can j first None Answered want (zone.Invalid told) = tt
behind_can j first None Answered want zone.BackEnd = tt
behind_can j first None Answered want zone.Memory = (tt, tt)
behind_can j first None Failed want (zone.Rows v) = tt
behind_can j first None Failed want (zone.Invalid told) = tt
behind_can j first None Failed want zone.BackEnd = ((refl, refl), tt)
behind_can j first None Failed want zone.Memory = ((refl, refl), tt)
behind_can j first None Wanting want (zone.Rows v) = tt
behind_can j first None Wanting want (zone.Invalid told) = tt
behind_can j first None Wanting want zone.BackEnd = tt
behind_can j first None Wanting want zone.Memory = (tt, tt)

pub blended_only : (j : Joint) (reason : Option Invalid) (f : Fate) (first : List (List Cell)) (second : Option Invalid) (g : Fate) (want : List (List Cell)) (y z w : ZoneResult) → IsOutcome reason f first y → IsOutcome second g want z → IsBlend j y z w → HeldTwo (blended_by j reason f first second g want w) y z
blended_only j (Some reason) f first second g want (zone.Rows t) z w is other blend = absurd is
blended_only j (Some reason) f first second g want (zone.Invalid t) z w is other blend = without_held (alone_forces (Some reason) f first w) (zone.Invalid t) z (alone_only (Some reason) f first (zone.Invalid t) w is blend)
blended_only j (Some reason) f first second g want zone.BackEnd z w is other blend = absurd is
blended_only j (Some reason) f first second g want zone.Memory z w is other blend = absurd is
blended_only j None Failed first second g want (zone.Rows t) z w is other blend = absurd is
blended_only j None Failed first second g want (zone.Invalid t) z w is other blend = absurd is
blended_only j None Failed first second g want zone.BackEnd z w is other blend = without_held (alone_forces None Failed first w) zone.BackEnd z (alone_only None Failed first zone.BackEnd w is blend)
blended_only j None Failed first second g want zone.Memory z w is other blend = absurd is
blended_only j None Wanting first second g want (zone.Rows t) z w is other blend = absurd is
blended_only j None Wanting first second g want (zone.Invalid t) z w is other blend = absurd is
blended_only j None Wanting first second g want zone.BackEnd z w is other blend = absurd is
blended_only j None Wanting first second g want zone.Memory z w is other blend = without_held (alone_forces None Wanting first w) zone.Memory z (alone_only None Wanting first zone.Memory w is blend)
blended_only j None Answered first second g want y z w is other blend = behind_only j first y second g want z w is other blend

pub blended_enough : (j : Joint) (reason : Option Invalid) (f : Fate) (first : List (List Cell)) (second : Option Invalid) (g : Fate) (want : List (List Cell)) (y z w : ZoneResult) → IsOutcome reason f first y → IsOutcome second g want z → HeldTwo (blended_by j reason f first second g want w) y z → IsBlend j y z w
blended_enough j (Some reason) f first second g want (zone.Rows t) z w is other held = absurd is
blended_enough j (Some reason) f first second g want (zone.Invalid t) z w is other held = alone_enough (Some reason) f first (zone.Invalid t) w is (held_without (alone_forces (Some reason) f first w) (zone.Invalid t) z held)
blended_enough j (Some reason) f first second g want zone.BackEnd z w is other held = absurd is
blended_enough j (Some reason) f first second g want zone.Memory z w is other held = absurd is
blended_enough j None Failed first second g want (zone.Rows t) z w is other held = absurd is
blended_enough j None Failed first second g want (zone.Invalid t) z w is other held = absurd is
blended_enough j None Failed first second g want zone.BackEnd z w is other held = alone_enough None Failed first zone.BackEnd w is (held_without (alone_forces None Failed first w) zone.BackEnd z held)
blended_enough j None Failed first second g want zone.Memory z w is other held = absurd is
blended_enough j None Wanting first second g want (zone.Rows t) z w is other held = absurd is
blended_enough j None Wanting first second g want (zone.Invalid t) z w is other held = absurd is
blended_enough j None Wanting first second g want zone.BackEnd z w is other held = absurd is
blended_enough j None Wanting first second g want zone.Memory z w is other held = alone_enough None Wanting first zone.Memory w is (held_without (alone_forces None Wanting first w) zone.Memory z held)
blended_enough j None Answered first second g want y z w is other held = behind_enough j first y second g want z w is other held

pub blended_can : (j : Joint) (reason : Option Invalid) (f : Fate) (first : List (List Cell)) (second : Option Invalid) (g : Fate) (want : List (List Cell)) (w : ZoneResult) → CanTwo reason f second g (blended_by j reason f first second g want w)
blended_can j (Some reason) f first second g want w = can_without (alone_forces (Some reason) f first w) (Some reason) f second g (alone_can (Some reason) f first w)
blended_can j None Answered first second g want w = behind_can j first second g want w
blended_can j None Failed first second g want w = can_without (alone_forces None Failed first w) None Failed second g (alone_can None Failed first w)
blended_can j None Wanting first second g want w = can_without (alone_forces None Wanting first w) None Wanting second g (alone_can None Wanting first w)

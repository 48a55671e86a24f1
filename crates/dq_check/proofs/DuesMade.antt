-- The outcomes of a batch are right exactly where they are due.
use Rattle.std.proofs.Common.{◌≡◌, ℕ, suc, List, [], ◌∷◌, length, map, refl, sym, ap, arith}
use Rattle.std.specs.Prelude.{Option, Some, None}
use Rattle.std.specs.Arc.{arc_value}
use Rattle.dq_base.specs.Headings.{Heading}
use Rattle.dq_base.specs.Validity.{invalid_by}
use Rattle.dq_base.specs.declared.invalid.Invalid.{Invalid}
use Rattle.dq_base.specs.declared.query.Query.{Query}
use Rattle.dq_journal.specs.Steps.{AreRefused, IsRefused}
use Rattle.dq_journal.specs.Standing.{Rows}
use Rattle.dq_journal.specs.declared.entry.Entry.{Entry}
use Rattle.dq_journal.specs.declared.result.ZoneResult.{ZoneResult}
use Rattle.dq_journal.specs.declared.result.ZoneResult.TheVariants as zone
use Rattle.dq_machine.specs.Owning.{Origin, Wanting, no_origin}
use Rattle.dq_machine.specs.Right.{AreEach, AreLed, AreOutcomes, IsOutcome}
use Rattle.dq_check.specs.Dues.{AreDue, AreDueLed, AreEachDue, DueOf, dues_of, refused_due}

-- of an admitted batch, with an origin for each zone

shorter : (m n : ℕ) → suc m ≡ suc n → m ≡ n
shorter m n e = omega arith

each_due : (schemas : List Heading) (rows : ℕ → Rows) (journal : List Entry) (zones : List Query) (origins : List Origin) (zs : List ZoneResult)
    → AreEach schemas rows journal origins zones zs → AreEachDue (dues_of schemas rows journal zones origins) zs
each_due schemas rows journal [] origins [] each = tt
each_due schemas rows journal [] origins (z ∷ zs) each = absurd each
each_due schemas rows journal (q ∷ zones) [] [] each = absurd each
each_due schemas rows journal (q ∷ zones) [] (z ∷ zs) each = absurd each
each_due schemas rows journal (q ∷ zones) (o ∷ origins) [] each = absurd each
each_due schemas rows journal (q ∷ zones) (o ∷ origins) (z ∷ zs) each = (each.0, each_due schemas rows journal zones origins zs each.1)

due_each : (schemas : List Heading) (rows : ℕ → Rows) (journal : List Entry) (zones : List Query) (origins : List Origin) (zs : List ZoneResult)
    → length origins ≡ length zones → AreEachDue (dues_of schemas rows journal zones origins) zs → AreEach schemas rows journal origins zones zs
due_each schemas rows journal [] origins [] long each = tt
due_each schemas rows journal [] origins (z ∷ zs) long each = absurd each
due_each schemas rows journal (q ∷ zones) [] zs long each = absurd (omega arith)
due_each schemas rows journal (q ∷ zones) (o ∷ origins) [] long each = absurd each
due_each schemas rows journal (q ∷ zones) (o ∷ origins) (z ∷ zs) long each =
    (each.0, due_each schemas rows journal zones origins zs (shorter (length origins) (length zones) long) each.1)

led_due : (schemas : List Heading) (rows : ℕ → Rows) (journal : List Entry) (all : List ZoneResult) (zones : List Query) (origins : List Origin) (zs : List ZoneResult)
    → AreLed all origins zs → AreDueLed all (dues_of schemas rows journal zones origins) zs
led_due schemas rows journal all [] origins zs led = tt
led_due schemas rows journal all (q ∷ zones) [] [] led = tt
led_due schemas rows journal all (q ∷ zones) [] (z ∷ zs) led = (tt, led_due schemas rows journal all zones [] zs tt)
led_due schemas rows journal all (q ∷ zones) (o ∷ origins) [] led = tt
led_due schemas rows journal all (q ∷ zones) (o ∷ origins) (z ∷ zs) led = (led.0, led_due schemas rows journal all zones origins zs led.1)

due_led : (schemas : List Heading) (rows : ℕ → Rows) (journal : List Entry) (all : List ZoneResult) (zones : List Query) (origins : List Origin) (zs : List ZoneResult)
    → length origins ≡ length zones → AreDueLed all (dues_of schemas rows journal zones origins) zs → AreLed all origins zs
due_led schemas rows journal all [] [] zs long led = tt
due_led schemas rows journal all [] (o ∷ origins) zs long led = absurd (omega arith)
due_led schemas rows journal all (q ∷ zones) [] zs long led = tt
due_led schemas rows journal all (q ∷ zones) (o ∷ origins) [] long led = tt
due_led schemas rows journal all (q ∷ zones) (o ∷ origins) (z ∷ zs) long led =
    (led.0, due_led schemas rows journal all zones origins zs (shorter (length origins) (length zones) long) led.1)

pub due_outcomes : (schemas : List Heading) (rows : ℕ → Rows) (journal : List Entry) (origins : List Origin) (zones : List Query) (outcomes : List ZoneResult)
    → AreOutcomes schemas rows journal origins zones outcomes → AreDue (dues_of schemas rows journal zones origins) outcomes
due_outcomes schemas rows journal origins zones outcomes are = record {
  each = each_due schemas rows journal zones origins outcomes are.each;
  led = led_due schemas rows journal outcomes zones origins outcomes are.led;
}

pub outcomes_due : (schemas : List Heading) (rows : ℕ → Rows) (journal : List Entry) (origins : List Origin) (zones : List Query) (outcomes : List ZoneResult)
    → length origins ≡ length zones → AreDue (dues_of schemas rows journal zones origins) outcomes → AreOutcomes schemas rows journal origins zones outcomes
outcomes_due schemas rows journal origins zones outcomes long due = record {
  each = due_each schemas rows journal zones origins outcomes long due.each;
  led = due_led schemas rows journal outcomes zones origins outcomes long due.led;
}

-- of a batch that was refused for memory

refused_is : (reason : Option Invalid) (z : ZoneResult) → IsRefused reason z → IsOutcome reason Wanting [] z
refused_is reason (zone.Rows table) is = absurd is
refused_is None (zone.Invalid told) is = cc
refused_is (Some reason) (zone.Invalid told) is = cc
refused_is reason zone.BackEnd is = absurd is
refused_is None zone.Memory is = tt
refused_is (Some reason) zone.Memory is = cc

is_refused : (reason : Option Invalid) (z : ZoneResult) → IsOutcome reason Wanting [] z → IsRefused reason z
is_refused None (zone.Rows table) is = absurd is
is_refused (Some reason) (zone.Rows table) is = absurd is
is_refused None (zone.Invalid told) is = absurd is
is_refused (Some reason) (zone.Invalid told) is = ap Some (sym is)
is_refused None zone.BackEnd is = absurd is
is_refused (Some reason) zone.BackEnd is = absurd is
is_refused None zone.Memory is = refl
is_refused (Some reason) zone.Memory is = absurd is

each_refused : (schemas : List Heading) (zones : List Query) (zs : List ZoneResult) → AreRefused schemas zones zs → AreEachDue (map (refused_due schemas) zones) zs
each_refused schemas [] [] are = tt
each_refused schemas [] (z ∷ zs) are = absurd are
each_refused schemas (q ∷ zones) [] are = absurd are
each_refused schemas (q ∷ zones) (z ∷ zs) are = (refused_is (invalid_by schemas q) z are.0, each_refused schemas zones zs are.1)

refused_each : (schemas : List Heading) (zones : List Query) (zs : List ZoneResult) → AreEachDue (map (refused_due schemas) zones) zs → AreRefused schemas zones zs
refused_each schemas [] [] are = tt
refused_each schemas [] (z ∷ zs) are = absurd are
refused_each schemas (q ∷ zones) [] are = absurd are
refused_each schemas (q ∷ zones) (z ∷ zs) are = (is_refused (invalid_by schemas q) z are.0, refused_each schemas zones zs are.1)

none_led : (schemas : List Heading) (all : List ZoneResult) (zones : List Query) (zs : List ZoneResult) → AreDueLed all (map (refused_due schemas) zones) zs
none_led schemas all [] zs = tt
none_led schemas all (q ∷ zones) [] = tt
none_led schemas all (q ∷ zones) (z ∷ zs) = (tt, none_led schemas all zones zs)

pub due_refused : (schemas : List Heading) (zones : List Query) (outcomes : List ZoneResult) → AreRefused schemas zones outcomes → AreDue (map (refused_due schemas) zones) outcomes
due_refused schemas zones outcomes are = record { each = each_refused schemas zones outcomes are; led = none_led schemas outcomes zones outcomes }

pub refused_due_are : (schemas : List Heading) (zones : List Query) (outcomes : List ZoneResult) → AreDue (map (refused_due schemas) zones) outcomes → AreRefused schemas zones outcomes
refused_due_are schemas zones outcomes due = refused_each schemas zones outcomes due.each

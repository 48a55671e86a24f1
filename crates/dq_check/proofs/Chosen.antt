-- Where nothing is in conflict, there are outcomes that are due and as they are forced to be; where something is, there are none.
use Rattle.std.proofs.Common.{◌≡◌, ℕ, zero, suc, Bool, true, false, ◌&&◌, List, [], ◌∷◌, refl, sym, ap, ◌∙◌, subst}
use denote.RawPtr.{null_ptr}
use Rattle.std.specs.Prelude.{Option, Some, None, option_and_then, slice_get, MatchOption}
use Rattle.dq_base.specs.declared.cell.Cell.{Cell}
use Rattle.dq_base.specs.declared.invalid.Invalid.{Invalid}
use Rattle.dq_journal.specs.declared.result.ZoneResult.{ZoneResult}
use Rattle.dq_journal.specs.declared.result.ZoneResult.TheVariants as zone
use Rattle.dq_machine.specs.Owning.{Fate, Answered, Failed, Wanting}
use Rattle.dq_machine.specs.Right.{IsLed, IsOutcome}
use Rattle.dq_check.specs.Dues.{AreDue, AreDueLed, AreEachDue, DueOf, HaveLeaders, IsLeader}
use Rattle.dq_check.specs.Forcing.{agree_led, are_clear}
use Rattle.dq_check.specs.declared.forcing.Forced.{Forced}
use Rattle.dq_check.specs.declared.forcing.Forced.TheVariants as forced
use Rattle.dq_check.proofs.Forces.{CanBe, IsForced}

-- the first outcomes are as they are forced to be
abbrev pub AreForced : List Forced → List ZoneResult → Type 0
AreForced [] zs = Unit {0}
AreForced (f ∷ fs) [] = ⊥
AreForced (f ∷ fs) (z ∷ zs) = IsForced f z × AreForced fs zs

-- the first zones are forced as they can be
abbrev pub Fit : List DueOf → List Forced → Type 0
Fit dues [] = Unit {0}
Fit [] (f ∷ fs) = ⊥
Fit (d ∷ dues) (f ∷ fs) = CanBe d.reason d.fate f × Fit dues fs

-- choices

-- an outcome with these rows
abbrev rows_of : List (List Cell) → ZoneResult
rows_of want = zone.Rows (record { ptr = null_ptr; value = want })

abbrev wants_led : Option Forced → Bool
wants_led None = false
wants_led (Some forced.Free) = false
wants_led (Some forced.Rows) = false
wants_led (Some forced.Memory) = true

-- memory is chosen to be wanting where it must be, for the zone or for that from which it is computed
abbrev wants : Option Forced → Forced → Bool
wants leader forced.Free = wants_led leader
wants leader forced.Rows = wants_led leader
wants leader forced.Memory = true

abbrev made : Option Invalid → Fate → List (List Cell) → Bool → ZoneResult
made (Some reason) f want wanting = zone.Invalid reason
made None Answered want true = zone.Memory
made None Answered want false = rows_of want
made None Failed want wanting = zone.BackEnd
made None Wanting want wanting = zone.Memory

abbrev chosen_one : List Forced → DueOf → Forced → ZoneResult
chosen_one all d f = made d.reason d.fate d.want (wants (option_and_then (slice_get all) d.leader) f)

abbrev chosen : List Forced → List DueOf → List Forced → List ZoneResult
chosen all [] fs = []
chosen all (d ∷ dues) [] = chosen_one all d forced.Free ∷ chosen all dues []
chosen all (d ∷ dues) (f ∷ fs) = chosen_one all d f ∷ chosen all dues fs

abbrev forced_at : List Forced → ℕ → Forced
forced_at [] place = forced.Free
forced_at (f ∷ fs) zero = f
forced_at (f ∷ fs) (suc place) = forced_at fs place

-- each is due

made_is : (reason : Option Invalid) (f : Fate) (want : List (List Cell)) (wanting : Bool) → IsOutcome reason f want (made reason f want wanting)
made_is (Some reason) f want wanting = refl
made_is None Answered want true = tt
made_is None Answered want false = refl
made_is None Failed want wanting = tt
made_is None Wanting want wanting = tt

chosen_each : (all : List Forced) (dues : List DueOf) (fs : List Forced) → AreEachDue dues (chosen all dues fs)
chosen_each all [] fs = tt
chosen_each all (d ∷ dues) [] = (made_is d.reason d.fate d.want (wants (option_and_then (slice_get all) d.leader) forced.Free), chosen_each all dues [])
chosen_each all (d ∷ dues) (f ∷ fs) = (made_is d.reason d.fate d.want (wants (option_and_then (slice_get all) d.leader) f), chosen_each all dues fs)

-- each is as it is forced to be

first_true : (a b : Bool) → (a && b) ≡ true → a ≡ true
first_true true b e = refl
first_true false b e = cc

second_true : (a b : Bool) → (a && b) ≡ true → b ≡ true
second_true true b e = e
second_true false b e = cc

made_forced : (f : Forced) (reason : Option Invalid) (fate : Fate) (want : List (List Cell)) (leader : Option Forced)
    → CanBe reason fate f → agree_led leader f ≡ true → IsForced f (made reason fate want (wants leader f))
made_forced forced.Free reason fate want leader can agrees = tt
made_forced forced.Rows (Some reason) fate want leader can agrees = let e = can.0 in cc
made_forced forced.Rows None Answered want None can agrees = tt
made_forced forced.Rows None Answered want (Some forced.Free) can agrees = tt
made_forced forced.Rows None Answered want (Some forced.Rows) can agrees = tt
made_forced forced.Rows None Answered want (Some forced.Memory) can agrees = cc
made_forced forced.Rows None Failed want leader can agrees = let e = can.1 in cc
made_forced forced.Rows None Wanting want leader can agrees = let e = can.1 in cc
made_forced forced.Memory (Some reason) fate want leader can agrees = let e = can.0 in cc
made_forced forced.Memory None Answered want leader can agrees = tt
made_forced forced.Memory None Failed want leader can agrees = let e = can.1 in cc
made_forced forced.Memory None Wanting want leader can agrees = tt

chosen_forced : (all : List Forced) (dues : List DueOf) (fs : List Forced) → Fit dues fs → are_clear all dues fs ≡ true → AreForced fs (chosen all dues fs)
chosen_forced all [] [] fit clear = tt
chosen_forced all [] (f ∷ fs) fit clear = absurd fit
chosen_forced all (d ∷ dues) [] fit clear = tt
chosen_forced all (d ∷ dues) (f ∷ fs) fit clear =
    (made_forced f d.reason d.fate d.want (option_and_then (slice_get all) d.leader) fit.0 (first_true _ _ clear), chosen_forced all dues fs fit.1 (second_true _ _ clear))

-- each is led

chosen_at : (all : List Forced) (dues : List DueOf) (fs : List Forced) (place : ℕ) (e : DueOf)
    → slice_get dues place ≡ Some e → slice_get (chosen all dues fs) place ≡ Some (chosen_one all e (forced_at fs place))
chosen_at all [] fs place e is = cc
chosen_at all (d ∷ dues) [] zero e is = let One : DueOf → ZoneResult = λ x. chosen_one all x forced.Free in let same : d ≡ e = cc in ap (λ x. Some (One x)) same
chosen_at all (d ∷ dues) [] (suc place) e is = chosen_at all dues [] place e is
chosen_at all (d ∷ dues) (f ∷ fs) zero e is = let One : DueOf → ZoneResult = λ x. chosen_one all x f in let same : d ≡ e = cc in ap (λ x. Some (One x)) same
chosen_at all (d ∷ dues) (f ∷ fs) (suc place) e is = chosen_at all dues fs place e is

memory_at : (fs : List Forced) (place : ℕ) → forced_at fs place ≡ forced.Memory → slice_get fs place ≡ Some forced.Memory
memory_at [] place e = cc
memory_at (f ∷ fs) zero e = ap (λ x. Some x) e
memory_at (f ∷ fs) (suc place) e = memory_at fs place e

made_memory : (reason : Option Invalid) (fate : Fate) (want : List (List Cell)) (leader : Option Forced) (f : Forced)
    → reason ≡ None → fate ≡ Answered → leader ≡ Some forced.Memory → made reason fate want (wants leader f) ≡ zone.Memory
made_memory (Some reason) fate want leader f p q r = cc
made_memory None Failed want leader f p q r = cc
made_memory None Wanting want leader f p q r = refl
made_memory None Answered want None f p q r = cc
made_memory None Answered want (Some forced.Free) f p q r = cc
made_memory None Answered want (Some forced.Rows) f p q r = cc
made_memory None Answered want (Some forced.Memory) forced.Free p q r = refl
made_memory None Answered want (Some forced.Memory) forced.Rows p q r = refl
made_memory None Answered want (Some forced.Memory) forced.Memory p q r = refl

made_wanting : (reason : Option Invalid) (fate : Fate) (want : List (List Cell)) (wanting : Bool) → reason ≡ None → fate ≡ Wanting → made reason fate want wanting ≡ zone.Memory
made_wanting (Some reason) fate want wanting p q = cc
made_wanting None Answered want wanting p q = cc
made_wanting None Failed want wanting p q = cc
made_wanting None Wanting want wanting p q = refl

-- by the leader's reason, fate, leader and what it is forced to be
led_by : (first : Option Invalid) (fate : Fate) (a : List (List Cell)) (above : Option Forced) (g : Forced)
    (reason : Option Invalid) (own : Fate) (b : List (List Cell)) (leader : Option Forced) (f : Forced)
    → reason ≡ None → fate ≡ own → above ≡ None → (g ≡ forced.Memory → leader ≡ Some forced.Memory)
    → IsLed (Some (made first fate a (wants above g))) (made reason own b (wants leader f))
led_by (Some r) fate a above g reason own b leader f p q s t = tt
led_by None Failed a above g reason own b leader f p q s t = tt
led_by None Wanting a above g reason own b leader f p q s t = made_wanting reason own b (wants leader f) p (sym q)
led_by None Answered a (Some x) g reason own b leader f p q s t = cc
led_by None Answered a None forced.Free reason own b leader f p q s t = tt
led_by None Answered a None forced.Rows reason own b leader f p q s t = tt
led_by None Answered a None forced.Memory reason own b leader f p q s t = made_memory reason own b leader f p (sym q) (t refl)

led_found : (all : List Forced) (dues : List DueOf) (d : DueOf) (f : Forced) (place : ℕ) (o : Option DueOf)
    → slice_get dues place ≡ o → d.leader ≡ Some place → IsLeader d o → IsLed (slice_get (chosen all dues all) place) (chosen_one all d f)
led_found all dues d f place None is at leads = absurd leads
led_found all dues d f place (Some e) is at leads =
    let Led : Option ZoneResult → Type 0 = λ o. IsLed o (chosen_one all d f) in
    let Over : Option ℕ → Option Forced = λ l. option_and_then (slice_get all) l in
    subst Led (sym (chosen_at all dues all place e is))
    (led_by e.reason e.fate e.want (Over e.leader) (forced_at all place) d.reason d.fate d.want (Over d.leader) f leads.0 leads.2 (ap Over leads.3)
    (λ (memory : forced_at all place ≡ forced.Memory). ap Over at ∙ memory_at all place memory))

led_at : (all : List Forced) (dues : List DueOf) (d : DueOf) (f : Forced) (leader : Option ℕ)
    → d.leader ≡ leader → MatchOption leader (Unit {0}) (λ place. IsLeader d (slice_get dues place))
    → IsLed (option_and_then (slice_get (chosen all dues all)) leader) (chosen_one all d f)
led_at all dues d f None is leads = tt
led_at all dues d f (Some place) is leads = led_found all dues d f place (slice_get dues place) refl is leads

chosen_led : (all : List Forced) (whole dues : List DueOf) (fs : List Forced) → HaveLeaders whole dues → AreDueLed (chosen all whole all) dues (chosen all dues fs)
chosen_led all whole [] fs lead = tt
chosen_led all whole (d ∷ dues) [] lead = (led_at all whole d forced.Free d.leader refl lead.0, chosen_led all whole dues [] lead.1)
chosen_led all whole (d ∷ dues) (f ∷ fs) lead = (led_at all whole d f d.leader refl lead.0, chosen_led all whole dues fs lead.1)

pub record IsChosen (dues : List DueOf) (fs : List Forced) : Type 0 where
  pub outcomes : List ZoneResult
  pub due : AreDue dues outcomes
  pub forced : AreForced fs outcomes

pub choice : (dues : List DueOf) (fs : List Forced) → HaveLeaders dues dues → Fit dues fs → are_clear fs dues fs ≡ true → IsChosen dues fs
choice dues fs lead fit clear = record {
  outcomes = chosen fs dues fs;
  due = record { each = chosen_each fs dues fs; led = chosen_led fs dues dues fs lead };
  forced = chosen_forced fs dues fs fit clear;
}

-- conflicts

forced_found : (fs : List Forced) (zs : List ZoneResult) (place : ℕ) → AreForced fs zs → slice_get fs place ≡ Some forced.Memory → slice_get zs place ≡ Some zone.Memory
forced_found [] zs place are is = cc
forced_found (f ∷ fs) [] place are is = absurd are
forced_found (f ∷ fs) (z ∷ zs) zero are is = let same : f ≡ forced.Memory = cc in ap (λ x. Some x) (forced_memory f z same are.0)
  where
    forced_memory : (f : Forced) (z : ZoneResult) → f ≡ forced.Memory → IsForced f z → z ≡ zone.Memory
    forced_memory forced.Free z e is = cc
    forced_memory forced.Rows z e is = cc
    forced_memory forced.Memory (zone.Rows table) e is = absurd is
    forced_memory forced.Memory (zone.Invalid told) e is = absurd is
    forced_memory forced.Memory zone.BackEnd e is = absurd is
    forced_memory forced.Memory zone.Memory e is = refl
forced_found (f ∷ fs) (z ∷ zs) (suc place) are is = forced_found fs zs place are.1 is

disagree : (leader : Option Forced) (f : Forced) → agree_led leader f ≡ false → (leader ≡ Some forced.Memory) × (f ≡ forced.Rows)
disagree None f e = cc
disagree (Some forced.Free) f e = cc
disagree (Some forced.Rows) f e = cc
disagree (Some forced.Memory) forced.Free e = cc
disagree (Some forced.Memory) forced.Rows e = (refl, refl)
disagree (Some forced.Memory) forced.Memory e = cc

led_memory : (all : List Forced) (zs : List ZoneResult) (leader : Option ℕ) (z : ZoneResult)
    → AreForced all zs → option_and_then (slice_get all) leader ≡ Some forced.Memory → IsLed (option_and_then (slice_get zs) leader) z → z ≡ zone.Memory
led_memory all zs None z are is led = cc
led_memory all zs (Some place) z are is led =
    let Led : Option ZoneResult → Type 0 = λ o. IsLed o z in subst Led (forced_found all zs place are is) led

no_rows : (f : Forced) (z : ZoneResult) → f ≡ forced.Rows → z ≡ zone.Memory → IsForced f z → ⊥
no_rows forced.Free z e m is = cc
no_rows forced.Memory z e m is = cc
no_rows forced.Rows (zone.Rows table) e m is = cc
no_rows forced.Rows (zone.Invalid told) e m is = is
no_rows forced.Rows zone.BackEnd e m is = is
no_rows forced.Rows zone.Memory e m is = is

one_false : (a b : Bool) → (a ≡ false → ⊥) → (b ≡ false → ⊥) → (a && b) ≡ false → ⊥
one_false true b p q e = q e
one_false false b p q e = p refl

pub conflict : (all : List Forced) (whole : List ZoneResult) (dues : List DueOf) (fs : List Forced) (zs : List ZoneResult)
    → AreForced all whole → AreForced fs zs → AreDueLed whole dues zs → are_clear all dues fs ≡ false → ⊥
conflict all whole [] fs zs are here led unclear = cc
conflict all whole (d ∷ dues) [] zs are here led unclear = cc
conflict all whole (d ∷ dues) (f ∷ fs) [] are here led unclear = here
conflict all whole (d ∷ dues) (f ∷ fs) (z ∷ zs) are here led unclear =
    let apart : agree_led (option_and_then (slice_get all) d.leader) f ≡ false → ⊥ =
    λ e. let both = disagree (option_and_then (slice_get all) d.leader) f e in no_rows f z both.1 (led_memory all whole d.leader z are both.0 led.0) here.0 in
    one_false (agree_led (option_and_then (slice_get all) d.leader) f) (are_clear all dues fs) apart (conflict all whole dues fs zs are here.1 led.1) unclear

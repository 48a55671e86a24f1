-- One outcome that is shown, and what is shown behind it.
use Rattle.std.proofs.Common.{◌≡◌, ℕ, zero, suc, ◌+◌, ◌≤◌, true, false, List, [], ◌∷◌, length, drop, refl, sym, ap, ◌∙◌, subst, arith}
use Rattle.std.specs.Prelude.{Option, Some, None, slice_get, MatchOption, is_some, if◌then◌else◌}
use Rattle.dq_base.specs.declared.invalid.Invalid.{Invalid}
use Rattle.dq_machine.specs.Owning.{Fate}
use Rattle.dq_journal.specs.Shown.{FirstIs, IsSame, Joint}
use Rattle.dq_journal.specs.declared.result.ZoneResult.{ZoneResult}
use Rattle.dq_check.specs.Dues.{AreEachDue, DueOf, due_count}
use Rattle.dq_check.specs.Forcing.{alone, blended, forced_in, group_forces, is_refused}
use Rattle.dq_check.specs.Verdicts.{AreShownTo}
use Rattle.dq_check.specs.declared.forcing.Group.{Group}
use Rattle.dq_check.specs.declared.forcing.Group.TheVariants.{Refused, Alone, Both}
use Rattle.dq_check.proofs.Chosen.{AreForced, Fit}
use Rattle.dq_check.proofs.Forces.{CanOne, CanTwo, HeldOne, HeldTwo, alone_can, alone_enough, alone_only, blended_can, blended_enough, blended_only}

-- what the first outcome forces, which is shown of these zones
abbrev pub front_forces : Option Joint → List DueOf → ZoneResult → Group
front_forces joint [] w = Refused
front_forces None (d ∷ dues) w = alone d w
front_forces (Some j) (d ∷ []) w = alone d w
front_forces (Some j) (d ∷ e ∷ dues) w = blended j d e w

abbrev pub Grouped : Group → List ZoneResult → Type 0
Grouped Refused zs = ⊥
Grouped (Alone f) zs = AreForced (f ∷ []) zs
Grouped (Both f g) zs = AreForced (f ∷ g ∷ []) zs

-- the outcomes behind the first one that is shown are shown so
abbrev pub Behind : (ℕ → Option Joint) → ℕ → Group → ℕ → List ZoneResult → List ZoneResult → Type 0
Behind at zone g m zs ws = AreShownTo m at (zone + length (forced_in g)) None (drop (length (forced_in g)) zs) ws

-- by the blend that begins at the first zone
abbrev pub ShownBy : Option Joint → (ℕ → Option Joint) → ℕ → ℕ → List ZoneResult → ZoneResult → List ZoneResult → Type 0
ShownBy joint at zone m [] w ws = ⊥
ShownBy joint at zone m (z ∷ zs) w ws =
    MatchOption joint (FirstIs (IsSame z) (AreShownTo m at (zone + 1) None zs) (w ∷ ws)) (λ j. AreShownTo (suc m) at (zone + 1) (Some (j, z)) zs (w ∷ ws))

abbrev pub count_by : Option Joint → (ℕ → Option Joint) → ℕ → List DueOf → ℕ
count_by joint at zone [] = 0
count_by joint at zone (d ∷ dues) = if is_some joint then due_count at (zone + 1) true dues else suc (due_count at (zone + 1) false dues)

two_on : (zone : ℕ) → zone + 1 + 1 ≡ zone + 2
two_on zone = omega arith

-- of one zone alone

one_only : (at : ℕ → Option Joint) (zone m : ℕ) (g : Group) (z : ZoneResult) (zs ws : List ZoneResult)
    → HeldOne g z → AreShownTo m at (zone + 1) None zs ws → Grouped g (z ∷ zs) × Behind at zone g m (z ∷ zs) ws
one_only at zone m Refused z zs ws held more = absurd held
one_only at zone m (Alone f) z zs ws held more = ((held, tt), more)
one_only at zone m (Both f g) z zs ws held more = absurd held

one_enough : (at : ℕ → Option Joint) (zone m : ℕ) (reason : Option Invalid) (fate : Fate) (g : Group) (z : ZoneResult) (zs ws : List ZoneResult)
    → CanOne reason fate g → Grouped g (z ∷ zs) → Behind at zone g m (z ∷ zs) ws → HeldOne g z × AreShownTo m at (zone + 1) None zs ws
one_enough at zone m reason fate Refused z zs ws can held more = absurd held
one_enough at zone m reason fate (Alone f) z zs ws can held more = (held.0, more)
one_enough at zone m reason fate (Both f g) z zs ws can held more = absurd can

one_count : (at : ℕ → Option Joint) (zone : ℕ) (reason : Option Invalid) (fate : Fate) (g : Group) (d : DueOf) (dues : List DueOf) (n : ℕ)
    → CanOne reason fate g → is_refused g ≡ false → due_count at (zone + 1) false dues ≡ n
    → due_count at (zone + length (forced_in g)) false (drop (length (forced_in g)) (d ∷ dues)) ≡ n
one_count at zone reason fate Refused d dues n can is count = cc
one_count at zone reason fate (Alone f) d dues n can is count = count
one_count at zone reason fate (Both f g) d dues n can is count = absurd can

one_fit : (g : Group) (d : DueOf) (dues : List DueOf) → CanOne d.reason d.fate g → Fit (d ∷ dues) (forced_in g)
one_fit Refused d dues can = tt
one_fit (Alone f) d dues can = (can, tt)
one_fit (Both f g) d dues can = absurd can

-- of two zones as one

two_only : (at : ℕ → Option Joint) (zone m : ℕ) (g : Group) (y z : ZoneResult) (zs ws : List ZoneResult)
    → HeldTwo g y z → AreShownTo m at (zone + 1 + 1) None zs ws → Grouped g (y ∷ z ∷ zs) × Behind at zone g m (y ∷ z ∷ zs) ws
two_only at zone m Refused y z zs ws held more = absurd held
two_only at zone m (Alone f) y z zs ws held more = absurd held
two_only at zone m (Both f g) y z zs ws held more =
    let From : ℕ → Type 0 = λ n. AreShownTo m at n None zs ws in ((held.0, (held.1, tt)), subst From (two_on zone) more)

two_enough : (at : ℕ → Option Joint) (zone m : ℕ) (reason : Option Invalid) (fate : Fate) (second : Option Invalid) (other : Fate) (g : Group) (y z : ZoneResult) (zs ws : List ZoneResult)
    → CanTwo reason fate second other g → Grouped g (y ∷ z ∷ zs) → Behind at zone g m (y ∷ z ∷ zs) ws → HeldTwo g y z × AreShownTo m at (zone + 1 + 1) None zs ws
two_enough at zone m reason fate second other Refused y z zs ws can held more = absurd held
two_enough at zone m reason fate second other (Alone f) y z zs ws can held more = absurd can
two_enough at zone m reason fate second other (Both f g) y z zs ws can held more =
    let From : ℕ → Type 0 = λ n. AreShownTo m at n None zs ws in ((held.0, held.1.0), subst From (sym (two_on zone)) more)

two_count : (at : ℕ → Option Joint) (zone : ℕ) (reason : Option Invalid) (fate : Fate) (second : Option Invalid) (other : Fate) (g : Group) (d e : DueOf) (dues : List DueOf) (n : ℕ)
    → CanTwo reason fate second other g → is_refused g ≡ false → due_count at (zone + 1 + 1) false dues ≡ n
    → due_count at (zone + length (forced_in g)) false (drop (length (forced_in g)) (d ∷ e ∷ dues)) ≡ n
two_count at zone reason fate second other Refused d e dues n can is count = cc
two_count at zone reason fate second other (Alone f) d e dues n can is count = absurd can
two_count at zone reason fate second other (Both f g) d e dues n can is count =
    let From : ℕ → ℕ = λ k. due_count at k false dues in sym (ap From (two_on zone)) ∙ count

two_fit : (g : Group) (d e : DueOf) (dues : List DueOf) → CanTwo d.reason d.fate e.reason e.fate g → Fit (d ∷ e ∷ dues) (forced_in g)
two_fit Refused d e dues can = tt
two_fit (Alone f) d e dues can = absurd can
two_fit (Both f g) d e dues can = (can.0, (can.1, tt))

-- by the blend that begins at the first zone

none_shown : (at : ℕ → Option Joint) (zone m : ℕ) (ws : List ZoneResult) → 1 ≡ suc (length ws) → m ≤ length ws → AreShownTo m at zone None [] ws
none_shown at zone zero ws count below = tt
none_shown at zone (suc m) ws count below = absurd (omega arith)

pub step_only : (joint : Option Joint) (at : ℕ → Option Joint) (zone m : ℕ) (dues : List DueOf) (zs : List ZoneResult) (w : ZoneResult) (ws : List ZoneResult)
    → count_by joint at zone dues ≡ suc (length ws) → m ≤ length ws → AreEachDue dues zs → ShownBy joint at zone m zs w ws
    → Grouped (front_forces joint dues w) zs × Behind at zone (front_forces joint dues w) m zs ws
step_only joint at zone m [] [] w ws count below due shown = absurd shown
step_only joint at zone m [] (z ∷ zs) w ws count below due shown = absurd due
step_only joint at zone m (d ∷ dues) [] w ws count below due shown = absurd due
step_only None at zone m (d ∷ dues) (z ∷ zs) w ws count below due shown =
    one_only at zone m (alone d w) z zs ws (alone_only d.reason d.fate d.want z w due.0 shown.0) shown.1
step_only (Some j) at zone m (d ∷ []) (z ∷ []) w ws count below due shown =
    one_only at zone m (alone d w) z [] ws (alone_only d.reason d.fate d.want z w due.0 shown.0) (none_shown at (zone + 1) m ws count below)
step_only (Some j) at zone m (d ∷ []) (y ∷ z ∷ zs) w ws count below due shown = absurd due.1
step_only (Some j) at zone m (d ∷ e ∷ dues) (y ∷ []) w ws count below due shown = absurd due.1
step_only (Some j) at zone m (d ∷ e ∷ dues) (y ∷ z ∷ zs) w ws count below due shown =
    two_only at zone m (blended j d e w) y z zs ws (blended_only j d.reason d.fate d.want e.reason e.fate e.want y z w due.0 due.1.0 shown.0) shown.1

pub step_enough : (joint : Option Joint) (at : ℕ → Option Joint) (zone m : ℕ) (dues : List DueOf) (zs : List ZoneResult) (w : ZoneResult) (ws : List ZoneResult)
    → AreEachDue dues zs → Grouped (front_forces joint dues w) zs → Behind at zone (front_forces joint dues w) m zs ws → ShownBy joint at zone m zs w ws
step_enough joint at zone m [] zs w ws due held more = absurd held
step_enough joint at zone m (d ∷ dues) [] w ws due held more = absurd due
step_enough None at zone m (d ∷ dues) (z ∷ zs) w ws due held more =
    let both = one_enough at zone m d.reason d.fate (alone d w) z zs ws (alone_can d.reason d.fate d.want w) held more in
    (alone_enough d.reason d.fate d.want z w due.0 both.0, both.1)
step_enough (Some j) at zone m (d ∷ []) (z ∷ []) w ws due held more =
    let both = one_enough at zone m d.reason d.fate (alone d w) z [] ws (alone_can d.reason d.fate d.want w) held more in
    (alone_enough d.reason d.fate d.want z w due.0 both.0, tt)
step_enough (Some j) at zone m (d ∷ []) (y ∷ z ∷ zs) w ws due held more = absurd due.1
step_enough (Some j) at zone m (d ∷ e ∷ dues) (y ∷ []) w ws due held more = absurd due.1
step_enough (Some j) at zone m (d ∷ e ∷ dues) (y ∷ z ∷ zs) w ws due held more =
    let both = two_enough at zone m d.reason d.fate e.reason e.fate (blended j d e w) y z zs ws (blended_can j d.reason d.fate d.want e.reason e.fate e.want w) held more in
    (blended_enough j d.reason d.fate d.want e.reason e.fate e.want y z w due.0 due.1.0 both.0, both.1)

less_one : (m n : ℕ) → suc m ≡ suc n → m ≡ n
less_one m n e = omega arith

pub step_count : (joint : Option Joint) (at : ℕ → Option Joint) (zone : ℕ) (dues : List DueOf) (w : ZoneResult) (ws : List ZoneResult)
    → count_by joint at zone dues ≡ suc (length ws) → is_refused (front_forces joint dues w) ≡ false
    → due_count at (zone + length (forced_in (front_forces joint dues w))) false (drop (length (forced_in (front_forces joint dues w))) dues) ≡ length ws
step_count joint at zone [] w ws count is = cc
step_count None at zone (d ∷ dues) w ws count is =
    one_count at zone d.reason d.fate (alone d w) d dues (length ws) (alone_can d.reason d.fate d.want w) is (less_one (due_count at (zone + 1) false dues) (length ws) count)
step_count (Some j) at zone (d ∷ []) w ws count is =
    one_count at zone d.reason d.fate (alone d w) d [] (length ws) (alone_can d.reason d.fate d.want w) is (less_one 0 (length ws) count)
step_count (Some j) at zone (d ∷ e ∷ dues) w ws count is =
    two_count at zone d.reason d.fate e.reason e.fate (blended j d e w) d e dues (length ws) (blended_can j d.reason d.fate d.want e.reason e.fate e.want w) is
    (less_one (due_count at (zone + 1 + 1) false dues) (length ws) count)

pub step_fit : (joint : Option Joint) (dues : List DueOf) (w : ZoneResult) → Fit dues (forced_in (front_forces joint dues w))
step_fit joint [] w = tt
step_fit None (d ∷ dues) w = one_fit (alone d w) d dues (alone_can d.reason d.fate d.want w)
step_fit (Some j) (d ∷ []) w = one_fit (alone d w) d [] (alone_can d.reason d.fate d.want w)
step_fit (Some j) (d ∷ e ∷ dues) w = two_fit (blended j d e w) d e dues (blended_can j d.reason d.fate d.want e.reason e.fate e.want w)

-- the forms of the definitions

pub shown_by : (at : ℕ → Option Joint) (zone m : ℕ) (zs : List ZoneResult) (w : ZoneResult) (ws : List ZoneResult)
    → AreShownTo (suc m) at zone None zs (w ∷ ws) → ShownBy (at zone) at zone m zs w ws
shown_by at zone m [] w ws shown = shown
shown_by at zone m (z ∷ zs) w ws shown = shown

pub by_shown : (at : ℕ → Option Joint) (zone m : ℕ) (zs : List ZoneResult) (w : ZoneResult) (ws : List ZoneResult)
    → ShownBy (at zone) at zone m zs w ws → AreShownTo (suc m) at zone None zs (w ∷ ws)
by_shown at zone m [] w ws shown = shown
by_shown at zone m (z ∷ zs) w ws shown = shown

pub counted_by : (at : ℕ → Option Joint) (zone : ℕ) (dues : List DueOf) → count_by (at zone) at zone dues ≡ due_count at zone false dues
counted_by at zone [] = refl
counted_by at zone (d ∷ dues) = refl

pub forces_front : (joint : Option Joint) (dues : List DueOf) (place : ℕ) (w : ZoneResult)
    → group_forces joint (slice_get dues place) (slice_get dues (suc place)) w ≡ front_forces joint (drop place dues) w
forces_front joint [] zero w = refl
forces_front joint [] (suc place) w = refl
forces_front None (d ∷ dues) zero w = refl
forces_front (Some j) (d ∷ []) zero w = refl
forces_front (Some j) (d ∷ e ∷ dues) zero w = refl
forces_front joint (d ∷ dues) (suc place) w = forces_front joint dues place w

-- The first outcome that is found wrong is the first that isn't explained.
use Rattle.std.proofs.Common.{◌≡◌, ℕ, zero, suc, ◌+◌, ◌<◌, ◌≤◌, Bool, true, false, List, [], ◌∷◌, ◌++◌, length, drop, refl, sym, ap, ◌∙◌, subst, arith}
use Rattle.std.specs.Prelude.{Option, Some, None, slice_get, if◌then◌else◌}
use Rattle.dq_journal.specs.Shown.{Joint}
use Rattle.dq_journal.specs.declared.result.ZoneResult.{ZoneResult}
use Rattle.dq_check.specs.Dues.{AreEachDue, DueOf, Explained, HaveLeaders, IsFirstUnexplained, due_count}
use Rattle.dq_check.specs.Forcing.{are_clear, first_wrong, forced_in, forces_at, group_forces, is_refused}
use Rattle.dq_check.specs.Verdicts.{AreShownTo}
use Rattle.dq_check.specs.declared.forcing.Forced.{Forced}
use Rattle.dq_check.specs.declared.forcing.Group.{Group}
use Rattle.dq_check.specs.declared.forcing.Group.TheVariants.{Refused, Alone, Both}
use Rattle.dq_check.proofs.Chosen.{AreForced, Fit, choice, conflict}
use Rattle.dq_check.proofs.Groups.{Behind, Grouped, by_shown, counted_by, forces_front, front_forces, shown_by, step_count, step_enough, step_fit, step_only}

-- lists

drop_none : {X : Type 0} (n : ℕ) → drop {A = X} n [] ≡ []
drop_none zero = refl
drop_none (suc n) = refl

drop_both : {X Y : Type 0} (fs gs : List X) (xs : List Y) → drop (length gs) (drop (length fs) xs) ≡ drop (length (fs ++ gs)) xs
drop_both [] gs xs = refl
drop_both (f ∷ fs) gs [] = drop_none (length gs)
drop_both (f ∷ fs) gs (x ∷ xs) = drop_both fs gs xs

long_both : {X : Type 0} (fs gs : List X) → length fs + 1 + length gs ≡ length (fs ++ gs) + 1
long_both [] gs = omega arith
long_both (f ∷ fs) gs = let more = long_both fs gs in omega arith

each_drop : (n : ℕ) (dues : List DueOf) (zs : List ZoneResult) → AreEachDue dues zs → AreEachDue (drop n dues) (drop n zs)
each_drop zero dues zs due = due
each_drop (suc n) [] [] due = due
each_drop (suc n) [] (z ∷ zs) due = absurd due
each_drop (suc n) (d ∷ dues) [] due = absurd due
each_drop (suc n) (d ∷ dues) (z ∷ zs) due = each_drop n dues zs due.1

forced_both : (fs gs : List Forced) (zs : List ZoneResult) → AreForced fs zs → AreForced gs (drop (length fs) zs) → AreForced (fs ++ gs) zs
forced_both [] gs zs first second = second
forced_both (f ∷ fs) gs [] first second = first
forced_both (f ∷ fs) gs (z ∷ zs) first second = (first.0, forced_both fs gs zs first.1 second)

both_forced : (fs gs : List Forced) (zs : List ZoneResult) → AreForced (fs ++ gs) zs → AreForced fs zs × AreForced gs (drop (length fs) zs)
both_forced [] gs zs both = (tt, both)
both_forced (f ∷ fs) gs [] both = absurd both
both_forced (f ∷ fs) gs (z ∷ zs) both = let more = both_forced fs gs zs both.1 in ((both.0, more.0), more.1)

fit_both : (fs gs : List Forced) (dues : List DueOf) → Fit dues fs → Fit (drop (length fs) dues) gs → Fit dues (fs ++ gs)
fit_both [] gs dues first second = second
fit_both (f ∷ fs) gs [] first second = absurd first
fit_both (f ∷ fs) gs (d ∷ dues) first second = (first.0, fit_both fs gs dues first.1 second)

grouped_forced : (g : Group) (zs : List ZoneResult) → Grouped g zs → AreForced (forced_in g) zs
grouped_forced Refused zs held = absurd held
grouped_forced (Alone f) zs held = held
grouped_forced (Both f g) zs held = held

forced_grouped : (g : Group) (zs : List ZoneResult) → is_refused g ≡ false → AreForced (forced_in g) zs → Grouped g zs
forced_grouped Refused zs is held = cc
forced_grouped (Alone f) zs is held = held
forced_grouped (Both f g) zs is held = held

refused_none : (g : Group) (zs : List ZoneResult) → is_refused g ≡ true → Grouped g zs → ⊥
refused_none Refused zs is held = held
refused_none (Alone f) zs is held = cc
refused_none (Both f g) zs is held = cc

-- what the outcomes before a place tell: they are shown of outcomes that are due exactly where those are forced so, with what is shown behind

pub record Reached (at : ℕ → Option Joint) (dues : List DueOf) (shown : List ZoneResult) (before : List Forced) (place : ℕ) (ws : List ZoneResult) : Type 0 where
  pub long : length shown ≡ place + length ws
  pub count : due_count at (length before + 1) false (drop (length before) dues) ≡ length ws
  pub fit : Fit dues before
  pub clear : are_clear before dues before ≡ true
  pub only : (m : ℕ) (zs : List ZoneResult) → m ≤ length ws → AreEachDue dues zs → AreShownTo (place + m) at 1 None zs shown
      → AreForced before zs × AreShownTo m at (length before + 1) None (drop (length before) zs) ws
  pub enough : (m : ℕ) (zs : List ZoneResult) → m ≤ length ws → AreEachDue dues zs → AreForced before zs
      → AreShownTo m at (length before + 1) None (drop (length before) zs) ws → AreShownTo (place + m) at 1 None zs shown

none_before : (m : ℕ) → 0 + m ≡ m
none_before m = omega arith

none_behind : (m : ℕ) → m + 0 ≡ m
none_behind m = omega arith

one_more : (place m : ℕ) → place + suc m ≡ place + 1 + m
one_more place m = omega arith

clear_none : (dues : List DueOf) → are_clear [] dues [] ≡ true
clear_none [] = refl
clear_none (d ∷ dues) = refl

reached_none : (at : ℕ → Option Joint) (dues : List DueOf) (shown : List ZoneResult) → due_count at 1 false dues ≡ length shown → Reached at dues shown [] 0 shown
reached_none at dues shown count = record {
  long = sym (none_before (length shown));
  count = count;
  fit = tt;
  clear = clear_none dues;
  only = λ m zs below due is. let To : ℕ → Type 0 = λ n. AreShownTo n at 1 None zs shown in (tt, subst To (none_before m) is);
  enough = λ m zs below due held is. let To : ℕ → Type 0 = λ n. AreShownTo n at 1 None zs shown in subst To (sym (none_before m)) is;
}

explained_at : (at : ℕ → Option Joint) (dues : List DueOf) (shown : List ZoneResult) (before : List Forced) (place : ℕ) (ws : List ZoneResult)
    → HaveLeaders dues dues → Reached at dues shown before place ws → Explained dues at shown place
explained_at at dues shown before place ws lead r =
    let chosen = choice dues before lead r.fit r.clear in
    let To : ℕ → Type 0 = λ n. AreShownTo n at 1 None chosen.outcomes shown in
    record {
      outcomes = chosen.outcomes;
      due = chosen.due;
      shows = subst To (none_behind place) (r.enough 0 chosen.outcomes (omega arith) chosen.due.each chosen.forced tt);
    }

-- one more outcome

front_at : (at : ℕ → Option Joint) (dues : List DueOf) (place : ℕ) (w : ZoneResult) → forces_at at dues place w ≡ front_forces (at (place + 1)) (drop place dues) w
front_at at dues place w =
    let Next : ℕ → Group = λ n. group_forces (at (place + 1)) (slice_get dues place) (slice_get dues n) w in
    let next : place + 1 ≡ suc place = omega arith in
    ap Next next ∙ forces_front (at (place + 1)) dues place w

-- what one more outcome tells, by what it forces
step_tells : (at : ℕ → Option Joint) (dues : List DueOf) (shown : List ZoneResult) (before : List Forced) (place : ℕ) (w : ZoneResult) (ws : List ZoneResult)
    → Reached at dues shown before place (w ∷ ws) → (m : ℕ) (zs : List ZoneResult) → m ≤ length ws → AreEachDue dues zs → AreShownTo (place + suc m) at 1 None zs shown
    → AreForced before zs × Grouped (front_forces (at (length before + 1)) (drop (length before) dues) w) (drop (length before) zs)
    × Behind at (length before + 1) (front_forces (at (length before + 1)) (drop (length before) dues) w) m (drop (length before) zs) ws
step_tells at dues shown before place w ws r m zs below due is =
    let got = r.only (suc m) zs (omega arith) due is in
    let rest = drop (length before) zs in
    let by = shown_by at (length before + 1) m rest w ws got.1 in
    let both = step_only (at (length before + 1)) at (length before + 1) m (drop (length before) dues) rest w ws
    (counted_by at (length before + 1) (drop (length before) dues) ∙ r.count) below (each_drop (length before) dues zs due) by in
    (got.0, both.0, both.1)

reached_next : (at : ℕ → Option Joint) (dues : List DueOf) (shown : List ZoneResult) (before : List Forced) (place : ℕ) (w : ZoneResult) (ws : List ZoneResult) (g : Group)
    → g ≡ front_forces (at (length before + 1)) (drop (length before) dues) w → is_refused g ≡ false → are_clear (before ++ forced_in g) dues (before ++ forced_in g) ≡ true
    → Reached at dues shown before place (w ∷ ws) → Reached at dues shown (before ++ forced_in g) (place + 1) ws
reached_next at dues shown before place w ws g is taken clear r =
    let front = front_forces (at (length before + 1)) (drop (length before) dues) w in
    let Count : Group → Type 0 = λ h. due_count at (length before + 1 + length (forced_in h)) false (drop (length (forced_in h)) (drop (length before) dues)) ≡ length ws in
    let Fits : Group → Type 0 = λ h. Fit (drop (length before) dues) (forced_in h) in
    let Taken : Group → Type 0 = λ h. is_refused h ≡ false in
    let counted : Count g = subst Count (sym is) (step_count (at (length before + 1)) at (length before + 1) (drop (length before) dues) w ws
    (counted_by at (length before + 1) (drop (length before) dues) ∙ r.count) (subst Taken is taken)) in
    let fits : Fits g = subst Fits (sym is) (step_fit (at (length before + 1)) (drop (length before) dues) w) in
    let From : ℕ → ℕ = λ n. due_count at n false (drop (length (before ++ forced_in g)) dues) in
    let Left : List DueOf → ℕ = λ ds. due_count at (length before + 1 + length (forced_in g)) false ds in
    record {
      long = r.long ∙ one_more place (length ws);
      count = sym (ap From (long_both before (forced_in g))) ∙ sym (ap Left (drop_both before (forced_in g) dues)) ∙ counted;
      fit = fit_both before (forced_in g) dues r.fit fits;
      clear = clear;
      only = λ m zs below due shows. next_only at dues shown before place w ws g is r m zs below due shows;
      enough = λ m zs below due held shows. next_enough at dues shown before place w ws g is taken r m zs below due held shows;
    }
  where
    next_only : (at : ℕ → Option Joint) (dues : List DueOf) (shown : List ZoneResult) (before : List Forced) (place : ℕ) (w : ZoneResult) (ws : List ZoneResult) (g : Group)
        → g ≡ front_forces (at (length before + 1)) (drop (length before) dues) w → Reached at dues shown before place (w ∷ ws)
        → (m : ℕ) (zs : List ZoneResult) → m ≤ length ws → AreEachDue dues zs → AreShownTo (place + 1 + m) at 1 None zs shown
        → AreForced (before ++ forced_in g) zs × AreShownTo m at (length (before ++ forced_in g) + 1) None (drop (length (before ++ forced_in g)) zs) ws
    next_only at dues shown before place w ws g is r m zs below due shows =
        let To : ℕ → Type 0 = λ n. AreShownTo n at 1 None zs shown in
        let told = step_tells at dues shown before place w ws r m zs below due (subst To (sym (one_more place m)) shows) in
        let Held : Group → Type 0 = λ h. Grouped h (drop (length before) zs) in
        let More : Group → Type 0 = λ h. Behind at (length before + 1) h m (drop (length before) zs) ws in
        let From : ℕ → Type 0 = λ n. AreShownTo m at n None (drop (length (forced_in g)) (drop (length before) zs)) ws in
        let Left : List ZoneResult → Type 0 = λ ys. AreShownTo m at (length (before ++ forced_in g) + 1) None ys ws in (
          forced_both before (forced_in g) zs told.0 (grouped_forced g (drop (length before) zs) (subst Held (sym is) told.1)),
          subst Left (drop_both before (forced_in g) zs) (subst From (long_both before (forced_in g)) (subst More (sym is) told.2)),
        )

    next_enough : (at : ℕ → Option Joint) (dues : List DueOf) (shown : List ZoneResult) (before : List Forced) (place : ℕ) (w : ZoneResult) (ws : List ZoneResult) (g : Group)
        → g ≡ front_forces (at (length before + 1)) (drop (length before) dues) w → is_refused g ≡ false → Reached at dues shown before place (w ∷ ws)
        → (m : ℕ) (zs : List ZoneResult) → m ≤ length ws → AreEachDue dues zs → AreForced (before ++ forced_in g) zs
        → AreShownTo m at (length (before ++ forced_in g) + 1) None (drop (length (before ++ forced_in g)) zs) ws → AreShownTo (place + 1 + m) at 1 None zs shown
    next_enough at dues shown before place w ws g is taken r m zs below due held shows =
        let To : ℕ → Type 0 = λ n. AreShownTo n at 1 None zs shown in
        let Held : Group → Type 0 = λ h. Grouped h (drop (length before) zs) in
        let More : Group → Type 0 = λ h. Behind at (length before + 1) h m (drop (length before) zs) ws in
        let From : ℕ → Type 0 = λ n. AreShownTo m at n None (drop (length (forced_in g)) (drop (length before) zs)) ws in
        let Left : List ZoneResult → Type 0 = λ ys. AreShownTo m at (length (before ++ forced_in g) + 1) None ys ws in
        let parts = both_forced before (forced_in g) zs held in
        let more : More g = subst From (sym (long_both before (forced_in g))) (subst Left (sym (drop_both before (forced_in g) zs)) shows) in
        let by = step_enough (at (length before + 1)) at (length before + 1) m (drop (length before) dues) (drop (length before) zs) w ws
        (each_drop (length before) dues zs due) (subst Held is (forced_grouped g (drop (length before) zs) taken parts.1)) (subst More is more) in
        subst To (one_more place m)
        (r.enough (suc m) zs (omega arith) due parts.0 (by_shown at (length before + 1) m (drop (length before) zs) w ws by))

-- an outcome that can't be shown leaves none that are due; nor does one that is in conflict

refused_one : (at : ℕ → Option Joint) (dues : List DueOf) (shown : List ZoneResult) (before : List Forced) (place : ℕ) (w : ZoneResult) (ws : List ZoneResult) (g : Group)
    → g ≡ front_forces (at (length before + 1)) (drop (length before) dues) w → is_refused g ≡ true
    → Reached at dues shown before place (w ∷ ws) → Explained dues at shown (suc place) → ⊥
refused_one at dues shown before place w ws g is refused r e =
    let To : ℕ → Type 0 = λ n. AreShownTo n at 1 None e.outcomes shown in
    let next : suc place ≡ place + 1 = omega arith in
    let told = step_tells at dues shown before place w ws r 0 e.outcomes (omega arith) e.due.each (subst To next e.shows) in
    let Held : Group → Type 0 = λ h. Grouped h (drop (length before) e.outcomes) in
    refused_none g (drop (length before) e.outcomes) refused (subst Held (sym is) told.1)

unclear_one : (at : ℕ → Option Joint) (dues : List DueOf) (shown : List ZoneResult) (before : List Forced) (place : ℕ) (w : ZoneResult) (ws : List ZoneResult) (g : Group)
    → g ≡ front_forces (at (length before + 1)) (drop (length before) dues) w → are_clear (before ++ forced_in g) dues (before ++ forced_in g) ≡ false
    → Reached at dues shown before place (w ∷ ws) → Explained dues at shown (suc place) → ⊥
unclear_one at dues shown before place w ws g is unclear r e =
    let To : ℕ → Type 0 = λ n. AreShownTo n at 1 None e.outcomes shown in
    let next : suc place ≡ place + 1 = omega arith in
    let told = step_tells at dues shown before place w ws r 0 e.outcomes (omega arith) e.due.each (subst To next e.shows) in
    let Held : Group → Type 0 = λ h. Grouped h (drop (length before) e.outcomes) in
    let forced = forced_both before (forced_in g) e.outcomes told.0 (grouped_forced g (drop (length before) e.outcomes) (subst Held (sym is) told.1)) in
    conflict (before ++ forced_in g) e.outcomes dues (before ++ forced_in g) e.outcomes forced forced e.due.led unclear

-- all of it

by_tests : (at : ℕ → Option Joint) (dues : List DueOf) (shown : List ZoneResult) (place : ℕ) (b c : Bool) (more : Option ℕ)
    → (b ≡ true → IsFirstUnexplained dues at shown (Some place)) → (b ≡ false → c ≡ false → IsFirstUnexplained dues at shown (Some place))
    → (b ≡ false → c ≡ true → IsFirstUnexplained dues at shown more) → IsFirstUnexplained dues at shown (if b then Some place else if c then more else Some place)
by_tests at dues shown place true c more refused unclear next = refused refl
by_tests at dues shown place false true more refused unclear next = next refl refl
by_tests at dues shown place false false more refused unclear next = unclear refl refl

wrong_from : (at : ℕ → Option Joint) (dues : List DueOf) (shown : List ZoneResult) (before : List Forced) (place : ℕ) (ws : List ZoneResult)
    → HaveLeaders dues dues → Reached at dues shown before place ws → IsFirstUnexplained dues at shown (first_wrong at dues before place ws)
wrong_from at dues shown before place [] lead r =
    let To : ℕ → Type 0 = λ n. Explained dues at shown n in
    subst To (sym (r.long ∙ none_behind place)) (explained_at at dues shown before place [] lead r)
wrong_from at dues shown before place (w ∷ ws) lead r =
    let g = forces_at at dues (length before) w in
    let is = front_at at dues (length before) w in
    let here : place < length shown = omega (arith, r.long) in
    let so = explained_at at dues shown before place (w ∷ ws) lead r in
    by_tests at dues shown place (is_refused g) (are_clear (before ++ forced_in g) dues (before ++ forced_in g)) (first_wrong at dues (before ++ forced_in g) (place + 1) ws)
    (λ refused. (here, so, refused_one at dues shown before place w ws g is refused r))
    (λ taken unclear. (here, so, unclear_one at dues shown before place w ws g is unclear r))
    (λ taken clear. wrong_from at dues shown (before ++ forced_in g) (place + 1) ws lead (reached_next at dues shown before place w ws g is taken clear r))

pub first_unexplained : (at : ℕ → Option Joint) (dues : List DueOf) (shown : List ZoneResult)
    → HaveLeaders dues dues → due_count at 1 false dues ≡ length shown → IsFirstUnexplained dues at shown (first_wrong at dues [] 0 shown)
first_unexplained at dues shown lead count = wrong_from at dues shown [] 0 shown lead (reached_none at dues shown count)

pub first_found : (at : ℕ → Option Joint) (dues : List DueOf) (shown : List ZoneResult) (wrong : Option ℕ)
    → HaveLeaders dues dues → due_count at 1 false dues ≡ length shown → wrong ≡ first_wrong at dues [] 0 shown → IsFirstUnexplained dues at shown wrong
first_found at dues shown wrong lead count is =
    let First : Option ℕ → Type 0 = λ w. IsFirstUnexplained dues at shown w in subst First (sym is) (first_unexplained at dues shown lead count)

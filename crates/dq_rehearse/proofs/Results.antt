-- The results of lanes that are done are right, and their dialers count.
use Rattle.std.proofs.Common.{◌≡◌, ℕ, zero, suc, ◌+◌, ◌-◌, ◌<◌, ◌≤◌, nat_eq, true, false, ◌&&◌, List, [], ◌∷◌, ◌++◌, length, map, drop, get_or, Option, Some, None, refl, ap, sym, ◌∙◌, subst, arith}
use Rattle.std.proofs.lemmas.Grind.{common_steps}
use Rattle.std.proofs.lemmas.Option.{unwrap_or-slice_get}
use Rattle.std.specs.List.{list_all}
use Rattle.dq_base.specs.Scripts.{is_lane, step_of}
use Rattle.dq_base.specs.declared.script.Fails.{Fails}
use Rattle.dq_base.specs.declared.script.Step.{Step}
use Rattle.dq_base.specs.declared.script.Step.TheVariants as step
use Rattle.dq_bring.specs.Dials.{IsPlanOf}
use Rattle.dq_extract.specs.Loads.{LoadedFiles}
use Rattle.dq_fates.specs.Dials.{lost_dials}
use Rattle.dq_fates.proofs.Dialled.{dials_stay}
use Rattle.dq_journal.specs.Journals.{lane_of}
use Rattle.dq_journal.specs.Steps.{step_in, steps_named}
use Rattle.dq_journal.specs.declared.entry.Entry.{Entry}
use Rattle.dq_journal.specs.declared.entry.Met.{Met}
use Rattle.dq_journal.specs.declared.entry.Entry.TheVariants.{Publish, Admit, Lease, Give, Lose, Land, Fall, Take, End}
use Rattle.dq_journal.specs.declared.result.StepResult.{StepResult}
use Rattle.dq_machine.proofs.Reached.{IsReached-next, IsReached-start, and_both, and_first, and_second, allowed_may, reached-works}
use Rattle.dq_machine.specs.Admitting.{admission_of, is_batch, met_eq}
use Rattle.dq_machine.specs.Machine.{IsReached, allowed, legal, legal_from, may, may_begin, next}
use Rattle.dq_machine.specs.Order.{is_known, lane_keeps, lanes_keep, names_kind}
use Rattle.dq_machine.specs.Publishing.{is_publish}
use Rattle.dq_machine.specs.Right.{AreLanes, AreResults, IsRight}
use Rattle.dq_machine.specs.State.{State, Work, start, work_of}
use Rattle.dq_rehearse.specs.Dialled.{AreDialled, ArePlans}
use Rattle.dq_rehearse.specs.Follows.{places_told}
use Rattle.dq_rehearse.specs.Lanes.{IsOn, no_lane, places_in}
use Rattle.dq_lane.specs.Right.{IsLaneRight, IsRightFrom}
use Rattle.dq_lane.specs.View.{LaneOf, place_of, steps_of}
use Rattle.std.specs.Cmp.Lexicographic.{pointwise}

-- all lanes

-- one for each lane, from that number on
abbrev pub AreResultsOf : LoadedFiles → List Entry → ℕ → List (List StepResult) → Type 0
AreResultsOf l journal lane [] = Unit {0}
AreResultsOf l journal lane (rs ∷ results) = IsLaneRight l journal lane rs × AreResultsOf l journal (lane + 1) results

pub AreResultsOf-push : (l : LoadedFiles) (journal : List Entry) (lane : ℕ) (results : List (List StepResult)) (rs : List StepResult) → AreResultsOf l journal lane results
    → IsLaneRight l journal (lane + length results) rs → AreResultsOf l journal lane (results ++ rs ∷ [])
AreResultsOf-push l journal lane [] rs h right = let e : lane + 0 ≡ lane = omega arith in (subst (λ n. IsLaneRight l journal n rs) e right, tt)
AreResultsOf-push l journal lane (x ∷ results) rs h right =
    let e : lane + suc (length results) ≡ lane + 1 + length results = omega arith in
    (h.0, AreResultsOf-push l journal (lane + 1) results rs h.1 (subst (λ n. IsLaneRight l journal n rs) e right))

-- a lane's results are right for the journal on which it stands
pub lane_right : (l : LoadedFiles) (journal : List Entry) (k : ℕ) (v : LaneOf) (rs : List StepResult) → legal l journal ≡ true → IsOn l journal (k + 1) v → IsRightFrom v.loaded v.number v.seen rs
    → IsLaneRight l journal (1 + k) rs
lane_right l journal k v rs legal on right =
    let e : k + 1 ≡ 1 + k = omega arith in
    let here = subst (λ m. IsRightFrom m v.number v.seen rs) on.loaded right in
    let there = subst (λ n. IsRightFrom l n v.seen rs) on.numbered here in
    subst (λ n. IsLaneRight l journal n rs) e (there.on journal legal on.goes_on)

steps_at : (l : LoadedFiles) (k : ℕ) → steps_of l (1 + k) ≡ get_or l.script.lanes k []
steps_at l k =
    let e : 1 + k - 1 ≡ k = omega arith in
    let some : nat_eq (1 + k) 0 ≡ false = grind (arith, common_steps) in
    rw (some, e) (unwrap_or-slice_get l.script.lanes k [])

-- of the lanes from this number on
record AreRightLanes (l : LoadedFiles) (journal : List Entry) (n : ℕ) (lanes : List (List Step)) (results : List (List StepResult)) : Type 0 where
  pub order : lanes_keep journal n lanes results ≡ true
  pub zones : AreLanes l journal n lanes results

lanes_from : (l : LoadedFiles) (journal : List Entry) (n : ℕ) (lanes : List (List Step)) (results : List (List StepResult)) → length results ≡ length lanes
    → ((k : ℕ) → k < length lanes → steps_of l (n + k) ≡ get_or lanes k []) → AreResultsOf l journal n results → AreRightLanes l journal n lanes results
lanes_from l journal n [] [] count steps h = record { order = refl; zones = tt }
lanes_from l journal n [] (rs ∷ results) count steps h = absurd (omega (arith, count))
lanes_from l journal n (ss ∷ lanes) [] count steps h = absurd (omega (arith, count))
lanes_from l journal n (ss ∷ lanes) (rs ∷ results) count steps h =
    let e : n + 0 ≡ n = omega arith in
    let first : steps_of l n ≡ ss = subst (λ m. steps_of l m ≡ ss) e (steps 0 (omega arith)) in
    let rest = lanes_from l journal (n + 1) lanes results (omega (arith, count)) (λ k lt. let f : n + 1 + k ≡ n + suc k = omega arith in ap (steps_of l) f ∙ steps (suc k) (omega arith)) h.1 in
    record {
      order = and_both (lane_keeps journal n ss rs) (lanes_keep journal (n + 1) lanes results) (subst (λ s. lane_keeps journal n s rs ≡ true) first h.0.keeps) rest.order;
      zones = (subst (λ s. AreResults l journal n s rs) first h.0.right, rest.zones);
    }

-- each entry is of a lane of the script, and its step of its kind

kind_publish : (lane number : ℕ) (o : Option Step) → is_publish o ≡ true → names_kind (Publish lane number) o ≡ true
kind_publish lane number None h = cc
kind_publish lane number (Some (step.Publish source how file)) h = refl
kind_publish lane number (Some (step.Batch zones)) h = cc

kind_admit : (lane number : ℕ) (ms : List Met) (o : Option Step) → is_batch o ≡ true → names_kind (Admit lane number ms) o ≡ true
kind_admit lane number ms None h = cc
kind_admit lane number ms (Some (step.Publish source how file)) h = cc
kind_admit lane number ms (Some (step.Batch zones)) h = refl

kind_may : (l : LoadedFiles) (s : State) (w : Work) (e : Entry) → may l s w e ≡ true → names_kind e (steps_named l.script.lanes (lane_of e) (step_in e)) ≡ true
kind_may l s w (Publish lane number) m =
    kind_publish lane number (step_of l.script.lanes lane number) (and_second (may_begin w number) (is_publish (step_of l.script.lanes lane number)) m)
kind_may l s w (Admit lane number ms) m =
    kind_admit lane number ms (step_of l.script.lanes lane number) (and_second (may_begin w number) (is_batch (step_of l.script.lanes lane number))
    (and_first (may_begin w number && is_batch (step_of l.script.lanes lane number)) (pointwise met_eq (admission_of l s lane number).met ms) m))
kind_may l s w (Lease lane flight link fresh) m = refl
kind_may l s w (Give lane flight link ran runs calls) m = refl
kind_may l s w (Lose lane flight link dialled ran runs calls) m = refl
kind_may l s w (Land lane flight cells clever literal) m = refl
kind_may l s w (Fall lane flight cause) m = refl
kind_may l s w (Take lane flight next) m = refl
kind_may l s w (End lane) m = refl

known_by : (l : LoadedFiles) (s : State) (e : Entry) → IsReached l s → allowed l s e ≡ true → is_known l.script.lanes e ≡ true
known_by l s e r a =
    let there : is_lane (length s.works) (lane_of e) ≡ true = and_first (is_lane (length s.works) (lane_of e)) (may l s (work_of s (lane_of e)) e) a in
    let lane : is_lane (length l.script.lanes) (lane_of e) ≡ true = subst (λ n. is_lane n (lane_of e) ≡ true) (reached-works l s r) there in
    and_both (is_lane (length l.script.lanes) (lane_of e)) (names_kind e (steps_named l.script.lanes (lane_of e) (step_in e))) lane (kind_may l s (work_of s (lane_of e)) e (allowed_may l s e a))

known_from : (l : LoadedFiles) (s : State) (es : List Entry) → IsReached l s → legal_from l s es ≡ true → list_all (is_known l.script.lanes) es ≡ true
known_from l s [] r h = refl
known_from l s (e ∷ es) r h =
    let a = and_first (allowed l s e) (legal_from l (next l s e) es) h in
    and_both (is_known l.script.lanes e) (list_all (is_known l.script.lanes) es) (known_by l s e r a)
    (known_from l (next l s e) es (IsReached-next l s e r a) (and_second (allowed l s e) (legal_from l (next l s e) es) h))

all_known : (l : LoadedFiles) (journal : List Entry) → legal l journal ≡ true → list_all (is_known l.script.lanes) journal ≡ true
unfolding legal
all_known l journal h = known_from l (start l) journal (IsReached-start l) h

pub IsRight-all : (l : LoadedFiles) (journal : List Entry) (results : List (List StepResult)) → legal l journal ≡ true → length results ≡ length l.script.lanes → AreResultsOf l journal 1 results → IsRight l journal results
IsRight-all l journal results lawful count h =
    let all = lanes_from l journal 1 l.script.lanes results count (λ k lt. steps_at l k) h in
    record {
      order = and_both (lanes_keep journal 1 l.script.lanes results) (list_all (is_known l.script.lanes) journal) all.order (all_known l journal lawful);
      zones = all.zones;
    }

-- the dialers so far, of lanes from this number on

abbrev pub HaveDialled : LoadedFiles → List Entry → ℕ → List ℕ → Type 0
HaveDialled l journal lane [] = Unit {0}
HaveDialled l journal lane (f ∷ faults) = (lost_dials lane journal ≤ f) × HaveDialled l journal (lane + 1) faults

abbrev pub HavePlans : LoadedFiles → ℕ → List (Option Fails) → Type 0
HavePlans l lane [] = Unit {0}
HavePlans l lane (p ∷ plans) = IsPlanOf l lane p × HavePlans l (lane + 1) plans

pub HaveDialled-push : {D : Type 0} (faults_of : D → ℕ) (l : LoadedFiles) (journal : List Entry) (lane : ℕ) (dialers : List D) (d : D) → HaveDialled l journal lane (map faults_of dialers)
    → lost_dials (lane + length dialers) journal ≤ faults_of d → HaveDialled l journal lane (map faults_of (dialers ++ d ∷ []))
HaveDialled-push faults_of l journal lane [] d h few = let e : lane + 0 ≡ lane = omega arith in (subst (λ n. lost_dials n journal ≤ faults_of d) e few, tt)
HaveDialled-push faults_of l journal lane (x ∷ dialers) d h few =
    let e : lane + suc (length dialers) ≡ lane + 1 + length dialers = omega arith in
    (h.0, HaveDialled-push faults_of l journal (lane + 1) dialers d h.1 (subst (λ n. lost_dials n journal ≤ faults_of d) e few))

pub HavePlans-push : {D : Type 0} (plan : D → Option Fails) (l : LoadedFiles) (lane : ℕ) (dialers : List D) (d : D) → HavePlans l lane (map plan dialers)
    → IsPlanOf l (lane + length dialers) (plan d) → HavePlans l lane (map plan (dialers ++ d ∷ []))
HavePlans-push plan l lane [] d h is = let e : lane + 0 ≡ lane = omega arith in (subst (λ n. IsPlanOf l n (plan d)) e is, tt)
HavePlans-push plan l lane (x ∷ dialers) d h is =
    let e : lane + suc (length dialers) ≡ lane + 1 + length dialers = omega arith in
    (h.0, HavePlans-push plan l (lane + 1) dialers d h.1 (subst (λ n. IsPlanOf l n (plan d)) e is))

pub AreDialled-all : {D : Type 0} (faults_of : D → ℕ) (l : LoadedFiles) (journal : List Entry) (lane : ℕ) (dialers : List D) → HaveDialled l journal lane (map faults_of dialers)
    → lane + length dialers ≡ length l.script.lanes + 1 → AreDialled l journal lane (map faults_of dialers)
AreDialled-all faults_of l journal lane [] h count = omega (arith, count)
AreDialled-all faults_of l journal lane (x ∷ dialers) h count = (h.0, AreDialled-all faults_of l journal (lane + 1) dialers h.1 (omega (arith, count)))

pub ArePlans-all : {D : Type 0} (plan : D → Option Fails) (l : LoadedFiles) (lane : ℕ) (dialers : List D) → HavePlans l lane (map plan dialers)
    → lane + length dialers ≡ length l.script.lanes + 1 → ArePlans l lane (map plan dialers)
ArePlans-all plan l lane [] h count = omega (arith, count)
ArePlans-all plan l lane (x ∷ dialers) h count = (h.0, ArePlans-all plan l (lane + 1) dialers h.1 (omega (arith, count)))

-- a lane's dialer has counted what the journal on which the lane stands tells
pub lane_dialled : (l : LoadedFiles) (journal : List Entry) (k : ℕ) (v : LaneOf) (faults : ℕ) → IsOn l journal (k + 1) v → lost_dials v.number v.seen ≤ faults → lost_dials (1 + k) journal ≤ faults
lane_dialled l journal k v faults on few =
    let e : k + 1 ≡ 1 + k = omega arith in
    let here : lost_dials (k + 1) v.seen ≤ faults = subst (λ n. lost_dials n v.seen ≤ faults) on.numbered few in
    let there : lost_dials (k + 1) journal ≤ faults = rw (dials_stay (k + 1) v.seen journal on.goes_on) here in
    subst (λ n. lost_dials n journal ≤ faults) e there

pub lane_planned : (l : LoadedFiles) (journal : List Entry) (k : ℕ) (v : LaneOf) (plan : Option Fails) → IsOn l journal (k + 1) v → IsPlanOf v.loaded v.number plan → IsPlanOf l (1 + k) plan
lane_planned l journal k v plan on is =
    let e : k + 1 ≡ 1 + k = omega arith in
    let here = subst (λ m. IsPlanOf m v.number plan) on.loaded is in
    let there = subst (λ n. IsPlanOf l n plan) on.numbered here in
    subst (λ n. IsPlanOf l n plan) e there

-- the lanes that are left

pub left_lanes : (l : LoadedFiles) (lanes : List LaneOf) (n : ℕ) (v : LaneOf) (rest : List LaneOf) → drop n lanes ≡ v ∷ rest → (n < length lanes) × (get_or lanes n (no_lane l) ≡ v) × (rest ≡ drop (n + 1) lanes)
left_lanes l [] zero v rest is = cc
left_lanes l [] (suc n) v rest is = cc
left_lanes l (x ∷ lanes) zero v rest is =
    let first : x ≡ v = cc in
    let others : lanes ≡ rest = cc in
    (omega arith, first, sym others)
left_lanes l (x ∷ lanes) (suc n) v rest is =
    let at = left_lanes l lanes n v rest is in
    let e : suc n + 1 ≡ suc (n + 1) = omega arith in
    (omega (arith, at.0), at.1, rw e at.2)

-- the places that are told, and those that are left

told-push : (results : List (List StepResult)) (rs : List StepResult) (ps : List (List (Option ℕ))) → places_told (results ++ rs ∷ []) ++ ps ≡ places_told results ++ map place_of rs ∷ ps
told-push [] rs ps = refl
told-push (x ∷ results) rs ps = ap (λ qs. map place_of x ∷ qs) (told-push results rs ps)

pub places-more : (results : List (List StepResult)) (rs : List StepResult) (v : LaneOf) (rest lanes all : List LaneOf) → lanes ≡ v ∷ rest → map place_of rs ≡ v.places
    → places_told results ++ map places_in lanes ≡ map places_in all → places_told (results ++ rs ∷ []) ++ map places_in rest ≡ map places_in all
places-more results rs v rest lanes all is told h =
    let split : places_told results ++ v.places ∷ map places_in rest ≡ map places_in all = rw is at h in
    rw (told-push results rs (map places_in rest), told) split

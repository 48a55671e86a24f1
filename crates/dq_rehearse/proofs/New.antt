-- Lanes that didn't begin.
use Rattle.std.proofs.Common.{◌≡◌, ℕ, zero, suc, ◌+◌, ◌-◌, ◌<◌, true, false, List, [], ◌∷◌, ◌++◌, length, map, get_or, slice_get, Option, Some, None, refl, ap, sym, ◌∙◌, arith}
use Rattle.std.proofs.lemmas.Bool.{le-leb, lt-ltb}
use Rattle.std.proofs.lemmas.Bool.Decides.{nat_tests}
use Rattle.std.specs.Prelude.{IfSome, nat_eq, nat_lt, nat_le}
use Rattle.std.specs.List.{range_with_len}
use Rattle.dq_base.specs.Scripts.{is_lane, numbered}
use Rattle.dq_base.specs.declared.script.Fails.{Fails}
use Rattle.dq_base.specs.declared.script.Step.{Step}
use Rattle.dq_bring.specs.Dials.{IsPlanOf}
use Rattle.dq_extract.specs.Loads.{LoadedFiles}
use Rattle.dq_journal.specs.declared.entry.Entry.{Entry}
use Rattle.dq_lane.specs.View.{LaneOf, new_lane}
use Rattle.dq_machine.proofs.Reached.{and_both, and_first, and_second}
use Rattle.dq_rehearse.specs.Lanes.{AreOn, IsOn, all_new, no_lane}
use Rattle.dq_fates.proofs.GoingOn.{goes_on_same}

-- one more

pub range-more : (a n : ℕ) → range_with_len a (n + 1) ≡ range_with_len a n ++ (a + n) ∷ []
range-more a zero = let e : a + 0 ≡ a = omega arith in rw e refl
range-more a (suc n) = let e : suc n + 1 ≡ suc (n + 1) = omega arith in let f : a + suc n ≡ a + 1 + n = omega arith in rw (e, f) (ap (λ r. a ∷ r) (range-more (a + 1) n))

map-push : (l : LoadedFiles) (ns : List ℕ) (n : ℕ) → map (new_lane l) (ns ++ n ∷ []) ≡ map (new_lane l) ns ++ new_lane l n ∷ []
map-push l [] n = refl
map-push l (x ∷ ns) n = ap (λ vs. new_lane l x ∷ vs) (map-push l ns n)

pub new_more : (l : LoadedFiles) (n : ℕ) → map (new_lane l) (range_with_len 1 n) ++ new_lane l (n + 1) ∷ [] ≡ map (new_lane l) (range_with_len 1 (n + 1))
new_more l n = let e : n + 1 ≡ 1 + n = omega arith in rw (range-more 1 n, e) (sym (map-push l (range_with_len 1 n) (1 + n)))

-- they stand on a journal without entries

new_at : (l : LoadedFiles) (n a k : ℕ) (d : LaneOf) → k < n → get_or (map (new_lane l) (range_with_len a n)) k d ≡ new_lane l (a + k)
new_at l zero a k d lt = absurd (omega arith)
new_at l (suc n) a zero d lt = let e : a + 0 ≡ a = omega arith in rw e refl
new_at l (suc n) a (suc k) d lt = let e : a + suc k ≡ a + 1 + k = omega arith in rw e (new_at l n (a + 1) k d (omega arith))

new_length : (l : LoadedFiles) (n a : ℕ) → length (map (new_lane l) (range_with_len a n)) ≡ n
new_length l zero a = refl
new_length l (suc n) a = ap suc (new_length l n (a + 1))

IsOn-start : (l : LoadedFiles) (k : ℕ) → IsOn l [] (k + 1) (new_lane l (1 + k))
IsOn-start l k = record { numbered = omega arith; loaded = refl; goes_on = goes_on_same (k + 1) [] }

pub on_at_start : (l : LoadedFiles) (journal : List Entry) (lanes : List LaneOf) → journal ≡ [] → lanes ≡ all_new l → AreOn l journal lanes
on_at_start l journal lanes none new =
    let n = length l.script.lanes in
    let count : length lanes ≡ n = ap length new ∙ new_length l n 1 in
    record {
      count = count;
      each = λ k lt. rw (none, new, new_at l n 1 k (no_lane l) (omega (arith, lt, count))) (IsOn-start l k);
    }

-- an item is where there is room for one
item_there : {X : Type 0} (xs : List X) (k : ℕ) → k < length xs → slice_get xs k ≡ None → ⊥
item_there [] k lt none = absurd (omega (arith, lt))
item_there (x ∷ xs) zero lt none = let bad : Some x ≡ None = none in cc
item_there (x ∷ xs) (suc k) lt none = item_there xs k (omega (arith, lt)) none

-- what is planned to fail

pub planned : (fails : List Fails) (lanes : List (List Step)) (number : ℕ) → length fails ≡ length lanes → is_lane (length lanes) number ≡ true → numbered fails number ≡ None → ⊥
planned fails lanes number count known none =
    let above : nat_lt 0 number ≡ true = and_first (nat_lt 0 number) (nat_le number (length lanes)) known in
    let within : nat_le number (length lanes) ≡ true = and_second (nat_lt 0 number) (nat_le number (length lanes)) known in
    let some : nat_eq number 0 ≡ false = grind (arith, nat_tests) in
    let there : number - 1 < length fails = grind (arith, nat_tests) in
    let at : slice_get fails (number - 1) ≡ None = rw some at none in
    item_there fails (number - 1) there at

pub plan_of : (l : LoadedFiles) (number : ℕ) (plan : Option Fails) (fails : Fails) → IfSome plan (λ p. p ≡ fails) → numbered l.script.fails number ≡ Some fails → IsPlanOf l number plan
plan_of l number None fails h at = tt
plan_of l number (Some p) fails h at = rw h at

-- the lane behind so many others
pub lane_next : (lanes before count : ℕ) → count ≡ lanes → before < count → is_lane lanes (before + 1) ≡ true
lane_next lanes before count same lt = and_both (nat_lt 0 (before + 1)) (nat_le (before + 1) lanes) (lt-ltb 0 (before + 1) (omega arith)) (le-leb (before + 1) lanes (omega (arith, same, lt)))

-- Loops over what was brought, as far as they have come.
use Rattle.std.proofs.Common.{◌≡◌, ℕ, zero, suc, ◌+◌, ◌<◌, ◌≤◌, Bool, true, false, List, [], ◌∷◌, ◌++◌, length, drop, take, replicate, slice_set, refl, sym, ap, ◌∙◌, arith}
use Rattle.std.specs.Prelude.{Option, Some, None, is_some, not, option_and_then, slice_get}
use Rattle.dq_base.specs.declared.query.Query.{Query}
use Rattle.dq_bring.specs.Views.{BringingOf}
use Rattle.dq_bring.specs.declared.telling.Ending.{Ending}
use Rattle.dq_cache.specs.declared.entry.Found.{Found}
use Rattle.dq_extract.specs.Loads.{LoadedFiles}
use Rattle.dq_journal.specs.declared.entry.Entry.{Entry}
use Rattle.dq_journal.specs.declared.entry.Met.{Met}
use Rattle.dq_desk.specs.Admissions.{StartedOf}
use Rattle.dq_zones.specs.declared.fetch.Fetch.{Fetch}
use Rattle.dq_batch.specs.Beginning.{all_begun, begun, begun_at}
use Rattle.dq_batch.specs.Nexts.{CanBegin, CanBeginWith, IsNext, beginning}
use Rattle.dq_batch.specs.Settling.{AllSettle, BringsTo, FirstWaits, IsFirstWait, SettlesAt, SettlesTo, is_flying, is_not, none_waits, waited}
use Rattle.dq_batch.specs.declared.open.Current.TheVariants as current
use Rattle.dq_batch.specs.declared.settling.Wait.{Wait}

-- the first that waits

none_by : (o : Option ℕ) (rest : Bool) → is_not o rest ≡ true → (o ≡ None) × (rest ≡ true)
none_by None rest h = (refl, h)
none_by (Some n) rest h = let no : ⊥ = cc in absurd no

pub first_here : (xs : List Fetch) (n flight : ℕ) → none_waits (take n xs) ≡ true → option_and_then waited (slice_get xs n) ≡ Some flight → IsFirstWait xs n flight
first_here [] n flight none h = let no : ⊥ = cc in absurd no
first_here (x ∷ xs) zero flight none h = h
first_here (x ∷ xs) (suc n) flight none h = let both = none_by (waited x) (none_waits (take n xs)) none in (both.0, first_here xs n flight both.1 h)

none_one : (x : Fetch) (rest : Bool) → waited x ≡ None → rest ≡ true → is_not (waited x) rest ≡ true
none_one x rest e h = rw e h

none_suc : (xs : List Fetch) (n : ℕ) → none_waits (take n xs) ≡ true → option_and_then waited (slice_get xs n) ≡ None → none_waits (take (suc n) xs) ≡ true
none_suc [] n none h = refl
none_suc (x ∷ []) zero none h = none_one x true h refl
none_suc (x ∷ y ∷ xs) zero none h = none_one x true h refl
none_suc (x ∷ xs) (suc n) none h = let both = none_by (waited x) (none_waits (take n xs)) none in none_one x (none_waits (take (suc n) xs)) both.0 (none_suc xs n both.1 h)

pub none_more : (xs : List Fetch) (n : ℕ) → none_waits (take n xs) ≡ true → option_and_then waited (slice_get xs n) ≡ None → none_waits (take (n + 1) xs) ≡ true
none_more xs n none h = let more : n + 1 ≡ suc n = omega arith in rw more (none_suc xs n none h)

take_all : (xs : List Fetch) (n : ℕ) → length xs ≤ n → take n xs ≡ xs
take_all [] zero le = refl
take_all [] (suc n) le = refl
take_all (x ∷ xs) zero le = absurd (omega (arith, le))
take_all (x ∷ xs) (suc n) le = let left : length xs ≤ n = omega (arith, le) in ap (λ ys. x ∷ ys) (take_all xs n left)

pub none_whole : (xs : List Fetch) (n : ℕ) → length xs ≤ n → none_waits (take n xs) ≡ true → none_waits xs ≡ true
none_whole xs n le none = let whole = take_all xs n le in let all = rw whole at none in all

-- how far the queries are

begun_suc : (ms : List Met) (hs : List (Option Found)) (fs : List Fetch) (n : ℕ) → length hs ≡ length ms → length fs ≡ length ms → n < length ms
    → take n fs ++ all_begun (drop n ms) (drop n hs) ≡ take (suc n) (begun_at ms hs n fs) ++ all_begun (drop (suc n) ms) (drop (suc n) (slice_set hs n None))
begun_suc [] hs fs n lh lf lt = absurd (omega (arith, lt))
begun_suc (m ∷ ms) [] fs n lh lf lt = absurd (omega (arith, lh))
begun_suc (m ∷ ms) (h ∷ hs) [] n lh lf lt = absurd (omega (arith, lf))
begun_suc (m ∷ ms) (h ∷ hs) (f ∷ fs) zero lh lf lt = start fs
  where
    start : (gs : List Fetch) → take zero (f ∷ gs) ++ (begun m h ∷ all_begun ms hs) ≡ (begun m h ∷ take zero gs) ++ all_begun ms hs
    start [] = refl
    start (g ∷ gs) = refl
begun_suc (m ∷ ms) (h ∷ hs) (f ∷ fs) (suc n) lh lf lt =
    let a : length hs ≡ length ms = omega (arith, lh) in
    let b : length fs ≡ length ms = omega (arith, lf) in
    let c : n < length ms = omega (arith, lt) in
    ap (λ ys. f ∷ ys) (begun_suc ms hs fs n a b c)

pub begun_more : (whole : List Fetch) (ms : List Met) (hs : List (Option Found)) (fs : List Fetch) (n : ℕ) → length hs ≡ length ms → length fs ≡ length ms → n < length ms
    → whole ≡ take n fs ++ all_begun (drop n ms) (drop n hs) → whole ≡ take (n + 1) (begun_at ms hs n fs) ++ all_begun (drop (n + 1) ms) (drop (n + 1) (slice_set hs n None))
begun_more whole ms hs fs n lh lf lt is = let more : n + 1 ≡ suc n = omega arith in is ∙ rw more (begun_suc ms hs fs n lh lf lt)

drop_all : {X : Type 0} (xs : List X) (n : ℕ) → length xs ≤ n → drop n xs ≡ []
drop_all [] zero le = refl
drop_all [] (suc n) le = refl
drop_all (x ∷ xs) zero le = absurd (omega (arith, le))
drop_all (x ∷ xs) (suc n) le = let left : length xs ≤ n = omega (arith, le) in drop_all xs n left

append_none : (xs : List Fetch) → xs ++ [] ≡ xs
append_none [] = refl
append_none (x ∷ xs) = ap (λ ys. x ∷ ys) (append_none xs)

pub begun_whole : (whole : List Fetch) (ms : List Met) (hs : List (Option Found)) (fs : List Fetch) (n : ℕ) → length fs ≡ length ms → length ms ≤ n
    → whole ≡ take n fs ++ all_begun (drop n ms) (drop n hs) → fs ≡ whole
begun_whole whole ms hs fs n lf le is =
    let left : length fs ≤ n = omega (arith, lf, le) in
    sym (is ∙ rw (drop_all ms n le, take_all fs n left) (append_none fs))

pub begun_first : (ms : List Met) (hs : List (Option Found)) (fs : List Fetch) → all_begun ms hs ≡ take 0 fs ++ all_begun (drop 0 ms) (drop 0 hs)
begun_first ms hs [] = refl
begun_first ms hs (f ∷ fs) = refl

pub set_long : {X : Type 0} (xs : List X) (n : ℕ) (x : X) → length (slice_set xs n x) ≡ length xs
set_long [] zero x = refl
set_long [] (suc n) x = refl
set_long (y ∷ xs) zero x = refl
set_long (y ∷ xs) (suc n) x = ap (λ k. suc k) (set_long xs n x)

-- as if memory was wanting

pub same_more : (n : ℕ) (x : Fetch) → replicate n x ++ x ∷ [] ≡ replicate (n + 1) x
same_more n x = let more : n + 1 ≡ suc n = omega arith in rw more (by n)
  where
    by : (k : ℕ) → replicate k x ++ x ∷ [] ≡ replicate (suc k) x
    by zero = refl
    by (suc k) = ap (λ ys. x ∷ ys) (by k)

-- what a flight brings

flight_same : (flight : ℕ) (key : Query) (e : Ending) (x : Fetch) → is_flying flight x ≡ false → SettlesTo flight key e x x
flight_same flight key e x told = rw told refl

pub settles_set : (flight : ℕ) (key : Query) (e : Ending) (xs : List Fetch) (n : ℕ) (x y : Fetch) → slice_get xs n ≡ Some x → is_flying flight x ≡ true → BringsTo key e y
    → SettlesAt flight key e n xs (slice_set xs n y)
settles_set flight key e [] n x y at told b = let no : ⊥ = cc in absurd no
settles_set flight key e (z ∷ xs) zero x y at told b =
    let same : z ≡ x = cc in
    let here : is_flying flight z ≡ true = rw same told in (rw here b, refl)
settles_set flight key e (z ∷ xs) (suc n) x y at told b = (refl, settles_set flight key e xs n x y at told b)

pub settles_not : (flight : ℕ) (key : Query) (e : Ending) (xs : List Fetch) (n : ℕ) (x : Fetch) → slice_get xs n ≡ Some x → is_flying flight x ≡ false → SettlesAt flight key e n xs xs
settles_not flight key e [] n x at told = let no : ⊥ = cc in absurd no
settles_not flight key e (z ∷ xs) zero x at told =
    let same : z ≡ x = cc in
    let here : is_flying flight z ≡ false = rw same told in (flight_same flight key e z here, refl)
settles_not flight key e (z ∷ xs) (suc n) x at told = (refl, settles_not flight key e xs n x at told)

-- so many were looked at, in order
abbrev pub SettlesTill : ℕ → Query → Ending → ℕ → List Fetch → List Fetch → Type 0
SettlesTill flight key e n [] [] = Unit {0}
SettlesTill flight key e n [] (y ∷ ys) = ⊥
SettlesTill flight key e n (x ∷ xs) [] = ⊥
SettlesTill flight key e zero (x ∷ xs) (y ∷ ys) = (y ≡ x) × (ys ≡ xs)
SettlesTill flight key e (suc n) (x ∷ xs) (y ∷ ys) = SettlesTo flight key e x y × SettlesTill flight key e n xs ys

pub till_none : (flight : ℕ) (key : Query) (e : Ending) (xs : List Fetch) → SettlesTill flight key e 0 xs xs
till_none flight key e [] = tt
till_none flight key e (x ∷ xs) = (refl, refl)

pub till_long : (flight : ℕ) (key : Query) (e : Ending) (n : ℕ) (xs ys : List Fetch) → SettlesTill flight key e n xs ys → length ys ≡ length xs
till_long flight key e n [] [] h = refl
till_long flight key e n [] (y ∷ ys) h = absurd h
till_long flight key e n (x ∷ xs) [] h = absurd h
till_long flight key e zero (x ∷ xs) (y ∷ ys) h = ap (λ (zs : List Fetch). suc (length zs)) h.1
till_long flight key e (suc n) (x ∷ xs) (y ∷ ys) h = ap (λ k. suc k) (till_long flight key e n xs ys h.1)

till_here : (flight : ℕ) (key : Query) (e : Ending) (ys zs : List Fetch) → zs ≡ ys → SettlesTill flight key e zero ys zs
till_here flight key e ys zs is = rw is (till_none flight key e ys)

till_suc : (flight : ℕ) (key : Query) (e : Ending) (n : ℕ) (xs ys zs : List Fetch) → SettlesTill flight key e n xs ys → SettlesAt flight key e n ys zs → SettlesTill flight key e (suc n) xs zs
till_suc flight key e n [] [] [] h one = tt
till_suc flight key e n [] [] (z ∷ zs) h one = absurd one
till_suc flight key e n [] (y ∷ ys) zs h one = absurd h
till_suc flight key e n (x ∷ xs) [] zs h one = absurd h
till_suc flight key e n (x ∷ xs) (y ∷ ys) [] h one = absurd one
till_suc flight key e zero (x ∷ xs) (y ∷ ys) (z ∷ zs) h one = let first = rw h.0 at one.0 in (first, till_here flight key e xs zs (one.1 ∙ h.1))
till_suc flight key e (suc n) (x ∷ xs) (y ∷ ys) (z ∷ zs) h one = (rw one.0 h.0, till_suc flight key e n xs ys zs h.1 one.1)

pub till_more : (flight : ℕ) (key : Query) (e : Ending) (n : ℕ) (xs ys zs : List Fetch) → SettlesTill flight key e n xs ys → SettlesAt flight key e n ys zs → SettlesTill flight key e (n + 1) xs zs
till_more flight key e n xs ys zs h one = let more : n + 1 ≡ suc n = omega arith in rw more (till_suc flight key e n xs ys zs h one)

pub till_whole : (flight : ℕ) (key : Query) (e : Ending) (n : ℕ) (xs ys : List Fetch) → length xs ≤ n → SettlesTill flight key e n xs ys → AllSettle flight key e xs ys
till_whole flight key e n [] [] le h = tt
till_whole flight key e n [] (y ∷ ys) le h = h
till_whole flight key e n (x ∷ xs) [] le h = h
till_whole flight key e zero (x ∷ xs) (y ∷ ys) le h = absurd (omega (arith, le))
till_whole flight key e (suc n) (x ∷ xs) (y ∷ ys) le h = let left : length xs ≤ n = omega (arith, le) in (h.0, till_whole flight key e n xs ys left h.1)

-- the next flight

pub begin_here : (l : LoadedFiles) (lane : ℕ) (journal : List Entry) (ts : List StartedOf) (n : ℕ) (t : StartedOf) → slice_get ts n ≡ Some t → CanBegin l lane journal (drop n ts) → CanBeginWith l lane journal t
begin_here l lane journal [] n t at h = let no : ⊥ = cc in absurd no
begin_here l lane journal (u ∷ ts) zero t at h = let same : u ≡ t = cc in rw (← same) h
begin_here l lane journal (u ∷ ts) (suc n) t at h = begin_here l lane journal ts n t at h

pub next_some : (L : Type 0) (l : LoadedFiles) (lane : ℕ) (journal : List Entry) (ts : List StartedOf) (n : ℕ) (t : StartedOf) (b : BringingOf) → slice_get ts n ≡ Some t → b ≡ beginning l lane journal t.flight
    → IsNext {L = L} l lane journal (drop n ts) (current.Group b)
next_some L l lane journal [] n t b at is = let no : ⊥ = cc in absurd no
next_some L l lane journal (u ∷ ts) zero t b at is = let same : u ≡ t = cc in is ∙ ap (λ (x : StartedOf). beginning l lane journal x.flight) (sym same)
next_some L l lane journal (u ∷ ts) (suc n) t b at is = next_some L l lane journal ts n t b at is

pub next_none : (L : Type 0) (l : LoadedFiles) (lane : ℕ) (journal : List Entry) (ts : List StartedOf) (n : ℕ) → slice_get ts n ≡ None → IsNext {L = L} l lane journal (drop n ts) current.Free
next_none L l lane journal [] zero at = tt
next_none L l lane journal [] (suc n) at = tt
next_none L l lane journal (u ∷ ts) zero at = let no : ⊥ = cc in absurd no
next_none L l lane journal (u ∷ ts) (suc n) at = next_none L l lane journal ts n at

-- none waits

some_waits : (xs : List Fetch) (n flight : ℕ) → IsFirstWait xs n flight → none_waits xs ≡ false
some_waits [] n flight h = absurd h
some_waits (x ∷ xs) zero flight h = rw h refl
some_waits (x ∷ xs) (suc n) flight h = rw (h.0) (some_waits xs n flight h.1)

not_true : (b : Bool) → true ≡ not b → b ≡ false
not_true true e = let no : ⊥ = cc in absurd no
not_true false e = refl

not_false : (b : Bool) → false ≡ not b → b ≡ true
not_false true e = refl
not_false false e = let no : ⊥ = cc in absurd no

pub wait_none : (xs : List Fetch) (r : Option Wait) (b : Bool) → FirstWaits xs r → is_some r ≡ not b → b ≡ none_waits xs
wait_none xs None b h told = not_false b told ∙ sym h
wait_none xs (Some w) b h told = not_true b told ∙ sym (some_waits xs w.place w.flight h)

pub first_below : (xs : List Fetch) (n flight : ℕ) → IsFirstWait xs n flight → n < length xs
first_below [] n flight h = absurd h
first_below (x ∷ xs) zero flight h = omega arith
first_below (x ∷ xs) (suc n) flight h = let lt = first_below xs n flight h.1 in omega (arith, lt)

pub got_below : {X : Type 0} (xs : List X) (n : ℕ) (x : X) → slice_get xs n ≡ Some x → n < length xs
got_below [] n x at = let no : ⊥ = cc in absurd no
got_below (y ∷ xs) zero x at = omega arith
got_below (y ∷ xs) (suc n) x at = let lt = got_below xs n x at in omega (arith, lt)

-- Where a text stands among others.
use Rattle.std.proofs.Common.{◌≡◌, ℕ, ◌+◌, ◌-◌, ◌<◌, ◌≤◌, Bool, true, false, cond, ◌||◌, List, [], ◌∷◌, ◌++◌, map, length, slice_get, option_map, Some, None, refl, sym, ap, ◌∙◌, subst, arith, get_or, nat_eq, nat_lt, true≢false, ◌⊎◌, inl, inr}
use Rattle.std.specs.List.{list_any, position, position_or_len}
use Rattle.std.specs.Str.{bytes_eq}
use Rattle.std.specs.Cmp.Lexicographic.{bytes_decides}
use Rattle.std.proofs.lemmas.List.Sums.{passes_at_first}
use Rattle.std.proofs.lemmas.Option.{slice_get_cases, slice_get-map}
use Rattle.dq_column.specs.Stored.{AreDifferent}

pub not_zero : (n : ℕ) → nat_eq (n + 1) 0 ≡ false
not_zero n = grind arith

pub less_one : (n : ℕ) → (n + 1) - 1 ≡ n
less_one n = omega arith

pub any_map : {X Y : Type 0} (p : Y → Bool) (f : X → Y) (xs : List X) → list_any p (map f xs) ≡ list_any (λ x. p (f x)) xs
any_map p f [] = refl
any_map p f (x ∷ xs) = ap (λ b. p (f x) || b) (any_map p f xs)

pub same_bytes : (s t : List ℕ) → bytes_eq s t ≡ true → s ≡ t
same_bytes s t e = (bytes_decides s t).0 e

pub eq_itself : (t : List ℕ) → bytes_eq t t ≡ true
eq_itself t = (bytes_decides t t).1 refl

turned : (b c : Bool) (s t : List ℕ) → bytes_eq s t ≡ b → bytes_eq t s ≡ c → b ≡ c
turned true true s t e f = refl
turned true false s t e f = absurd (true≢false (sym (subst (λ u. bytes_eq u s ≡ true) (same_bytes s t e) (eq_itself s)) ∙ f))
turned false true s t e f = absurd (true≢false (sym (subst (λ u. bytes_eq u t ≡ true) (same_bytes t s f) (eq_itself t)) ∙ e))
turned false false s t e f = refl

pub eq_turned : (s t : List ℕ) → bytes_eq s t ≡ bytes_eq t s
eq_turned s t = turned (bytes_eq s t) (bytes_eq t s) s t refl refl

pub passing : {X : Type 0} (p : X → Bool) (xs : List X) (i : ℕ) → position_or_len p xs ≡ i → position_or_len p xs < length xs
    → ((x : X) × (i < length xs) × (slice_get xs i ≡ Some x) × (get_or xs i x ≡ x)) ⊎ ((length xs ≤ i) × (slice_get xs i ≡ None))
    → (x : X) × (slice_get xs i ≡ Some x) × (p x ≡ true)
passing p xs i e h (inl r) = (r.0, r.2, ap p (sym r.3) ∙ ap (λ k. p (get_or xs k r.0)) (sym e) ∙ passes_at_first p xs r.0 h)
passing p xs i e h (inr r) = absurd (omega arith)

chosen : {X : Type 0} (p : X → Bool) (xs : List X) (i : ℕ) (b : Bool) → nat_lt (position_or_len p xs) (length xs) ≡ b → cond b (Some (position_or_len p xs)) None ≡ Some i
    → (x : X) × (slice_get xs i ≡ Some x) × (p x ≡ true)
chosen p xs i true h e =
    let at : position_or_len p xs ≡ i = cc in
    let within : position_or_len p xs < length xs = grind arith in
    passing p xs i at within (slice_get_cases xs i).1
chosen p xs i false h e = cc

-- what passes stands at the place that is found
pub found_at : {X : Type 0} (p : X → Bool) (xs : List X) (i : ℕ) → position p xs ≡ Some i → (x : X) × (slice_get xs i ≡ Some x) × (p x ≡ true)
found_at p xs i e = chosen p xs i (nat_lt (position_or_len p xs) (length xs)) refl e

pub mapped_at : {X : Type 0} (f : X → List ℕ) (text : List ℕ) (xs : List X) (i : ℕ) → position (λ x. bytes_eq text (f x)) xs ≡ Some i → slice_get (map f xs) i ≡ Some text
mapped_at f text xs i e =
    let r = found_at (λ x. bytes_eq text (f x)) xs i e in
    slice_get-map f xs i ∙ ap (option_map f) r.1 ∙ ap Some (sym (same_bytes text (f r.0) r.2))

pub or_none : (a b : Bool) → (a || b) ≡ false → (a ≡ false) × (b ≡ false)
or_none true b e = cc
or_none false b e = (refl, e)

any_push : {X : Type 0} (p : X → Bool) (xs : List X) (x : X) → list_any p xs ≡ false → p x ≡ false → list_any p (xs ++ x ∷ []) ≡ false
any_push p [] x e f = ap (λ b. b || false) f
any_push p (y ∷ ys) x e f =
    let r = or_none (p y) (list_any p ys) e in
    ap (λ b. b || list_any p (ys ++ x ∷ [])) r.0 ∙ any_push p ys x r.1 f

-- a new text is different from the others
pub different_push : (ts : List (List ℕ)) (t : List ℕ) → AreDifferent ts → list_any (bytes_eq t) ts ≡ false → AreDifferent (ts ++ t ∷ [])
different_push [] t a e = (refl, tt)
different_push (s ∷ ts) t a e =
    let r = or_none (bytes_eq t s) (list_any (bytes_eq t) ts) e in
    (any_push (bytes_eq s) ts t a.0 (eq_turned s t ∙ r.0), different_push ts t a.1 r.1)

pub map_push : {X Y : Type 0} (f : X → Y) (xs : List X) (x : X) → map f (xs ++ x ∷ []) ≡ map f xs ++ f x ∷ []
map_push f [] x = refl
map_push f (y ∷ ys) x = ap (λ zs. f y ∷ zs) (map_push f ys x)

-- the texts of a list to which one is put that isn't there
pub put_new : {X : Type 0} (f : X → List ℕ) (xs : List X) (x : X) → list_any (bytes_eq (f x)) (map f xs) ≡ false
    → map f (cond (list_any (λ y. bytes_eq (f x) (f y)) xs) xs (xs ++ x ∷ [])) ≡ map f xs ++ f x ∷ []
put_new f xs x n = ap (λ c. map f (cond c xs (xs ++ x ∷ []))) (sym (any_map (bytes_eq (f x)) f xs) ∙ n) ∙ map_push f xs x

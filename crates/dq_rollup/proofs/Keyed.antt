-- The keys of rows, and the rows of each key.
use Rattle.std.proofs.Common.{◌≡◌, ℕ, Bool, true, false, ◌||◌, cond, List, [], ◌∷◌, map, refl, ap, ◌∙◌, Some}
use Rattle.std.specs.Prelude.{slice_get}
use Rattle.std.specs.List.{filter, list_all, list_any}
use Rattle.std.specs.Ordering.{is_eq}
use Rattle.std.proofs.lemmas.Cmp.{eq_by_cmp_equiv}
use Rattle.dq_base.specs.Answers.{key_of, keys_of}
use Rattle.dq_base.specs.Dims.{Dimension}
use Rattle.dq_base.specs.Orders.{key_cmp}
use Rattle.dq_base.specs.Sets.{has}
use Rattle.dq_base.proofs.Exact.{exact_keys}
use Rattle.dq_base.proofs.SetLaws.{Each, each_set_of}
use Rattle.dq_base.proofs.SetTests.{any_set_of}
use Rattle.dq_base.specs.declared.value.Value.{Value}
use Rattle.dq_cover.proofs.CoverLaws.{all_self, all_weaker, and_left, and_right}
use Rattle.dq_fold.proofs.Grouped.{keys_total}

pub each_of_all : {X : Type 0} (t : X → Bool) (xs : List X) → list_all t xs ≡ true → Each (λ x. t x ≡ true) xs
each_of_all t [] e = tt
each_of_all t (x ∷ xs) e = (and_left (t x) _ e, each_of_all t xs (and_right (t x) _ e))

pub each_mapped : {X Y : Type 0} (P : Y → Type 0) (f : X → Y) (xs : List X) → Each (λ x. P (f x)) xs → Each P (map f xs)
each_mapped P f [] e = tt
each_mapped P f (x ∷ xs) e = (e.0, each_mapped P f xs e.1)

pub each_then : {X : Type 0} (P Q : X → Type 0) → ((x : X) → P x → Q x) → (xs : List X) → Each P xs → Each Q xs
each_then P Q h [] e = tt
each_then P Q h (x ∷ xs) e = (h x e.0, each_then P Q h xs e.1)

pub any_mapped : {X Y : Type 0} (t : Y → Bool) (f : X → Y) (xs : List X) → list_any t (map f xs) ≡ list_any (λ x. t (f x)) xs
any_mapped t f [] = refl
any_mapped t f (x ∷ xs) = ap (λ b. t (f x) || b) (any_mapped t f xs)

-- the key of some row
pub record IsReal (dims : List Dimension) (k : List Value) : Type 0 where
  pub row : List Value
  pub key : k ≡ key_of dims row

all_real : (dims : List Dimension) (rows : List (List Value)) → Each (λ r. IsReal dims (key_of dims r)) rows
all_real dims [] = tt
all_real dims (r ∷ rows) = (record { row = r; key = refl }, all_real dims rows)

pub keys_real : (dims : List Dimension) (rows : List (List Value)) → Each (IsReal dims) (keys_of dims rows)
keys_real [] rows = (record { row = []; key = refl }, tt)
keys_real (d ∷ dims) rows = each_set_of (IsReal (d ∷ dims)) key_cmp (map (key_of (d ∷ dims)) rows) (each_mapped (IsReal (d ∷ dims)) (key_of (d ∷ dims)) rows (all_real (d ∷ dims) rows))

-- whether some row has the key
abbrev pub has_row : List Dimension → List (List Value) → List Value → Bool
has_row dims rows k = list_any (λ r. is_eq (key_cmp k (key_of dims r))) rows

own_rows : (dims : List Dimension) (rows : List (List Value)) → list_all (λ r. has_row dims rows (key_of dims r)) rows ≡ true
own_rows dims rows = all_self (λ r s. is_eq (key_cmp (key_of dims r) (key_of dims s))) (λ r. (eq_by_cmp_equiv keys_total).refl (key_of dims r)) rows

-- where there is some dimension, each key is that of a row
pub keys_filled : (dims : List Dimension) (rows : List (List Value)) (i : ℕ) (d : Dimension) → slice_get dims i ≡ Some d → Each (λ k. has_row dims rows k ≡ true) (keys_of dims rows)
keys_filled [] rows i d e = cc
keys_filled (x ∷ dims) rows i d e =
    each_set_of (λ k. has_row (x ∷ dims) rows k ≡ true) key_cmp (map (key_of (x ∷ dims)) rows)
    (each_mapped (λ k. has_row (x ∷ dims) rows k ≡ true) (key_of (x ∷ dims)) rows (each_of_all (λ r. has_row (x ∷ dims) rows (key_of (x ∷ dims) r)) rows (own_rows (x ∷ dims) rows)))

all_true : {X : Type 0} (xs : List X) → list_all (λ (x : X). true) xs ≡ true
all_true [] = refl
all_true (x ∷ xs) = all_true xs

has_key : (d : Dimension) (dims : List Dimension) (rows : List (List Value)) (k : List Value) → has key_cmp (keys_of (d ∷ dims) rows) k ≡ has_row (d ∷ dims) rows k
has_key d dims rows k = any_set_of (λ y. is_eq (key_cmp k y)) key_cmp exact_keys (map (key_of (d ∷ dims)) rows) ∙ any_mapped (λ y. is_eq (key_cmp k y)) (key_of (d ∷ dims)) rows

-- each row's key is among the keys
pub keys_complete : (dims : List Dimension) (rows : List (List Value)) → list_all (λ r. has key_cmp (keys_of dims rows) (key_of dims r)) rows ≡ true
keys_complete [] rows = all_true rows
keys_complete (d ∷ dims) rows =
    all_weaker (λ r. has_row (d ∷ dims) rows (key_of (d ∷ dims) r)) (λ r. has key_cmp (keys_of (d ∷ dims) rows) (key_of (d ∷ dims) r))
    (λ r h. has_key d dims rows (key_of (d ∷ dims) r) ∙ h) rows (own_rows (d ∷ dims) rows)

left_step : {X : Type 0} (b : Bool) (x : X) (rest : List X) (any : Bool) → (b || any) ≡ true → (any ≡ true → (y : X) × (ys : List X) × (rest ≡ y ∷ ys)) → (y : X) × (ys : List X) × (cond b (x ∷ rest) rest ≡ y ∷ ys)
left_step true x rest any e h = (x, rest, refl)
left_step false x rest any e h = h e

-- where some item passes, some is left
pub some_left : {X : Type 0} (t : X → Bool) (xs : List X) → list_any t xs ≡ true → (y : X) × (ys : List X) × (filter t xs ≡ y ∷ ys)
some_left t [] e = cc
some_left t (x ∷ xs) e = left_step (t x) x (filter t xs) (list_any t xs) e (some_left t xs)

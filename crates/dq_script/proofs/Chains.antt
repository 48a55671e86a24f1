-- What a part that was read says of its own parts.
use Rattle.std.proofs.Common.{◌≡◌, ℕ, ◌+◌, List, Bool, true, false, Option, Some, None, refl, ap, subst}
use Rattle.std.specs.Prelude.{◌&&◌, Ok, Err}
use Rattle.std.specs.Fmt.{decimal}
use Rattle.serde_json.specs.Data.{Data, Items, no_items, item}
use Rattle.serde_json.specs.Find.{as_array, get}
use Rattle.dq_script.specs.Arrays.{items_after, array_after}
use Rattle.dq_script.specs.Objects.{is_object, no_strangers, object_of, wanted, read_or, optional}
use Rattle.dq_script.specs.Readings.{Reading, given, provided, within, mapped, and_then, both, kept_if}

pub first_holds : (a b : Bool) → (a && b) ≡ true → a ≡ true
first_holds true b e = refl
first_holds false b e = e

pub second_holds : (a b : Bool) → (a && b) ≡ true → b ≡ true
second_holds true b e = e
second_holds false b e = cc e

pub same_Ok : {A : Type 0} (x y : A) → ◌≡◌ {A = Reading A} (Ok x) (Ok y) → x ≡ y
same_Ok x y e = cc e

pub and_then_ok : {A B P : Type 0} (f : A → Reading B) (r : Reading A) (y : B) → and_then f r ≡ Ok y → ((x : A) → r ≡ Ok x → f x ≡ Ok y → P) → P
and_then_ok f (Ok x) y e go = go x refl e
and_then_ok f (Err path) y e go = absurd (cc e)

pub mapped_ok : {A B P : Type 0} (f : A → B) (r : Reading A) (y : B) → mapped f r ≡ Ok y → ((x : A) → r ≡ Ok x → f x ≡ y → P) → P
mapped_ok f (Ok x) y e go = go x refl (same_Ok (f x) y e)
mapped_ok f (Err path) y e go = absurd (cc e)

pub within_ok : {A : Type 0} (step : List ℕ) (r : Reading A) (y : A) → within step r ≡ Ok y → r ≡ Ok y
within_ok step (Ok x) y e = e
within_ok step (Err path) y e = absurd (cc e)

pub provided_ok : {A : Type 0} (b : Bool) (r : Reading A) (y : A) → provided b r ≡ Ok y → r ≡ Ok y
provided_ok true r y e = e
provided_ok false r y e = absurd (cc e)

pub given_ok : {A : Type 0} (o : Option A) (y : A) → given o ≡ Ok y → o ≡ Some y
given_ok None y e = absurd (cc e)
given_ok (Some x) y e = ap Some (same_Ok x y e)

pub both_first : {A B : Type 0} (r : Reading A) (q : Reading B) (p : A × B) → both r q ≡ Ok p → r ≡ Ok p.0
both_first (Ok x) (Ok y) p e = ap Ok (ap (λ z. z.0) (same_Ok (x, y) p e))
both_first (Ok x) (Err path) p e = absurd (cc e)
both_first (Err path) q p e = absurd (cc e)

pub both_second : {A B : Type 0} (r : Reading A) (q : Reading B) (p : A × B) → both r q ≡ Ok p → q ≡ Ok p.1
both_second (Ok x) (Ok y) p e = ap Ok (ap (λ z. z.1) (same_Ok (x, y) p e))
both_second (Ok x) (Err path) p e = absurd (cc e)
both_second (Err path) q p e = absurd (cc e)

-- what each item keeps holds of an array that was read
pub kept-after : {S : Type 0} (P : S → Type 0) (next : S → Data → Reading S) → ((s t : S) (d : Data) → next s d ≡ Ok t → P s → P t)
    → (ds : Items) (place : ℕ) (s t : S) → items_after next place s ds ≡ Ok t → P s → P t
kept-after P next step no_items place s t e p = subst P (same_Ok s t e) p
kept-after P next step (item d ds) place s t e p = and_then_ok (λ u. items_after next (place + 1) u ds) (within (decimal place) (next s d)) t e (λ u was more.
    kept-after P next step ds (place + 1) u t more (step s u d (within_ok (decimal place) (next s d) u was) p))

pub array-made : {S : Type 0} (P : S → Type 0) (next : S → Data → Reading S) → ((s t : S) (d : Data) → next s d ≡ Ok t → P s → P t)
    → (s t : S) (d : Data) → array_after next s d ≡ Ok t → P s → P t
array-made P next step s t d e p = and_then_ok (items_after next 0 s) (given (as_array d)) t e (λ ds array items. kept-after P next step ds 0 s t items p)

-- an object that was read is what its parts are
pub object-made : {A : Type 0} (P : A → Type 0) (names : List (List ℕ)) (parts : Reading A) (d : Data) (x : A) → object_of names parts d ≡ Ok x → ((y : A) → parts ≡ Ok y → P y) → P x
object-made P names parts d x e go =
    and_then_ok (λ y. mapped (λ u. y) (no_strangers names d)) parts x (provided_ok (is_object d) (and_then (λ y. mapped (λ u. y) (no_strangers names d)) parts) x e) (λ y read same.
    mapped_ok (λ u. y) (no_strangers names d) x same (λ u none is. subst P is (go y read)))

pub wanted-made : {A : Type 0} (P : A → Type 0) (name : List ℕ) (read : Data → Reading A) (d : Data) (x : A) → wanted name read d ≡ Ok x → ((y : Data) → read y ≡ Ok x → P x) → P x
wanted-made P name read d x e go = and_then_ok read (given (get name d)) x (within_ok name (and_then read (given (get name d))) x e) (λ y found is. go y is)

read-made : {A : Type 0} (P : A → Type 0) (other : A) (read : Data → Reading A) (o : Option Data) (x : A) → read_or other read o ≡ Ok x → P other → ((y : Data) → read y ≡ Ok x → P x) → P x
read-made P other read None x e usual go = subst P (same_Ok other x e) usual
read-made P other read (Some y) x e usual go = go y e

pub optional-made : {A : Type 0} (P : A → Type 0) (other : A) (name : List ℕ) (read : Data → Reading A) (d : Data) (x : A) → optional other name read d ≡ Ok x → P other → ((y : Data) → read y ≡ Ok x → P x) → P x
optional-made P other name read d x e usual go = read-made P other read (get name d) x (within_ok name (read_or other read (get name d)) x e) usual go

-- How many steps publish.
use Rattle.std.proofs.Common.{◌≡◌, ◌<◌, ◌≤◌, ℕ, ◌+◌, ◌-◌, List, [], ◌∷◌, ◌++◌, length, take, drop, get_or, refl, ap, sym, ◌∙◌, arith, length-append, true, false, Bool}
use Rattle.std.proofs.lemmas.Grind.{flat_map-append}
use Rattle.std.proofs.lemmas.List.{append-nil, take_more, take-append-drop}
use Rattle.std.specs.List.{flat_map}
use Rattle.std.specs.Prelude.{slice_get, Some, None, nat_eq, if◌then◌else◌}
use Rattle.dq_base.specs.Headings.{Heading}
use Rattle.dq_base.specs.Scripts.{numbered}
use Rattle.dq_base.specs.Versions.{Version}
use Rattle.dq_extract.specs.Loads.{AreOf}

-- one more item
pub length-flat_map-more : {X A : Type 0} (f : X → List A) (xs : List X) (i : ℕ) (d : X) → i < length xs
    → length (flat_map f (take (i + 1) xs)) ≡ length (flat_map f (take i xs)) + length (f (get_or xs i d))
length-flat_map-more f xs i d lt =
    ap (λ ys. length (flat_map f ys)) (take_more xs i d lt)
    ∙ ap length (flat_map-append f (take i xs) (get_or xs i d ∷ []) ∙ ap (λ ys. flat_map f (take i xs) ++ ys) (append-nil (f (get_or xs i d))))
    ∙ length-append (flat_map f (take i xs)) (f (get_or xs i d))

-- the first items give no more than all
pub length-flat_map-take : {X A : Type 0} (f : X → List A) (xs : List X) (n : ℕ) → length (flat_map f (take n xs)) ≤ length (flat_map f xs)
length-flat_map-take f xs n =
    let parts = ap (λ ys. length (flat_map f ys)) (sym (take-append-drop n xs)) ∙ ap length (flat_map-append f (take n xs) (drop n xs))
    ∙ length-append (flat_map f (take n xs)) (flat_map f (drop n xs)) in
    omega (arith, parts)

item_there : {X : Type 0} (zero_number : Bool) (items : List X) (place : ℕ) (x : X) → (if zero_number then None else slice_get items place) ≡ Some x → slice_get items place ≡ Some x
item_there true items place x is = cc
item_there false items place x is = is

pub numbered-there : {X : Type 0} (items : List X) (number : ℕ) (x : X) → numbered items number ≡ Some x → slice_get items (number - 1) ≡ Some x
numbered-there items number x is = item_there (nat_eq number 0) items (number - 1) x is

-- as many segments as sources
pub AreOf-length : (headings : List Heading) (sources : List ℕ) (segments : List Version) → AreOf headings sources segments → length sources ≡ length segments
AreOf-length headings [] [] fit = refl
AreOf-length headings [] (v ∷ segments) fit = absurd fit
AreOf-length headings (source ∷ sources) [] fit = absurd fit
AreOf-length headings (source ∷ sources) (v ∷ segments) fit = let rest = AreOf-length headings sources segments fit.1 in omega arith

-- The numbers of the valid zones, and the texts of queries.
use Rattle.std.proofs.Common.{◌≡◌, ℕ, suc, ◌+◌, ◌<◌, ◌≤◌, Bool, true, false, List, [], ◌∷◌, ◌++◌, length, map, take, drop, get_or, refl, ap, sym, ◌∙◌, arith, append_assoc, drop-cons}
use Rattle.std.specs.Prelude.{if◌then◌else◌}
use Rattle.std.proofs.lemmas.List.{take_all, take_more, map-append}
use Rattle.dq_base.specs.Headings.{Heading}
use Rattle.dq_base.specs.declared.query.Query.{Query}
use Rattle.dq_machine.specs.Preparing.{is_valid}
use Rattle.dq_machine.specs.Owning.{valid_places}
use Rattle.dq_zones.specs.Numbering.{numbers_from}

-- one zone more

numbers_by : (b : Bool) (n : ℕ) (ms : List ℕ) → map (λ k. k + 1) (if b then n ∷ ms else ms) ≡ map (λ k. k + 1) (if b then n ∷ [] else []) ++ map (λ k. k + 1) ms
numbers_by true n ms = refl
numbers_by false n ms = refl

pub numbers_more : (schemas : List Heading) (zones : List Query) (i : ℕ) (q : Query) (whole before after : List ℕ) → i < length zones → q ≡ get_or zones i q
    → whole ≡ before ++ numbers_from schemas i (drop i zones) → after ≡ before ++ numbers_from schemas i (q ∷ []) → whole ≡ after ++ numbers_from schemas (i + 1) (drop (i + 1) zones)
numbers_more schemas zones i q whole before after l e is more =
    let n : suc i ≡ i + 1 = omega arith in
    let rest = numbers_from schemas (i + 1) (drop (suc i) zones) in
    is
    ∙ ap (λ zs. before ++ numbers_from schemas i zs) (drop-cons zones i q l ∙ ap (λ z. z ∷ drop (suc i) zones) (sym e))
    ∙ ap (λ ys. before ++ ys) (numbers_by (is_valid schemas q) i (valid_places schemas (i + 1) (drop (suc i) zones)))
    ∙ sym (append_assoc before (numbers_from schemas i (q ∷ [])) rest)
    ∙ ap (λ ys. ys ++ rest) (sym more)
    ∙ ap (λ k. after ++ numbers_from schemas (i + 1) (drop k zones)) n

-- one item more of a list that is mapped
pub mapped_more : {X Y : Type 0} (f : X → Y) (xs : List X) (i : ℕ) (x : X) (before after : List Y) → i < length xs → x ≡ get_or xs i x
    → before ≡ map f (take i xs) → after ≡ before ++ f x ∷ [] → after ≡ map f (take (i + 1) xs)
mapped_more f xs i x before after l e is more =
    more
    ∙ ap (λ ys. ys ++ f x ∷ []) is
    ∙ sym (map-append f (take i xs) (x ∷ []))
    ∙ ap (map f) (ap (λ y. take i xs ++ y ∷ []) e ∙ sym (take_more xs i x l))

mapped_twice : {X Y Z : Type 0} (f : X → Y) (g : Y → Z) (xs : List X) → map (λ x. g (f x)) xs ≡ map g (map f xs)
mapped_twice f g [] = refl
mapped_twice f g (x ∷ xs) = ap (λ ys. g (f x) ∷ ys) (mapped_twice f g xs)

-- and the end
pub mapped_end : {X Y Z : Type 0} (f : X → Y) (g : Y → Z) (xs : List X) (i : ℕ) (ys : List Y) (done : List Z) → length xs ≤ i → map f xs ≡ ys
    → done ≡ map (λ x. g (f x)) (take i xs) → done ≡ map g ys
mapped_end f g xs i ys done le items is = is ∙ ap (map (λ x. g (f x))) (take_all i xs le) ∙ mapped_twice f g xs ∙ ap (map g) items

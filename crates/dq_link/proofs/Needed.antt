-- The lists that a query needs.
use Rattle.std.proofs.Common.{◌≡◌, Bool, true, false, cond, List, [], ◌∷◌, ◌++◌, refl, arith, ap, sym, ◌∙◌}
use Rattle.std.specs.Prelude.{◌||◌, Some, option_map, unwrap_or}
use Rattle.std.specs.List.{find, flat_map, list_any}
use Rattle.dq_base.specs.declared.value.Value.{Value}
use Rattle.dq_text.specs.Said.{Tables, table_of}
use Rattle.dq_link.specs.Mirrors.{alike}

pub any-append : {X : Type 0} (test : X → Bool) (xs ys : List X) → list_any test (xs ++ ys) ≡ (list_any test xs || list_any test ys)
any-append test [] ys = refl
any-append test (x ∷ xs) ys = grind (arith, any-append test xs ys)

pub any-flat_map : {X Y : Type 0} (test : Y → Bool) (f : X → List Y) (xs : List X) → list_any (λ x. list_any test (f x)) xs ≡ list_any test (flat_map f xs)
any-flat_map test f [] = refl
any-flat_map test f (x ∷ xs) = ap (λ b. list_any test (f x) || b) (any-flat_map test f xs) ∙ sym (any-append test (f x) (flat_map f xs))

-- the table of a list, as it is found
pub table_by_find : (ts : Tables) (list : List Value) → table_of ts list ≡ unwrap_or (option_map (λ t. t.0) (find (λ t. alike t.1 list) ts)) 0
table_by_find [] list = refl
table_by_find (t ∷ ts) list =
    let by : (b : Bool) → cond b t.0 (table_of ts list) ≡ unwrap_or (option_map (λ u. u.0) (cond b (Some t) (find (λ u. alike u.1 list) ts))) 0 =
    elim [ true ↦ refl | false ↦ table_by_find ts list ] in
    by (alike t.1 list)

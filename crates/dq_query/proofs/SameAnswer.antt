-- A query and its canonical form have one answer.
use Rattle.std.proofs.Common.{◌≡◌, ℤ, Bool, true, false, not, ◌||◌, ◌&&◌, List, [], ◌∷◌, map, refl, sym, ap, ◌∙◌, Option, Some, None, arith}
use Rattle.std.specs.Prelude.{int_lt, int_le, if◌then◌else◌}
use Rattle.std.specs.List.{list_any, list_all}
use Rattle.std.specs.declared.cmp.Ordering.{Ordering}
use Rattle.std.specs.declared.cmp.Ordering.TheVariants.{Equal}
use Rattle.std.specs.Ordering.{is_eq}
use Rattle.std.proofs.lemmas.Int.{ints}
use Rattle.std.proofs.lemmas.List.Folds.{list_all-map}
use Rattle.std.proofs.lemmas.List.Elements.{filter_agree}
use Rattle.dq_base.specs.Orders.{value_cmp}
use Rattle.dq_base.specs.Filters.{holds, keeps, kept, value_at, lies_between}
use Rattle.dq_base.specs.Answers.{answer, first_rows, group_row, keys_of, row_cmp}
use Rattle.dq_base.specs.Canonical.{canonical, canonical_bounds, canonical_test, canonical_predicate, predicate_cmp}
use Rattle.dq_base.specs.Sets.{set_of, has, ascending}
use Rattle.dq_base.proofs.SetTests.{any_set_of}
use Rattle.dq_base.proofs.Exact.{exact_values, exact_predicates}
use Rattle.dq_base.specs.declared.value.Value.{Value}
use Rattle.dq_base.specs.declared.value.Value.TheVariants.{Null, Int, Word}
use Rattle.dq_base.specs.declared.predicate.Test.{Test}
use Rattle.dq_base.specs.declared.predicate.Test.TheVariants.{Among, Except, Between}
use Rattle.dq_base.specs.declared.predicate.Predicate.{Predicate}
use Rattle.dq_base.specs.declared.query.Query.{Query}

not_or : (a b : Bool) → (a && not b) ≡ not (not a || b)
not_or true true = refl
not_or true false = refl
not_or false true = refl
not_or false false = refl

all_is : {X : Type 0} (p : X → Bool) (xs : List X) → list_all p xs ≡ not (list_any (λ x. not (p x)) xs)
all_is p [] = refl
all_is p (x ∷ xs) = ap (λ b. p x && b) (all_is p xs) ∙ not_or (p x) (list_any (λ y. not (p y)) xs)

all_set_of : {X : Type 0} (p : X → Bool) (cmp : X → X → Ordering) → ((x y : X) → cmp x y ≡ Equal → x ≡ y) → (xs : List X) → list_all p (set_of cmp xs) ≡ list_all p xs
all_set_of p cmp exact xs = all_is p (set_of cmp xs) ∙ ap not (any_set_of (λ x. not (p x)) cmp exact xs) ∙ sym (all_is p xs)

all_agree : {X : Type 0} (p q : X → Bool) → ((x : X) → p x ≡ q x) → (xs : List X) → list_all p xs ≡ list_all q xs
all_agree p q h [] = refl
all_agree p q h (x ∷ xs) = ap (λ b. b && list_all p xs) (h x) ∙ ap (λ b. q x && b) (all_agree p q h xs)

has_set_of : (list : List Value) (v : Value) → has value_cmp (set_of value_cmp list) v ≡ has value_cmp list v
has_set_of list v = any_set_of (λ w. is_eq (value_cmp v w)) value_cmp exact_values list

-- where the upper bound is below the lower one no number is within both
between_none : (low high n : ℤ) → int_lt high low ≡ true → false ≡ (int_le low n && int_le n high)
between_none low high n e = grind (arith, ints)

bounds_chosen : (b : Bool) (low high : ℤ) (v : Value) → int_lt high low ≡ b → holds (if b then Among [] else Between (Some low) (Some high)) v ≡ lies_between (Some low) (Some high) v
bounds_chosen true low high Null e = refl
bounds_chosen true low high (Int n) e = between_none low high n e
bounds_chosen true low high (Word t) e = refl
bounds_chosen false low high v e = refl

bounds_same : (low high : Option ℤ) (v : Value) → holds (canonical_bounds low high) v ≡ lies_between low high v
bounds_same None high v = refl
bounds_same (Some low) None v = refl
bounds_same (Some low) (Some high) v = bounds_chosen (int_lt high low) low high v refl

test_same : (t : Test) (v : Value) → holds (canonical_test t) v ≡ holds t v
test_same (Among list) v = has_set_of list v
test_same (Except list) v = ap not (has_set_of list v)
test_same (Between low high) v = bounds_same low high v

keeps_same : (q : Query) (row : List Value) → keeps (canonical q) row ≡ keeps q row
keeps_same q row =
    let p : Predicate → Bool = λ f. holds f.test (value_at row f.column) in
    all_set_of p predicate_cmp exact_predicates (map canonical_predicate q.filters)
    ∙ list_all-map p canonical_predicate q.filters
    ∙ all_agree (λ f. p (canonical_predicate f)) p (λ f. test_same f.test (value_at row f.column)) q.filters

kept_same : (q : Query) (rows : List (List Value)) → kept (canonical q) rows ≡ kept q rows
kept_same q rows = filter_agree (keeps (canonical q)) (keeps q) (keeps_same q) rows

pub same_answer : (q : Query) (rows : List (List Value)) → answer (canonical q) rows ≡ answer q rows
same_answer q rows = ap (λ found. first_rows q.top (ascending (row_cmp q) (map (group_row q found) (keys_of q.dims found)))) (kept_same q rows)

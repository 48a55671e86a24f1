-- The statement that is said of a mirror means its query.
use Rattle.std.proofs.Common.{◌≡◌, ℕ, ◌+◌, ◌≤◌, Bool, true, false, cond, List, [], ◌∷◌, ◌++◌, length, Option, Some, refl, arith, ◌∙◌, ap, eq-eqb}
use Rattle.std.proofs.lemmas.Bool.Decides.{nat_tests}
use Rattle.std.specs.Prelude.{◌||◌, map, nat_eq, nat_le, option_map}
use Rattle.std.specs.Option.{option_and_then}
use Rattle.std.specs.List.{AllByRecursion, find}
use Rattle.dq_base.specs.declared.value.Value.{Value}
use Rattle.dq_base.specs.declared.predicate.Predicate.{Predicate}
use Rattle.dq_base.specs.declared.predicate.Test.{Test}
use Rattle.dq_base.specs.declared.predicate.Test.TheVariants as test
use Rattle.dq_base.specs.declared.query.Query.{Query}
use Rattle.dq_text.specs.Said.{Tables, resolved, resolved_filters, resolved_list, resolved_predicate, resolved_test, said, said_list, said_predicate, said_test, table_of}
use Rattle.dq_text.specs.declared.statement.Listed.TheVariants.{Spelled, Named}
use Rattle.dq_link.specs.Mirrors.{AreNumbered, IsMirrored, Mirror, alike, is_held, lists_in, long_list, long_lists}
use Rattle.dq_link.specs.Mounts.{Holdings, Mounts}
use Rattle.dq_link.specs.Pairs.{lookup}
use Rattle.dq_link.proofs.Held.{alike_same}

-- the table that a held list is named by holds it
table_above : (first end : ℕ) (ts : Tables) (list : List Value) → AreNumbered first end ts → is_held ts list ≡ true → first ≤ table_of ts list
table_above first end [] list h e = cc
table_above first end (t ∷ ts) list h e =
    let by : (b : Bool) → (b || is_held ts list) ≡ true → first ≤ cond b t.0 (table_of ts list) =
    elim [
      | true ↦ λ (k : true ≡ true). h.0
      | false ↦ λ (k : is_held ts list ≡ true). omega (arith, h.0, table_above (t.0 + 1) end ts list h.1 k)
    ] in
    by (alike t.1 list) e

apart : (a b : ℕ) → a + 1 ≤ b → nat_eq a b ≡ false
apart a b h = grind (arith, nat_tests)

pub table_found : (first end : ℕ) (ts : Tables) (list : List Value) → AreNumbered first end ts → is_held ts list ≡ true → lookup ts (table_of ts list) ≡ Some list
table_found first end [] list h e = cc
table_found first end (t ∷ ts) list h e =
    let at : ℕ → Bool → Option (List Value) = λ (n : ℕ) (c : Bool). option_map (λ p. p.1) (cond c (Some t) (find (λ p. nat_eq p.0 n) ts)) in
    let by : (b : Bool) → alike t.1 list ≡ b → (b || is_held ts list) ≡ true → lookup (t ∷ ts) (cond b t.0 (table_of ts list)) ≡ Some list =
    elim [
      | true ↦ λ (same : alike t.1 list ≡ true) (k : true ≡ true). ap (at t.0) (eq-eqb t.0 t.0 refl) ∙ ap Some (alike_same t.1 list same)
      | false ↦ λ (other : alike t.1 list ≡ false) (k : is_held ts list ≡ true). ap (at (table_of ts list)) (apart t.0 (table_of ts list) (table_above (t.0 + 1) end ts list h.1 k)) ∙ table_found (t.0 + 1) end ts list h.1 k
    ] in
    by (alike t.1 list) refl e

module _ (mounts : Mounts) (tables : Holdings) (m : Mirror) (i : IsMirrored mounts tables m) where
  abbrev Held : List Value → Type 0
  Held list = is_held m.tables list ≡ true

  list_by : (list : List Value) (b : Bool) → AllByRecursion Held (cond b [] (list ∷ [])) → resolved_list tables (cond b (Spelled list) (Named (table_of m.tables list))) ≡ Some list
  list_by list true h = refl
  list_by list false h = i.lists (table_of m.tables list) ∙ table_found 1 m.next m.tables list i.numbered h.0

  list_resolved : (list : List Value) → AllByRecursion Held (long_list list) → resolved_list tables (said_list m.tables list) ≡ Some list
  list_resolved list h = list_by list (nat_le (length list) 16) h

  test_resolved : (t : Test) → AllByRecursion Held (long_lists t) → resolved_test tables (said_test m.tables t) ≡ Some t
  test_resolved (test.Among list) h = ap (option_map test.Among) (list_resolved list h)
  test_resolved (test.Except list) h = ap (option_map test.Except) (list_resolved list h)
  test_resolved (test.Between low high) h = refl

  predicate_resolved : (p : Predicate) → AllByRecursion Held (long_lists p.test) → resolved_predicate tables (said_predicate m.tables p) ≡ Some p
  predicate_resolved p h = ap (option_map (λ t. record { column = p.column; test = t })) (test_resolved p.test h)

  front : (xs ys : List (List Value)) → AllByRecursion Held (xs ++ ys) → AllByRecursion Held xs
  front [] ys h = tt
  front (x ∷ xs) ys h = (h.0, front xs ys h.1)

  back : (xs ys : List (List Value)) → AllByRecursion Held (xs ++ ys) → AllByRecursion Held ys
  back [] ys h = h
  back (x ∷ xs) ys h = back xs ys h.1

  filters_resolved : (ps : List Predicate) → AllByRecursion Held (lists_in ps) → resolved_filters tables (map (said_predicate m.tables) ps) ≡ Some ps
  filters_resolved [] h = refl
  filters_resolved (p ∷ ps) h =
      let one : resolved_predicate tables (said_predicate m.tables p) ≡ Some p = predicate_resolved p (front (long_lists p.test) (lists_in ps) h) in
      let more : resolved_filters tables (map (said_predicate m.tables) ps) ≡ Some ps = filters_resolved ps (back (long_lists p.test) (lists_in ps) h) in
      ap (option_and_then (λ one. option_map (λ more. one ∷ more) (resolved_filters tables (map (said_predicate m.tables) ps)))) one
      ∙ ap (option_map (λ more. p ∷ more)) more

  pub said_resolved : (stamp : ℕ) (q : Query) → AllByRecursion Held (lists_in q.filters) → resolved tables (said m.tables stamp q) ≡ Some q
  said_resolved stamp q h =
      ap (option_map (λ filters. record { source = q.source; filters = filters; dims = q.dims; measures = q.measures; order = q.order; top = q.top })) (filters_resolved q.filters h)

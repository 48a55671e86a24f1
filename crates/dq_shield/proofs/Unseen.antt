-- More filters, or fewer rows: the answer is the same.
use Rattle.std.proofs.Common.{◌≡◌, ℕ, Bool, true, false, ◌&&◌, cond, List, [], ◌∷◌, ◌++◌, map, refl, sym, ap, ◌∙◌}
use Rattle.std.specs.List.{filter}
use Rattle.std.proofs.lemmas.List.Elements.{filter_agree}
use Rattle.std.proofs.lemmas.List.Folds.{list_all-append}
use Rattle.dq_base.specs.Answers.{answer, first_rows, group_row, keys_of, row_cmp}
use Rattle.dq_base.specs.Filters.{holds, kept, passes, value_at}
use Rattle.dq_base.specs.Sessions.{filters_for, shielded_query, visible}
use Rattle.dq_base.specs.Sets.{ascending}
use Rattle.dq_base.specs.declared.predicate.Predicate.{Predicate}
use Rattle.dq_base.specs.declared.query.Query.{Query}
use Rattle.dq_base.specs.declared.script.Session.{Session}
use Rattle.dq_base.specs.declared.value.Value.{Value}

kept_by : {X : Type 0} (p : X → Bool) (a b : Bool) (x : X) (both once : List X) → p x ≡ a → both ≡ filter p once
    → cond (a && b) (x ∷ both) both ≡ filter p (cond b (x ∷ once) once)
kept_by p true true x both once e h = ap (λ xs. x ∷ xs) h ∙ ap (λ c. cond c (x ∷ filter p once) (filter p once)) (sym e)
kept_by p true false x both once e h = h
kept_by p false true x both once e h = h ∙ ap (λ c. cond c (x ∷ filter p once) (filter p once)) (sym e)
kept_by p false false x both once e h = h

filter_both : {X : Type 0} (p q : X → Bool) (xs : List X) → filter (λ x. p x && q x) xs ≡ filter p (filter q xs)
filter_both p q [] = refl
filter_both p q (x ∷ xs) = kept_by p (p x) (q x) x (filter (λ y. p y && q y) xs) (filter q xs) refl (filter_both p q xs)

passes_both : (own more : List Predicate) (row : List Value) → passes (own ++ more) row ≡ (passes own row && passes more row)
passes_both own more row = list_all-append (λ p. holds p.test (value_at row p.column)) own more

kept_more : (q : Query) (more : List Predicate) (rows : List (List Value)) → kept (record q { filters = q.filters ++ more }) rows ≡ kept q (visible more rows)
kept_more q more rows =
    filter_agree (passes (q.filters ++ more)) (λ row. passes q.filters row && passes more row) (passes_both q.filters more) rows
    ∙ filter_both (passes q.filters) (passes more) rows

pub answer_hides : (q : Query) (more : List Predicate) (rows : List (List Value)) → answer (record q { filters = q.filters ++ more }) rows ≡ answer q (visible more rows)
answer_hides q more rows = ap (λ found. first_rows q.top (ascending (row_cmp q) (map (group_row q found) (keys_of q.dims found)))) (kept_more q more rows)

pub nothing_changes : (sessions : List Session) (lane : ℕ) (q : Query) (rows others : List (List Value))
    → visible (filters_for sessions lane q.source) rows ≡ visible (filters_for sessions lane q.source) others
    → answer (shielded_query sessions lane q) rows ≡ answer (shielded_query sessions lane q) others
nothing_changes sessions lane q rows others same =
    answer_hides q (filters_for sessions lane q.source) rows ∙ ap (answer q) same ∙ sym (answer_hides q (filters_for sessions lane q.source) others)

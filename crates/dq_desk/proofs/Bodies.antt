-- Looking up by the text of a query is looking up by the query.
use Rattle.std.proofs.Common.{◌≡◌, ℕ, Bool, true, false, ◌&&◌, List, [], ◌∷◌, refl, ap, sym, ◌∙◌}
use Rattle.std.proofs.lemmas.Bool.{eq-eqb, eqb-true}
use Rattle.std.specs.Cmp.Lexicographic.{pointwise}
use Rattle.std.specs.Prelude.{nat_eq}
use Rattle.dq_base.specs.Covering.{query_eq}
use Rattle.dq_base.specs.declared.query.Query.{Query}
use Rattle.dq_cache.specs.Entries.{BodiedOf, has_body}
use Rattle.dq_cover.proofs.CoverLaws.{exact_queries, query_same}
use Rattle.dq_machine.proofs.Reached.{and_both, and_first, and_second}
use Rattle.dq_machine.specs.Admitting.{has_same}
use Rattle.dq_machine.specs.State.{Publication}
use Rattle.dq_text.proofs.ToldWhole.{body_same}
use Rattle.dq_text.specs.Sizes.{IsSizedQuery}
use Rattle.dq_text.specs.Statements.{body}
use Rattle.dq_desk.specs.Kept.{IsBodied, shelved_in}

exact_texts : (xs ys : List ℕ) → pointwise nat_eq xs ys ≡ true → xs ≡ ys
exact_texts [] [] h = refl
exact_texts [] (y ∷ ys) h = cc
exact_texts (x ∷ xs) [] h = cc
exact_texts (x ∷ xs) (y ∷ ys) h =
    ap (λ (z : ℕ). z ∷ xs) (eqb-true x y (and_first (nat_eq x y) (pointwise nat_eq xs ys) h))
    ∙ ap (λ (zs : List ℕ). y ∷ zs) (exact_texts xs ys (and_second (nat_eq x y) (pointwise nat_eq xs ys) h))

text_same : (xs : List ℕ) → pointwise nat_eq xs xs ≡ true
text_same [] = refl
text_same (x ∷ xs) = and_both (nat_eq x x) (pointwise nat_eq xs xs) (eq-eqb x x refl) (text_same xs)

same_truth : (a b : Bool) → (a ≡ true → b ≡ true) → (b ≡ true → a ≡ true) → a ≡ b
same_truth true b there back = sym (there refl)
same_truth false true there back = back refl
same_truth false false there back = refl

-- queries have the same text exactly if they are equal
pub body-tells : (key q : Query) → IsSizedQuery key → IsSizedQuery q → pointwise nat_eq (body key) (body q) ≡ query_eq key q
body-tells key q sized asked =
    same_truth (pointwise nat_eq (body key) (body q)) (query_eq key q)
    (λ same. let is = body_same key q sized asked (exact_texts (body key) (body q) same) in rw is (query_same q))
    (λ same. let is = exact_queries key q same in rw is (text_same (body q)))

-- an answer is found by its query's text as by its query
pub has-body : (versions : List Publication) (stamp : ℕ) (q : Query) (b : BodiedOf) → IsSizedQuery q → IsBodied versions b
    → has_body stamp (body q) b ≡ has_same stamp q (shelved_in b)
has-body versions stamp q b asked h =
    ap (λ text. nat_eq b.entry.stamp stamp && pointwise nat_eq text (body q)) h.body
    ∙ ap (λ same. nat_eq b.entry.stamp stamp && same) (body-tells b.entry.key q h.sized asked)

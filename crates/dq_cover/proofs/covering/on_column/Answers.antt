use Rattle.std.proofs.Common.{◌≡◌, ◌&&◌, ◌-◌, ℕ, Bool, false, true, List, length, take, drop, nat_eq, ltb, leb, ap, ◌∙◌, arith, length-drop, take_all, rules}
use Rattle.std.specs.List.{list_any}
use Rattle.std.proofs.lemmas.Bool.Decides.{nat_tests}
use Rattle.std.proofs.lemmas.List.Sorted.{IsNonDecreasingBy-drop, IsNonDecreasingBy-take, IsPartitionPoint-from_clause, IsPartitionedBy-leb, IsPartitionedBy-ltb}
use Rattle.dq_base.specs.declared.predicate.Predicate.{Predicate}
use Rattle.dq_cover.proofs.Found.{none_before, none_from}
use Rattle.dq_cover.proofs.covering.on_column.Goals as goal

below : (a c : ℕ) (b : Bool) → ltb a c ≡ true → (nat_eq a c && b) ≡ false
below a c b h = grind (arith, nat_tests)

above : (a c : ℕ) (b : Bool) → leb a c ≡ false → (nat_eq a c && b) ≡ false
above a c b h = grind (arith, nat_tests)

pub returns : goal.returns
returns c t =
    let xs : List Predicate = c.args.filters.now in
    let first = c.partition_point-first.result in
    let ys : List Predicate = take (length xs - first) (drop first xs) in
    let p : Predicate → Bool = λ g. nat_eq g.column c.args.column && t g in
    let rest : length (drop first xs) ≡ length xs - first = length-drop first xs in
    let whole : ys ≡ drop first xs = take_all (length xs - first) (drop first xs) (omega arith) in
    let low = IsPartitionPoint-from_clause (λ f. ltb f.column c.args.column) _ _ c.partition_point-first.ensures.partitioned (IsPartitionedBy-ltb (λ f. f.column) xs c.args.column c.requires) (λ a r q k. search rules) in
    let high = IsPartitionPoint-from_clause (λ f. leb f.column c.args.column) _ _ c.partition_point-count.ensures.partitioned (IsPartitionedBy-leb (λ f. f.column) ys c.args.column (IsNonDecreasingBy-take (λ f. f.column) (length xs - first) (drop first xs) (IsNonDecreasingBy-drop (λ f. f.column) first xs c.requires))) (λ a r q k. search rules) in
    none_from p ys c.partition_point-count.result (λ k d l u. above _ _ _ (high.1 k d l u))
    ∙ ap (list_any p) whole
    ∙ none_before p xs first (λ k d l u. below _ _ _ (low.0 k d l u))

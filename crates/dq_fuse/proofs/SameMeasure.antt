-- Measures are equal where their kinds and columns are.
use Rattle.std.proofs.Common.{◌≡◌, Bool, true, false, ◌||◌, List, [], ◌∷◌, ◌++◌, map, refl, ap, ◌∙◌}
use Rattle.std.specs.Prelude.{if◌then◌else◌}
use Rattle.std.specs.List.{list_any}
use Rattle.std.proofs.lemmas.List.{map-append}
use Rattle.indexmap.specs.IndexSet.{insert_key}
use Rattle.dq_base.specs.Covering.{measure_eq}
use Rattle.dq_base.specs.Batches.{with_measure}
use Rattle.dq_fuse.specs.Shown.{tag_eq}
use Rattle.dq_fuse.specs.declared.union.Shown.{Shown}
use Rattle.dq_base.specs.declared.query.Measure.{Measure}
use Rattle.dq_base.specs.declared.query.Measure.TheVariants.{Rows, Count, Sum, Min, Max, Distinct, Avg}

pub same_measure : (m n : Measure) → tag_eq m n ≡ measure_eq m n
same_measure Rows Rows = refl
same_measure Rows (Count d) = refl
same_measure Rows (Sum d) = refl
same_measure Rows (Min d) = refl
same_measure Rows (Max d) = refl
same_measure Rows (Distinct d) = refl
same_measure Rows (Avg d) = refl
same_measure (Count c) Rows = refl
same_measure (Count c) (Count d) = refl
same_measure (Count c) (Sum d) = refl
same_measure (Count c) (Min d) = refl
same_measure (Count c) (Max d) = refl
same_measure (Count c) (Distinct d) = refl
same_measure (Count c) (Avg d) = refl
same_measure (Sum c) Rows = refl
same_measure (Sum c) (Count d) = refl
same_measure (Sum c) (Sum d) = refl
same_measure (Sum c) (Min d) = refl
same_measure (Sum c) (Max d) = refl
same_measure (Sum c) (Distinct d) = refl
same_measure (Sum c) (Avg d) = refl
same_measure (Min c) Rows = refl
same_measure (Min c) (Count d) = refl
same_measure (Min c) (Sum d) = refl
same_measure (Min c) (Min d) = refl
same_measure (Min c) (Max d) = refl
same_measure (Min c) (Distinct d) = refl
same_measure (Min c) (Avg d) = refl
same_measure (Max c) Rows = refl
same_measure (Max c) (Count d) = refl
same_measure (Max c) (Sum d) = refl
same_measure (Max c) (Min d) = refl
same_measure (Max c) (Max d) = refl
same_measure (Max c) (Distinct d) = refl
same_measure (Max c) (Avg d) = refl
same_measure (Distinct c) Rows = refl
same_measure (Distinct c) (Count d) = refl
same_measure (Distinct c) (Sum d) = refl
same_measure (Distinct c) (Min d) = refl
same_measure (Distinct c) (Max d) = refl
same_measure (Distinct c) (Distinct d) = refl
same_measure (Distinct c) (Avg d) = refl
same_measure (Avg c) Rows = refl
same_measure (Avg c) (Count d) = refl
same_measure (Avg c) (Sum d) = refl
same_measure (Avg c) (Min d) = refl
same_measure (Avg c) (Max d) = refl
same_measure (Avg c) (Distinct d) = refl
same_measure (Avg c) (Avg d) = refl

any_same : (m : Measure) (ks : List Shown) → list_any (λ s. tag_eq m s.0) ks ≡ list_any (measure_eq m) (map (λ (s : Shown). s.0) ks)
any_same m [] = refl
any_same m (k ∷ ks) = ap (λ b. b || list_any (λ (s : Shown). tag_eq m s.0) ks) (same_measure m k.0) ∙ ap (λ b. measure_eq m k.0 || b) (any_same m ks)

added_when : (b : Bool) (ks : List Shown) (k : Shown) → map (λ (s : Shown). s.0) (if b then ks else ks ++ k ∷ []) ≡ (if b then map (λ (s : Shown). s.0) ks else map (λ (s : Shown). s.0) ks ++ k.0 ∷ [])
added_when true ks k = refl
added_when false ks k = map-append (λ (s : Shown). s.0) ks (k ∷ [])

-- a measure in the set
pub shown_with : (ks : List Shown) (k : Shown) → map (λ (s : Shown). s.0) (insert_key (λ a b. tag_eq a.0 b.0) ks k) ≡ with_measure (map (λ (s : Shown). s.0) ks) k.0
shown_with ks k =
    added_when (list_any (λ (s : Shown). tag_eq k.0 s.0) ks) ks k
    ∙ ap (λ b. if b then map (λ (s : Shown). s.0) ks else map (λ (s : Shown). s.0) ks ++ k.0 ∷ []) (any_same k.0 ks)

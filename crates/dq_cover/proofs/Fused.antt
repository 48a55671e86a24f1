-- The key of a group covers its members.
use Rattle.std.proofs.Common.{◌≡◌, Bool, true, false, ◌||◌, ◌&&◌, List, [], ◌∷◌, ◌++◌, refl, sym, ap, ◌∙◌, None, nat_eq}
use Rattle.std.specs.Prelude.{if◌then◌else◌}
use Rattle.std.specs.List.{list_any, list_all, fold}
use Rattle.std.proofs.lemmas.List.Folds.{list_any-append}
use Rattle.dq_base.specs.Covering.{within, covers, needs, gives, shows, groups_by, made_of, makes, all_in_dims, same_dims, implied, checkable, predicate_eq, measure_eq, Filled, Total, Least, Greatest, Different}
use Rattle.dq_base.specs.Dims.{dim_eq}
use Rattle.dq_base.specs.Batches.{fuses, with_measure, union, fused_key}
use Rattle.dq_cover.proofs.CoverLaws.{from_parts, and_left, and_right, and_both, or_left, or_right, all_weaker, all_self, dim_same, lists_same, any_at, exact_dims, made_same, exact_list, exact_predicate_eq, number_same, predicate_same, measure_same, within_refl}
use Rattle.dq_base.specs.declared.query.Measure.{Measure}
use Rattle.dq_base.specs.declared.query.Measure.TheVariants.{Rows, Count, Sum, Min, Max, Distinct, Avg}
use Rattle.dq_base.specs.declared.query.Query.{Query}

abbrev listed : List Measure → Measure → Bool
listed ms m = list_any (measure_eq m) ms

kept_when : (b : Bool) (ms : List Measure) (n m : Measure) → listed ms m ≡ true → listed (if b then ms else (ms ++ n ∷ [])) m ≡ true
kept_when true ms n m h = h
kept_when false ms n m h = list_any-append (measure_eq m) ms (n ∷ []) ∙ or_left (listed ms m) (listed (n ∷ []) m) h

added_when : (b : Bool) (ms : List Measure) (m : Measure) → listed ms m ≡ b → listed (if b then ms else (ms ++ m ∷ [])) m ≡ true
added_when true ms m e = e
added_when false ms m e = list_any-append (measure_eq m) ms (m ∷ []) ∙ or_right (listed ms m) (listed (m ∷ []) m) (or_left (measure_eq m m) false (measure_same m))

kept_fold : (ms ns : List Measure) (m : Measure) → listed ms m ≡ true → listed (fold with_measure ms ns) m ≡ true
kept_fold ms [] m h = h
kept_fold ms (n ∷ ns) m h = kept_fold (with_measure ms n) ns m (kept_when (listed ms n) ms n m h)

all_added : (ms ns : List Measure) → list_all (listed (fold with_measure ms ns)) ns ≡ true
all_added ms [] = refl
all_added ms (n ∷ ns) = and_both _ _ (kept_fold (with_measure ms n) ns n (added_when (listed ms n) ms n refl)) (all_added (with_measure ms n) ns)

kept_union : (ms : List Measure) (qs : List Query) (m : Measure) → listed ms m ≡ true → listed (fold (λ us q. fold with_measure us q.measures) ms qs) m ≡ true
kept_union ms [] m h = h
kept_union ms (q ∷ qs) m h = kept_union (fold with_measure ms q.measures) qs m (kept_fold ms q.measures m h)

pub union_has : (ms : List Measure) (qs : List Query) → list_all (λ q. list_all (listed (fold (λ us p. fold with_measure us p.measures) ms qs)) q.measures) qs ≡ true
union_has ms [] = refl
union_has ms (q ∷ qs) = and_both _ _
    (all_weaker (listed (fold with_measure ms q.measures)) (listed (fold (λ us p. fold with_measure us p.measures) (fold with_measure ms q.measures) qs)) (kept_union (fold with_measure ms q.measures) qs) q.measures (all_added ms q.measures))
    (union_has (fold with_measure ms q.measures) qs)

-- a shown measure has its parts, where the dimensions are the same set
shown_gives : (p q : Query) → same_dims p q ≡ true → (m : Measure) → shows p m ≡ true → list_all (gives p q) (needs m) ≡ true
shown_gives p q d Rows h = and_both (shows p Rows) true h refl
shown_gives p q d (Count c) h = and_both (gives p q (Filled c)) true (or_left (shows p (Count c) || shows p (Avg c)) _ (or_left (shows p (Count c)) _ h)) refl
shown_gives p q d (Sum c) h = and_both (gives p q (Total c)) true (or_left (shows p (Sum c) || shows p (Avg c)) _ (or_left (shows p (Sum c)) _ h)) refl
shown_gives p q d (Min c) h = and_both (gives p q (Least c)) true (or_left (shows p (Min c)) _ h) refl
shown_gives p q d (Max c) h = and_both (gives p q (Greatest c)) true (or_left (shows p (Max c)) _ h) refl
shown_gives p q d (Distinct c) h = and_both (gives p q (Different c)) true (or_right (groups_by p c) _ (and_both (shows p (Distinct c)) (same_dims p q) h d)) refl
shown_gives p q d (Avg c) h = and_both (gives p q (Total c)) (gives p q (Filled c) && true) (or_left (shows p (Sum c) || shows p (Avg c)) _ (or_right (shows p (Sum c)) _ h)) (and_both (gives p q (Filled c)) true (or_left (shows p (Count c) || shows p (Avg c)) _ (or_right (shows p (Count c)) _ h)) refl)

abbrev with_measures : Query → List Measure → Query
with_measures q ms = record q { measures = ms; order = []; top = None }

-- a query with equal source, predicates and dimensions whose measures are all shown
pub key_covers : (q m : Query) (ms : List Measure) → fuses q m ≡ true → list_all (listed ms) m.measures ≡ true → covers (with_measures q ms) m ≡ true
key_covers q m ms f h =
    let same : q.filters ≡ m.filters = exact_list predicate_eq exact_predicate_eq q.filters m.filters (and_right _ _ (and_left _ _ f)) in
    let self : list_all (implied q) q.filters ≡ true = all_self (λ g k. nat_eq k.column g.column && within k.test g.test) (λ g. and_both (nat_eq g.column g.column) (within g.test g.test) (number_same g.column) (within_refl g.test)) q.filters in
    let checks : list_all (checkable q) q.filters ≡ true = all_weaker (λ g. list_any (predicate_eq g) q.filters) (checkable q) (λ g k. or_left (list_any (predicate_eq g) q.filters) (groups_by q g.column) k) q.filters (all_self predicate_eq predicate_same q.filters) in
    from_parts (with_measures q ms) m (record {
      source = and_left _ _ (and_left _ _ f);
      whole = refl;
      dims = all_weaker (λ d. list_any (dim_eq d) q.dims) (makes q) (λ d k. any_at dim_eq exact_dims (made_of d) q.dims d k (made_same d)) m.dims (and_right (all_in_dims q.dims m.dims) _ (and_right _ _ f));
      filters = sym (ap (λ fs. list_all (λ g. list_any (λ k. nat_eq k.column g.column && within k.test g.test) fs) q.filters) same) ∙ self;
      checks = sym (ap (list_all (checkable q)) same) ∙ checks;
      parts = all_weaker (listed ms) (λ n. list_all (gives (with_measures q ms) m) (needs n)) (shown_gives (with_measures q ms) m (and_right _ _ f)) m.measures h;
    })

-- the key of a larger group covers each query that fuses with its first and whose measures went into it
pub fused_covers : (q p m : Query) (ps : List Query) → fuses q m ≡ true → list_all (listed (union (q ∷ p ∷ ps))) m.measures ≡ true → covers (fused_key (p ∷ ps) q) m ≡ true
fused_covers q p m ps f h = key_covers q m (union (q ∷ p ∷ ps)) f h

fuses_itself : (q : Query) → fuses q q ≡ true
fuses_itself q = and_both _ _ (and_both _ _ (number_same q.source) (lists_same predicate_eq predicate_same q.filters)) (and_both _ _ (all_self dim_eq dim_same q.dims) (all_self dim_eq dim_same q.dims))

all_covered : (q p : Query) (ps ms : List Query) → list_all (fuses q) ms ≡ true → list_all (λ m. list_all (listed (union (q ∷ p ∷ ps))) m.measures) ms ≡ true → list_all (covers (fused_key (p ∷ ps) q)) ms ≡ true
all_covered q p ps [] f h = refl
all_covered q p ps (m ∷ ms) f h = and_both _ _ (fused_covers q p m ps (and_left _ _ f) (and_left _ _ h)) (all_covered q p ps ms (and_right _ _ f) (and_right _ _ h))

-- the key of a larger group covers each member
pub group_covered : (q p : Query) (ps : List Query) → list_all (fuses q) (p ∷ ps) ≡ true → list_all (covers (fused_key (p ∷ ps) q)) (q ∷ p ∷ ps) ≡ true
group_covered q p ps f = all_covered q p ps (q ∷ p ∷ ps) (and_both _ _ (fuses_itself q) f) (union_has [] (q ∷ p ∷ ps))

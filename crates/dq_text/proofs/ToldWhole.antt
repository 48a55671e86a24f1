-- The text of a statement tells the statement, and the text of a query the query.
use Rattle.std.proofs.Common.{◌≡◌, ℕ, List, [], ◌∷◌, ◌++◌, flat_map, codes, Option, refl}
use Rattle.std.specs.List.{AllByRecursion}
use Rattle.std.proofs.lemmas.List.{append_cancel_left}
use Rattle.dq_base.specs.Dims.{Dimension}
use Rattle.dq_base.specs.Rests.{Stops}
use Rattle.dq_base.specs.Spelling.{Bytes}
use Rattle.dq_base.specs.declared.query.Measure.{Measure}
use Rattle.dq_base.specs.declared.query.OrderKey.{OrderKey}
use Rattle.dq_base.specs.declared.query.Query.{Query}
use Rattle.dq_base.proofs.Told.{Tells}
use Rattle.dq_base.proofs.ToldNumbers.{number_told}
use Rattle.dq_text.specs.Reading.{After}
use Rattle.dq_text.specs.Sizes.{IsSized, IsSizedDim, IsSizedKey, IsSizedMeasure, IsSizedQuery, IsSizedTop}
use Rattle.dq_text.specs.Statements.{body, plain_where, shown_text, spelling, where_text}
use Rattle.dq_text.specs.declared.statement.Statement.{Statement}
use Rattle.dq_text.proofs.Behind.{after_stops}
use Rattle.dq_text.proofs.Parsed.{after_filters, after_dims, after_measures, after_order, after_stamp, from_filters, from_stamp, measures_on, order_on}
use Rattle.dq_text.proofs.ToldParts.{place_told, filters_told, plain_filters_told, dims_told, measures_told, order_told, top_same}

-- what is shown, as one thing
record Shown : Type 0 where
  dims : List Dimension
  measures : List Measure
  order : List OrderKey
  top : Option ℕ

record IsSizedShown (x : Shown) : Type 0 where
  dims : AllByRecursion IsSizedDim x.dims
  measures : AllByRecursion IsSizedMeasure x.measures
  order : AllByRecursion IsSizedKey x.order
  top : IsSizedTop x.top

abbrev text_of : Shown → Bytes
text_of x = shown_text x.dims x.measures x.order x.top

shown_same : (x y : Shown) → IsSizedShown x → IsSizedShown y → text_of x ≡ text_of y → x ≡ y
shown_same x y p q e =
    let one = dims_told.same x.dims y.dims (measures_on x.measures x.order x.top) (measures_on y.measures y.order y.top) p.dims q.dims (after_dims x.measures x.order x.top) (after_dims y.measures y.order y.top) e in
    let two = measures_told.same x.measures y.measures (order_on x.order x.top) (order_on y.order y.top) p.measures q.measures (after_measures x.order x.top) (after_measures y.order y.top) one.1 in
    let three = order_told.same x.order y.order _ _ p.order q.order (after_order x.top) (after_order y.top) two.1 in
    let four = top_same x.top y.top p.top q.top three.1 in
    λ i. record { dims = one.0 i; measures = two.0 i; order = three.0 i; top = four i }

-- filters, and what is shown
filtered_same : {X : Type 0} {P : X → Type 0} (f : X → Bytes) → Tells (AllByRecursion P) (After 1) (flat_map f) → (xs ys : List X) (x y : Shown) → AllByRecursion P xs → AllByRecursion P ys → IsSizedShown x → IsSizedShown y
    → flat_map f xs ++ text_of x ≡ flat_map f ys ++ text_of y → (xs ≡ ys) × (x ≡ y)
filtered_same f t xs ys x y p q v w e =
    let one = t.same xs ys (text_of x) (text_of y) p q (after_filters x.dims x.measures x.order x.top) (after_filters y.dims y.measures y.order y.top) e in
    (one.0, shown_same x y v w one.1)

filtered_stops : {X : Type 0} (f : X → Bytes) → ((x : X) (r : Bytes) → Stops (f x ++ r)) → (xs : List X) (x : Shown) → Stops (flat_map f xs ++ text_of x)
filtered_stops f opens xs x = after_stamp f opens xs (text_of x) (after_stops 1 (text_of x) (after_filters x.dims x.measures x.order x.top))

abbrev shown_of : Statement → Shown
shown_of s = record { dims = s.dims; measures = s.measures; order = s.order; top = s.top }

sized_shown : (s : Statement) → IsSized s → IsSizedShown (shown_of s)
sized_shown s p = record { dims = p.dims; measures = p.measures; order = p.order; top = p.top }

pub spelling_same : (s t : Statement) → IsSized s → IsSized t → spelling s ≡ spelling t → s ≡ t
spelling_same s t p q e =
    let one = place_told.same s.source t.source (64 ∷ [] ++ from_stamp s) (64 ∷ [] ++ from_stamp t) p.source q.source refl refl (append_cancel_left (codes "from ") _ _ e) in
    let two = number_told.same s.stamp t.stamp (from_filters s) (from_filters t) p.stamp q.stamp
    (filtered_stops where_text (λ x r. refl) s.filters (shown_of s)) (filtered_stops where_text (λ x r. refl) t.filters (shown_of t))
    (append_cancel_left (64 ∷ []) (from_stamp s) (from_stamp t) one.1) in
    let three = filtered_same where_text filters_told s.filters t.filters (shown_of s) (shown_of t) p.filters q.filters (sized_shown s p) (sized_shown t q) two.1 in
    λ i. record { source = one.0 i; stamp = two.0 i; filters = three.0 i; dims = (three.1 i).dims; measures = (three.1 i).measures; order = (three.1 i).order; top = (three.1 i).top }

abbrev shown_in : Query → Shown
shown_in q = record { dims = q.dims; measures = q.measures; order = q.order; top = q.top }

sized_in : (q : Query) → IsSizedQuery q → IsSizedShown (shown_in q)
sized_in q p = record { dims = p.dims; measures = p.measures; order = p.order; top = p.top }

pub body_same : (k q : Query) → IsSizedQuery k → IsSizedQuery q → body k ≡ body q → k ≡ q
body_same k q p z e =
    let one = place_told.same k.source q.source (flat_map plain_where k.filters ++ text_of (shown_in k)) (flat_map plain_where q.filters ++ text_of (shown_in q)) p.source z.source
    (filtered_stops plain_where (λ x r. refl) k.filters (shown_in k)) (filtered_stops plain_where (λ x r. refl) q.filters (shown_in q)) (append_cancel_left (codes "from ") _ _ e) in
    let two = filtered_same plain_where plain_filters_told k.filters q.filters (shown_in k) (shown_in q) p.filters z.filters (sized_in k p) (sized_in q z) one.1 in
    λ i. record { source = one.0 i; filters = two.0 i; dims = (two.1 i).dims; measures = (two.1 i).measures; order = (two.1 i).order; top = (two.1 i).top }

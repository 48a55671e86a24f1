-- The order of cells and the order of an answer's rows are total.
use Rattle.std.proofs.Common.{◌≡◌, Bool, true, false, List, [], ◌∷◌, take, length, refl, subst}
use Rattle.std.specs.declared.cmp.Ordering.TheVariants.{Less, Equal}
use Rattle.std.specs.Ordering.{ordering_reverse, is_lt}
use Rattle.std.specs.Cmp.{IsTotalOrder, IsStrictWeakOrder}
use Rattle.std.proofs.lemmas.Cmp.{int_cmp_total, nat_list_cmp_total, lists_total, on_total, then_total, back_total}
use Rattle.std.proofs.lemmas.List.Sorted.{ranks_by}
use Rattle.dq_base.specs.Orders.{cell_cmp}
use Rattle.dq_base.specs.Answers.{cell_at, directed, by_order, row_cmp}
use Rattle.dq_base.proofs.RatioOrder.{ratio_cmp_total}
use Rattle.dq_base.specs.declared.cell.Cell.{Cell}
use Rattle.dq_base.specs.declared.cell.Cell.TheVariants.{Null, Whole, Word, Ratio}
use Rattle.dq_base.specs.declared.query.OrderKey.{OrderKey}
use Rattle.dq_base.specs.declared.query.Query.{Query}

cell_antisymm : (x y : Cell) → cell_cmp x y ≡ ordering_reverse (cell_cmp y x)
cell_antisymm Null Null = refl
cell_antisymm Null (Whole b) = refl
cell_antisymm Null (Word b) = refl
cell_antisymm Null (Ratio b) = refl
cell_antisymm (Whole a) Null = refl
cell_antisymm (Whole a) (Whole b) = int_cmp_total.antisymm a b
cell_antisymm (Whole a) (Word b) = refl
cell_antisymm (Whole a) (Ratio b) = refl
cell_antisymm (Word a) Null = refl
cell_antisymm (Word a) (Whole b) = refl
cell_antisymm (Word a) (Word b) = nat_list_cmp_total.antisymm a b
cell_antisymm (Word a) (Ratio b) = refl
cell_antisymm (Ratio a) Null = refl
cell_antisymm (Ratio a) (Whole b) = refl
cell_antisymm (Ratio a) (Word b) = refl
cell_antisymm (Ratio a) (Ratio b) = ratio_cmp_total.antisymm a b

cell_trans : (x y z : Cell) → cell_cmp x y ≡ Less → cell_cmp y z ≡ Less → cell_cmp x z ≡ Less
cell_trans Null Null Null p q = cc
cell_trans Null Null (Whole c) p q = cc
cell_trans Null Null (Word c) p q = cc
cell_trans Null Null (Ratio c) p q = cc
cell_trans Null (Whole b) Null p q = cc
cell_trans Null (Whole b) (Whole c) p q = cc
cell_trans Null (Whole b) (Word c) p q = cc
cell_trans Null (Whole b) (Ratio c) p q = cc
cell_trans Null (Word b) Null p q = cc
cell_trans Null (Word b) (Whole c) p q = cc
cell_trans Null (Word b) (Word c) p q = cc
cell_trans Null (Word b) (Ratio c) p q = cc
cell_trans Null (Ratio b) Null p q = cc
cell_trans Null (Ratio b) (Whole c) p q = cc
cell_trans Null (Ratio b) (Word c) p q = cc
cell_trans Null (Ratio b) (Ratio c) p q = cc
cell_trans (Whole a) Null Null p q = cc
cell_trans (Whole a) Null (Whole c) p q = cc
cell_trans (Whole a) Null (Word c) p q = cc
cell_trans (Whole a) Null (Ratio c) p q = cc
cell_trans (Whole a) (Whole b) Null p q = cc
cell_trans (Whole a) (Whole b) (Whole c) p q = int_cmp_total.trans a b c p q
cell_trans (Whole a) (Whole b) (Word c) p q = cc
cell_trans (Whole a) (Whole b) (Ratio c) p q = cc
cell_trans (Whole a) (Word b) Null p q = cc
cell_trans (Whole a) (Word b) (Whole c) p q = cc
cell_trans (Whole a) (Word b) (Word c) p q = cc
cell_trans (Whole a) (Word b) (Ratio c) p q = cc
cell_trans (Whole a) (Ratio b) Null p q = cc
cell_trans (Whole a) (Ratio b) (Whole c) p q = cc
cell_trans (Whole a) (Ratio b) (Word c) p q = cc
cell_trans (Whole a) (Ratio b) (Ratio c) p q = cc
cell_trans (Word a) Null Null p q = cc
cell_trans (Word a) Null (Whole c) p q = cc
cell_trans (Word a) Null (Word c) p q = cc
cell_trans (Word a) Null (Ratio c) p q = cc
cell_trans (Word a) (Whole b) Null p q = cc
cell_trans (Word a) (Whole b) (Whole c) p q = cc
cell_trans (Word a) (Whole b) (Word c) p q = cc
cell_trans (Word a) (Whole b) (Ratio c) p q = cc
cell_trans (Word a) (Word b) Null p q = cc
cell_trans (Word a) (Word b) (Whole c) p q = cc
cell_trans (Word a) (Word b) (Word c) p q = nat_list_cmp_total.trans a b c p q
cell_trans (Word a) (Word b) (Ratio c) p q = cc
cell_trans (Word a) (Ratio b) Null p q = cc
cell_trans (Word a) (Ratio b) (Whole c) p q = cc
cell_trans (Word a) (Ratio b) (Word c) p q = cc
cell_trans (Word a) (Ratio b) (Ratio c) p q = cc
cell_trans (Ratio a) Null Null p q = cc
cell_trans (Ratio a) Null (Whole c) p q = cc
cell_trans (Ratio a) Null (Word c) p q = cc
cell_trans (Ratio a) Null (Ratio c) p q = cc
cell_trans (Ratio a) (Whole b) Null p q = cc
cell_trans (Ratio a) (Whole b) (Whole c) p q = cc
cell_trans (Ratio a) (Whole b) (Word c) p q = cc
cell_trans (Ratio a) (Whole b) (Ratio c) p q = cc
cell_trans (Ratio a) (Word b) Null p q = cc
cell_trans (Ratio a) (Word b) (Whole c) p q = cc
cell_trans (Ratio a) (Word b) (Word c) p q = cc
cell_trans (Ratio a) (Word b) (Ratio c) p q = cc
cell_trans (Ratio a) (Ratio b) Null p q = cc
cell_trans (Ratio a) (Ratio b) (Whole c) p q = cc
cell_trans (Ratio a) (Ratio b) (Word c) p q = cc
cell_trans (Ratio a) (Ratio b) (Ratio c) p q = ratio_cmp_total.trans a b c p q

cell_congr : (x y z : Cell) → cell_cmp x y ≡ Equal → cell_cmp x z ≡ cell_cmp y z
cell_congr Null Null Null p = cc
cell_congr Null Null (Whole c) p = cc
cell_congr Null Null (Word c) p = cc
cell_congr Null Null (Ratio c) p = cc
cell_congr Null (Whole b) Null p = cc
cell_congr Null (Whole b) (Whole c) p = cc
cell_congr Null (Whole b) (Word c) p = cc
cell_congr Null (Whole b) (Ratio c) p = cc
cell_congr Null (Word b) Null p = cc
cell_congr Null (Word b) (Whole c) p = cc
cell_congr Null (Word b) (Word c) p = cc
cell_congr Null (Word b) (Ratio c) p = cc
cell_congr Null (Ratio b) Null p = cc
cell_congr Null (Ratio b) (Whole c) p = cc
cell_congr Null (Ratio b) (Word c) p = cc
cell_congr Null (Ratio b) (Ratio c) p = cc
cell_congr (Whole a) Null Null p = cc
cell_congr (Whole a) Null (Whole c) p = cc
cell_congr (Whole a) Null (Word c) p = cc
cell_congr (Whole a) Null (Ratio c) p = cc
cell_congr (Whole a) (Whole b) Null p = cc
cell_congr (Whole a) (Whole b) (Whole c) p = int_cmp_total.congr a b c p
cell_congr (Whole a) (Whole b) (Word c) p = cc
cell_congr (Whole a) (Whole b) (Ratio c) p = cc
cell_congr (Whole a) (Word b) Null p = cc
cell_congr (Whole a) (Word b) (Whole c) p = cc
cell_congr (Whole a) (Word b) (Word c) p = cc
cell_congr (Whole a) (Word b) (Ratio c) p = cc
cell_congr (Whole a) (Ratio b) Null p = cc
cell_congr (Whole a) (Ratio b) (Whole c) p = cc
cell_congr (Whole a) (Ratio b) (Word c) p = cc
cell_congr (Whole a) (Ratio b) (Ratio c) p = cc
cell_congr (Word a) Null Null p = cc
cell_congr (Word a) Null (Whole c) p = cc
cell_congr (Word a) Null (Word c) p = cc
cell_congr (Word a) Null (Ratio c) p = cc
cell_congr (Word a) (Whole b) Null p = cc
cell_congr (Word a) (Whole b) (Whole c) p = cc
cell_congr (Word a) (Whole b) (Word c) p = cc
cell_congr (Word a) (Whole b) (Ratio c) p = cc
cell_congr (Word a) (Word b) Null p = cc
cell_congr (Word a) (Word b) (Whole c) p = cc
cell_congr (Word a) (Word b) (Word c) p = nat_list_cmp_total.congr a b c p
cell_congr (Word a) (Word b) (Ratio c) p = cc
cell_congr (Word a) (Ratio b) Null p = cc
cell_congr (Word a) (Ratio b) (Whole c) p = cc
cell_congr (Word a) (Ratio b) (Word c) p = cc
cell_congr (Word a) (Ratio b) (Ratio c) p = cc
cell_congr (Ratio a) Null Null p = cc
cell_congr (Ratio a) Null (Whole c) p = cc
cell_congr (Ratio a) Null (Word c) p = cc
cell_congr (Ratio a) Null (Ratio c) p = cc
cell_congr (Ratio a) (Whole b) Null p = cc
cell_congr (Ratio a) (Whole b) (Whole c) p = cc
cell_congr (Ratio a) (Whole b) (Word c) p = cc
cell_congr (Ratio a) (Whole b) (Ratio c) p = cc
cell_congr (Ratio a) (Word b) Null p = cc
cell_congr (Ratio a) (Word b) (Whole c) p = cc
cell_congr (Ratio a) (Word b) (Word c) p = cc
cell_congr (Ratio a) (Word b) (Ratio c) p = cc
cell_congr (Ratio a) (Ratio b) Null p = cc
cell_congr (Ratio a) (Ratio b) (Whole c) p = cc
cell_congr (Ratio a) (Ratio b) (Word c) p = cc
cell_congr (Ratio a) (Ratio b) (Ratio c) p = ratio_cmp_total.congr a b c p

pub cell_cmp_total : IsTotalOrder cell_cmp
cell_cmp_total = record { antisymm = cell_antisymm; trans = cell_trans; congr = cell_congr }

directed_total : (down : Bool) → IsTotalOrder (λ x y. directed down (cell_cmp x y))
directed_total false = cell_cmp_total
directed_total true = subst IsTotalOrder (λ i x y. cell_antisymm y x i) (back_total cell_cmp_total)

equal_always : IsTotalOrder {K = List Cell} (λ x y. Equal)
equal_always = record { antisymm = λ x y. refl; trans = λ x y z p q. cc; congr = λ x y z p. refl }

order_total : (ks : List OrderKey) → IsTotalOrder (by_order ks)
order_total [] = equal_always
order_total (k ∷ ks) = then_total (on_total (λ row. cell_at row k.place) (directed_total k.down)) (order_total ks)

pub row_cmp_total : (q : Query) → IsTotalOrder (row_cmp q)
row_cmp_total q = then_total (order_total q.order) (on_total (λ row. take (length q.dims) row) (lists_total cell_cmp_total))

pub row_weak : (q : Query) → IsStrictWeakOrder (λ x y. is_lt (row_cmp q x y))
row_weak q = ranks_by (row_cmp_total q) (λ row. row)

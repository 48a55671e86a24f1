-- The order of values is total, and ties only equal values.
use Rattle.std.specs.Prelude.{◌≡◌, refl}
use Rattle.std.specs.declared.cmp.Ordering.TheVariants.{Less, Equal}
use Rattle.std.specs.Ordering.{ordering_reverse}
use Rattle.std.specs.Cmp.{IsTotalOrder}
use Rattle.std.proofs.lemmas.Cmp.{int_cmp_total, nat_list_cmp_total}
use Rattle.dq_base.specs.Orders.{value_cmp}
use Rattle.dq_base.specs.declared.value.Value.{Value}
use Rattle.dq_base.specs.declared.value.Value.TheVariants.{Null, Int, Word}

value_antisymm : (x y : Value) → value_cmp x y ≡ ordering_reverse (value_cmp y x)
value_antisymm (Int a) (Int b) = int_cmp_total.antisymm a b
value_antisymm (Word a) (Word b) = nat_list_cmp_total.antisymm a b
value_antisymm Null Null = refl
value_antisymm Null (Int b) = refl
value_antisymm Null (Word b) = refl
value_antisymm (Int a) Null = refl
value_antisymm (Int a) (Word b) = refl
value_antisymm (Word a) Null = refl
value_antisymm (Word a) (Int b) = refl

value_trans : (x y z : Value) → value_cmp x y ≡ Less → value_cmp y z ≡ Less → value_cmp x z ≡ Less
value_trans Null Null Null p q = cc
value_trans Null Null (Int c) p q = cc
value_trans Null Null (Word c) p q = cc
value_trans Null (Int b) Null p q = cc
value_trans Null (Int b) (Int c) p q = cc
value_trans Null (Int b) (Word c) p q = cc
value_trans Null (Word b) Null p q = cc
value_trans Null (Word b) (Int c) p q = cc
value_trans Null (Word b) (Word c) p q = cc
value_trans (Int a) Null Null p q = cc
value_trans (Int a) Null (Int c) p q = cc
value_trans (Int a) Null (Word c) p q = cc
value_trans (Int a) (Int b) Null p q = cc
value_trans (Int a) (Int b) (Int c) p q = int_cmp_total.trans a b c p q
value_trans (Int a) (Int b) (Word c) p q = cc
value_trans (Int a) (Word b) Null p q = cc
value_trans (Int a) (Word b) (Int c) p q = cc
value_trans (Int a) (Word b) (Word c) p q = cc
value_trans (Word a) Null Null p q = cc
value_trans (Word a) Null (Int c) p q = cc
value_trans (Word a) Null (Word c) p q = cc
value_trans (Word a) (Int b) Null p q = cc
value_trans (Word a) (Int b) (Int c) p q = cc
value_trans (Word a) (Int b) (Word c) p q = cc
value_trans (Word a) (Word b) Null p q = cc
value_trans (Word a) (Word b) (Int c) p q = cc
value_trans (Word a) (Word b) (Word c) p q = nat_list_cmp_total.trans a b c p q

value_congr : (x y z : Value) → value_cmp x y ≡ Equal → value_cmp x z ≡ value_cmp y z
value_congr Null Null Null p = cc
value_congr Null Null (Int c) p = cc
value_congr Null Null (Word c) p = cc
value_congr Null (Int b) Null p = cc
value_congr Null (Int b) (Int c) p = cc
value_congr Null (Int b) (Word c) p = cc
value_congr Null (Word b) Null p = cc
value_congr Null (Word b) (Int c) p = cc
value_congr Null (Word b) (Word c) p = cc
value_congr (Int a) Null Null p = cc
value_congr (Int a) Null (Int c) p = cc
value_congr (Int a) Null (Word c) p = cc
value_congr (Int a) (Int b) Null p = cc
value_congr (Int a) (Int b) (Int c) p = int_cmp_total.congr a b c p
value_congr (Int a) (Int b) (Word c) p = cc
value_congr (Int a) (Word b) Null p = cc
value_congr (Int a) (Word b) (Int c) p = cc
value_congr (Int a) (Word b) (Word c) p = cc
value_congr (Word a) Null Null p = cc
value_congr (Word a) Null (Int c) p = cc
value_congr (Word a) Null (Word c) p = cc
value_congr (Word a) (Int b) Null p = cc
value_congr (Word a) (Int b) (Int c) p = cc
value_congr (Word a) (Int b) (Word c) p = cc
value_congr (Word a) (Word b) Null p = cc
value_congr (Word a) (Word b) (Int c) p = cc
value_congr (Word a) (Word b) (Word c) p = nat_list_cmp_total.congr a b c p

pub value_cmp_total : IsTotalOrder value_cmp
value_cmp_total = record { antisymm = value_antisymm; trans = value_trans; congr = value_congr }

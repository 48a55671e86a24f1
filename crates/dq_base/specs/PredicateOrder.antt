-- The order of predicates is total.
use Rattle.std.specs.Prelude.{◌≡◌, ℤ, refl, Option}
use Rattle.std.specs.declared.cmp.Ordering.{Ordering}
use Rattle.std.specs.declared.cmp.Ordering.TheVariants.{Less, Equal}
use Rattle.std.specs.Ordering.{int_cmp, ordering_reverse, on, then_cmp}
use Rattle.std.specs.Option.{option_cmp}
use Rattle.std.specs.Cmp.{IsTotalOrder}
use Rattle.std.specs.Cmp.Lexicographic.{slice_cmp, options_total}
use Rattle.std.proofs.lemmas.Cmp.{nat_cmp_total, int_cmp_total, lists_total, on_total, then_total}
use Rattle.dq_base.specs.Orders.{value_cmp}
use Rattle.dq_base.specs.Canonical.{test_cmp, predicate_cmp}
use Rattle.dq_base.specs.ValueOrder.{value_cmp_total}
use Rattle.dq_base.specs.declared.predicate.Test.{Test}
use Rattle.dq_base.specs.declared.predicate.Test.TheVariants.{Among, Except, Between}

lists_of_values_total : IsTotalOrder (slice_cmp value_cmp)
lists_of_values_total = lists_total value_cmp_total

abbrev bounds_cmp : (Option ℤ × Option ℤ) → (Option ℤ × Option ℤ) → Ordering
bounds_cmp = then_cmp (on (λ p. p.0) (option_cmp int_cmp)) (on (λ p. p.1) (option_cmp int_cmp))

bounds_total : IsTotalOrder bounds_cmp
bounds_total = then_total (on_total (λ p. p.0) (options_total int_cmp_total)) (on_total (λ p. p.1) (options_total int_cmp_total))

test_antisymm : (x y : Test) → test_cmp x y ≡ ordering_reverse (test_cmp y x)
test_antisymm (Among a) (Among b) = lists_of_values_total.antisymm a b
test_antisymm (Among a) (Except b) = refl
test_antisymm (Among a) (Between bl bh) = refl
test_antisymm (Except a) (Among b) = refl
test_antisymm (Except a) (Except b) = lists_of_values_total.antisymm a b
test_antisymm (Except a) (Between bl bh) = refl
test_antisymm (Between al ah) (Among b) = refl
test_antisymm (Between al ah) (Except b) = refl
test_antisymm (Between al ah) (Between bl bh) = bounds_total.antisymm (al, ah) (bl, bh)

test_trans : (x y z : Test) → test_cmp x y ≡ Less → test_cmp y z ≡ Less → test_cmp x z ≡ Less
test_trans (Among a) (Among b) (Among c) p q = lists_of_values_total.trans a b c p q
test_trans (Among a) (Among b) (Except c) p q = cc
test_trans (Among a) (Among b) (Between cl ch) p q = cc
test_trans (Among a) (Except b) (Among c) p q = cc
test_trans (Among a) (Except b) (Except c) p q = cc
test_trans (Among a) (Except b) (Between cl ch) p q = cc
test_trans (Among a) (Between bl bh) (Among c) p q = cc
test_trans (Among a) (Between bl bh) (Except c) p q = cc
test_trans (Among a) (Between bl bh) (Between cl ch) p q = cc
test_trans (Except a) (Among b) (Among c) p q = cc
test_trans (Except a) (Among b) (Except c) p q = cc
test_trans (Except a) (Among b) (Between cl ch) p q = cc
test_trans (Except a) (Except b) (Among c) p q = cc
test_trans (Except a) (Except b) (Except c) p q = lists_of_values_total.trans a b c p q
test_trans (Except a) (Except b) (Between cl ch) p q = cc
test_trans (Except a) (Between bl bh) (Among c) p q = cc
test_trans (Except a) (Between bl bh) (Except c) p q = cc
test_trans (Except a) (Between bl bh) (Between cl ch) p q = cc
test_trans (Between al ah) (Among b) (Among c) p q = cc
test_trans (Between al ah) (Among b) (Except c) p q = cc
test_trans (Between al ah) (Among b) (Between cl ch) p q = cc
test_trans (Between al ah) (Except b) (Among c) p q = cc
test_trans (Between al ah) (Except b) (Except c) p q = cc
test_trans (Between al ah) (Except b) (Between cl ch) p q = cc
test_trans (Between al ah) (Between bl bh) (Among c) p q = cc
test_trans (Between al ah) (Between bl bh) (Except c) p q = cc
test_trans (Between al ah) (Between bl bh) (Between cl ch) p q = bounds_total.trans (al, ah) (bl, bh) (cl, ch) p q

test_congr : (x y z : Test) → test_cmp x y ≡ Equal → test_cmp x z ≡ test_cmp y z
test_congr (Among a) (Among b) (Among c) p = lists_of_values_total.congr a b c p
test_congr (Among a) (Among b) (Except c) p = cc
test_congr (Among a) (Among b) (Between cl ch) p = cc
test_congr (Among a) (Except b) (Among c) p = cc
test_congr (Among a) (Except b) (Except c) p = cc
test_congr (Among a) (Except b) (Between cl ch) p = cc
test_congr (Among a) (Between bl bh) (Among c) p = cc
test_congr (Among a) (Between bl bh) (Except c) p = cc
test_congr (Among a) (Between bl bh) (Between cl ch) p = cc
test_congr (Except a) (Among b) (Among c) p = cc
test_congr (Except a) (Among b) (Except c) p = cc
test_congr (Except a) (Among b) (Between cl ch) p = cc
test_congr (Except a) (Except b) (Among c) p = cc
test_congr (Except a) (Except b) (Except c) p = lists_of_values_total.congr a b c p
test_congr (Except a) (Except b) (Between cl ch) p = cc
test_congr (Except a) (Between bl bh) (Among c) p = cc
test_congr (Except a) (Between bl bh) (Except c) p = cc
test_congr (Except a) (Between bl bh) (Between cl ch) p = cc
test_congr (Between al ah) (Among b) (Among c) p = cc
test_congr (Between al ah) (Among b) (Except c) p = cc
test_congr (Between al ah) (Among b) (Between cl ch) p = cc
test_congr (Between al ah) (Except b) (Among c) p = cc
test_congr (Between al ah) (Except b) (Except c) p = cc
test_congr (Between al ah) (Except b) (Between cl ch) p = cc
test_congr (Between al ah) (Between bl bh) (Among c) p = cc
test_congr (Between al ah) (Between bl bh) (Except c) p = cc
test_congr (Between al ah) (Between bl bh) (Between cl ch) p = bounds_total.congr (al, ah) (bl, bh) (cl, ch) p

pub test_cmp_total : IsTotalOrder test_cmp
test_cmp_total = record { antisymm = test_antisymm; trans = test_trans; congr = test_congr }

pub predicate_cmp_total : IsTotalOrder predicate_cmp
predicate_cmp_total = then_total (on_total (λ p. p.column) nat_cmp_total) (on_total (λ p. p.test) test_cmp_total)

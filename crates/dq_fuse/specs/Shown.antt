-- Measures by their kind and column.
use Rattle.std.specs.Prelude.{Bool, ◌++◌}
use Rattle.std.specs.Cmp.{IsEquivalence}
use Rattle.std.specs.Hash as fed
use Rattle.std.specs.Hash.{Alike, on_Alike, and-Alike}
use Rattle.std.proofs.lemmas.Cmp.{on_equiv}
use Rattle.dq_fuse.specs.Kinds.{HashWrites, Pair, pair_eq}
use Rattle.dq_fuse.specs.KindLaws.{pair_eq_equiv, number_alike}
use Rattle.dq_base.specs.declared.query.Measure.{Measure}
use Rattle.dq_base.specs.declared.query.Measure.TheVariants.{Rows, Count, Sum, Min, Max, Distinct, Avg}

abbrev pub tag_of : Measure → Pair
tag_of Rows = (0, 0)
tag_of (Count c) = (1, c)
tag_of (Sum c) = (2, c)
tag_of (Min c) = (3, c)
tag_of (Max c) = (4, c)
tag_of (Distinct c) = (5, c)
tag_of (Avg c) = (6, c)

abbrev pub tag_eq : Measure → Measure → Bool
tag_eq a b = pair_eq (tag_of a) (tag_of b)

abbrev pub tag_input : Measure → HashWrites
tag_input m = fed.u8 (tag_of m).0 ++ fed.u32 (tag_of m).1

-- through a function to measures
pub tag_eq_equiv : {X : Type 0} (f : X → Measure) → IsEquivalence (λ x y. tag_eq (f x) (f y))
tag_eq_equiv f = on_equiv (λ x. tag_of (f x)) pair_eq_equiv

pub tag_alike : {X : Type 0} (f : X → Measure) → Alike (λ x y. tag_eq (f x) (f y)) (λ x. tag_input (f x))
tag_alike f = on_Alike (λ x. tag_of (f x)) (and-Alike (on_Alike (λ (p : Pair). p.0) (number_alike fed.u8)) (on_Alike (λ (p : Pair). p.1) (number_alike fed.u32)))

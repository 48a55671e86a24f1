-- Putting a key into a sorted set is putting an item into an ascending list.
use Rattle.std.proofs.Common.{◌≡◌, List, [], ◌∷◌, refl, ap, ◌∙◌}
use Rattle.std.specs.BTreeSet.{insert_key}
use Rattle.std.specs.Ordering.{match_ordering}
use Rattle.std.specs.declared.cmp.Ordering.{Ordering}
use Rattle.std.specs.declared.cmp.Ordering.TheVariants.{Less, Equal, Greater}
use Rattle.dq_base.specs.Sets.{with, put_by}

matched : {X : Type 0} (o : Ordering) (x y : X) (ys more : List X) → match_ordering o (x ∷ y ∷ ys) (y ∷ ys) (y ∷ more) ≡ put_by o x y ys more
matched Less x y ys more = refl
matched Equal x y ys more = refl
matched Greater x y ys more = refl

pub insert_key-with : {X : Type 0} (cmp : X → X → Ordering) (x : X) (ys : List X) → insert_key cmp ys x ≡ with cmp x ys
insert_key-with cmp x [] = refl
insert_key-with cmp x (y ∷ ys) = matched (cmp x y) x y ys (insert_key cmp ys x) ∙ ap (λ more. put_by (cmp x y) x y ys more) (insert_key-with cmp x ys)

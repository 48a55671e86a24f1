-- The mirror after a call of the link.
use Rattle.std.proofs.Common.{◌≡◌, ℕ, Bool, true, false, cond, List, [], ◌∷◌, Option, Some, None, refl, arith, sym, ◌∙◌, ap}
use Rattle.std.proofs.lemmas.Bool.Decides.{nat_tests}
use Rattle.std.specs.Prelude.{nat_eq, option_map, IsSome, IfSome}
use Rattle.dq_base.specs.declared.value.Value.{Value}
use Rattle.dq_text.specs.Said.{Tables}
use Rattle.dq_link.specs.Mirrors.{IsMirrored, Mirror, Readying, dropping, putting, remounting, spare_table}
use Rattle.dq_link.specs.Mounts.{Holdings, Mounted, Mounts, Same, SetAt}
use Rattle.dq_link.specs.Pairs.{lookup}
use Rattle.dq_link.proofs.Lookups.{lookup-push, lookup-with, lookup-without, numbers-push, numbers-without}

stamp_under : (b : Bool) (x : Mounted) (o : Option Mounted) → option_map (λ y. y.stamp) (cond b (Some x) o) ≡ cond b (Some x.stamp) (option_map (λ y. y.stamp) o)
stamp_under true x o = refl
stamp_under false x o = refl

pub mirrors-mount : (mounts mounts' : Mounts) (tables tables' : Holdings) (r : Readying) (source : ℕ) (x : Mounted) → IsMirrored mounts tables r.mirror → SetAt source (Some x) mounts mounts' → Same tables tables' → IsMirrored mounts' tables' (remounting source x.stamp r).mirror
mirrors-mount mounts mounts' tables tables' r source x i h k = record {
  stamps = λ s. ap (option_map (λ y. y.stamp)) (h s) ∙ (stamp_under (nat_eq s source) x (mounts s) ∙ (ap (λ o. cond (nat_eq s source) (Some x.stamp) o) (i.stamps s) ∙ sym (lookup-with r.mirror.mounts source x.stamp s)));
  lists = λ n. k n ∙ i.lists n;
  numbered = i.numbered;
}

pub mirrors-put : (mounts mounts' : Mounts) (tables tables' : Holdings) (r : Readying) (list : List Value) → IsMirrored mounts tables r.mirror → Same mounts mounts' → SetAt r.mirror.next (Some list) tables tables' → lookup r.mirror.tables r.mirror.next ≡ None → IsMirrored mounts' tables' (putting list r).mirror
mirrors-put mounts mounts' tables tables' r list i h k none = record {
  stamps = λ s. ap (option_map (λ y. y.stamp)) (h s) ∙ i.stamps s;
  lists = λ n. k n ∙ (ap (λ o. cond (nat_eq n r.mirror.next) (Some list) o) (i.lists n) ∙ sym (lookup-push r.mirror.tables r.mirror.next list n none));
  numbered = numbers-push 1 r.mirror.next r.mirror.tables list i.numbered;
}

pub mirrors-drop : (mounts mounts' : Mounts) (tables tables' : Holdings) (r : Readying) (number : ℕ) → IsMirrored mounts tables r.mirror → Same mounts mounts' → SetAt number None tables tables' → IsMirrored mounts' tables' (dropping (Some number) r).mirror
mirrors-drop mounts mounts' tables tables' r number i h k = record {
  stamps = λ s. ap (option_map (λ y. y.stamp)) (h s) ∙ i.stamps s;
  lists = λ n. k n ∙ (ap (λ o. cond (nat_eq n number) None o) (i.lists n) ∙ sym (lookup-without r.mirror.tables number n));
  numbered = numbers-without 1 r.mirror.next number r.mirror.tables i.numbered;
}

pub mirrors-same : (mounts mounts' : Mounts) (tables tables' : Holdings) (m : Mirror) → IsMirrored mounts tables m → Same mounts mounts' → Same tables tables' → IsMirrored mounts' tables' m
mirrors-same mounts mounts' tables tables' m i h k = record {
  stamps = λ s. ap (option_map (λ y. y.stamp)) (h s) ∙ i.stamps s;
  lists = λ n. k n ∙ i.lists n;
  numbered = i.numbered;
}

-- a spare table stands
pub spare_stands : (needed : List (List Value)) (ts : Tables) → IfSome (spare_table needed ts) (λ n. IsSome (lookup ts n))
spare_stands needed [] = tt
spare_stands needed (t ∷ ts) = grind (arith, nat_tests, spare_stands needed ts)

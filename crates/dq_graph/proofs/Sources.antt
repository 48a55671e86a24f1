-- The source of a local query is remote and covers it.
use Rattle.std.proofs.Common.{◌≡◌, ℕ, zero, suc, ◌+◌, Bool, true, false, not, ◌&&◌, List, [], ◌∷◌, map, find, refl, sym, ap, ◌∙◌, subst, arith, Option, Some, None}
use Rattle.std.specs.Prelude.{slice_get, if◌then◌else◌, IfSome}
use Rattle.std.specs.List.{list_any, enumerate_from}
use Rattle.dq_base.specs.Batches.{is_local, source_of, local_to, role_of, roles}
use Rattle.dq_base.specs.Covering.{covers}
use Rattle.dq_base.proofs.SetLaws.{Each}
use Rattle.dq_cover.proofs.CoverLaws.{and_left, and_right}
use Rattle.dq_cover.proofs.Remotes.{has_remote}
use Rattle.dq_graph.specs.Splits.{covered_by, SourceIsRight}
use Rattle.dq_base.specs.declared.query.Query.{Query}
use Rattle.dq_base.specs.declared.canon.Role.{Role}
use Rattle.dq_base.specs.declared.canon.Role.TheVariants.{Remote, Local}

abbrev Placed : Type 0
Placed = ℕ × Query

-- each stands at its place
abbrev Stand : List Query → List Placed → Type 0
Stand batch qs = Each (λ p. slice_get batch p.0 ≡ Some p.1) qs

suc_get : (n : ℕ) (x : Query) (xs : List Query) → slice_get (x ∷ xs) (n + 1) ≡ slice_get xs n
suc_get n x xs = let e : n + 1 ≡ suc n = omega arith in ap (slice_get (x ∷ xs)) e

-- numbered on from n, each stands n places further on
stand_from : (batch : List Query) (n : ℕ) (xs : List Query) → ((i : ℕ) → slice_get batch (n + i) ≡ slice_get xs i) → Stand batch (enumerate_from n xs)
stand_from batch n [] h = tt
stand_from batch n (x ∷ xs) h =
    let z : n ≡ n + 0 = omega arith in (
      ap (slice_get batch) z ∙ h 0,
      stand_from batch (n + 1) xs (λ i. let s : n + 1 + i ≡ n + suc i = omega arith in ap (slice_get batch) s ∙ h (suc i)),
    )

stands : (batch : List Query) → Stand batch (enumerate_from 0 batch)
stands batch = stand_from batch 0 batch (λ i. let z : 0 + i ≡ i = omega arith in ap (slice_get batch) z)

-- what is found passes, and stands at its place
record IsFound (batch : List Query) (test : Placed → Bool) (p : Placed) : Type 0 where
  passes : test p ≡ true
  there : slice_get batch p.0 ≡ Some p.1

found : (batch : List Query) (test : Placed → Bool) (qs : List Placed) (p : Placed) → Stand batch qs → find test qs ≡ Some p → IsFound batch test p
found batch test [] p s h = cc
found batch test (q ∷ qs) p s h = (elim (test q) as (λ b. test q ≡ b → IsFound batch test p) [
  | true ↦ λ e.
      let o : Some q ≡ Some p = rw e at h in
      let same : q ≡ p = cc in
      let P : Placed → Type 0 = λ r. IsFound batch test r in
      let own : IsFound batch test q = record { passes = e; there = s.0 } in
      subst P same own
  | false ↦ λ e. found batch test qs p s.1 (rw e at h)
]) refl

finds : (test : Placed → Bool) (qs : List Placed) → list_any test qs ≡ true → find test qs ≡ None → ⊥
finds test [] a h = let t : false ≡ true = a in cc
finds test (q ∷ qs) a h = (elim (test q) as (λ b. test q ≡ b → ⊥) [
  | true ↦ λ e. let o : Some q ≡ None = rw e at h in cc
  | false ↦ λ e. finds test qs (rw e at a) (rw e at h)
]) refl

role_got : (n : ℕ) (g : Placed → Role) (xs : List Query) (i : ℕ) (r : Role) → slice_get (map g (enumerate_from n xs)) i ≡ Some r → (q : Query) × (slice_get xs i ≡ Some q) × (g (n + i, q) ≡ r)
role_got n g [] i r h = cc
role_got n g (x ∷ xs) zero r h =
    let z : n ≡ n + 0 = omega arith in
    let e : g (n, x) ≡ r = cc in (x, refl, ap (λ k. g (k, x)) (sym z) ∙ e)
role_got n g (x ∷ xs) (suc i) r h =
    let s : n + suc i ≡ n + 1 + i = omega arith in
    let w = role_got (n + 1) g xs i r h in (w.0, w.1, ap (λ k. g (k, w.0)) s ∙ w.2)

got_role : (n : ℕ) (g : Placed → Role) (xs : List Query) (i : ℕ) (q : Query) → slice_get xs i ≡ Some q → slice_get (map g (enumerate_from n xs)) i ≡ Some (g (n + i, q))
got_role n g [] i q h = cc
got_role n g (x ∷ xs) zero q h =
    let z : n ≡ n + 0 = omega arith in
    let e : x ≡ q = cc in (λ j. Some (g (z j, e j)))
got_role n g (x ∷ xs) (suc i) q h =
    let s : n + 1 + i ≡ n + suc i = omega arith in
    got_role (n + 1) g xs i q h ∙ ap (λ k. Some (g (k, q))) s

not_true : (b : Bool) → not b ≡ true → b ≡ false
not_true true e = cc
not_true false e = refl

abbrev remote_over : List Placed → Placed → Placed → Bool
remote_over batch q p = not (is_local batch p) && covers p.1 q.1

local_right : (batch : List Query) (place : ℕ) (q : Query) (o : Option Placed) → slice_get batch place ≡ Some q → source_of (enumerate_from 0 batch) (place, q) ≡ o → (o ≡ None → ⊥)
    → (r : Role) → local_to o ≡ r → SourceIsRight batch place r
local_right batch place q None at e n r h = absurd (n refl)
local_right batch place q (Some p) at e n Remote h = cc
local_right batch place q (Some p) at e n (Local source) h =
    let test = remote_over (enumerate_from 0 batch) (place, q) in
    let f = found batch test (enumerate_from 0 batch) p (stands batch) e in
    let same : p.0 ≡ source = cc in
    let remote : is_local (enumerate_from 0 batch) p ≡ false = not_true (is_local (enumerate_from 0 batch) p) (and_left (not (is_local (enumerate_from 0 batch) p)) (covers p.1 q) f.passes) in
    let z : 0 + p.0 ≡ p.0 = omega arith in
    let role : role_of (enumerate_from 0 batch) p ≡ Remote = ap (λ b. if b then local_to (source_of (enumerate_from 0 batch) p) else Remote) remote in (
      ap (slice_get (roles batch)) (sym same) ∙ got_role 0 (role_of (enumerate_from 0 batch)) batch p.0 p.1 f.there ∙ ap (λ k. Some (role_of (enumerate_from 0 batch) (k, p.1))) z ∙ ap Some role,
      ap (λ k. covered_by (slice_get batch k) (slice_get batch place)) (sym same) ∙ ap (λ x. covered_by x (slice_get batch place)) f.there ∙ ap (covered_by (Some p.1)) at
          ∙ and_right (not (is_local (enumerate_from 0 batch) p)) (covers p.1 q) f.passes,
    )

by_local : (b : Bool) (batch : List Query) (place : ℕ) (q : Query) (r : Role) → slice_get batch place ≡ Some q → is_local (enumerate_from 0 batch) (place, q) ≡ b
    → (if b then local_to (source_of (enumerate_from 0 batch) (place, q)) else Remote) ≡ r → SourceIsRight batch place r
by_local true batch place q r at e h =
    local_right batch place q (source_of (enumerate_from 0 batch) (place, q)) at refl
    (finds (remote_over (enumerate_from 0 batch) (place, q)) (enumerate_from 0 batch) (has_remote (enumerate_from 0 batch) (place, q) e)) r h
by_local false batch place q Remote at e h =
    let P : Option Query → Type 0 = λ o. IfSome o (λ p. is_local (enumerate_from 0 batch) (place, p) ≡ false) in
    subst P (sym at) e
by_local false batch place q (Local source) at e h = cc

pub sources_right : (batch : List Query) (place : ℕ) (role : Role) → slice_get (roles batch) place ≡ Some role → SourceIsRight batch place role
sources_right batch place role h =
    let w = role_got 0 (role_of (enumerate_from 0 batch)) batch place role h in
    let z : place ≡ 0 + place = omega arith in
    by_local (is_local (enumerate_from 0 batch) (place, w.0)) batch place w.0 role w.1 refl (ap (λ k. role_of (enumerate_from 0 batch) (k, w.0)) z ∙ w.2)

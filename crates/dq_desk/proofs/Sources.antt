-- The sources of a batch's queries are the script's.
use Rattle.std.proofs.Common.{◌≡◌, ℕ, zero, suc, ◌+◌, ◌<◌, Bool, true, false, not, cond, List, [], ◌∷◌, map, filter, length, slice_get, Option, Some, None, refl}
use Rattle.std.proofs.lemmas.Option.{slice_get_within}
use Rattle.std.specs.List.{AllByRecursion, enumerate_from}
use Rattle.std.specs.Prelude.{is_none}
use Rattle.dq_base.specs.Batches.{Group, fused_key, fuses, groups, groups_from, roles}
use Rattle.dq_base.specs.Canonical.{canonical}
use Rattle.dq_base.specs.Headings.{Heading}
use Rattle.dq_base.specs.Validity.{reason_at}
use Rattle.dq_base.specs.declared.canon.Role.{Role}
use Rattle.dq_base.specs.declared.canon.Role.TheVariants.{Remote, Local}
use Rattle.dq_base.specs.declared.query.Query.{Query}
use Rattle.dq_journal.specs.declared.entry.Met.{Met}
use Rattle.dq_machine.specs.Admitting.{missed}
use Rattle.dq_machine.specs.Preparing.{canons_of, is_valid, remote_among, remotes_of}

source_at : (schemas : List Heading) (q : Query) (o : Option Heading) → slice_get schemas q.source ≡ o → is_none (reason_at o q) ≡ true → q.source < length schemas
source_at schemas q None at valid = cc
source_at schemas q (Some heading) at valid = slice_get_within schemas q.source heading at

source_of : (schemas : List Heading) (q : Query) → is_valid schemas q ≡ true → q.source < length schemas
source_of schemas q valid = source_at schemas q (slice_get schemas q.source) refl valid

module _ (most : ℕ) where
  abbrev pub AreWithin : List Query → Type 0
  AreWithin queries = AllByRecursion (λ q. q.source < most) queries

  remote_within : (rs : List Role) (queries : List Query) → AreWithin queries → AreWithin (remote_among rs queries)
  remote_within [] queries h = tt
  remote_within (Remote ∷ rs) [] h = tt
  remote_within (Remote ∷ rs) (q ∷ queries) h = (h.0, remote_within rs queries h.1)
  remote_within (Local place ∷ rs) [] h = tt
  remote_within (Local place ∷ rs) (q ∷ queries) h = remote_within rs queries h.1

  pub missed_within : (found : List (Option Met)) (qs : List Query) → AreWithin qs → AreWithin (missed found qs)
  missed_within [] qs h = tt
  missed_within (Some m ∷ found) [] h = tt
  missed_within (Some m ∷ found) (q ∷ qs) h = missed_within found qs h.1
  missed_within (None ∷ found) [] h = tt
  missed_within (None ∷ found) (q ∷ qs) h = (h.0, missed_within found qs h.1)

  -- a group has its first member's source

  abbrev ArePlaced : List (ℕ × Query) → Type 0
  ArePlaced qs = AllByRecursion (λ (p : ℕ × Query). p.1.source < most) qs

  key_within : (others : List Query) (q : Query) → q.source < most → (fused_key others q).source < most
  key_within [] q h = h
  key_within (p ∷ others) q h = h

  kept_if : (b : Bool) (q : ℕ × Query) (qs : List (ℕ × Query)) → q.1.source < most → ArePlaced qs → ArePlaced (cond b (q ∷ qs) qs)
  kept_if true q qs one h = (one, h)
  kept_if false q qs one h = h

  kept_within : (p : (ℕ × Query) → Bool) (qs : List (ℕ × Query)) → ArePlaced qs → ArePlaced (filter p qs)
  kept_within p [] h = tt
  kept_within p (q ∷ qs) h = kept_if (p q) q (filter p qs) h.0 (kept_within p qs h.1)

  from_within : (n : ℕ) (qs : List (ℕ × Query)) → ArePlaced qs → AllByRecursion (λ (g : Group). g.key.source < most) (groups_from n qs)
  from_within zero qs h = tt
  from_within (suc n) [] h = tt
  from_within (suc n) (q ∷ qs) h = (
    key_within (map (λ (p : ℕ × Query). p.1) (filter (λ p. fuses q.1 p.1) qs)) q.1 h.0,
    from_within n (filter (λ p. not (fuses q.1 p.1)) qs) (kept_within (λ p. not (fuses q.1 p.1)) qs h.1),
  )

  placed_within : (n : ℕ) (qs : List Query) → AreWithin qs → ArePlaced (enumerate_from n qs)
  placed_within n [] h = tt
  placed_within n (q ∷ qs) h = (h.0, placed_within (n + 1) qs h.1)

  pub groups_within : (qs : List Query) → AreWithin qs → AllByRecursion (λ (g : Group). g.key.source < most) (groups qs)
  groups_within qs h = from_within (length qs) (enumerate_from 0 qs) (placed_within 0 qs h)

module _ (schemas : List Heading) where
  canon_if : (b : Bool) (q : Query) (zones : List Query) → is_valid schemas q ≡ b → AreWithin (length schemas) (map canonical zones) → AreWithin (length schemas) (map canonical (cond b (q ∷ zones) zones))
  canon_if true q zones valid h = (source_of schemas q valid, h)
  canon_if false q zones valid h = h

  canons_within : (zones : List Query) → AreWithin (length schemas) (canons_of schemas zones)
  canons_within [] = tt
  canons_within (q ∷ zones) = canon_if (is_valid schemas q) q (filter (is_valid schemas) zones) refl (canons_within zones)

  pub remotes_within : (zones : List Query) → AreWithin (length schemas) (remotes_of schemas zones)
  remotes_within zones = remote_within (length schemas) (roles (canons_of schemas zones)) (canons_of schemas zones) (canons_within zones)

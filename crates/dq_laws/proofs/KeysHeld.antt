-- The keys behind a legal journal.
use Rattle.std.proofs.Common.{◌≡◌, ℕ, zero, suc, ◌+◌, ◌<◌, Bool, true, false, not, cond, List, [], ◌∷◌, map, length, slice_get, Option, Some, None, refl, ap}
use Rattle.std.proofs.lemmas.Option.{slice_get_within}
use Rattle.std.specs.List.{list_all, enumerate_from, filter}
use Rattle.std.specs.Prelude.{is_none}
use Rattle.dq_base.specs.Batches.{Group, fused_key, fuses, groups, groups_from}
use Rattle.dq_base.specs.Canonical.{IsCanonical}
use Rattle.dq_base.specs.Headings.{Heading}
use Rattle.dq_base.specs.Validity.{invalid_by, reason_at}
use Rattle.dq_base.specs.declared.invalid.Invalid.{Invalid}
use Rattle.dq_base.specs.declared.query.Query.{Query}
use Rattle.dq_extract.specs.Loads.{LoadedFiles}
use Rattle.dq_fuse.proofs.KeysValid.{keys_valid}
use Rattle.dq_fuse.specs.Valid.{is_narrow}
use Rattle.dq_journal.specs.declared.entry.Entry.{Entry}
use Rattle.dq_machine.proofs.Reached.{and_both, and_first, and_second}
use Rattle.dq_machine.specs.Machine.{after, legal}
use Rattle.dq_machine.specs.Preparing.{is_valid}
use Rattle.dq_query.proofs.Again.{canonical_again}
use Rattle.dq_laws.specs.Keys.{KeysAre}
use Rattle.dq_laws.proofs.CanonsValid.{canonical_valid}
use Rattle.dq_laws.proofs.Each.{Each}
use Rattle.dq_laws.proofs.Goes.{legal_reached}
use Rattle.dq_laws.proofs.Keyed.{IsKeyed, IsKeyed-reached, keyed_more, keys_are}

-- lists

module _ {X : Type 0} (p : X → Bool) where
  all_such : (xs : List X) → Each (λ x. p x ≡ true) xs → list_all p xs ≡ true
  all_such [] h = refl
  all_such (x ∷ xs) h = and_both (p x) (list_all p xs) h.0 (all_such xs h.1)

  such_all : (xs : List X) → list_all p xs ≡ true → Each (λ x. p x ≡ true) xs
  such_all [] h = tt
  such_all (x ∷ xs) h = (and_first (p x) (list_all p xs) h, such_all xs (and_second (p x) (list_all p xs) h))

-- the keys of groups

groups_valid : (schemas : List Heading) → list_all is_narrow schemas ≡ true → (qs : List Query) → Each (λ q. is_valid schemas q ≡ true) qs
    → Each (λ (g : Group). is_valid schemas g.key ≡ true) (groups qs)
groups_valid schemas narrow qs h = such_all (λ (g : Group). is_valid schemas g.key) (groups qs) (keys_valid schemas qs narrow (all_such (is_valid schemas) qs h))

abbrev Placed : Type 0
Placed = ℕ × Query

fused_canonical : (others : List Query) (q : Query) → IsCanonical q → IsCanonical (fused_key others q)
fused_canonical [] q h = h
fused_canonical (p ∷ ps) q h = ap (λ (r : Query). record (fused_key (p ∷ ps) q) { filters = r.filters }) h

kept_canonical : (b : Bool) (q : Placed) (qs : List Placed) → IsCanonical q.1 → Each (λ (p : Placed). IsCanonical p.1) qs → Each (λ (p : Placed). IsCanonical p.1) (cond b (q ∷ qs) qs)
kept_canonical true q qs here h = (here, h)
kept_canonical false q qs here h = h

filter_canonical : (t : Placed → Bool) (qs : List Placed) → Each (λ (p : Placed). IsCanonical p.1) qs → Each (λ (p : Placed). IsCanonical p.1) (filter t qs)
filter_canonical t [] h = tt
filter_canonical t (q ∷ qs) h = kept_canonical (t q) q (filter t qs) h.0 (filter_canonical t qs h.1)

from_canonical : (n : ℕ) (qs : List Placed) → Each (λ (p : Placed). IsCanonical p.1) qs → Each (λ (g : Group). IsCanonical g.key) (groups_from n qs)
from_canonical zero qs h = tt
from_canonical (suc n) [] h = tt
from_canonical (suc n) (q ∷ qs) h = (
  fused_canonical (map (λ (p : Placed). p.1) (filter (λ p. fuses q.1 p.1) qs)) q.1 h.0,
  from_canonical n (filter (λ p. not (fuses q.1 p.1)) qs) (filter_canonical (λ p. not (fuses q.1 p.1)) qs h.1),
)

placed_canonical : (n : ℕ) (qs : List Query) → Each IsCanonical qs → Each (λ (p : Placed). IsCanonical p.1) (enumerate_from n qs)
placed_canonical n [] h = tt
placed_canonical n (q ∷ qs) h = (h.0, placed_canonical (n + 1) qs h.1)

groups_canonical : (qs : List Query) → Each IsCanonical qs → Each (λ (g : Group). IsCanonical g.key) (groups qs)
groups_canonical qs h = from_canonical (length qs) (enumerate_from 0 qs) (placed_canonical 0 qs h)

-- what the law says

none_of : (o : Option Invalid) → is_none o ≡ true → o ≡ None
none_of None h = refl
none_of (Some reason) h = cc

source_at : (schemas : List Heading) (q : Query) (o : Option Heading) → slice_get schemas q.source ≡ o → is_none (reason_at o q) ≡ true → q.source < length schemas
source_at schemas q None at valid = cc
source_at schemas q (Some heading) at valid = slice_get_within schemas q.source heading at

source_of : (schemas : List Heading) (q : Query) → is_valid schemas q ≡ true → q.source < length schemas
source_of schemas q valid = source_at schemas q (slice_get schemas q.source) refl valid

module _ (l : LoadedFiles) (journal : List Entry) (narrow : list_all is_narrow l.script.schemas ≡ true) (lawful : legal l journal ≡ true) where
  valid_keyed : let s = after l journal in IsKeyed (λ stamp q. is_valid l.script.schemas q ≡ true) s.works s.shelves s.flights.flown
  valid_keyed =
      IsKeyed-reached (λ q. is_valid l.script.schemas q ≡ true) l (canonical_valid l.script.schemas) (groups_valid l.script.schemas narrow) (after l journal)
      (legal_reached l journal lawful)

  more : (R : Query → Type 0) → ((q : Query) → is_valid l.script.schemas q ≡ true → R q)
      → IsKeyed (λ stamp q. R q) (after l journal).works (after l journal).shelves (after l journal).flights.flown
  more R from =
      let s = after l journal in
      keyed_more (λ stamp q. is_valid l.script.schemas q ≡ true) (λ stamp q. R q) s.works s.shelves s.flights.flown (λ stamp q valid. from q valid) valid_keyed

  pub held_valid : KeysAre (λ q. invalid_by l.script.schemas q ≡ None) (after l journal)
  held_valid =
      keys_are (λ q. invalid_by l.script.schemas q ≡ None) (after l journal)
      (more (λ q. invalid_by l.script.schemas q ≡ None) (λ q valid. none_of (invalid_by l.script.schemas q) valid))

  pub held_sources : KeysAre (λ q. q.source < length l.script.schemas) (after l journal)
  held_sources =
      keys_are (λ q. q.source < length l.script.schemas) (after l journal)
      (more (λ q. q.source < length l.script.schemas) (source_of l.script.schemas))

pub held_canonical : (l : LoadedFiles) (journal : List Entry) → legal l journal ≡ true → KeysAre IsCanonical (after l journal)
held_canonical l journal lawful =
    keys_are IsCanonical (after l journal)
    (IsKeyed-reached IsCanonical l (λ q valid. canonical_again q) groups_canonical (after l journal) (legal_reached l journal lawful))

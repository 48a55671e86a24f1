-- Stamps are at most as many as there were publications.
use Rattle.std.proofs.Common.{◌≡◌, ℕ, suc, ◌+◌, ◌≤◌, Bool, true, false, List, [], ◌∷◌, length, arith}
use Rattle.std.specs.Prelude.{nat_eq, if◌then◌else◌}
use Rattle.dq_base.specs.Batches.{Group, groups}
use Rattle.dq_base.specs.declared.query.Query.{Query}
use Rattle.dq_extract.specs.Loads.{LoadedFiles}
use Rattle.dq_journal.specs.declared.entry.Entry.{Entry}
use Rattle.dq_machine.proofs.Reached.{reached_keeps}
use Rattle.dq_machine.specs.Machine.{IsReached, allowed, next}
use Rattle.dq_machine.specs.Publishing.{stamp_in}
use Rattle.dq_machine.specs.State.{Flown, Publication, Shelves, State, Work}
use Rattle.dq_laws.proofs.Each.{Each}
use Rattle.dq_laws.proofs.Keyed.{IsKeyed, IsKeyed-next, IsKeyed-start, keyed_more}
use Rattle.dq_laws.proofs.Stays.{adds_next}

abbrev pub IsStamped : ℕ → List Work → Shelves → List Flown → Type 0
IsStamped n works shelves flown = IsKeyed (λ stamp q. stamp ≤ n) works shelves flown

-- stamps of sources

stamp_either : (b : Bool) (n m k : ℕ) → n ≤ k → m ≤ k → (if b then n else m) ≤ k
stamp_either true n m k here elsewhere = here
stamp_either false n m k here elsewhere = elsewhere

stamp_within : (versions : List Publication) (source : ℕ) → stamp_in versions source ≤ length versions
stamp_within [] source = omega arith
stamp_within (v ∷ versions) source =
    stamp_either (nat_eq v.source source) (length versions + 1) (stamp_in versions source) (suc (length versions)) (omega arith) (omega (arith, stamp_within versions source))

-- each entry

any_group : (gs : List Group) → Each (λ (g : Group). Unit {0}) gs
any_group [] = tt
any_group (g ∷ gs) = (tt, any_group gs)

IsStamped-next : (l : LoadedFiles) (s : State) (e : Entry) → IsStamped (length s.versions) s.works s.shelves s.flights.flown → allowed l s e ≡ true
    → IsStamped (length (next l s e).versions) (next l s e).works (next l s e).shelves (next l s e).flights.flown
IsStamped-next l s e h a =
    let t = next l s e in
    let more = (adds_next l s e).more in
    keyed_more (λ stamp q. stamp ≤ length s.versions) (λ stamp q. stamp ≤ length t.versions) t.works t.shelves t.flights.flown (λ stamp q le. omega (arith, le, more))
    (IsKeyed-next (λ (q : Query). Unit {0}) l (λ q valid. tt) (λ qs such. any_group (groups qs)) (λ stamp q. stamp ≤ length s.versions) s (λ q such. stamp_within s.versions q.source) e h a)

pub IsStamped-reached : (l : LoadedFiles) (s : State) → IsReached l s → IsStamped (length s.versions) s.works s.shelves s.flights.flown
IsStamped-reached l s r =
    reached_keeps l (λ s. IsStamped (length s.versions) s.works s.shelves s.flights.flown) (λ s e h a. IsStamped-next l s e h a) s
    (IsKeyed-start (λ stamp q. stamp ≤ 0) l) r

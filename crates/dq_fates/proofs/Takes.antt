-- What a lane's Takes start, and the flights that zones own by them.
use Rattle.std.proofs.Common.{◌≡◌, ℕ, ◌≤◌, List, [], ◌∷◌, ◌++◌, length, drop, refl, ap, ◌∙◌, arith, append-nil}
use Rattle.std.proofs.lemmas.Bool.{eq-eqb}
use Rattle.std.proofs.lemmas.Grind.{flat_map-append}
use Rattle.std.proofs.lemmas.List.{drop-append-le}
use Rattle.std.specs.List.{flat_map}
use Rattle.std.specs.Prelude.{Option, Some, None}
use Rattle.dq_journal.specs.Journals.{lane_of}
use Rattle.dq_journal.specs.Steps.{entries_of}
use Rattle.dq_journal.specs.declared.entry.Entry.{Entry}
use Rattle.dq_journal.specs.declared.entry.Met.{Met}
use Rattle.dq_journal.specs.declared.entry.Met.TheVariants as met
use Rattle.dq_machine.specs.Owning.{own_flights, started_behind, started_in}
use Rattle.dq_fates.specs.Joins.{joins_in}
use Rattle.dq_fates.proofs.GoingOn.{entries-append, entries-idle}

behind_more : (journal more : List Entry) (lane place : ℕ) → place ≤ length journal → started_behind (journal ++ more) lane place ≡ flat_map started_in (entries_of lane (drop place journal ++ more))
behind_more journal more lane place within = ap (λ es. flat_map started_in (entries_of lane es)) (drop-append-le place journal more within)

pub takes_stay : (journal more : List Entry) (lane place : ℕ) → entries_of lane more ≡ [] → place ≤ length journal → started_behind (journal ++ more) lane place ≡ started_behind journal lane place
takes_stay journal more lane place idle within =
    behind_more journal more lane place within ∙ ap (flat_map started_in) (entries-idle lane (drop place journal) more idle)

entries-own : (lane : ℕ) (e : Entry) → lane_of e ≡ lane → entries_of lane (e ∷ []) ≡ e ∷ []
entries-own lane e same = rw (eq-eqb (lane_of e) lane same) refl

pub takes_push : (journal : List Entry) (e : Entry) (lane place : ℕ) → place ≤ length journal → lane_of e ≡ lane
    → started_behind (journal ++ e ∷ []) lane place ≡ started_behind journal lane place ++ started_in e
takes_push journal e lane place within same =
    let before : List Entry = entries_of lane (drop place journal) in
    behind_more journal (e ∷ []) lane place within
    ∙ ap (flat_map started_in) (entries-append lane (drop place journal) (e ∷ []) ∙ ap (λ es. before ++ es) (entries-own lane e same))
    ∙ flat_map-append started_in before (e ∷ [])
    ∙ ap (λ takes. flat_map started_in before ++ takes) (append-nil (started_in e))

-- once all joins are taken, later Takes change nothing
pub owns_taken : (ms : List Met) (takes more : List (Option ℕ)) → joins_in ms ≤ length takes → own_flights ms (takes ++ more) ≡ own_flights ms takes
owns_taken [] takes more taken = refl
owns_taken (met.Hit f ∷ ms) takes more taken = ap (λ owns. None ∷ owns) (owns_taken ms takes more taken)
owns_taken (met.Literal f ∷ ms) takes more taken = ap (λ owns. None ∷ owns) (owns_taken ms takes more taken)
owns_taken (met.Group f ∷ ms) takes more taken = ap (λ owns. Some f ∷ owns) (owns_taken ms takes more taken)
owns_taken (met.Join f ∷ ms) [] more taken = absurd (omega (arith, taken))
owns_taken (met.Join f ∷ ms) (t ∷ takes) more taken = let left : joins_in ms ≤ length takes = omega (arith, taken) in ap (λ owns. t ∷ owns) (owns_taken ms takes more left)

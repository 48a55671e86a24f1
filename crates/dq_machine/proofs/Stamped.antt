-- Stamps and rows of publications.
use Rattle.std.proofs.Common.{◌≡◌, ◌≢◌, inl, inr, ℕ, zero, suc, ◌+◌, ◌-◌, ◌<◌, ◌≤◌, Bool, true, false, eqb, List, [], ◌∷◌, ◌++◌, length, get_or, slice_set, reverse, refl, ap, sym, ◌∙◌, arith, length-append}
use Rattle.std.proofs.Math.ListN.{get_or-append}
use Rattle.std.proofs.Math.Seq.{get_or-append_seam}
use Rattle.std.proofs.lemmas.Bool.{eq-eqb}
use Rattle.std.proofs.lemmas.Bool.Decides.{eqb_tells}
use Rattle.std.proofs.lemmas.List.{get_or-reverse, get_or-set_same, get_or-set_other, length-reverse}
use Rattle.std.proofs.lemmas.Option.{get_or_from_slice_get, slice_get_within}
use Rattle.std.specs.Prelude.{◌⊎◌, slice_get, Option, Some, None, nat_eq, if◌then◌else◌}
use Rattle.dq_journal.specs.Standing.{Rows}
use Rattle.dq_machine.specs.Publishing.{rows_at, stamp_in}
use Rattle.dq_machine.specs.State.{Publication}
use Rattle.dq_machine.specs.Latest.{AreLatest}

-- a stamp more

latest_at : (latest latest' : List ℕ) (versions : List Publication) (source : ℕ) (new : Publication) (n k : ℕ) → AreLatest latest versions
    → ((i : ℕ) → get_or latest' i 0 ≡ get_or latest i 0) → source < length latest' → new.source ≡ source → n ≡ length versions + 1
    → ((eqb source k ≡ true) × (source ≡ k)) ⊎ ((eqb source k ≡ false) × (source ≢ k)) → get_or (slice_set latest' source n) k 0 ≡ stamp_in (new ∷ versions) k
latest_at latest latest' versions source new n k h same lt is count (inl (told, here)) =
    rw (is, told, ← here, ← count) (get_or-set_same latest' source n 0 lt)
latest_at latest latest' versions source new n k h same lt is count (inr (told, apart)) =
    let ne : k ≢ source = λ e. apart (sym e) in
    rw (is, told) (get_or-set_other latest' source k n 0 ne ∙ same k ∙ h.each k)

pub AreLatest-push : (latest latest' : List ℕ) (versions : List Publication) (source : ℕ) (new : Publication) (n : ℕ) → AreLatest latest versions
    → ((i : ℕ) → get_or latest' i 0 ≡ get_or latest i 0) → source < length latest' → new.source ≡ source → n ≡ length versions + 1
    → AreLatest (slice_set latest' source n) (new ∷ versions)
AreLatest-push latest latest' versions source new n h same lt is count =
    record { each = λ k. latest_at latest latest' versions source new n k h same lt is count (eqb_tells source k) }

-- the rows of a stamp

none_at : (v : Publication) (versions : List Publication) (stamp : ℕ) → stamp ≢ length versions + 1 → rows_at versions stamp ≡ []
    → ((eqb stamp (length versions + 1) ≡ true) × (stamp ≡ length versions + 1)) ⊎ ((eqb stamp (length versions + 1) ≡ false) × (stamp ≢ length versions + 1))
    → rows_at (v ∷ versions) stamp ≡ []
none_at v versions stamp ne h (inl (told, same)) = absurd (ne same)
none_at v versions stamp ne h (inr (told, apart)) = rw told h

pub rows_at-zero : (versions : List Publication) → rows_at versions 0 ≡ []
rows_at-zero [] = refl
rows_at-zero (v ∷ versions) = none_at v versions 0 (omega arith) (rows_at-zero versions) (eqb_tells 0 (length versions + 1))

rows_at-past : (versions : List Publication) (stamp : ℕ) → length versions < stamp → rows_at versions stamp ≡ []
rows_at-past [] stamp past = refl
rows_at-past (v ∷ versions) stamp past = none_at v versions stamp (omega arith) (rows_at-past versions stamp (omega arith)) (eqb_tells stamp (length versions + 1))

one_at : (v : Publication) (versions : List Publication) (stamp : ℕ) (d : Publication) → stamp ≤ suc (length versions)
    → (stamp ≤ length versions → rows_at versions stamp ≡ (get_or versions (length versions - stamp) d).rows)
    → ((eqb stamp (length versions + 1) ≡ true) × (stamp ≡ length versions + 1)) ⊎ ((eqb stamp (length versions + 1) ≡ false) × (stamp ≢ length versions + 1))
    → rows_at (v ∷ versions) stamp ≡ (get_or (v ∷ versions) (suc (length versions) - stamp) d).rows
one_at v versions stamp d le h (inl (told, same)) =
    let first : suc (length versions) - stamp ≡ 0 = omega (arith, same) in
    rw told (ap (λ k. (get_or (v ∷ versions) k d).rows) (sym first))
one_at v versions stamp d le h (inr (told, apart)) =
    let behind : suc (length versions) - stamp ≡ suc (length versions - stamp) = omega (arith, apart, le) in
    rw told (h (omega (arith, apart, le)) ∙ ap (λ k. (get_or (v ∷ versions) k d).rows) (sym behind))

rows_at-within : (versions : List Publication) (stamp : ℕ) (d : Publication) → 0 < stamp → stamp ≤ length versions → rows_at versions stamp ≡ (get_or versions (length versions - stamp) d).rows
rows_at-within [] stamp d some le = absurd (omega arith)
rows_at-within (v ∷ versions) stamp d some le =
    one_at v versions stamp d (omega arith) (λ less. rows_at-within versions stamp d some less) (eqb_tells stamp (length versions + 1))

-- where publications are held with the latest last

none_past : {X : Type 0} (xs : List X) (i : ℕ) → slice_get xs i ≡ None → length xs ≤ i
none_past [] i none = omega arith
none_past (x ∷ xs) zero none = cc
none_past (x ∷ xs) (suc i) none = omega (arith, none_past xs i none)

pub rows_at-held : (held : List Publication) (stamp : ℕ) (p : Publication) → 0 < stamp → slice_get held (stamp - 1) ≡ Some p → p.rows ≡ rows_at (reverse held) stamp
rows_at-held held stamp p some is =
    let lt = slice_get_within held (stamp - 1) p is in
    let place : length held - 1 - (length (reverse held) - stamp) ≡ stamp - 1 = omega (arith, lt, length-reverse held) in
    let item : get_or (reverse held) (length (reverse held) - stamp) p ≡ p =
    get_or-reverse held (length (reverse held) - stamp) p (omega (arith, lt, length-reverse held)) ∙ ap (λ k. get_or held k p) place ∙ get_or_from_slice_get held (stamp - 1) p p is in
    sym (rows_at-within (reverse held) stamp p some (omega (arith, lt, length-reverse held)) ∙ ap (λ q. q.rows) item)

pub rows_at-none : (held : List Publication) (stamp : ℕ) → slice_get held (stamp - 1) ≡ None → rows_at (reverse held) stamp ≡ []
rows_at-none held zero none = rows_at-zero (reverse held)
rows_at-none held (suc n) none = rows_at-past (reverse held) (suc n) (omega (arith, length-reverse held, none_past held (suc n - 1) none))

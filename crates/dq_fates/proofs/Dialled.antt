-- How many dials of a lane failed, as its journal grows.
use Rattle.std.proofs.Common.{◌≡◌, ◌≢◌, inl, inr, ℕ, ◌+◌, ◌≤◌, Bool, true, false, cond, eqb, List, [], ◌∷◌, ◌++◌, length, refl, ap, ◌∙◌, arith, length-append, append-nil}
use Rattle.std.proofs.lemmas.Bool.Decides.{eqb_tells}
use Rattle.std.proofs.lemmas.List.Elements.{filter-append}
use Rattle.std.specs.Prelude.{◌⊎◌, filter, nat_eq, if◌then◌else◌}
use Rattle.dq_journal.specs.Journals.{lane_of}
use Rattle.dq_journal.specs.Steps.{entries_of}
use Rattle.dq_journal.specs.declared.entry.Entry.{Entry}
use Rattle.dq_journal.specs.declared.entry.Entry.TheVariants.{Publish, Admit, Lease, Give, Lose, Land, Fall, Take, End}
use Rattle.dq_fates.specs.Dials.{is_undialled, lost_dials}
use Rattle.dq_fates.specs.GoingOn.{GoesOn}

count_one : (b : Bool) (e : Entry) → length (cond b (e ∷ []) []) ≡ (if b then 1 else 0)
count_one true e = refl
count_one false e = refl

pub dials_push : (lane : ℕ) (journal : List Entry) (e : Entry) → lost_dials lane (journal ++ e ∷ []) ≡ lost_dials lane journal + (if is_undialled lane e then 1 else 0)
dials_push lane journal e =
    ap length (filter-append (is_undialled lane) journal (e ∷ []))
    ∙ length-append (filter (is_undialled lane) journal) (filter (is_undialled lane) (e ∷ []))
    ∙ ap (λ k. lost_dials lane journal + k) (count_one (is_undialled lane e) e)

-- an entry of another lane loses none of this one

other_lane : (lane : ℕ) (e : Entry) → nat_eq (lane_of e) lane ≡ false → is_undialled lane e ≡ false
other_lane lane (Publish a number) other = refl
other_lane lane (Admit a number met) other = refl
other_lane lane (Lease a flight link fresh) other = refl
other_lane lane (Give a flight link ran runs calls) other = refl
other_lane lane (Lose a flight link dialled ran runs calls) other = rw other refl
other_lane lane (Land a flight cells clever literal) other = refl
other_lane lane (Fall a flight cause) other = refl
other_lane lane (Take a flight next) other = refl
other_lane lane (End a) other = refl

none_kept : (e : Entry) (kept es : List Entry) → cond true (e ∷ kept) es ≡ [] → ⊥
none_kept e kept es h = cc

pub none_undialled : (lane : ℕ) (es : List Entry) → entries_of lane es ≡ [] → filter (is_undialled lane) es ≡ []
none_undialled lane [] idle = refl
none_undialled lane (e ∷ es) idle = by (eqb_tells (lane_of e) lane) (none_undialled lane es)
  where
    by : ((eqb (lane_of e) lane ≡ true) × (lane_of e ≡ lane)) ⊎ ((eqb (lane_of e) lane ≡ false) × (lane_of e ≢ lane))
        → (entries_of lane es ≡ [] → filter (is_undialled lane) es ≡ []) → filter (is_undialled lane) (e ∷ es) ≡ []
    by (inl (told, same)) more = absurd (none_kept e (entries_of lane es) (entries_of lane es) (rw told at idle))
    by (inr (told, apart)) more = let rest : entries_of lane es ≡ [] = rw told at idle in rw (other_lane lane e told) (more rest)

pub dials_idle : (lane : ℕ) (journal more : List Entry) → entries_of lane more ≡ [] → lost_dials lane (journal ++ more) ≡ lost_dials lane journal
dials_idle lane journal more idle =
    ap length (filter-append (is_undialled lane) journal more)
    ∙ ap (λ es. length (filter (is_undialled lane) journal ++ es)) (none_undialled lane more idle)
    ∙ ap length (append-nil (filter (is_undialled lane) journal))

pub dials_stay : (lane : ℕ) (old new : List Entry) → GoesOn lane old new → lost_dials lane new ≡ lost_dials lane old
dials_stay lane old new on = ap (lost_dials lane) on.is ∙ dials_idle lane old on.more on.idle

pub dials_within : (lane : ℕ) (journal : List Entry) → lost_dials lane journal ≤ length journal
dials_within lane [] = omega arith
dials_within lane (e ∷ journal) = by (is_undialled lane e) (dials_within lane journal)
  where
    by : (b : Bool) → lost_dials lane journal ≤ length journal → length (cond b (e ∷ filter (is_undialled lane) journal) (filter (is_undialled lane) journal)) ≤ length (e ∷ journal)
    by true within = omega arith
    by false within = omega arith

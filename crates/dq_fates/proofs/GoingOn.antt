-- What stays while a journal goes on without a lane.
use Rattle.std.proofs.Common.{◌≡◌, ◌≢◌, inl, inr, ℕ, ◌<◌, true, false, eqb, List, [], ◌∷◌, ◌++◌, refl, ap, sym, subst, ◌∙◌, arith, append_assoc, append-nil}
use Rattle.std.proofs.lemmas.Bool.{eqb-true}
use Rattle.std.proofs.lemmas.Bool.Decides.{eqb_tells}
use Rattle.std.proofs.lemmas.List.Elements.{filter-append}
use Rattle.std.specs.Prelude.{◌⊎◌, All, nat_eq}
use Rattle.dq_extract.specs.Loads.{LoadedFiles}
use Rattle.dq_journal.specs.Journals.{lane_of}
use Rattle.dq_journal.specs.Steps.{entries_of}
use Rattle.dq_journal.specs.declared.entry.Entry.{Entry}
use Rattle.dq_laws.specs.Flying.{StaysAt}
use Rattle.dq_laws.proofs.Apart.{idle_stays}
use Rattle.dq_machine.specs.Machine.{after, legal}
use Rattle.dq_machine.specs.State.{flight_at, is_first, work_of}
use Rattle.dq_fates.specs.GoingOn.{GoesOn}

-- the entries of a lane

pub entries-append : (lane : ℕ) (journal more : List Entry) → entries_of lane (journal ++ more) ≡ entries_of lane journal ++ entries_of lane more
entries-append lane journal more = filter-append (λ e. nat_eq (lane_of e) lane) journal more

pub entries-idle : (lane : ℕ) (journal more : List Entry) → entries_of lane more ≡ [] → entries_of lane (journal ++ more) ≡ entries_of lane journal
entries-idle lane journal more idle =
    entries-append lane journal more ∙ ap (λ es. entries_of lane journal ++ es) idle ∙ append-nil (entries_of lane journal)

pub entries-other : (lane : ℕ) (e : Entry) → lane_of e ≢ lane → entries_of lane (e ∷ []) ≡ []
entries-other lane e ne = by (eqb_tells (lane_of e) lane)
  where
    by : ((eqb (lane_of e) lane ≡ true) × (lane_of e ≡ lane)) ⊎ ((eqb (lane_of e) lane ≡ false) × (lane_of e ≢ lane)) → entries_of lane (e ∷ []) ≡ []
    by (inl (told, same)) = absurd (ne same)
    by (inr (told, apart)) = rw told refl

-- how journals go on

pub goes_on_same : (lane : ℕ) (journal : List Entry) → GoesOn lane journal journal
goes_on_same lane journal = record { more = []; is = sym (append-nil journal); idle = refl }

pub goes_on_more : (lane : ℕ) (a b c : List Entry) → GoesOn lane a b → GoesOn lane b c → GoesOn lane a c
goes_on_more lane a b c h k = record {
  more = h.more ++ k.more;
  is = k.is ∙ ap (λ es. es ++ k.more) h.is ∙ append_assoc a h.more k.more;
  idle = entries-idle lane h.more k.more k.idle ∙ h.idle;
}

pub goes_on_other : (lane : ℕ) (a b : List Entry) (e : Entry) → GoesOn lane a b → lane_of e ≢ lane → GoesOn lane a (b ++ e ∷ [])
goes_on_other lane a b e h ne = goes_on_more lane a b (b ++ e ∷ []) h (record { more = e ∷ []; is = refl; idle = entries-other lane e ne })

-- what stays

pub entries_stay : (lane : ℕ) (old new : List Entry) → GoesOn lane old new → entries_of lane new ≡ entries_of lane old
entries_stay lane old new on = ap (entries_of lane) on.is ∙ entries-idle lane old on.more on.idle

first_all : (P : ℕ → Type 0) (own : List ℕ) (flight : ℕ) → is_first own flight ≡ true → All P own → P flight
first_all P [] flight first all = let no : ⊥ = cc in absurd no
first_all P (f ∷ own) flight first all = rw (← eqb-true f flight first) (all 0 f (omega arith))

module _ (l : LoadedFiles) (lane : ℕ) (old new : List Entry) (lawful : legal l new ≡ true) (above : 0 < lane) (on : GoesOn lane old new) where
  longer : legal l (old ++ on.more) ≡ true
  longer = ap (legal l) (sym on.is) ∙ lawful

  pub work_stays : work_of (after l new) lane ≡ work_of (after l old) lane
  work_stays = ap (λ es. work_of (after l es) lane) on.is ∙ (idle_stays l old on.more lane longer above on.idle).work

  pub own_stays : (flight : ℕ) → is_first (work_of (after l old) lane).own flight ≡ true → StaysAt (flight_at (after l old) flight) (flight_at (after l new) flight)
  own_stays flight first =
      let all = (idle_stays l old on.more lane longer above on.idle).flights in
      let stays = first_all (λ n. StaysAt (flight_at (after l old) n) (flight_at (after l (old ++ on.more)) n)) (work_of (after l old) lane).own flight first all in
      subst (λ (es : List Entry). StaysAt (flight_at (after l old) flight) (flight_at (after l es) flight)) (sym on.is) stays

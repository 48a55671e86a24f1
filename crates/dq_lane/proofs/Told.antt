-- That a journal has a lane's steps, as the lane tells them.
use Rattle.std.proofs.Common.{◌≡◌, ℕ, ◌+◌, ◌-◌, ◌<◌, ◌≤◌, true, false, List, [], ◌∷◌, ◌++◌, length, get_or, slice_get, Option, Some, None, refl, ap, sym, ◌∙◌, arith, append-nil}
use Rattle.std.specs.List.{flat_map, list_any}
use Rattle.dq_base.specs.declared.script.Step.{Step}
use Rattle.dq_extract.specs.Loads.{LoadedFiles}
use Rattle.dq_fates.proofs.GoingOn.{entries_stay, work_stays}
use Rattle.dq_fates.specs.GoingOn.{GoesOn}
use Rattle.dq_journal.specs.Journals.{lane_of}
use Rattle.dq_journal.specs.Steps.{entries_of, is_end, step_in}
use Rattle.dq_journal.specs.declared.entry.Entry.{Entry}
use Rattle.dq_journal.specs.declared.entry.Entry.TheVariants.{End}
use Rattle.dq_laws.specs.Lengths.{most_entries_of_journal}
use Rattle.dq_machine.specs.Machine.{after, legal}
use Rattle.dq_machine.specs.State.{work_of}
use Rattle.dq_lane.specs.Kept.{IsTold}
use Rattle.dq_lane.specs.Order.{named_from, place_tells, places_tell}
use Rattle.dq_lane.specs.View.{steps_of}
use Rattle.dq_lane.proofs.Entries.{ends_own, no_end_own, steps_own}
use Rattle.dq_lane.proofs.Places.{named_none, named_some, numbered_last, tell_more, tell_on}

module _ (l : LoadedFiles) (lane : ℕ) where
  -- the next step has its entry
  pub record NamesNext (old : List Entry) (places : List (Option ℕ)) (s : Step) (e : Entry) : Type 0 where
    pub own : lane_of e ≡ lane
    pub at : slice_get (steps_of l lane) (length places) ≡ Some s
    pub names : step_in e ≡ (length places + 1) ∷ []
    pub tells : place_tells (old ++ e ∷ []) lane (1 + length places) s (Some (length (old ++ e ∷ []))) ≡ true
    pub goes : is_end e ≡ false
    pub legal : legal l (old ++ e ∷ []) ≡ true
    pub ended : (work_of (after l (old ++ e ∷ [])) lane).ended ≡ false
    pub short : length (old ++ e ∷ []) ≤ most_entries_of_journal

  -- an entry of the lane that names no step
  pub record NamesNone (old : List Entry) (e : Entry) : Type 0 where
    pub own : lane_of e ≡ lane
    pub names : step_in e ≡ []
    pub goes : is_end e ≡ false
    pub legal : legal l (old ++ e ∷ []) ≡ true
    pub ended : (work_of (after l (old ++ e ∷ [])) lane).ended ≡ false
    pub short : length (old ++ e ∷ []) ≤ most_entries_of_journal

module _ (l : LoadedFiles) (lane : ℕ) (above : 0 < lane) where
  -- others go on
  pub told_on : (seen journal : List Entry) (done : _) (places : List (Option ℕ)) → IsTold l lane seen done places → GoesOn lane seen journal → legal l journal ≡ true
      → length journal ≤ most_entries_of_journal → IsTold l lane journal done places
  told_on seen journal done places h on lawful short =
      let same = entries_stay lane seen journal on in
      let w = work_stays l lane seen journal lawful above on in
      record {
        legal = lawful;
        tells = rw on.is (tell_on seen on.more lane 1 (steps_of l lane) places h.tells);
        order = rw same h.order;
        ends = rw same h.ends;
        ended = rw w h.ended;
        short = short;
      }

  -- a step is refused
  pub told_refused : (seen : List Entry) (places : List (Option ℕ)) (s : Step) → IsTold l lane seen false places → slice_get (steps_of l lane) (length places) ≡ Some s
      → IsTold l lane seen false (places ++ None ∷ [])
  told_refused seen places s h at = record {
    legal = h.legal;
    tells = tell_more seen lane 1 (steps_of l lane) places s None h.tells at refl;
    order = h.order ∙ sym (named_none 1 places);
    ends = h.ends;
    ended = h.ended;
    short = h.short;
  }

  -- the next step has its entry
  pub told_begun : (old : List Entry) (places : List (Option ℕ)) (s : Step) (e : Entry) → IsTold l lane old false places → NamesNext l lane old places s e
      → IsTold l lane (old ++ e ∷ []) false (places ++ Some (length (old ++ e ∷ [])) ∷ [])
  told_begun old places s e h n =
      let number : length places + 1 ≡ 1 + length places = omega arith in
      record {
        legal = n.legal;
        tells = tell_more (old ++ e ∷ []) lane 1 (steps_of l lane) places s (Some (length (old ++ e ∷ []))) (tell_on old (e ∷ []) lane 1 (steps_of l lane) places h.tells) n.at n.tells;
        order = rw (steps_own lane old e n.own, h.order, n.names, number) (sym (named_some 1 places (length (old ++ e ∷ []))));
        ends = no_end_own lane old e n.own n.goes h.ends;
        ended = n.ended;
        short = n.short;
      }

  -- an entry of the lane that names no step
  pub told_ahead : (old : List Entry) (places : List (Option ℕ)) (e : Entry) → IsTold l lane old false places → NamesNone l lane old e → IsTold l lane (old ++ e ∷ []) false places
  told_ahead old places e h n = record {
    legal = n.legal;
    tells = tell_on old (e ∷ []) lane 1 (steps_of l lane) places h.tells;
    order = steps_own lane old e n.own ∙ rw n.names (append-nil (flat_map step_in (entries_of lane old))) ∙ h.order;
    ends = no_end_own lane old e n.own n.goes h.ends;
    ended = n.ended;
    short = n.short;
  }

  -- the lane's end
  pub told_ended : (old : List Entry) (places : List (Option ℕ)) → IsTold l lane old false places → legal l (old ++ End lane ∷ []) ≡ true
      → (work_of (after l (old ++ End lane ∷ [])) lane).ended ≡ true → length (old ++ End lane ∷ []) ≤ most_entries_of_journal → IsTold l lane (old ++ End lane ∷ []) true places
  told_ended old places h lawful ended short = record {
    legal = lawful;
    tells = tell_on old (End lane ∷ []) lane 1 (steps_of l lane) places h.tells;
    order = steps_own lane old (End lane) refl ∙ append-nil (flat_map step_in (entries_of lane old)) ∙ h.order;
    ends = ends_own lane old h.ends;
    ended = ended;
    short = short;
  }

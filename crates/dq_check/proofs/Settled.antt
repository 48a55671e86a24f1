-- What is found of a batch's outcomes is what may be said of its step.
use Rattle.std.proofs.Common.{◌≡◌, ℕ, zero, suc, ◌+◌, ◌<◌, Bool, true, false, List, [], ◌∷◌, length, map, Some, None, Option, refl, ap, sym, ◌∙◌}
use Rattle.std.specs.Prelude.{nat_eq}
use Rattle.dq_base.specs.Headings.{Heading}
use Rattle.dq_base.specs.declared.query.Query.{Query}
use Rattle.dq_base.specs.declared.script.Script.{Script}
use Rattle.dq_base.specs.declared.script.Step.TheVariants as step
use Rattle.dq_extract.specs.Loads.{LoadedFiles}
use Rattle.dq_journal.specs.Shown.{joint_at}
use Rattle.dq_journal.specs.Standing.{Rows, stand}
use Rattle.dq_journal.specs.declared.entry.Entry.{Entry}
use Rattle.dq_journal.specs.declared.result.ZoneResult.{ZoneResult}
use Rattle.dq_journal.specs.declared.result.StepResult.TheVariants.{Admitted, Unadmitted}
use Rattle.dq_machine.specs.Owning.{Origin, met_in, origins, own_flights, started_behind, valid_origins, valid_places}
use Rattle.dq_machine.specs.Preparing.{canons_of}
use Rattle.dq_base.specs.Batches.{roles}
use Rattle.dq_base.specs.Scripts.{numbered}
use Rattle.dq_check.specs.Dues.{DueOf, Explained, HaveLeaders, dues_of, joint_in, refused_due}
use Rattle.dq_check.specs.Grounds.{IsWrongAmong, JudgesStep, joined_count, joints_over}
use Rattle.dq_check.proofs.Explaining.{admitted_explained, explained_along, explains_admitted, explains_refused, refused_explained}
use Rattle.dq_check.proofs.Joined.{alike_back, joined_shown, joints_alike}
use Rattle.dq_check.proofs.Leaders.{leaders_met, leaders_refused, long_over}

-- lengths

pub long_dues : (schemas : List Heading) (rows : ℕ → Rows) (journal : List Entry) (zones : List Query) (os : List Origin) → length (dues_of schemas rows journal zones os) ≡ length zones
long_dues schemas rows journal [] os = refl
long_dues schemas rows journal (q ∷ zones) [] = ap suc (long_dues schemas rows journal zones [])
long_dues schemas rows journal (q ∷ zones) (o ∷ os) = ap suc (long_dues schemas rows journal zones os)

pub long_refused : (schemas : List Heading) (zones : List Query) → length (map (refused_due schemas) zones) ≡ length zones
long_refused schemas [] = refl
long_refused schemas (q ∷ zones) = ap suc (long_refused schemas zones)

long_origins : (schemas : List Heading) (journal : List Entry) (lane place : ℕ) (zones : List Query) → length (origins schemas journal lane place zones) ≡ length zones
long_origins schemas journal lane place zones =
    long_over schemas zones (valid_origins (roles (canons_of schemas zones)) (own_flights (met_in (numbered journal place)) (started_behind journal lane place)) (valid_places schemas 0 zones))

-- admitted batches

module _ (l : LoadedFiles) (journal : List Entry) (lane number place : ℕ) (zones : List Query) where
  abbrev due : List DueOf
  due = dues_of l.script.schemas (stand l journal place) journal zones (origins l.script.schemas journal lane place zones)

  pub leaders_due : HaveLeaders due due
  leaders_due = leaders_met l.script.schemas (stand l journal place) journal zones (met_in (numbered journal place)) (started_behind journal lane place)

  pub length_due : length due ≡ length zones
  length_due = long_dues l.script.schemas (stand l journal place) journal zones (origins l.script.schemas journal lane place zones)

  pub admitted_judged : (shown : List ZoneResult) (wrong : Option ℕ) → IsWrongAmong (joints_over (joint_at l.script lane number) 1 zones) due shown wrong
      → JudgesStep l journal lane number (step.Batch zones) (Admitted place shown) wrong
  admitted_judged shown None h =
      let alike = joints_alike (joint_at l.script lane number) zones due length_due in
      record {
        count = ap (nat_eq (length shown)) (sym (joined_shown (joint_at l.script lane number) 1 false zones)) ∙ h.0;
        whole = explains_admitted l journal lane number place (length shown) zones shown (long_origins l.script.schemas journal lane place zones)
            (explained_along (joint_in (joints_over (joint_at l.script lane number) 1 zones)) (joint_at l.script lane number) due shown (length shown) alike h.1);
      }
  admitted_judged shown (Some zero) h = ap (nat_eq (length shown)) (sym (joined_shown (joint_at l.script lane number) 1 false zones)) ∙ h
  admitted_judged shown (Some (suc before)) h =
      let alike = joints_alike (joint_at l.script lane number) zones due length_due in
      let back = alike_back (joint_in (joints_over (joint_at l.script lane number) 1 zones)) (joint_at l.script lane number) 1 due alike in (
        ap (nat_eq (length shown)) (sym (joined_shown (joint_at l.script lane number) 1 false zones)) ∙ h.0,
        h.1,
        explains_admitted l journal lane number place before zones shown (long_origins l.script.schemas journal lane place zones)
            (explained_along (joint_in (joints_over (joint_at l.script lane number) 1 zones)) (joint_at l.script lane number) due shown before alike h.2),
        λ e. h.3 (explained_along (joint_at l.script lane number) (joint_in (joints_over (joint_at l.script lane number) 1 zones)) due shown (suc before) back
            (admitted_explained l journal lane number place (suc before) zones shown e)),
      )

  -- what the calls told of it
  pub leaders_told : (dues : List DueOf) → dues ≡ due → HaveLeaders dues dues
  leaders_told dues is = rw is leaders_due

  pub length_told : (dues : List DueOf) (over : List Query) → dues ≡ due → over ≡ zones → length dues ≡ length over
  length_told dues over is over_is = ap length is ∙ length_due ∙ ap length (sym over_is)

  pub admitted_wrong : (script : Script) (over : List Query) (dues : List DueOf) (seen shown : List ZoneResult) (wrong : Option ℕ)
      → script ≡ l.script → over ≡ zones → dues ≡ due → seen ≡ shown
      → IsWrongAmong (joints_over (joint_at script lane number) 1 over) dues seen wrong → JudgesStep l journal lane number (step.Batch zones) (Admitted place shown) wrong
  admitted_wrong script over dues seen shown wrong script_is over_is dues_is seen_is h = admitted_judged shown wrong (rw (script_is, over_is, dues_is, seen_is) at h)

-- batches that were refused for memory

module _ (l : LoadedFiles) (journal : List Entry) (lane number : ℕ) (zones : List Query) where
  abbrev refused : List DueOf
  refused = map (refused_due l.script.schemas) zones

  pub refused_judged : (shown : List ZoneResult) (wrong : Option ℕ) → IsWrongAmong (joints_over (joint_at l.script lane number) 1 zones) refused shown wrong
      → JudgesStep l journal lane number (step.Batch zones) (Unadmitted shown) wrong
  refused_judged shown None h =
      let alike = joints_alike (joint_at l.script lane number) zones refused (long_refused l.script.schemas zones) in
      record {
        count = ap (nat_eq (length shown)) (sym (joined_shown (joint_at l.script lane number) 1 false zones)) ∙ h.0;
        whole = explains_refused l journal lane number (length shown) zones shown
            (explained_along (joint_in (joints_over (joint_at l.script lane number) 1 zones)) (joint_at l.script lane number) refused shown (length shown) alike h.1);
      }
  refused_judged shown (Some zero) h = ap (nat_eq (length shown)) (sym (joined_shown (joint_at l.script lane number) 1 false zones)) ∙ h
  refused_judged shown (Some (suc before)) h =
      let alike = joints_alike (joint_at l.script lane number) zones refused (long_refused l.script.schemas zones) in
      let back = alike_back (joint_in (joints_over (joint_at l.script lane number) 1 zones)) (joint_at l.script lane number) 1 refused alike in (
        ap (nat_eq (length shown)) (sym (joined_shown (joint_at l.script lane number) 1 false zones)) ∙ h.0,
        h.1,
        explains_refused l journal lane number before zones shown
            (explained_along (joint_in (joints_over (joint_at l.script lane number) 1 zones)) (joint_at l.script lane number) refused shown before alike h.2),
        λ e. h.3 (explained_along (joint_at l.script lane number) (joint_in (joints_over (joint_at l.script lane number) 1 zones)) refused shown (suc before) back
            (refused_explained l journal lane number (suc before) zones shown e)),
      )

  -- what the calls told of it
  pub refused_leaders : (schemas : List Heading) (over : List Query) (dues : List DueOf) → dues ≡ map (refused_due schemas) over → HaveLeaders dues dues
  refused_leaders schemas over dues is = rw is (leaders_refused schemas over)

  pub refused_wrong : (script : Script) (over again : List Query) (dues : List DueOf) (seen shown : List ZoneResult) (wrong : Option ℕ)
      → script ≡ l.script → over ≡ zones → again ≡ zones → dues ≡ map (refused_due script.schemas) again → seen ≡ shown
      → IsWrongAmong (joints_over (joint_at script lane number) 1 over) dues seen wrong → JudgesStep l journal lane number (step.Batch zones) (Unadmitted shown) wrong
  refused_wrong script over again dues seen shown wrong script_is over_is again_is dues_is seen_is h =
      let due_is : dues ≡ refused = dues_is ∙ ap (λ (x : Script). map (refused_due x.schemas) again) script_is ∙ ap (map (refused_due l.script.schemas)) again_is in
      refused_judged shown wrong (rw (script_is, over_is, due_is, seen_is) at h)

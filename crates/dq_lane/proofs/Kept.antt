-- What a lane keeps, and what others' entries and its own leave of it.
use Rattle.std.proofs.Common.{◌≡◌, ℕ, zero, suc, ◌+◌, ◌-◌, ◌<◌, ◌≤◌, Bool, true, false, List, [], ◌∷◌, ◌++◌, length, length-set, drop, map, take, slice_get, slice_set, Option, Some, None, refl, ap, sym, ◌∙◌, arith, append_assoc, append-nil, subst}
use Rattle.std.proofs.lemmas.Option.{slice_get_within}
use Rattle.std.specs.Prelude.{if◌then◌else◌}
use Rattle.dq_base.specs.Scripts.{is_lane, step_of}
use Rattle.dq_base.specs.declared.script.Fails.{Fails}
use Rattle.dq_base.specs.declared.script.Step.{Step}
use Rattle.dq_bring.specs.Dials.{IsPlanOf}
use Rattle.dq_extract.specs.Loads.{LoadedFiles, IsLoaded}
use Rattle.dq_fates.proofs.Dialled.{dials_push, dials_stay}
use Rattle.dq_fates.proofs.GoingOn.{work_stays}
use Rattle.dq_fates.specs.Dials.{is_undialled, lost_dials}
use Rattle.dq_fates.specs.GoingOn.{GoesOn}
use Rattle.dq_journal.specs.declared.entry.Entry.{Entry}
use Rattle.dq_journal.specs.declared.entry.Entry.TheVariants.{End}
use Rattle.dq_journal.specs.declared.result.StepResult.{StepResult}
use Rattle.dq_laws.specs.Lengths.{most_entries_of_journal}
use Rattle.dq_machine.specs.Machine.{after, legal}
use Rattle.dq_machine.specs.Right.{AreResults, IsResult}
use Rattle.dq_machine.specs.State.{no_work, work_of}
use Rattle.dq_lane.specs.Courses.{IsShut}
use Rattle.dq_lane.specs.Kept.{HasDialer, HasResults, IsLane, IsOpenLast, IsProgress, IsTold, is_idle, untold_count}
use Rattle.dq_lane.specs.Refusals.{AreRefusals, IsRefusal}
use Rattle.dq_lane.specs.View.{closed_by, closed_of, is_untold, open_place, place_of, places_of, steps_of}
use Rattle.dq_lane.specs.declared.course.Course.{Course}
use Rattle.dq_lane.specs.declared.progress.Progress.{Progress}
use Rattle.dq_lane.specs.declared.progress.Progress.TheVariants as progress
use Rattle.dq_batch.specs.Views.{BatchOf}
use Rattle.dq_lane.proofs.Limits.{few_steps, lane_above, over_at}
use Rattle.dq_lane.proofs.Places.{named_none}
use Rattle.dq_lane.proofs.Refused.{length_refused, no_place, refusal_at, refusals_behind, refusals_behind_set, result_refused}
use Rattle.dq_lane.proofs.Results.{places_more, places_set, results_more, results_more_set}
use Rattle.dq_lane.proofs.Told.{NamesNext, NamesNone, told_ahead, told_begun, told_ended, told_on, told_refused}
use Rattle.dq_lane.proofs.Works.{nothing_done, nothing_legal}

-- a journal that goes on

pub results_on : (l : LoadedFiles) (lane : ℕ) (seen journal more : List Entry) (closed : ℕ) (rs : List StepResult) → journal ≡ seen ++ more → HasResults l lane seen closed rs → HasResults l lane journal closed rs
results_on l lane seen journal more closed rs is h = record {
  right = λ later lawful. rw (is, append_assoc seen more later) (h.right (more ++ later) (rw (is, append_assoc seen more later) at lawful));
  to_come = h.to_come;
}

pub dialer_on : (l : LoadedFiles) (lane : ℕ) (seen journal : List Entry) (untold : Bool) (faults : ℕ) (plan : Option Fails) → GoesOn lane seen journal → HasDialer l lane seen untold faults plan
    → HasDialer l lane journal untold faults plan
dialer_on l lane seen journal untold faults plan on h = let same = dials_stay lane seen journal on in record { dials = omega (arith, h.dials, same); plan = h.plan }

count_if : (b : Bool) → (if b then 1 else 0) ≡ untold_count b
count_if true = refl
count_if false = refl

-- an entry of the lane tells of the dial that failed, if one did
pub dialer_told : (l : LoadedFiles) (lane : ℕ) (old : List Entry) (e : Entry) (untold : Bool) (faults : ℕ) (plan : Option Fails) → is_undialled lane e ≡ untold → HasDialer l lane old untold faults plan
    → HasDialer l lane (old ++ e ∷ []) false faults plan
dialer_told l lane old e untold faults plan told h =
    let more = dials_push lane old e in
    let one : (if is_undialled lane e then 1 else 0) ≡ untold_count untold = count_if (is_undialled lane e) ∙ ap untold_count told in
    record { dials = omega (arith, h.dials, more, one); plan = h.plan }

-- a lane without a batch under way

module _ {L : Type 0} where
  pub shut_closed : (p : Progress L) (taken : ℕ) → IsShut p → closed_by taken p ≡ taken
  shut_closed progress.Fresh taken h = refl
  shut_closed progress.Ready taken h = refl
  shut_closed (progress.Prepared p) taken h = refl
  shut_closed (progress.Open b) taken h = absurd h

  pub shut_place : (p : Progress L) → IsShut p → open_place p ≡ []
  shut_place progress.Fresh h = refl
  shut_place progress.Ready h = refl
  shut_place (progress.Prepared p) h = refl
  shut_place (progress.Open b) h = absurd h

  pub shut_told : (p : Progress L) → IsShut p → is_untold p ≡ false
  shut_told progress.Fresh h = refl
  shut_told progress.Ready h = refl
  shut_told (progress.Prepared p) h = refl
  shut_told (progress.Open b) h = absurd h

  -- its places are those of the steps that had their turn
  pub shut_places : (c : Course L) → IsShut c.progress → places_of c ≡ map place_of (take c.taken c.results)
  shut_places c shut =
      ap (λ k. map place_of (take k c.results) ++ open_place c.progress) (shut_closed c.progress c.taken shut)
      ∙ ap (λ ps. map place_of (take c.taken c.results) ++ ps) (shut_place c.progress shut)
      ∙ append-nil (map place_of (take c.taken c.results))

-- a new lane

pub IsLane-new : {L : Type 0} (l : LoadedFiles) (lane : ℕ) (results : List StepResult) (faults : ℕ) (plan : Option Fails) → IsLoaded l → is_lane (length l.script.lanes) lane ≡ true
    → AreRefusals l.script.schemas (steps_of l lane) results → IsPlanOf l lane plan
    → IsLane {L = L} l lane [] (record { done = false; taken = 0; results = results; progress = progress.Fresh }) faults plan
IsLane-new l lane results faults plan loaded known refused planned =
    let w = nothing_done l lane in
    record {
      is_lane = known;
      few = few_steps l lane loaded;
      count = length_refused l.script.schemas (steps_of l lane) results refused;
      within = omega arith;
      over = λ e. cc;
      told = record { legal = nothing_legal l; tells = refl; order = refl; ends = refl; ended = rw w refl; short = omega arith };
      results = record { right = λ more lawful. tt; to_come = refused };
      last = rw w (omega arith);
      progress = (rw w refl, refl);
      dialer = record { dials = omega arith; plan = planned };
    }

-- others go on

progress_on : {L : Type 0} (l : LoadedFiles) (lane : ℕ) (seen journal : List Entry) (taken : ℕ) (done : Bool) (p : Progress L) → IsShut p → work_of (after l journal) lane ≡ work_of (after l seen) lane
    → IsProgress l lane seen taken done p → IsProgress l lane journal taken done p
progress_on l lane seen journal taken done progress.Fresh shut w h = (rw w h.0, h.1)
progress_on l lane seen journal taken done progress.Ready shut w h = rw w h
progress_on l lane seen journal taken done (progress.Prepared p) shut w h = (rw w h.0, h.1)
progress_on l lane seen journal taken done (progress.Open b) shut w h = absurd shut

pub IsLane-on : {L : Type 0} (l : LoadedFiles) (lane : ℕ) (seen journal : List Entry) (c : Course L) (faults : ℕ) (plan : Option Fails) → IsLane l lane seen c faults plan → IsShut c.progress
    → GoesOn lane seen journal → legal l journal ≡ true → length journal ≤ most_entries_of_journal → IsLane l lane journal c faults plan
IsLane-on l lane seen journal c faults plan h shut on lawful short =
    let above = lane_above (length l.script.lanes) lane h.is_lane in
    let w = work_stays l lane seen journal lawful above on in
    record {
      is_lane = h.is_lane;
      few = h.few;
      count = h.count;
      within = h.within;
      over = h.over;
      told = told_on l lane above seen journal c.done (places_of c) h.told on lawful short;
      results = results_on l lane seen journal on.more (closed_of c) c.results on.is h.results;
      last = rw w h.last;
      progress = progress_on l lane seen journal c.taken c.done c.progress shut w h.progress;
      dialer = dialer_on l lane seen journal (is_untold c.progress) faults plan on h.dialer;
    }

-- the next step is refused

-- the results with one more, of a lane without a batch under way
shut_results : {L : Type 0} (l : LoadedFiles) (lane : ℕ) (seen : List Entry) (c : Course L) (faults : ℕ) (plan : Option Fails) → IsLane l lane seen c faults plan → IsShut c.progress
    → HasResults l lane seen c.taken c.results
shut_results l lane seen c faults plan h shut = rw (← shut_closed c.progress c.taken shut) h.results

shut_told_places : {L : Type 0} (l : LoadedFiles) (lane : ℕ) (seen : List Entry) (c : Course L) (faults : ℕ) (plan : Option Fails) → IsLane l lane seen c faults plan → IsShut c.progress → c.done ≡ false
    → IsTold l lane seen false (map place_of (take c.taken c.results))
shut_told_places l lane seen c faults plan h shut going = rw (← going, ← shut_places c shut) h.told

pub length_places : (i : ℕ) (rs : List StepResult) → i ≤ length rs → length (map place_of (take i rs)) ≡ i
length_places zero rs le = refl
length_places (suc i) [] le = absurd (omega arith)
length_places (suc i) (r ∷ rs) le = ap suc (length_places i rs (omega arith))

module _ {L : Type 0} (l : LoadedFiles) (lane : ℕ) (seen : List Entry) (c : Course L) (faults : ℕ) (plan : Option Fails) (h : IsLane l lane seen c faults plan) (shut : IsShut c.progress) (going : c.done ≡ false) where
  few_places : length (map place_of (take c.taken c.results)) ≡ c.taken
  few_places = length_places c.taken c.results (omega (arith, h.within, h.count))

  pub IsLane-refused : (s : Step) → slice_get (steps_of l lane) c.taken ≡ Some s → is_idle (work_of (after l seen) lane) ≡ true
      → IsLane l lane seen (record c { taken = c.taken + 1; progress = progress.Fresh }) faults plan
  IsLane-refused s at idle =
      let lt = slice_get_within (steps_of l lane) c.taken s at in
      let results = shut_results l lane seen c faults plan h shut in
      let r = refusal_at l.script.schemas c.taken (steps_of l lane) c.results s results.to_come at h.count in
      let above = lane_above (length l.script.lanes) lane h.is_lane in
      let places = places_more c.taken c.results r.0 r.1 ∙ ap (λ p. map place_of (take c.taken c.results) ++ p ∷ []) (no_place l.script.schemas s r.0 r.2) in
      let told = told_refused l lane above seen (map place_of (take c.taken c.results)) s (shut_told_places l lane seen c faults plan h shut going) (rw few_places at) in
      record {
        is_lane = h.is_lane;
        few = h.few;
        count = h.count;
        within = omega (arith, lt);
        over = λ e. let bad : true ≡ false = sym e ∙ going in cc;
        told = rw (going, append-nil (map place_of (take (c.taken + 1) c.results)), places) told;
        results = record {
          right = λ more lawful. results_more l (seen ++ more) lane c.taken (steps_of l lane) c.results s r.0 (results.right more lawful) at r.1 (result_refused l (seen ++ more) lane s r.0 r.2);
          to_come = refusals_behind l.script.schemas c.taken (steps_of l lane) c.results results.to_come lt h.count;
        };
        last = omega (arith, h.last);
        progress = (idle, going);
        dialer = rw (← shut_told c.progress shut) h.dialer;
      }

  -- the next step is published
  pub IsLane-published : (s : Step) (r : StepResult) (e : Entry) → NamesNext l lane seen (map place_of (take c.taken c.results)) s e → place_of r ≡ Some (length (seen ++ e ∷ []))
      → ((more : List Entry) → IsResult l ((seen ++ e ∷ []) ++ more) lane s r) → is_undialled lane e ≡ false → (work_of (after l (seen ++ e ∷ [])) lane).last ≡ c.taken + 1
      → is_idle (work_of (after l (seen ++ e ∷ [])) lane) ≡ true
      → IsLane l lane (seen ++ e ∷ []) (record c { taken = c.taken + 1; results = slice_set c.results c.taken r; progress = progress.Fresh }) faults plan
  IsLane-published s r e names place is undialled last idle =
      let at : slice_get (steps_of l lane) c.taken ≡ Some s = rw few_places at names.at in
      let lt = slice_get_within (steps_of l lane) c.taken s at in
      let in_results : c.taken < length c.results = omega (arith, lt, h.count) in
      let results = shut_results l lane seen c faults plan h shut in
      let above = lane_above (length l.script.lanes) lane h.is_lane in
      let places = places_set c.taken c.results r in_results ∙ ap (λ p. map place_of (take c.taken c.results) ++ p ∷ []) place in
      let told = told_begun l lane above seen (map place_of (take c.taken c.results)) s e (shut_told_places l lane seen c faults plan h shut going) names in
      let dialer : HasDialer l lane seen false faults plan = rw (← shut_told c.progress shut) h.dialer in
      record {
        is_lane = h.is_lane;
        few = h.few;
        count = length-set c.results c.taken r ∙ h.count;
        within = omega (arith, lt);
        over = λ e. let bad : true ≡ false = sym e ∙ going in cc;
        told = rw (going, append-nil (map place_of (take (c.taken + 1) (slice_set c.results c.taken r))), places) told;
        results = record {
          right = λ more lawful. results_more_set l ((seen ++ e ∷ []) ++ more) lane c.taken (steps_of l lane) c.results s r
              (rw (append_assoc seen (e ∷ []) more) (results.right (e ∷ more) (rw (append_assoc seen (e ∷ []) more) at lawful))) at in_results (is more);
          to_come = refusals_behind_set l.script.schemas c.taken (steps_of l lane) c.results r results.to_come lt h.count;
        };
        last = omega (arith, last);
        progress = (idle, going);
        dialer = dialer_told l lane seen e false faults plan undialled dialer;
      }

  -- the next step is admitted
  pub IsLane-admitted : (s : Step) (b : BatchOf) (e : Entry) → NamesNext l lane seen (map place_of (take c.taken c.results)) s e → b.place ≡ length (seen ++ e ∷ []) → b.untold ≡ false
      → is_undialled lane e ≡ false → (work_of (after l (seen ++ e ∷ [])) lane).last ≡ c.taken + 1 → IsOpenLast l lane (seen ++ e ∷ []) (c.taken + 1) false b
      → IsLane l lane (seen ++ e ∷ []) (record c { taken = c.taken + 1; progress = progress.Open b }) faults plan
  IsLane-admitted s b e names place untold undialled last opened =
      let at : slice_get (steps_of l lane) c.taken ≡ Some s = rw few_places at names.at in
      let lt = slice_get_within (steps_of l lane) c.taken s at in
      let results = shut_results l lane seen c faults plan h shut in
      let above = lane_above (length l.script.lanes) lane h.is_lane in
      let back : c.taken + 1 - 1 ≡ c.taken = omega arith in
      let told = told_begun l lane above seen (map place_of (take c.taken c.results)) s e (shut_told_places l lane seen c faults plan h shut going) names in
      let dialer : HasDialer l lane seen false faults plan = rw (← shut_told c.progress shut) h.dialer in
      record {
        is_lane = h.is_lane;
        few = h.few;
        count = h.count;
        within = omega (arith, lt);
        over = λ e. let bad : true ≡ false = sym e ∙ going in cc;
        told = rw (going, back, place) told;
        results = rw back (results_on l lane seen (seen ++ e ∷ []) (e ∷ []) c.taken c.results refl results);
        last = omega (arith, last);
        progress = rw going opened;
        dialer = rw untold (dialer_told l lane seen e false faults plan undialled dialer);
      }

  -- the lane ends
  pub IsLane-ended : slice_get (steps_of l lane) c.taken ≡ None → legal l (seen ++ End lane ∷ []) ≡ true → (work_of (after l (seen ++ End lane ∷ [])) lane).ended ≡ true
      → (work_of (after l (seen ++ End lane ∷ [])) lane).last ≤ c.taken → is_idle (work_of (after l (seen ++ End lane ∷ [])) lane) ≡ true → length (seen ++ End lane ∷ []) ≤ most_entries_of_journal
      → IsLane l lane (seen ++ End lane ∷ []) (record c { done = true; progress = progress.Ready }) faults plan
  IsLane-ended at lawful ended last idle short =
      let results = shut_results l lane seen c faults plan h shut in
      let above = lane_above (length l.script.lanes) lane h.is_lane in
      let told = told_ended l lane above seen (map place_of (take c.taken c.results)) (shut_told_places l lane seen c faults plan h shut going) lawful ended short in
      let dialer : HasDialer l lane seen false faults plan = rw (← shut_told c.progress shut) h.dialer in
      record {
        is_lane = h.is_lane;
        few = h.few;
        count = h.count;
        within = h.within;
        over = λ e. over_at (steps_of l lane) c.taken at h.within;
        told = rw (append-nil (map place_of (take c.taken c.results))) told;
        results = results_on l lane seen (seen ++ End lane ∷ []) (End lane ∷ []) c.taken c.results refl results;
        last = last;
        progress = idle;
        dialer = dialer_told l lane seen (End lane) false faults plan refl dialer;
      }

-- a batch is under way

module _ {L : Type 0} (l : LoadedFiles) (lane : ℕ) (seen : List Entry) (c : Course L) (b : BatchOf) (faults : ℕ) (plan : Option Fails) (h : IsLane l lane seen c faults plan) (is : c.progress ≡ progress.Open b) where
  pub open_last : IsOpenLast l lane seen c.taken c.done b
  open_last = rw is at h.progress

  pub open_results : HasResults l lane seen (c.taken - 1) c.results
  open_results = rw is at h.results

  open_told : IsTold l lane seen false (map place_of (take (c.taken - 1) c.results) ++ Some b.place ∷ [])
  open_told = rw (is, open_last.going) at h.told

  pub open_dialer : HasDialer l lane seen b.untold faults plan
  open_dialer = rw is at h.dialer

  -- it has its next entry, behind those of others
  pub IsLane-moved : (old : List Entry) (e : Entry) (d : BatchOf) → GoesOn lane seen old → legal l old ≡ true → NamesNone l lane old e → is_undialled lane e ≡ b.untold → d.place ≡ b.place → d.untold ≡ false
      → (work_of (after l (old ++ e ∷ [])) lane).last ≡ c.taken → IsOpenLast l lane (old ++ e ∷ []) c.taken false d → length old ≤ most_entries_of_journal
      → IsLane l lane (old ++ e ∷ []) (record c { progress = progress.Open d }) faults plan
  IsLane-moved old e d on lawful names undialled place untold last opened short =
      let above = lane_above (length l.script.lanes) lane h.is_lane in
      let before = told_on l lane above seen old false (map place_of (take (c.taken - 1) c.results) ++ Some b.place ∷ []) open_told on lawful short in
      let told = told_ahead l lane above old (map place_of (take (c.taken - 1) c.results) ++ Some b.place ∷ []) e before names in
      let longer : old ++ e ∷ [] ≡ seen ++ (on.more ++ e ∷ []) = ap (λ es. es ++ e ∷ []) on.is ∙ append_assoc seen on.more (e ∷ []) in
      record {
        is_lane = h.is_lane;
        few = h.few;
        count = h.count;
        within = h.within;
        over = h.over;
        told = rw (open_last.going, place) told;
        results = results_on l lane seen (old ++ e ∷ []) (on.more ++ e ∷ []) (c.taken - 1) c.results longer open_results;
        last = omega (arith, last);
        progress = rw open_last.going opened;
        dialer = rw untold (dialer_told l lane old e b.untold faults plan undialled (dialer_on l lane seen old b.untold faults plan on open_dialer));
      }

  -- it waits while others go on
  pub IsLane-waits : (old : List Entry) (d : BatchOf) → GoesOn lane seen old → legal l old ≡ true → d ≡ record b { seen = old } → length old ≤ most_entries_of_journal
      → IsLane l lane old (record c { progress = progress.Open d }) faults plan
  IsLane-waits old d on lawful same short =
      let above = lane_above (length l.script.lanes) lane h.is_lane in
      let w = work_stays l lane seen old lawful above on in
      let last = open_last in
      record {
        is_lane = h.is_lane;
        few = h.few;
        count = h.count;
        within = h.within;
        over = h.over;
        told = rw (last.going, same) (told_on l lane above seen old false (map place_of (take (c.taken - 1) c.results) ++ Some b.place ∷ []) open_told on lawful short);
        results = results_on l lane seen old on.more (c.taken - 1) c.results on.is open_results;
        last = rw w h.last;
        progress = rw same (record { some = last.some; going = last.going; loaded = last.loaded; lane = last.lane; step = last.step; seen = refl; kind = last.kind });
        dialer = rw same (dialer_on l lane seen old b.untold faults plan on open_dialer);
      }

  -- it worked
  pub IsLane-flown : (d : BatchOf) (later : ℕ) (plan' : Option Fails) → d ≡ record b { pending = false; untold = d.untold } → HasDialer l lane seen d.untold later plan'
      → IsLane l lane seen (record c { progress = progress.Open d }) later plan'
  IsLane-flown d later plan' same dialer =
      let last = open_last in
      let place : d.place ≡ b.place = rw same refl in
      record {
        is_lane = h.is_lane;
        few = h.few;
        count = h.count;
        within = h.within;
        over = h.over;
        told = rw (last.going, place) open_told;
        results = open_results;
        last = h.last;
        progress = rw same (record { some = last.some; going = last.going; loaded = last.loaded; lane = last.lane; step = last.step; seen = last.seen; kind = last.kind });
        dialer = dialer;
      }

  -- it is over, and closed
  pub IsLane-closed : (s : Step) (r : StepResult) → slice_get (steps_of l lane) (c.taken - 1) ≡ Some s → place_of r ≡ Some b.place
      → ((more : List Entry) → legal l (seen ++ more) ≡ true → IsResult l (seen ++ more) lane s r) → is_idle (work_of (after l seen) lane) ≡ true
      → IsLane l lane seen (record c { results = slice_set c.results (c.taken - 1) r; progress = progress.Fresh }) faults plan
  IsLane-closed s r at place right idle =
      let last = open_last in
      let lt = slice_get_within (steps_of l lane) (c.taken - 1) s at in
      let in_results : c.taken - 1 < length c.results = omega (arith, lt, h.count) in
      let up : c.taken - 1 + 1 ≡ c.taken = omega (arith, last.some) in
      let places : map place_of (take c.taken (slice_set c.results (c.taken - 1) r)) ≡ map place_of (take (c.taken - 1) c.results) ++ Some b.place ∷ [] =
      subst (λ (k : ℕ). map place_of (take k (slice_set c.results (c.taken - 1) r)) ≡ map place_of (take (c.taken - 1) c.results) ++ Some b.place ∷ []) up
      (places_set (c.taken - 1) c.results r in_results ∙ ap (λ p. map place_of (take (c.taken - 1) c.results) ++ p ∷ []) place) in
      record {
        is_lane = h.is_lane;
        few = h.few;
        count = length-set c.results (c.taken - 1) r ∙ h.count;
        within = h.within;
        over = h.over;
        told = rw (append-nil (map place_of (take c.taken (slice_set c.results (c.taken - 1) r))), places, last.going) open_told;
        results = record {
          right = λ more lawful.
              subst (λ (k : ℕ). AreResults l (seen ++ more) lane (take k (steps_of l lane)) (take k (slice_set c.results (c.taken - 1) r))) up
              (results_more_set l (seen ++ more) lane (c.taken - 1) (steps_of l lane) c.results s r (open_results.right more lawful) at in_results (right more lawful));
          to_come =
              subst (λ (k : ℕ). AreRefusals l.script.schemas (drop k (steps_of l lane)) (drop k (slice_set c.results (c.taken - 1) r))) up
              (refusals_behind_set l.script.schemas (c.taken - 1) (steps_of l lane) c.results r open_results.to_come lt h.count);
        };
        last = h.last;
        progress = (idle, last.going);
        dialer = record { dials = omega (arith, open_dialer.dials); plan = open_dialer.plan };
      }

-- the next step is prepared

pub IsLane-prepared : {L : Type 0} (l : LoadedFiles) (lane : ℕ) (seen : List Entry) (c : Course L) (p : Progress L) (faults : ℕ) (plan : Option Fails) → IsLane l lane seen c faults plan → c.progress ≡ progress.Fresh
    → IsShut p → IsProgress l lane seen c.taken c.done p → IsLane l lane seen (record c { progress = p }) faults plan
IsLane-prepared l lane seen c p faults plan h fresh shut is =
    let told : IsTold l lane seen c.done (map place_of (take c.taken c.results)) = rw (fresh, append-nil (map place_of (take c.taken c.results))) at h.told in
    let results : HasResults l lane seen c.taken c.results = rw fresh at h.results in
    let dialer : HasDialer l lane seen false faults plan = rw fresh at h.dialer in
    record {
      is_lane = h.is_lane;
      few = h.few;
      count = h.count;
      within = h.within;
      over = h.over;
      told = rw (shut_closed p c.taken shut, shut_place p shut, append-nil (map place_of (take c.taken c.results))) told;
      results = rw (shut_closed p c.taken shut) results;
      last = h.last;
      progress = is;
      dialer = rw (shut_told p shut) dialer;
    }

-- a dialer that counted more

pub IsLane-dialled : {L : Type 0} (l : LoadedFiles) (lane : ℕ) (seen : List Entry) (c : Course L) (faults later : ℕ) (plan plan' : Option Fails) → IsLane l lane seen c faults plan → faults ≤ later → plan' ≡ plan
    → IsLane l lane seen c later plan'
IsLane-dialled l lane seen c faults later plan plan' h more same = record {
  is_lane = h.is_lane;
  few = h.few;
  count = h.count;
  within = h.within;
  over = h.over;
  told = h.told;
  results = h.results;
  last = h.last;
  progress = h.progress;
  dialer = record { dials = omega (arith, h.dialer.dials, more); plan = rw same h.dialer.plan };
}

-- A script that is made is within its limits.
use Rattle.std.proofs.Common.{◌≡◌, ℕ, suc, ◌+◌, ◌≤◌, List, [], ◌∷◌, ◌++◌, Bool, true, false, length, map, Option, Some, None, refl, ap, sym, ◌∙◌, subst, arith}
use Rattle.std.specs.Prelude.{◌&&◌, nat_le, nat_lt, nat_eq, if◌then◌else◌}
use Rattle.std.specs.List.{list_all}
use Rattle.std.proofs.lemmas.Bool.{leb-true, le-leb, ltb-true}
use Rattle.dq_base.specs.Limits.{most_extracts, most_lanes, most_all_zones, most_turns, most_entries, most_bound_cells}
use Rattle.dq_base.specs.Scripts.{IsScript, step_fits, lane_fits, heading_fits, fails_fit, is_lane, bound_fits, zones_count, zones_of}
use Rattle.dq_base.specs.Sessions.{filter_items, session_fits}
use Rattle.dq_base.specs.declared.script.Step.{Step}
use Rattle.dq_base.specs.declared.script.Step.TheVariants.{Publish, Batch}
use Rattle.dq_base.specs.declared.script.Fails.{Fails}
use Rattle.dq_script.proofs.Blended.{blends-fit, blends-apart}
use Rattle.dq_script.proofs.Chains.{first_holds, second_holds}
use Rattle.dq_script.proofs.Drafted.{IsKept, has_columns, has_lane, is_some_number}
use Rattle.dq_script.proofs.Numbers.{both_hold, all-weaker, all-both}
use Rattle.dq_script.proofs.Paired.{is_pair, ends_within, pairs_apart, step_has, steps_have, lanes_have}
use Rattle.dq_script.proofs.Reasoned.{IsFit, few_steps, few_zones, few_numbers, knows}
use Rattle.dq_script.specs.Columns.{columns_fit}
use Rattle.dq_script.specs.Made.{few_pairs, few_lane, CanBeMade}
use Rattle.dq_script.specs.Reasons.{most_capacity}
use Rattle.dq_script.specs.Scripts.{bound_with, fails_in, fails_from, session_with, script_with}
use Rattle.dq_script.specs.declared.batch.Pair.{Pair}
use Rattle.dq_script.specs.declared.draft.Draft.{Draft}
use Rattle.dq_script.specs.declared.faults.Fault.{Fault}
use Rattle.dq_script.specs.declared.form.Form.{Form}
use Rattle.dq_script.specs.declared.form.Form.TheVariants as form
use Rattle.dq_script.specs.declared.sessions.Filtered.{Filtered}

step-fits : (extracts : ℕ) (s : Step) → few_zones s ≡ true → knows extracts s ≡ true → step_fits extracts s ≡ true
step-fits extracts (Publish source how file) few known = known
step-fits extracts (Batch zones) few known = few

chosen : (b : Bool) (f g : Fails) → fails_fit f ≡ true → fails_fit g ≡ true → fails_fit (if b then f else g) ≡ true
chosen true f g a b = a
chosen false f g a b = b

fails_in-fit : (fs : List Fault) (lane : ℕ) → list_all few_numbers fs ≡ true → fails_fit (fails_in fs lane) ≡ true
fails_in-fit [] lane e = refl
fails_in-fit (f ∷ fs) lane e = chosen (nat_eq f.lane lane) (record { dials = f.dials; links = f.links }) (fails_in fs lane)
    (first_holds (few_numbers f) (list_all few_numbers fs) e) (fails_in-fit fs lane (second_holds (few_numbers f) (list_all few_numbers fs) e))

fails_from-fit : (fs : List Fault) (lane : ℕ) (lanes : List (List Step)) → list_all few_numbers fs ≡ true → list_all fails_fit (fails_from fs lane lanes) ≡ true
fails_from-fit fs lane [] e = refl
fails_from-fit fs lane (steps ∷ more) e = rw (fails_in-fit fs lane e) (fails_from-fit fs (lane + 1) more e)

fails_from-length : (fs : List Fault) (lane : ℕ) (lanes : List (List Step)) → length (fails_from fs lane lanes) ≡ length lanes
fails_from-length fs lane [] = refl
fails_from-length fs lane (steps ∷ more) = ap suc (fails_from-length fs (lane + 1) more)

lanes-fit : (extracts : ℕ) (lanes : List (List Step)) → list_all few_steps lanes ≡ true → list_all (list_all few_zones) lanes ≡ true
    → list_all (list_all (knows extracts)) lanes ≡ true → list_all (lane_fits extracts) lanes ≡ true
lanes-fit extracts lanes few zones known =
    all-both few_steps (list_all (step_fits extracts)) (lane_fits extracts) (λ steps a b. both_hold (few_steps steps) (list_all (step_fits extracts) steps) a b) lanes few
    (all-both (list_all few_zones) (list_all (knows extracts)) (list_all (step_fits extracts))
    (λ steps a b. all-both few_zones (knows extracts) (step_fits extracts) (step-fits extracts) steps a b) lanes zones known)

capacity-fits : (f : Form) (n : ℕ) → is_some_number n ≡ true → nat_le n (most_capacity f) ≡ true → bound_fits (bound_with f n) ≡ true
capacity-fits form.First n some few = both_hold (nat_lt 0 n) (nat_le n most_entries) some few
capacity-fits form.Second n some few = both_hold (nat_lt 0 n) (nat_le n most_bound_cells) some few

-- what is told of each session
abbrev told_of : ℕ → ℕ → Filtered → Bool
told_of lanes extracts s = has_lane s && nat_le s.lane lanes && nat_lt s.source extracts && nat_le (filter_items s.filters) 256

sessions-fit : (lanes extracts : ℕ) (ss : List Filtered) → list_all has_lane ss ≡ true → list_all (λ s. nat_le s.lane lanes) ss ≡ true → list_all (λ s. nat_lt s.source extracts) ss ≡ true
    → list_all (λ s. nat_le (filter_items s.filters) 256) ss ≡ true → list_all (session_fits lanes extracts) (map session_with ss) ≡ true
sessions-fit lanes extracts [] a b c d = refl
sessions-fit lanes extracts (s ∷ ss) a b c d =
    both_hold (told_of lanes extracts s) (list_all (session_fits lanes extracts) (map session_with ss))
    (both_hold (has_lane s && nat_le s.lane lanes && nat_lt s.source extracts) (nat_le (filter_items s.filters) 256)
    (both_hold (has_lane s && nat_le s.lane lanes) (nat_lt s.source extracts)
    (both_hold (has_lane s) (nat_le s.lane lanes) (first_holds (has_lane s) (list_all has_lane ss) a) (first_holds (nat_le s.lane lanes) (list_all (λ x. nat_le x.lane lanes) ss) b))
    (first_holds (nat_lt s.source extracts) (list_all (λ x. nat_lt x.source extracts) ss) c))
    (first_holds (nat_le (filter_items s.filters) 256) (list_all (λ x. nat_le (filter_items x.filters) 256) ss) d))
    (sessions-fit lanes extracts ss (second_holds (has_lane s) (list_all has_lane ss) a) (second_holds (nat_le s.lane lanes) (list_all (λ x. nat_le x.lane lanes) ss) b)
    (second_holds (nat_lt s.source extracts) (list_all (λ x. nat_lt x.source extracts) ss) c) (second_holds (nat_le (filter_items s.filters) 256) (list_all (λ x. nat_le (filter_items x.filters) 256) ss) d))

pub script_with-fits : (d : Draft) → IsKept d → IsFit d → IsScript (script_with d)
script_with-fits d kept fit =
    let named : length d.extracts.names ≡ length d.extracts.schemas = kept.extracts.named in
    let few : length d.extracts.names ≤ 64 = leb-true (length d.extracts.names) 64 fit.extracts in
    let lanes = d.plan.lanes.lanes in
    let steps : list_all (lane_fits (length d.extracts.names)) lanes ≡ true = lanes-fit (length d.extracts.names) lanes fit.steps fit.zones fit.known in
    let sessions : list_all (session_fits (length lanes) (length d.extracts.names)) (map session_with d.plan.sessions) ≡ true =
    sessions-fit (length lanes) (length d.extracts.names) d.plan.sessions kept.plan.sessions fit.sessions_known fit.sources fit.items in
    record {
      named = named;
      extracts = omega arith;
      columns = all-both has_columns columns_fit heading_fits (λ h a b. both_hold (has_columns h) (columns_fit h) a b) d.extracts.schemas kept.extracts.full fit.columns;
      lanes = leb-true (length lanes) most_lanes fit.lanes;
      steps = rw (← named) steps;
      zones = leb-true (zones_count lanes) most_all_zones fit.all_zones;
      turns = leb-true (length d.plan.schedule) most_turns fit.turns;
      turns_of_lanes = all-both is_some_number (λ turn. nat_le turn (length lanes)) (is_lane (length lanes))
          (λ turn a b. both_hold (nat_lt 0 turn) (nat_le turn (length lanes)) a b) d.plan.schedule kept.plan.turns fit.turns_known;
      literal = capacity-fits d.form d.plan.literal kept.plan.literal fit.literal;
      clever = capacity-fits d.form d.plan.clever kept.plan.clever fit.clever;
      fails = fails_from-length d.plan.faults 1 lanes;
      faults = fails_from-fit d.plan.faults 1 lanes fit.numbers;
      sessions = rw (← named) sessions;
      blends = blends-fit lanes d.plan.lanes.pairs kept.plan.lanes.have;
      apart = blends-apart lanes d.plan.lanes.pairs kept.plan.lanes.have;
    }

-- the numbers of a draft fit those of a script

turns-small : (lanes : ℕ) (turns : List ℕ) → lanes ≤ 64 → list_all (λ turn. nat_le turn lanes) turns ≡ true → list_all (λ turn. nat_le turn 4294967295) turns ≡ true
turns-small lanes turns few e = all-weaker (λ turn. nat_le turn lanes) (λ turn. nat_le turn 4294967295)
    (λ turn f. let a : turn ≤ lanes = leb-true turn lanes f in le-leb turn 4294967295 (omega arith)) turns e

sessions-small : (lanes : ℕ) (ss : List Filtered) → lanes ≤ 64 → list_all (λ s. nat_le s.lane lanes) ss ≡ true → list_all (λ s. nat_le s.lane 64) ss ≡ true
sessions-small lanes ss few e = all-weaker (λ s. nat_le s.lane lanes) (λ s. nat_le s.lane 64)
    (λ s f. let a : s.lane ≤ lanes = leb-true s.lane lanes f in le-leb s.lane 64 (omega arith)) ss e

zones-few : (s : Step) → few_zones s ≡ true → length (zones_of (Some s)) ≤ 64
zones-few (Publish source how file) e = omega arith
zones-few (Batch zones) e = leb-true (length zones) 64 e

pairs-small : (s : Step) (ps : List Pair) → few_zones s ≡ true → step_has s ps ≡ true → few_pairs ps ≡ true
pairs-small s ps few has =
    let n : ℕ = length (zones_of (Some s)) in
    let most : length (zones_of (Some s)) ≤ 64 = zones-few s few in
    all-weaker (ends_within (length (zones_of (Some s)))) (λ p. nat_le p.zone 64)
    (λ p e. let a : p.zone + 1 ≤ length (zones_of (Some s)) = leb-true (p.zone + 1) (length (zones_of (Some s))) e in le-leb p.zone 64 (omega arith)) ps
    (first_holds _ _ (second_holds _ _ has))

steps-small : (ss : List Step) (pss : List (List Pair)) → list_all few_zones ss ≡ true → steps_have ss pss ≡ true → list_all few_pairs pss ≡ true
steps-small [] [] few have = refl
steps-small [] (ps ∷ pss) few have = absurd (cc have)
steps-small (s ∷ ss) [] few have = absurd (cc have)
steps-small (s ∷ ss) (ps ∷ pss) few have = both_hold (few_pairs ps) (list_all few_pairs pss)
    (pairs-small s ps (first_holds (few_zones s) (list_all few_zones ss) few) (first_holds (step_has s ps) (steps_have ss pss) have))
    (steps-small ss pss (second_holds (few_zones s) (list_all few_zones ss) few) (second_holds (step_has s ps) (steps_have ss pss) have))

steps-length : (ss : List Step) (pss : List (List Pair)) → steps_have ss pss ≡ true → length pss ≡ length ss
steps-length [] [] have = refl
steps-length [] (ps ∷ pss) have = absurd (cc have)
steps-length (s ∷ ss) [] have = absurd (cc have)
steps-length (s ∷ ss) (ps ∷ pss) have = ap suc (steps-length ss pss (second_holds (step_has s ps) (steps_have ss pss) have))

lane-small : (ss : List Step) (pss : List (List Pair)) → few_steps ss ≡ true → list_all few_zones ss ≡ true → steps_have ss pss ≡ true → few_lane pss ≡ true
lane-small ss pss few zones have =
    let same : length pss ≡ length ss = steps-length ss pss have in
    let most : length ss ≤ 4096 = leb-true (length ss) 4096 few in
    both_hold (nat_le (length pss) 4096) (list_all few_pairs pss) (le-leb (length pss) 4096 (omega arith)) (steps-small ss pss zones have)

lanes-small : (sss : List (List Step)) (psss : List (List (List Pair))) → list_all few_steps sss ≡ true → list_all (list_all few_zones) sss ≡ true → lanes_have sss psss ≡ true → list_all few_lane psss ≡ true
lanes-small [] [] few zones have = refl
lanes-small [] (pss ∷ psss) few zones have = absurd (cc have)
lanes-small (ss ∷ sss) [] few zones have = absurd (cc have)
lanes-small (ss ∷ sss) (pss ∷ psss) few zones have = both_hold (few_lane pss) (list_all few_lane psss)
    (lane-small ss pss (first_holds (few_steps ss) (list_all few_steps sss) few) (first_holds (list_all few_zones ss) (list_all (list_all few_zones) sss) zones) (first_holds (steps_have ss pss) (lanes_have sss psss) have))
    (lanes-small sss psss (second_holds (few_steps ss) (list_all few_steps sss) few) (second_holds (list_all few_zones ss) (list_all (list_all few_zones) sss) zones) (second_holds (steps_have ss pss) (lanes_have sss psss) have))

lanes-length : (sss : List (List Step)) (psss : List (List (List Pair))) → lanes_have sss psss ≡ true → length psss ≡ length sss
lanes-length [] [] have = refl
lanes-length [] (pss ∷ psss) have = absurd (cc have)
lanes-length (ss ∷ sss) [] have = absurd (cc have)
lanes-length (ss ∷ sss) (pss ∷ psss) have = ap suc (lanes-length sss psss (second_holds (steps_have ss pss) (lanes_have sss psss) have))

capacity-small : (f : Form) (n : ℕ) → nat_le n (most_capacity f) ≡ true → n ≤ 4194304
capacity-small form.First n few = let a : n ≤ 4096 = leb-true n 4096 few in omega arith
capacity-small form.Second n few = leb-true n 4194304 few

pub can-be-made : (d : Draft) → IsKept d → IsFit d → CanBeMade d
can-be-made d kept fit =
    let few : length d.plan.lanes.lanes ≤ 64 = leb-true (length d.plan.lanes.lanes) 64 fit.lanes in
    let same : length d.plan.lanes.pairs ≡ length d.plan.lanes.lanes = lanes-length d.plan.lanes.lanes d.plan.lanes.pairs kept.plan.lanes.have in
    record {
      turns = turns-small (length d.plan.lanes.lanes) d.plan.schedule few fit.turns_known;
      sessions = sessions-small (length d.plan.lanes.lanes) d.plan.sessions few fit.sessions_known;
      lanes = omega arith;
      pairs = lanes-small d.plan.lanes.lanes d.plan.lanes.pairs fit.steps fit.zones kept.plan.lanes.have;
      literal = capacity-small d.form d.plan.literal fit.literal;
      clever = capacity-small d.form d.plan.clever fit.clever;
    }

-- What it says of a draft that there is no reason against it.
use Rattle.std.proofs.Common.{◌≡◌, ℕ, ◌+◌, ◌*◌, ◌≤◌, List, [], ◌∷◌, ◌++◌, Bool, true, false, length, Option, Some, None, refl, arith}
use Rattle.std.specs.Prelude.{◌&&◌, option_map, nat_le, nat_lt, sum_by, if◌then◌else◌}
use Rattle.std.specs.Fmt.{decimal}
use Rattle.std.specs.List.{list_all}
use Rattle.std.proofs.lemmas.Bool.{leb-true, le-leb}
use Rattle.std.proofs.lemmas.List.Sums.{sum_by-cons}
use Rattle.dq_base.specs.Limits.{most_extracts, most_columns, most_lanes, most_steps, most_zones, most_all_zones, most_turns, most_faults}
use Rattle.dq_base.specs.Scripts.{zones_in, zones_count}
use Rattle.dq_base.specs.Sessions.{filter_items}
use Rattle.dq_base.specs.declared.limit.Limit.{Limit}
use Rattle.dq_base.specs.declared.limit.Limit.TheVariants as limit
use Rattle.dq_base.specs.declared.script.Step.{Step}
use Rattle.dq_base.specs.declared.script.Step.TheVariants.{Publish, Batch}
use Rattle.dq_script.specs.Columns.{columns_fit}
use Rattle.dq_script.specs.Readings.{or_else}
use Rattle.dq_script.specs.Reasons.{ScriptReason, unknown_extract, unknown_lane, over, above, first_in, told, columns_above, steps_above, zones_above, faults_above, most_capacity, items_above, passed, over_lanes, over_rest, found_in, found_at, unless, stray_publish, stray_steps, stray_source, stray_turn, stray_session, stray_fault, stray_extract, stray_lane, stray_name, over_limit, reason_against}
use Rattle.dq_script.specs.declared.draft.Draft.{Draft}
use Rattle.dq_script.specs.declared.draft.Plan.{Plan}
use Rattle.dq_script.specs.declared.faults.Fault.{Fault}
use Rattle.dq_script.specs.declared.form.Form.{Form}
use Rattle.dq_script.specs.declared.sessions.Filtered.{Filtered}

none_first : {A : Type 0} (a b : Option A) → or_else a b ≡ None → a ≡ None
none_first None b e = refl
none_first (Some x) b e = absurd (cc e)

none_second : {A : Type 0} (a b : Option A) → or_else a b ≡ None → b ≡ None
none_second None b e = e
none_second (Some x) b e = absurd (cc e)

unmapped : {A B : Type 0} (f : A → B) (o : Option A) → option_map f o ≡ None → o ≡ None
unmapped f None e = refl
unmapped f (Some x) e = absurd (cc e)

tested : {A : Type 0} (b : Bool) (x : A) → (if b then None else Some x) ≡ None → b ≡ true
tested true x e = refl
tested false x e = absurd (cc e)

within-limit : (most n : ℕ) → above most n ≡ None → nat_le n most ≡ true
within-limit most n e = tested (nat_le n most) n e

first_in-none : {A B : Type 0} (find : A → Option B) (p : A → Bool) → ((x : A) → find x ≡ None → p x ≡ true) → (xs : List A) → first_in find xs ≡ None → list_all p xs ≡ true
first_in-none find p each [] e = refl
first_in-none find p each (x ∷ xs) e = rw (each x (none_first (find x) (first_in find xs) e)) (first_in-none find p each xs (none_second (find x) (first_in find xs) e))

found_in-none : {A : Type 0} (find : A → Option (List ℕ)) (p : A → Bool) → ((x : A) → find x ≡ None → p x ≡ true) → (place : ℕ) (xs : List A) → found_in find place xs ≡ None → list_all p xs ≡ true
found_in-none find p each place [] e = refl
found_in-none find p each place (x ∷ xs) e =
    let here : find x ≡ None = unmapped (λ path. 47 ∷ (decimal place ++ path)) (find x) (none_first (option_map (λ path. 47 ∷ (decimal place ++ path)) (find x)) (found_in find (place + 1) xs) e) in
    let rest : found_in find (place + 1) xs ≡ None = none_second (option_map (λ path. 47 ∷ (decimal place ++ path)) (find x)) (found_in find (place + 1) xs) e in
    rw (each x here) (found_in-none find p each (place + 1) xs rest)

-- a lane of few steps
abbrev pub few_steps : List Step → Bool
few_steps steps = nat_le (length steps) most_steps

-- a step of few zones
abbrev pub few_zones : Step → Bool
few_zones (Publish source how file) = true
few_zones (Batch zones) = nat_le (length zones) most_zones

-- a fault of few numbers
abbrev pub few_numbers : Fault → Bool
few_numbers f = nat_le (length f.dials) most_faults && nat_le (length f.links) most_faults

-- a step that publishes none but so many extracts
abbrev pub knows : ℕ → Step → Bool
knows extracts (Publish source how file) = nat_lt source extracts
knows extracts (Batch zones) = true

zones-few : (s : Step) → zones_above s ≡ None → few_zones s ≡ true
zones-few (Publish source how file) e = refl
zones-few (Batch zones) e = within-limit most_zones (length zones) e

both-true : (a b : Bool) → a ≡ true → b ≡ true → (a && b) ≡ true
both-true a b e f = rw (e, f) refl

numbers-few : (f : Fault) → faults_above f ≡ None → few_numbers f ≡ true
numbers-few f e = both-true (nat_le (length f.dials) most_faults) (nat_le (length f.links) most_faults)
    (within-limit most_faults (length f.dials) (none_first (above most_faults (length f.dials)) (above most_faults (length f.links)) e))
    (within-limit most_faults (length f.links) (none_second (above most_faults (length f.dials)) (above most_faults (length f.links)) e))

publish-known : (extracts : ℕ) (s : Step) → stray_publish extracts s ≡ None → knows extracts s ≡ true
publish-known extracts (Publish source how file) e = tested (nat_lt source extracts) _ e
publish-known extracts (Batch zones) e = refl

-- what is told of a count that is within its limit is the count
untold : (n : ℕ) → told n ≤ 256 → n ≤ 256
untold n e = omega arith

items-few : (s : Filtered) → items_above s ≡ None → nat_le (filter_items s.filters) 256 ≡ true
items-few s e =
    let small : told (filter_items s.filters) ≤ 256 = leb-true (told (filter_items s.filters)) 256 (within-limit 256 (told (filter_items s.filters)) e) in
    le-leb (filter_items s.filters) 256 (untold (filter_items s.filters) small)

-- what each test of a draft says
pub record IsFit (d : Draft) : Type 0 where
  pub extracts : nat_le (length d.extracts.names) most_extracts ≡ true
  pub columns : list_all columns_fit d.extracts.schemas ≡ true
  pub lanes : nat_le (length d.plan.lanes.lanes) most_lanes ≡ true
  pub steps : list_all few_steps d.plan.lanes.lanes ≡ true
  pub zones : list_all (list_all few_zones) d.plan.lanes.lanes ≡ true
  pub all_zones : nat_le (zones_count d.plan.lanes.lanes) most_all_zones ≡ true
  pub turns : nat_le (length d.plan.schedule) most_turns ≡ true
  pub numbers : list_all few_numbers d.plan.faults ≡ true
  pub literal : nat_le d.plan.literal (most_capacity d.form) ≡ true
  pub clever : nat_le d.plan.clever (most_capacity d.form) ≡ true
  pub items : list_all (λ s. nat_le (filter_items s.filters) 256) d.plan.sessions ≡ true
  pub known : list_all (list_all (knows (length d.extracts.names))) d.plan.lanes.lanes ≡ true
  pub sources : list_all (λ s. nat_lt s.source (length d.extracts.names)) d.plan.sessions ≡ true
  pub turns_known : list_all (λ turn. nat_le turn (length d.plan.lanes.lanes)) d.plan.schedule ≡ true
  pub sessions_known : list_all (λ s. nat_le s.lane (length d.plan.lanes.lanes)) d.plan.sessions ≡ true

-- what follows the first of several reasons, where there is none
rest_of : {A : Type 0} (a b : Option A) → or_else a b ≡ None → b ≡ None
rest_of a b e = none_second a b e

passed-none : (l : Limit) (o : Option ℕ) → passed l o ≡ None → o ≡ None
passed-none l o e = unmapped (over l) o e

first_passed : (l : Limit) (o : Option ℕ) (b : Option ScriptReason) → or_else (passed l o) b ≡ None → o ≡ None
first_passed l o b e = passed-none l o (none_first (passed l o) b e)

pub record LanesFit (lanes : List (List Step)) : Type 0 where
  pub lanes_few : above most_lanes (length lanes) ≡ None
  pub steps_few : first_in steps_above lanes ≡ None
  pub zones_few : first_in (first_in zones_above) lanes ≡ None
  pub all_few : above most_all_zones (zones_count lanes) ≡ None

pub lanes_fit : (lanes : List (List Step)) → over_lanes lanes ≡ None → LanesFit lanes
lanes_fit lanes e =
    let after_lanes = rest_of _ _ e in
    let after_steps = rest_of _ _ after_lanes in
    let all_zones = rest_of _ _ after_steps in
    record {
      lanes_few = first_passed limit.Lanes _ _ e;
      steps_few = first_passed limit.Steps _ _ after_lanes;
      zones_few = first_passed limit.Zones _ _ after_steps;
      all_few = passed-none limit.AllZones _ all_zones;
    }

pub record RestFits (form : Form) (p : Plan) : Type 0 where
  pub turns_few : above most_turns (length p.schedule) ≡ None
  pub faults_few : first_in faults_above p.faults ≡ None
  pub literal_few : above (most_capacity form) p.literal ≡ None
  pub clever_few : above (most_capacity form) p.clever ≡ None
  pub items_fit : first_in items_above p.sessions ≡ None

rest_fits : (form : Form) (p : Plan) → over_rest form p ≡ None → RestFits form p
rest_fits form p e =
    let after_turns = rest_of _ _ e in
    let after_faults = rest_of _ _ after_turns in
    let after_literal = rest_of _ _ after_faults in
    let items = rest_of _ _ after_literal in
    record {
      turns_few = first_passed limit.Turns _ _ e;
      faults_few = first_passed limit.Faults _ _ after_turns;
      literal_few = first_passed limit.Capacity _ _ after_faults;
      clever_few = first_passed limit.Capacity _ _ after_literal;
      items_fit = passed-none limit.SessionItems _ items;
    }

pub fit_of : (d : Draft) → reason_against d ≡ None → IsFit d
fit_of d e =
    let n = length d.extracts.names in
    let lanes = d.plan.lanes.lanes in
    let limits : over_limit d ≡ None = none_first (over_limit d) (stray_name d) e in
    let names : stray_name d ≡ None = none_second (over_limit d) (stray_name d) e in
    let after_extracts = rest_of _ _ limits in
    let after_columns = rest_of _ _ after_extracts in
    let of_lanes : LanesFit lanes = lanes_fit lanes (none_first (over_lanes lanes) (over_rest d.form d.plan) after_columns) in
    let of_rest : RestFits d.form d.plan = rest_fits d.form d.plan (none_second (over_lanes lanes) (over_rest d.form d.plan) after_columns) in
    let extracts : stray_extract n d.plan ≡ None = unmapped unknown_extract (stray_extract n d.plan) (none_first _ _ names) in
    let strays : stray_lane (length lanes) d.plan ≡ None = unmapped unknown_lane (stray_lane (length lanes) d.plan) (none_second _ _ names) in
    let publishes : found_in (stray_steps n) 0 lanes ≡ None = unmapped _ _ (none_first _ _ extracts) in
    let sources : found_in (stray_source n) 0 d.plan.sessions ≡ None = unmapped _ _ (none_second _ _ extracts) in
    let turns : found_in (stray_turn (length lanes)) 0 d.plan.schedule ≡ None = unmapped _ _ (none_first _ _ strays) in
    let sessions : found_in (stray_session (length lanes)) 0 d.plan.sessions ≡ None = unmapped _ _ (none_second _ _ (none_second _ _ strays)) in
    record {
      extracts = within-limit most_extracts n (first_passed limit.Extracts _ _ limits);
      columns = first_in-none columns_above columns_fit (λ h f. within-limit most_columns (length h.names) f) d.extracts.schemas (first_passed limit.Columns _ _ after_extracts);
      lanes = within-limit most_lanes (length lanes) of_lanes.lanes_few;
      steps = first_in-none steps_above few_steps (λ steps f. within-limit most_steps (length steps) f) lanes of_lanes.steps_few;
      zones = first_in-none (first_in zones_above) (list_all few_zones) (λ steps f. first_in-none zones_above few_zones zones-few steps f) lanes of_lanes.zones_few;
      all_zones = within-limit most_all_zones (zones_count lanes) of_lanes.all_few;
      turns = within-limit most_turns (length d.plan.schedule) of_rest.turns_few;
      numbers = first_in-none faults_above few_numbers numbers-few d.plan.faults of_rest.faults_few;
      literal = within-limit (most_capacity d.form) d.plan.literal of_rest.literal_few;
      clever = within-limit (most_capacity d.form) d.plan.clever of_rest.clever_few;
      items = first_in-none items_above (λ s. nat_le (filter_items s.filters) 256) items-few d.plan.sessions of_rest.items_fit;
      known = found_in-none (stray_steps n) (list_all (knows n)) (λ steps f. found_in-none (stray_publish n) (knows n) (publish-known n) 0 steps f) 0 lanes publishes;
      sources = found_in-none (stray_source n) (λ s. nat_lt s.source n) (λ s f. tested (nat_lt s.source n) _ f) 0 d.plan.sessions sources;
      turns_known = found_in-none (stray_turn (length lanes)) (λ turn. nat_le turn (length lanes)) (λ turn f. tested (nat_le turn (length lanes)) _ f) 0 d.plan.schedule turns;
      sessions_known = found_in-none (stray_session (length lanes)) (λ s. nat_le s.lane (length lanes)) (λ s f. tested (nat_le s.lane (length lanes)) _ f) 0 d.plan.sessions sessions;
    }

-- lanes whose other limits aren't passed have a known number of zones at most

some-limit : (most n : ℕ) → above most n ≡ None → n ≤ most
some-limit most n e = leb-true n most (within-limit most n e)

step-zones : (s : Step) → zones_above s ≡ None → zones_in s ≤ 64
step-zones (Publish source how file) e = omega arith
step-zones (Batch zones) e = some-limit 64 (length zones) e

steps-zones : (steps : List Step) → first_in zones_above steps ≡ None → sum_by zones_in steps ≤ 64 * length steps
steps-zones [] e = omega arith
steps-zones (s ∷ steps) e =
    let one : zones_in s ≤ 64 = step-zones s (none_first (zones_above s) (first_in zones_above steps) e) in
    let split : sum_by zones_in (s ∷ steps) ≡ zones_in s + sum_by zones_in steps = sum_by-cons zones_in s steps in
    let rest : sum_by zones_in steps ≤ 64 * length steps = steps-zones steps (none_second (zones_above s) (first_in zones_above steps) e) in
    omega arith

lanes-zones : (lanes : List (List Step)) → first_in steps_above lanes ≡ None → first_in (first_in zones_above) lanes ≡ None → zones_count lanes ≤ 262144 * length lanes
lanes-zones [] e f = omega arith
lanes-zones (steps ∷ lanes) e f =
    let few : length steps ≤ 4096 = some-limit 4096 (length steps) (none_first (steps_above steps) (first_in steps_above lanes) e) in
    let one : sum_by zones_in steps ≤ 64 * length steps = steps-zones steps (none_first (first_in zones_above steps) (first_in (first_in zones_above) lanes) f) in
    let split : zones_count (steps ∷ lanes) ≡ sum_by zones_in steps + zones_count lanes = sum_by-cons (λ x. sum_by zones_in x) steps lanes in
    let rest : zones_count lanes ≤ 262144 * length lanes = lanes-zones lanes (none_second (steps_above steps) (first_in steps_above lanes) e) (none_second (first_in zones_above steps) (first_in (first_in zones_above) lanes) f) in
    omega arith

pub zones-bounded : (lanes : List (List Step)) → above 64 (length lanes) ≡ None → first_in steps_above lanes ≡ None → first_in (first_in zones_above) lanes ≡ None → zones_count lanes ≤ 16777216
zones-bounded lanes e f g =
    let few : length lanes ≤ 64 = some-limit 64 (length lanes) e in
    let all : zones_count lanes ≤ 262144 * length lanes = lanes-zones lanes f g in
    omega arith

-- A script that fits the limits still does once it is shielded.
use Rattle.std.proofs.Common.{◌≡◌, ℕ, zero, suc, ◌+◌, ◌-◌, Bool, true, false, ◌&&◌, List, [], ◌∷◌, map, length, refl, sym, ap, ◌∙◌, arith, Option, Some, None}
use Rattle.std.specs.Prelude.{nat_eq, nat_le, slice_get, option_map, option_and_then, if◌then◌else◌, sum_by}
use Rattle.std.specs.List.{list_all}
use Rattle.std.proofs.lemmas.List.{length-map}
use Rattle.std.proofs.lemmas.List.Sums.{sum_by-cons}
use Rattle.dq_base.specs.Blends.{links_fit}
use Rattle.dq_base.specs.Limits.{most_steps, most_zones}
use Rattle.dq_base.specs.Numbered.{numbered}
use Rattle.dq_base.specs.Scripts.{IsScript, blend_fits, is_lane, lane_fits, links_within, step_fits, step_of, zones_count, zones_in, zones_of}
use Rattle.dq_base.specs.Sessions.{session_fits, shielded, shielded_lanes, shielded_query, shielded_step}
use Rattle.dq_base.specs.declared.query.Query.{Query}
use Rattle.dq_base.specs.declared.script.Blend.{Blend}
use Rattle.dq_base.specs.declared.script.Script.{Script}
use Rattle.dq_base.specs.declared.script.Session.{Session}
use Rattle.dq_base.specs.declared.script.Step.{Step}
use Rattle.dq_base.specs.declared.script.Step.TheVariants.{Publish, Batch}
use Rattle.dq_shield.proofs.Changed.{count_lanes}

module _ (sessions : List Session) where
  -- steps and zones

  same_step : (lane extracts : ℕ) (step : Step) → step_fits extracts (shielded_step sessions lane step) ≡ step_fits extracts step
  same_step lane extracts (Publish source how file) = refl
  same_step lane extracts (Batch zones) = ap (λ n. nat_le n most_zones) (length-map zones (shielded_query sessions lane))

  same_steps : (lane extracts : ℕ) (steps : List Step) → list_all (step_fits extracts) (map (shielded_step sessions lane) steps) ≡ list_all (step_fits extracts) steps
  same_steps lane extracts [] = refl
  same_steps lane extracts (s ∷ steps) =
      ap (λ b. b && list_all (step_fits extracts) (map (shielded_step sessions lane) steps)) (same_step lane extracts s)
      ∙ ap (λ b. step_fits extracts s && b) (same_steps lane extracts steps)

  same_lane : (lane extracts : ℕ) (steps : List Step) → lane_fits extracts (map (shielded_step sessions lane) steps) ≡ lane_fits extracts steps
  same_lane lane extracts steps =
      ap (λ n. nat_le n most_steps && list_all (step_fits extracts) (map (shielded_step sessions lane) steps)) (length-map steps (shielded_step sessions lane))
      ∙ ap (λ b. nat_le (length steps) most_steps && b) (same_steps lane extracts steps)

  same_lanes : (lane extracts : ℕ) (lanes : List (List Step)) → list_all (lane_fits extracts) (shielded_lanes sessions lane lanes) ≡ list_all (lane_fits extracts) lanes
  same_lanes lane extracts [] = refl
  same_lanes lane extracts (steps ∷ lanes) =
      ap (λ b. b && list_all (lane_fits extracts) (shielded_lanes sessions (lane + 1) lanes)) (same_lane lane extracts steps)
      ∙ ap (λ b. lane_fits extracts steps && b) (same_lanes (lane + 1) extracts lanes)

  count_step : (lane : ℕ) (step : Step) → zones_in (shielded_step sessions lane step) ≡ zones_in step
  count_step lane (Publish source how file) = refl
  count_step lane (Batch zones) = length-map zones (shielded_query sessions lane)

  count_steps : (lane : ℕ) (steps : List Step) → sum_by zones_in (map (shielded_step sessions lane) steps) ≡ sum_by zones_in steps
  count_steps lane [] = refl
  count_steps lane (s ∷ steps) =
      sum_by-cons zones_in (shielded_step sessions lane s) (map (shielded_step sessions lane) steps)
      ∙ ap (λ n. n + sum_by zones_in (map (shielded_step sessions lane) steps)) (count_step lane s) ∙ ap (λ n. zones_in s + n) (count_steps lane steps)
      ∙ sym (sum_by-cons zones_in s steps)

  count_zones : (lane : ℕ) (lanes : List (List Step)) → zones_count (shielded_lanes sessions lane lanes) ≡ zones_count lanes
  count_zones lane [] = refl
  count_zones lane (steps ∷ lanes) =
      sum_by-cons (sum_by zones_in) (map (shielded_step sessions lane) steps) (shielded_lanes sessions (lane + 1) lanes)
      ∙ ap (λ n. n + zones_count (shielded_lanes sessions (lane + 1) lanes)) (count_steps lane steps) ∙ ap (λ n. sum_by zones_in steps + n) (count_zones (lane + 1) lanes)
      ∙ sym (sum_by-cons (sum_by zones_in) steps lanes)

  -- blends

  get_map : {X Y : Type 0} (f : X → Y) (xs : List X) (i : ℕ) → slice_get (map f xs) i ≡ option_map f (slice_get xs i)
  get_map f [] i = refl
  get_map f (x ∷ xs) zero = refl
  get_map f (x ∷ xs) (suc i) = get_map f xs i

  numbered_by : {X Y : Type 0} (f : X → Y) (none : Bool) (o : Option Y) (p : Option X) → o ≡ option_map f p → (if none then None else o) ≡ option_map f (if none then None else p)
  numbered_by f true o p e = refl
  numbered_by f false o p e = e

  numbered_map : {X Y : Type 0} (f : X → Y) (xs : List X) (n : ℕ) → numbered (map f xs) n ≡ option_map f (numbered xs n)
  numbered_map f xs n = numbered_by f (nat_eq n 0) (slice_get (map f xs) (n - 1)) (slice_get xs (n - 1)) (get_map f xs (n - 1))

  lane_at : (lane : ℕ) (lanes : List (List Step)) (i number : ℕ) → number ≡ lane + i
      → slice_get (shielded_lanes sessions lane lanes) i ≡ option_map (map (shielded_step sessions number)) (slice_get lanes i)
  lane_at lane [] i number n = refl
  lane_at lane (steps ∷ lanes) zero number n = let same : lane ≡ number = omega arith in ap (λ k. Some (map (shielded_step sessions k) steps)) same
  lane_at lane (steps ∷ lanes) (suc i) number n = lane_at (lane + 1) lanes i number (omega arith)

  lane_numbered : (lanes : List (List Step)) (lane : ℕ)
      → numbered (shielded_lanes sessions 1 lanes) lane ≡ option_map (map (shielded_step sessions (1 + (lane - 1)))) (numbered lanes lane)
  lane_numbered lanes lane =
      numbered_by (map (shielded_step sessions (1 + (lane - 1)))) (nat_eq lane 0) (slice_get (shielded_lanes sessions 1 lanes) (lane - 1)) (slice_get lanes (lane - 1))
      (lane_at 1 lanes (lane - 1) (1 + (lane - 1)) refl)

  step_in : (k step : ℕ) (o : Option (List Step))
      → option_and_then (λ steps. numbered steps step) (option_map (map (shielded_step sessions k)) o) ≡ option_map (shielded_step sessions k) (option_and_then (λ steps. numbered steps step) o)
  step_in k step None = refl
  step_in k step (Some steps) = numbered_map (shielded_step sessions k) steps step

  zones_in_step : (k : ℕ) (o : Option Step) → zones_of (option_map (shielded_step sessions k) o) ≡ map (shielded_query sessions k) (zones_of o)
  zones_in_step k None = refl
  zones_in_step k (Some (Publish source how file)) = refl
  zones_in_step k (Some (Batch zones)) = refl

  same_links : (k : ℕ) (links : List ℕ) (p q : Option Query)
      → links_fit links (option_map (shielded_query sessions k) p) (option_map (shielded_query sessions k) q) ≡ links_fit links p q
  same_links k links None None = refl
  same_links k links None (Some q) = refl
  same_links k links (Some p) None = refl
  same_links k links (Some p) (Some q) = refl

  same_within : (k : ℕ) (b : Blend) (zones : List Query) → links_within b (map (shielded_query sessions k) zones) ≡ links_within b zones
  same_within k b zones =
      ap (λ o. links_fit b.links o (numbered (map (shielded_query sessions k) zones) (b.zone + 1))) (numbered_map (shielded_query sessions k) zones b.zone)
      ∙ ap (λ o. links_fit b.links (option_map (shielded_query sessions k) (numbered zones b.zone)) o) (numbered_map (shielded_query sessions k) zones (b.zone + 1))
      ∙ same_links k b.links (numbered zones b.zone) (numbered zones (b.zone + 1))

  same_blend : (lanes : List (List Step)) (b : Blend) → blend_fits (shielded_lanes sessions 1 lanes) b ≡ blend_fits lanes b
  same_blend lanes b =
      ap (λ o. links_within b (zones_of (option_and_then (λ steps. numbered steps b.step) o))) (lane_numbered lanes b.lane)
      ∙ ap (λ o. links_within b (zones_of o)) (step_in (1 + (b.lane - 1)) b.step (numbered lanes b.lane))
      ∙ ap (links_within b) (zones_in_step (1 + (b.lane - 1)) (step_of lanes b.lane b.step))
      ∙ same_within (1 + (b.lane - 1)) b (zones_of (step_of lanes b.lane b.step))

  same_blends : (lanes : List (List Step)) (blends : List Blend) → list_all (blend_fits (shielded_lanes sessions 1 lanes)) blends ≡ list_all (blend_fits lanes) blends
  same_blends lanes [] = refl
  same_blends lanes (b ∷ blends) =
      ap (λ t. t && list_all (blend_fits (shielded_lanes sessions 1 lanes)) blends) (same_blend lanes b) ∙ ap (λ t. blend_fits lanes b && t) (same_blends lanes blends)

pub still_fits : (script : Script) → IsScript script → IsScript (shielded script)
still_fits script fits =
    let count = count_lanes script.sessions 1 script.lanes in
    record {
      named = fits.named;
      extracts = fits.extracts;
      columns = fits.columns;
      lanes = rw count fits.lanes;
      steps = same_lanes script.sessions 1 (length script.schemas) script.lanes ∙ fits.steps;
      zones = rw (count_zones script.sessions 1 script.lanes) fits.zones;
      turns = fits.turns;
      turns_of_lanes = ap (λ n. list_all (is_lane n) script.schedule) count ∙ fits.turns_of_lanes;
      literal = fits.literal;
      clever = fits.clever;
      fails = fits.fails ∙ sym count;
      faults = fits.faults;
      sessions = ap (λ n. list_all (session_fits n (length script.schemas)) script.sessions) count ∙ fits.sessions;
      blends = same_blends script.sessions script.lanes script.blends ∙ fits.blends;
      apart = fits.apart;
    }

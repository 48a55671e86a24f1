-- The sessions of a lane have the lane's filters.
use Rattle.std.proofs.Common.{◌≡◌, ℕ, Bool, true, false, ◌&&◌, List, [], ◌∷◌, ◌++◌, map, refl, ap, ◌∙◌}
use Rattle.std.specs.Prelude.{nat_eq, if◌then◌else◌}
use Rattle.dq_base.specs.Sessions.{filters_for, shielded_query, shielded_step}
use Rattle.dq_base.specs.declared.predicate.Predicate.{Predicate}
use Rattle.dq_base.specs.declared.query.Query.{Query}
use Rattle.dq_base.specs.declared.script.Session.{Session}
use Rattle.dq_base.specs.declared.script.Step.{Step}
use Rattle.dq_base.specs.declared.script.Step.TheVariants.{Publish, Batch}
use Rattle.dq_shield.specs.Own.{filters_over, sessions_of, step_with, zone_with}

map_same : {X Y : Type 0} (f g : X → Y) → ((x : X) → f x ≡ g x) → (xs : List X) → map f xs ≡ map g xs
map_same f g h [] = refl
map_same f g h (x ∷ xs) = ap (λ y. y ∷ map f xs) (h x) ∙ ap (λ ys. g x ∷ ys) (map_same f g h xs)

over_by : (of_lane over : Bool) (s : Session) (source : ℕ) (own : List Session) (more : List Predicate) → nat_eq s.source source ≡ over → filters_over source own ≡ more
    → filters_over source (if of_lane then s ∷ own else own) ≡ (if of_lane && over then s.filters else []) ++ more
over_by true true s source own more o e = ap (λ b. (if b then s.filters else []) ++ filters_over source own) o ∙ ap (λ fs. s.filters ++ fs) e
over_by true false s source own more o e = ap (λ b. (if b then s.filters else []) ++ filters_over source own) o ∙ e
over_by false over s source own more o e = e

pub own_filters : (sessions : List Session) (lane source : ℕ) → filters_over source (sessions_of lane sessions) ≡ filters_for sessions lane source
own_filters [] lane source = refl
own_filters (s ∷ sessions) lane source =
    over_by (nat_eq s.lane lane) (nat_eq s.source source) s source (sessions_of lane sessions) (filters_for sessions lane source) refl (own_filters sessions lane source)

own_zone : (sessions : List Session) (lane : ℕ) (q : Query) → zone_with (sessions_of lane sessions) q ≡ shielded_query sessions lane q
own_zone sessions lane q = ap (λ (fs : List Predicate). record q { filters = q.filters ++ fs }) (own_filters sessions lane q.source)

own_step : (sessions : List Session) (lane : ℕ) (step : Step) → step_with (sessions_of lane sessions) step ≡ shielded_step sessions lane step
own_step sessions lane (Publish source how file) = refl
own_step sessions lane (Batch zones) = ap Batch (map_same (zone_with (sessions_of lane sessions)) (shielded_query sessions lane) (own_zone sessions lane) zones)

pub own_steps : (sessions own : List Session) (lane : ℕ) (before after : List Step) → own ≡ sessions_of lane sessions → after ≡ map (step_with own) before
    → after ≡ map (shielded_step sessions lane) before
own_steps sessions own lane before after are new =
    new ∙ ap (λ ss. map (step_with ss) before) are ∙ map_same (step_with (sessions_of lane sessions)) (shielded_step sessions lane) (own_step sessions lane) before

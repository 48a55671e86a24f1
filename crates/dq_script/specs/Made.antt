-- Which drafts can be made into a script: their numbers fit those of a script.
use Rattle.std.specs.Prelude.{◌≡◌, ℕ, ◌≤◌, List, Bool, true, ◌&&◌, nat_le, length}
use Rattle.std.specs.List.{list_all}
use Rattle.dq_script.specs.declared.batch.Pair.{Pair}
use Rattle.dq_script.specs.declared.draft.Draft.{Draft}

abbrev pub few_pairs : List Pair → Bool
few_pairs ps = list_all (λ p. nat_le p.zone 64) ps

abbrev pub few_lane : List (List Pair) → Bool
few_lane pss = nat_le (length pss) 4096 && list_all few_pairs pss

pub record CanBeMade (d : Draft) : Type 0 where
  pub turns : list_all (λ turn. nat_le turn 4294967295) d.plan.schedule ≡ true
  pub sessions : list_all (λ s. nat_le s.lane 64) d.plan.sessions ≡ true
  pub lanes : length d.plan.lanes.pairs ≤ 64
  pub pairs : list_all few_lane d.plan.lanes.pairs ≡ true
  pub literal : d.plan.literal ≤ 4194304
  pub clever : d.plan.clever ≤ 4194304

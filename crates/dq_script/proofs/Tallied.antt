-- What has been counted so far.
use Rattle.std.proofs.Common.{◌≡◌, ℕ, ◌+◌, ◌≤◌, min, List, ◌++◌, Bool, true, map}
use Rattle.std.specs.Prelude.{nat_le}
use Rattle.std.specs.List.{list_all}
use Rattle.dq_script.specs.Reasons.{told}

-- the whole is the count and the rest, up to one above the most
pub record TalliedSo (all rest count : ℕ) : Type 0 where
  pub so : min all 16777217 ≡ min (count + rest) 16777217
  pub within : count ≤ 16777217

-- the turns are those that were taken over and the rest, each of which is a place
pub record TurnsSo (all done rest : List ℕ) : Type 0 where
  pub so : all ≡ done ++ rest
  pub few : list_all (λ turn. nat_le turn 4294967295) rest ≡ true

-- what is made is done over and the rest, each of which is small
pub record RestSo {A B : Type 0} (f : A → B) (small : A → Bool) (whole done : List B) (rest : List A) : Type 0 where
  pub so : whole ≡ done ++ map f rest
  pub few : list_all small rest ≡ true

pub record PlacedSo {A B : Type 0} (f : ℕ → List A → List B) (small : A → Bool) (whole done : List B) (number : ℕ) (rest : List A) : Type 0 where
  pub so : whole ≡ done ++ f number rest
  pub few : list_all small rest ≡ true

-- what is told of the whole is told of the count and the rest
pub record ToldSo (all rest count : ℕ) : Type 0 where
  pub so : told all ≡ told (count + rest)
  pub within : count ≤ 18446744073709551615

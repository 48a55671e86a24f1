-- A list in chunks of 512, of which the last is open.
use Rattle.std.specs.Prelude.{◌≡◌, ◌≤◌, ◌^◌, ⊤, List, [], ◌∷◌, ◌++◌, length}
use Rattle.std.specs.List.{flat_map}

-- the items of these chunks and of the last one, one behind the other
abbrev pub in_chunks : {X : Type 0} → List (List X) → List X → List X
in_chunks whole last = flat_map (λ chunk. chunk) whole ++ last

-- each of these chunks has 512 items
abbrev pub AreWhole : {X : Type 0} → List (List X) → Type 0
AreWhole [] = ⊤
AreWhole (chunk ∷ chunks) = (length chunk ≡ 512) × AreWhole chunks

-- each chunk but the last has 512 items, the last has no more, and chunks can be counted
pub record AreChunks {X : Type 0} (whole : List (List X)) (last : List X) : Type 0 where
  pub full : AreWhole whole
  pub open_one : length last ≤ 512
  pub few : length whole ≤ 2 ^ 32

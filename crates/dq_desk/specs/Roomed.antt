-- Lists with room.
use Rattle.std.specs.Prelude.{◌≡◌, ℕ, ◌+◌, ◌≤◌, List, [], ◌∷◌, Option, Some, None, refl}
use Rattle.std.specs.Coded.{Coded, code_by, coded×, coded_list, coded_ℕ}

-- items, and how many more can be put without taking memory
pub record Roomed (T : Type 0) : Type 0 where
  pub items : List T
  pub spare : ℕ

module _ {T : Type 0} where
  abbrev pub roomed_code : Coded T → Coded (Roomed T)
  roomed_code t = code_by (List T × ℕ) (coded× (coded_list t) coded_ℕ) (λ c. (c.items, c.spare)) (λ p. record { items = p.0; spare = p.1 }) (λ _. refl)

  -- the first item was taken, which leaves room for one more; or there is none
  abbrev pub IsPopped : Roomed T → Roomed T → Option T → Type 0
  IsPopped old new None = (old.items ≡ []) × (new ≡ old)
  IsPopped old new (Some x) = (old.items ≡ x ∷ new.items) × (old.spare + 1 ≤ new.spare)

-- How many items an array has.
use Rattle.std.proofs.Common.{◌≡◌, ◌≢◌, List, [], ◌∷◌, length, false, Some, None, refl}
use Rattle.std.specs.Prelude.{◌==◌}
use Rattle.serde_json.specs.View.{items_view}
use Rattle.serde_json.specs.declared.value.Value.{Value}
use Rattle.dq_script.specs.Measures.{rows_of}
use Rattle.dq_script.specs.Parts.{only, two, three, some}

pub two-none : (vs : List Value) → length vs ≢ 2 → two (items_view vs) ≡ None
two-none [] h = refl
two-none (v ∷ []) h = refl
two-none (v ∷ w ∷ []) h = absurd (h refl)
two-none (v ∷ w ∷ x ∷ vs) h = refl

pub some-some : (vs : List Value) → false ≡ (length vs == 0) → some (items_view vs) ≡ Some (items_view vs)
some-some [] is = cc is
some-some (v ∷ vs) is = refl

pub only-none : (vs : List Value) → length vs ≢ 1 → only (items_view vs) ≡ None
only-none [] h = refl
only-none (v ∷ []) h = absurd (h refl)
only-none (v ∷ w ∷ vs) h = refl

pub three-none : (vs : List Value) → length vs ≢ 3 → three (items_view vs) ≡ None
three-none [] h = refl
three-none (v ∷ []) h = refl
three-none (v ∷ w ∷ []) h = refl
three-none (v ∷ w ∷ x ∷ []) h = absurd (h refl)
three-none (v ∷ w ∷ x ∷ y ∷ vs) h = refl

pub rows_of-none : (vs : List Value) → false ≡ (length vs == 0) → rows_of (items_view vs) ≡ None
rows_of-none [] is = cc is
rows_of-none (v ∷ vs) is = refl

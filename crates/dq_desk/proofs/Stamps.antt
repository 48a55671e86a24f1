-- A source's stamp leads to its rows.
use Rattle.std.proofs.Common.{◌≡◌, ◌≢◌, inl, inr, ℕ, ◌+◌, ◌≤◌, Bool, true, false, eqb, List, [], ◌∷◌, length, refl, ◌∙◌, arith}
use Rattle.std.proofs.lemmas.Bool.Decides.{eqb_tells}
use Rattle.std.specs.Prelude.{◌⊎◌, nat_eq, if◌then◌else◌}
use Rattle.dq_machine.specs.Publishing.{rows_at, rows_in, stamp_in}
use Rattle.dq_machine.specs.State.{Publication}

pub stamp_within : (versions : List Publication) (source : ℕ) → stamp_in versions source ≤ length versions
stamp_within [] source = omega arith
stamp_within (v ∷ versions) source = by (nat_eq v.source source) (stamp_within versions source)
  where
    by : (b : Bool) → stamp_in versions source ≤ length versions → (if b then length versions + 1 else stamp_in versions source) ≤ length (v ∷ versions)
    by true within = omega arith
    by false within = omega arith

older_rows : (v : Publication) (versions : List Publication) (stamp : ℕ) → stamp ≤ length versions → rows_at (v ∷ versions) stamp ≡ rows_at versions stamp
older_rows v versions stamp h = by (eqb_tells stamp (length versions + 1))
  where
    by : ((eqb stamp (length versions + 1) ≡ true) × (stamp ≡ length versions + 1)) ⊎ ((eqb stamp (length versions + 1) ≡ false) × (stamp ≢ length versions + 1))
        → rows_at (v ∷ versions) stamp ≡ rows_at versions stamp
    by (inl (told, same)) = absurd (omega arith)
    by (inr (told, apart)) = rw told refl

newest_rows : (v : Publication) (versions : List Publication) → rows_at (v ∷ versions) (length versions + 1) ≡ v.rows
newest_rows v versions = by (eqb_tells (length versions + 1) (length versions + 1))
  where
    by : ((eqb (length versions + 1) (length versions + 1) ≡ true) × (length versions + 1 ≡ length versions + 1)) ⊎ ((eqb (length versions + 1) (length versions + 1) ≡ false) × (length versions + 1 ≢ length versions + 1))
        → rows_at (v ∷ versions) (length versions + 1) ≡ v.rows
    by (inl (told, same)) = rw told refl
    by (inr (told, apart)) = absurd (apart refl)

pub rows_by_stamp : (versions : List Publication) (source : ℕ) → rows_at versions (stamp_in versions source) ≡ rows_in versions source
rows_by_stamp [] source = refl
rows_by_stamp (v ∷ versions) source = by (nat_eq v.source source) (rows_by_stamp versions source)
  where
    by : (b : Bool) → rows_at versions (stamp_in versions source) ≡ rows_in versions source → rows_at (v ∷ versions) (if b then length versions + 1 else stamp_in versions source) ≡ (if b then v.rows else rows_in versions source)
    by true older = newest_rows v versions
    by false older = older_rows v versions (stamp_in versions source) (stamp_within versions source) ∙ older

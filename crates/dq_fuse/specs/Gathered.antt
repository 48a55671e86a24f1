-- Queries gathered into groups one after another.
use Rattle.std.specs.Prelude.{ℕ, List, [], ◌∷◌, ◌++◌, fold, map, if◌then◌else◌}
use Rattle.dq_base.specs.Batches.{Group, fuses, fused_key}
use Rattle.dq_fuse.specs.Kinds.{KindOf, kind_of}
use Rattle.dq_base.specs.declared.query.Query.{Query}

-- a group before it has a key
pub record Gathered : Type 0 where
  pub first : Query
  pub others : List Query
  pub members : List ℕ

abbrev pub alone : (ℕ × Query) → Gathered
alone q = record { first = q.1; others = []; members = q.0 ∷ [] }

abbrev pub joined : Gathered → (ℕ × Query) → Gathered
joined g q = record { first = g.first; others = g.others ++ q.1 ∷ []; members = g.members ++ q.0 ∷ [] }

-- a query joins the first group with whose first member it fuses, or stands alone at the end
abbrev pub gathered_with : List Gathered → (ℕ × Query) → List Gathered
gathered_with [] q = alone q ∷ []
gathered_with (g ∷ gs) q = if fuses g.first q.1 then joined g q ∷ gs else g ∷ gathered_with gs q

abbrev pub gathered : List (ℕ × Query) → List Gathered
gathered qs = fold gathered_with [] qs

abbrev pub group_of : Gathered → Group
group_of g = record { key = fused_key g.others g.first; members = g.members }

-- what the members of each have in common
abbrev pub kinds_of : List Gathered → List KindOf
kinds_of gs = map (λ g. kind_of g.first) gs

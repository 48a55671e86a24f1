-- Where the blends of a script begin, by lane, step and zone.
use Rattle.std.specs.Prelude.{◌≡◌, ℕ, ◌+◌, List, ◌∷◌, ◌++◌, find, slice_get, drop, Option, Some, None, option_and_then}
use Rattle.std.specs.BTreeMap.{is_at}
use Rattle.std.specs.Map.{lookup}
use Rattle.std.specs.Ordering.{nat_cmp, ordering_then}
use Rattle.std.specs.declared.cmp.Ordering.{Ordering}
use Rattle.dq_base.specs.declared.script.Blend.{Blend}
use Rattle.dq_base.specs.declared.script.Script.{Script}
use Rattle.dq_base.specs.declared.script.Step.{Step}
use Rattle.dq_journal.specs.Shown.{AreShown, Joint, begins_at, joint_at, joint_of}
use Rattle.dq_journal.specs.declared.result.ZoneResult.{ZoneResult}
use Rattle.dq_shown.specs.declared.showing.Pending.{Pending}

-- a lane, a step and a zone
abbrev pub Start : Type 0
Start = ℕ × ℕ × ℕ

abbrev pub start_cmp : Start → Start → Ordering
start_cmp a b = ordering_then (ordering_then (nat_cmp a.0 b.0) (nat_cmp a.1 b.1)) (nat_cmp a.2 b.2)

abbrev pub start_of : Blend → Start
start_of b = record { 0 = b.lane; 1 = b.step; 2 = b.zone }

-- by these entries, each start leads to the place of the first blend that begins there, from a place on
abbrev pub LeadFrom : ℕ → List Blend → List (Start × ℕ) → Type 0
LeadFrom place blends entries = (s : Start)
    → option_and_then (slice_get blends) (lookup (is_at (start_cmp s)) entries) ≡ find (begins_at s.0 s.1 s.2) (drop place blends)

-- the first zone of a blend whose second one is to come
abbrev pub pending_of : List (List Step) → Option Pending → Option (Joint × ZoneResult)
pending_of lanes None = None
pending_of lanes (Some p) = Some (joint_of lanes p.blend.now, p.first.now)

-- one more outcome: what is shown of it, and of those behind it
pub record Advances (script : Script) (lane step zone : ℕ) (pending : Option Pending) (z : ZoneResult) (next : Option Pending) (old new : List ZoneResult) : Type 0 where
  pub more : List ZoneResult
  pub grew : new ≡ old ++ more
  pub shown : (zs rest : List ZoneResult) → AreShown (joint_at script lane step) (zone + 1) (pending_of script.lanes next) zs rest
      → AreShown (joint_at script lane step) zone (pending_of script.lanes pending) (z ∷ zs) (more ++ rest)

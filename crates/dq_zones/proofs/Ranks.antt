-- Which of the remote queries stands at a place.
use Rattle.std.proofs.Common.{◌≡◌, ℕ, zero, suc, ◌+◌, ◌≤◌, List, [], ◌∷◌, slice_get, Option, Some, None, refl, ap, subst, ◌∙◌, arith}
use Rattle.std.specs.Prelude.{unwrap_or}
use Rattle.dq_base.specs.declared.canon.Role.{Role}
use Rattle.dq_base.specs.declared.canon.Role.TheVariants.{Remote, Local}
use Rattle.dq_base.specs.declared.query.Query.{Query}
use Rattle.dq_journal.specs.Standing.{Rows}
use Rattle.dq_journal.specs.declared.entry.Entry.{Entry}
use Rattle.dq_machine.specs.Owning.{fate, spread}
use Rattle.dq_machine.specs.Preparing.{remote_among}
use Rattle.dq_zones.specs.Answering.{rank}
use Rattle.dq_zones.specs.Brought.{AreBrought, IsBrought}
use Rattle.dq_zones.specs.declared.fetch.Fetch.{Fetch}
use Rattle.dq_zones.proofs.Lists.{some_same}

pub rank_first : (rs : List Role) → rank rs 0 ≡ 0
rank_first [] = refl
rank_first (Remote ∷ rs) = refl
rank_first (Local source ∷ rs) = refl

remote_suc : (rs : List Role) (place : ℕ) → slice_get rs place ≡ Some Remote → rank rs (suc place) ≡ suc (rank rs place)
remote_suc [] place e = cc
remote_suc (Remote ∷ rs) zero e = ap suc (rank_first rs)
remote_suc (Remote ∷ rs) (suc place) e = ap suc (remote_suc rs place e)
remote_suc (Local source ∷ rs) zero e = cc
remote_suc (Local source ∷ rs) (suc place) e = remote_suc rs place e

local_suc : (rs : List Role) (place source : ℕ) → slice_get rs place ≡ Some (Local source) → rank rs (suc place) ≡ rank rs place
local_suc [] place source e = cc
local_suc (Remote ∷ rs) zero source e = cc
local_suc (Remote ∷ rs) (suc place) source e = ap suc (local_suc rs place source e)
local_suc (Local other ∷ rs) zero source e = rank_first rs
local_suc (Local other ∷ rs) (suc place) source e = local_suc rs place source e

-- one place more

pub rank_remote : (rs : List Role) (place : ℕ) → slice_get rs place ≡ Some Remote → rank rs (place + 1) ≡ rank rs place + 1
rank_remote rs place e =
    let n : place + 1 ≡ suc place = omega arith in
    let h = remote_suc rs place e in
    let s : suc (rank rs place) ≡ rank rs place + 1 = omega arith in
    ap (rank rs) n ∙ h ∙ s

pub rank_local : (rs : List Role) (place source : ℕ) → slice_get rs place ≡ Some (Local source) → rank rs (place + 1) ≡ rank rs place
rank_local rs place source e =
    let n : place + 1 ≡ suc place = omega arith in
    ap (rank rs) n ∙ local_suc rs place source e

pub rank_within : (rs : List Role) (place : ℕ) → rank rs place ≤ place
rank_within [] place = omega arith
rank_within (Remote ∷ rs) zero = omega arith
rank_within (Remote ∷ rs) (suc place) = let h = rank_within rs place in omega (arith, h)
rank_within (Local source ∷ rs) zero = omega arith
rank_within (Local source ∷ rs) (suc place) = let h = rank_within rs place in omega (arith, h)

-- what was brought for the remote query at a place
module _ (rows : ℕ → Rows) (journal : List Entry) where
  pub brought_at : (rs : List Role) (owns : List (Option ℕ)) (cs : List Query) (fs : List Fetch) (place : ℕ) (c : Query) → AreBrought rows journal owns (remote_among rs cs) fs
      → slice_get rs place ≡ Some Remote → slice_get cs place ≡ Some c
      → (f : Fetch) × (slice_get fs (rank rs place) ≡ Some f) × IsBrought (fate journal (unwrap_or (slice_get (spread rs owns) place) None)) (rows c.source) c f
  brought_at [] owns cs fs place c b r at = cc
  brought_at (Remote ∷ rs) owns [] fs place c b r at = cc
  brought_at (Remote ∷ rs) [] (q ∷ cs) [] place c b r at = absurd b
  brought_at (Remote ∷ rs) [] (q ∷ cs) (f ∷ fs) place c b r at = absurd b
  brought_at (Remote ∷ rs) (own ∷ owns) (q ∷ cs) [] place c b r at = absurd b
  brought_at (Remote ∷ rs) (own ∷ owns) (q ∷ cs) (f ∷ fs) zero c b r at =
      let same : q ≡ c = some_same q c at in
      let P : Query → Type 0 = λ k. IsBrought (fate journal own) (rows k.source) k f in (f, refl, subst P same b.0)
  brought_at (Remote ∷ rs) (own ∷ owns) (q ∷ cs) (f ∷ fs) (suc place) c b r at = brought_at rs owns cs fs place c b.1 r at
  brought_at (Local source ∷ rs) owns [] fs place c b r at = cc
  brought_at (Local source ∷ rs) owns (q ∷ cs) fs zero c b r at = cc
  brought_at (Local source ∷ rs) owns (q ∷ cs) fs (suc place) c b r at = brought_at rs owns cs fs place c b r at

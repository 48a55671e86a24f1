-- How a link agrees with one of the machine's.
use Rattle.std.specs.Prelude.{◌≡◌, ⊤, ℕ, ◌≤◌, Bool, true, false, ◌||◌, nat_eq, List, length, slice_get, Option, Some, None, IfSome}
use Rattle.std.specs.List.{list_any}
use Rattle.dq_base.specs.Headings.{Heading}
use Rattle.dq_base.specs.Spelling.{Bytes}
use Rattle.dq_base.specs.declared.script.Fails.{Fails}
use Rattle.dq_extract.specs.Loads.{LoadedFiles}
use Rattle.dq_link.specs.Mirrors.{Mirror}
use Rattle.dq_link.specs.Mounts.{Mounted, Mounts, EachMounted}
use Rattle.dq_link.specs.Views.{PooledLink}
use Rattle.dq_text.specs.Said.{said}
use Rattle.dq_text.specs.Statements.{spelling}
use Rattle.dq_machine.specs.Leasing.{mirror_for}
use Rattle.dq_machine.specs.Publishing.{rows_at}
use Rattle.dq_machine.specs.State.{Flown, LinkOf, Publication}

-- what a link tells
pub record LinkTells (L : Type 0) : Type 0 where
  pub runs : L → ℕ
  pub calls : L → ℕ
  pub mounts : L → Mounts
  pub planned : L → Option ℕ

-- a version of a source that has its heading, and the rows that its stamp names
pub record IsNamed (schemas : List Heading) (versions : List Publication) (source : ℕ) (m : Mounted) : Type 0 where
  pub stamp : m.stamp ≤ length versions
  pub heading : slice_get schemas source ≡ Some m.version.heading
  pub rows : m.version.rows ≡ rows_at versions m.stamp

-- each version mounted is one
abbrev pub AreNamed : List Heading → List Publication → Mounts → Type 0
AreNamed schemas versions mounts = EachMounted (IsNamed schemas versions) mounts

-- 0, or what is wanted to fail of some lane
abbrev pub is_planned : List Fails → ℕ → Bool
is_planned fails call = nat_eq call 0 || list_any (λ f. list_any (nat_eq call) f.links) fails

-- where a plan is told
abbrev pub IsPlanned : List Fails → Option ℕ → Type 0
IsPlanned fails planned = IfSome planned (λ call. is_planned fails call ≡ true)

module _ {L : Type 0} where
  -- the link is the machine's: its mirror is, as long as that is sure
  pub record IsLink (tells : LinkTells L) (l : LoadedFiles) (versions : List Publication) (k : LinkOf) (p : PooledLink L) : Type 0 where
    pub number : p.number ≡ k.number
    pub runs : tells.runs p.link ≡ k.runs
    pub calls : tells.calls p.link ≡ k.calls
    pub mirror : k.sure ≡ true → p.mirror ≡ k.mirror
    pub named : AreNamed l.script.schemas versions (tells.mounts p.link)
    pub planned : IsPlanned l.script.fails (tells.planned p.link)

-- a link that ran the flight's statement has the mirror of one that was made ready for it, as long as that is sure
abbrev pub MirrorAs : Bool → Mirror → LinkOf → Option Flown → Type 0
MirrorAs false mirror k flight = ⊤
MirrorAs true mirror k flight = k.sure ≡ true → mirror ≡ mirror_for k.mirror flight

-- the text run last is that of the statement for the flight
abbrev pub RanAs : Bool → Mirror → Option Bytes → Option Flown → Type 0
RanAs false mirror last flight = ⊤
RanAs true mirror last None = ⊥
RanAs true mirror last (Some f) = last ≡ Some (spelling (said mirror.tables f.stamp f.key))

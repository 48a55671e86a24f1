-- Journals.
use Rattle.std.specs.Prelude.{◌≡◌, ℕ, Bool, true, false, List, [], ◌∷◌}
use Rattle.dq_journal.specs.declared.entry.Entry.{Entry}
use Rattle.dq_journal.specs.declared.entry.Entry.TheVariants.{Publish, Admit, Lease, Give, Lose, Land, Fall, Take, End}

-- entries, and how many more can be pushed without taking memory
pub record JournalOf : Type 0 where
  pub entries : List Entry
  pub spare : ℕ

-- what is lost undialled ran nothing and had no call
abbrev pub LostAs : Bool → Bool → ℕ → ℕ → Type 0
LostAs true ran runs calls = Unit {0}
LostAs false ran runs calls = (ran ≡ false) × (runs ≡ 0) × (calls ≡ 0)

abbrev pub IsEntry : Entry → Type 0
IsEntry (Publish lane step) = Unit {0}
IsEntry (Admit lane step met) = Unit {0}
IsEntry (Lease lane flight link fresh) = Unit {0}
IsEntry (Give lane flight link ran runs calls) = Unit {0}
IsEntry (Lose lane flight link dialled ran runs calls) = LostAs dialled ran runs calls
IsEntry (Land lane flight cells clever literal) = Unit {0}
IsEntry (Fall lane flight cause) = Unit {0}
IsEntry (Take lane flight next) = Unit {0}
IsEntry (End lane) = Unit {0}

abbrev pub AreEntries : List Entry → Type 0
AreEntries [] = Unit {0}
AreEntries (e ∷ es) = IsEntry e × AreEntries es

-- the lane that an entry is of
abbrev pub lane_of : Entry → ℕ
lane_of (Publish lane step) = lane
lane_of (Admit lane step met) = lane
lane_of (Lease lane flight link fresh) = lane
lane_of (Give lane flight link ran runs calls) = lane
lane_of (Lose lane flight link dialled ran runs calls) = lane
lane_of (Land lane flight cells clever literal) = lane
lane_of (Fall lane flight cause) = lane
lane_of (Take lane flight next) = lane
lane_of (End lane) = lane

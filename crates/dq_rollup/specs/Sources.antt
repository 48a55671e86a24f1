-- From which cells of a held row a measure is derived.
use Rattle.std.specs.Prelude.{◌≡◌, ℕ, ◌+◌, true, length, slice_get, ◌⊎◌, Some}
use Rattle.dq_base.specs.Covering.{same_dims}
use Rattle.dq_base.specs.Dims.{plain}
use Rattle.dq_base.specs.declared.query.Measure.{Measure}
use Rattle.dq_base.specs.declared.query.Measure.TheVariants as measure
use Rattle.dq_base.specs.declared.query.Query.{Query}
use Rattle.dq_rollup.specs.declared.source.Part.{Part}
use Rattle.dq_rollup.specs.declared.source.Part.TheVariants.{Shown, Keyed}
use Rattle.dq_rollup.specs.declared.source.Source.{Source}
use Rattle.dq_rollup.specs.declared.source.Source.TheVariants.{Count, Sum, Least, Greatest, Different, Average}

-- the column of the answer at that place, from 0, shows the measure
pub record IsShown (p : Query) (m : Measure) (place : ℕ) : Type 0 where
  pub at : ℕ
  pub place_is : place ≡ length p.dims + at
  pub there : slice_get p.measures at ≡ Some m

-- the dimension at that place is the plain one of the column
abbrev pub IsKey : Query → ℕ → ℕ → Type 0
IsKey p c place = slice_get p.dims place ≡ Some (plain c)

abbrev pub IsKeyed : Query → ℕ → Part → Type 0
IsKeyed p c (Shown place) = ⊥
IsKeyed p c (Keyed key rows) = IsKey p c key × IsShown p measure.Rows rows

abbrev pub IsCounts : Query → ℕ → Part → Type 0
IsCounts p c (Shown place) = IsShown p (measure.Count c) place ⊎ IsShown p (measure.Avg c) place
IsCounts p c (Keyed key rows) = IsKey p c key × IsShown p measure.Rows rows

abbrev pub IsSums : Query → ℕ → Part → Type 0
IsSums p c (Shown place) = IsShown p (measure.Sum c) place ⊎ IsShown p (measure.Avg c) place
IsSums p c (Keyed key rows) = IsKey p c key × IsShown p measure.Rows rows

-- a row's own number, which needn't be added up
abbrev pub IsOwn : Query → Measure → Part → Type 0
IsOwn p m (Shown place) = IsShown p m place
IsOwn p m (Keyed key rows) = ⊥

abbrev pub IsRows : Query → Source → Type 0
IsRows p (Count part) = IsOwn p measure.Rows part
IsRows p (Sum part) = ⊥
IsRows p (Least place) = ⊥
IsRows p (Greatest place) = ⊥
IsRows p (Different place) = ⊥
IsRows p (Average sums counts) = ⊥

abbrev pub IsCount : Query → ℕ → Source → Type 0
IsCount p c (Count part) = IsCounts p c part
IsCount p c (Sum part) = ⊥
IsCount p c (Least place) = ⊥
IsCount p c (Greatest place) = ⊥
IsCount p c (Different place) = ⊥
IsCount p c (Average sums counts) = ⊥

abbrev pub IsSum : Query → ℕ → Source → Type 0
IsSum p c (Count part) = ⊥
IsSum p c (Sum part) = IsSums p c part
IsSum p c (Least place) = ⊥
IsSum p c (Greatest place) = ⊥
IsSum p c (Different place) = ⊥
IsSum p c (Average sums counts) = ⊥

abbrev pub IsLeast : Query → ℕ → Source → Type 0
IsLeast p c (Count part) = ⊥
IsLeast p c (Sum part) = ⊥
IsLeast p c (Least place) = IsShown p (measure.Min c) place ⊎ IsKey p c place
IsLeast p c (Greatest place) = ⊥
IsLeast p c (Different place) = ⊥
IsLeast p c (Average sums counts) = ⊥

abbrev pub IsGreatest : Query → ℕ → Source → Type 0
IsGreatest p c (Count part) = ⊥
IsGreatest p c (Sum part) = ⊥
IsGreatest p c (Least place) = ⊥
IsGreatest p c (Greatest place) = IsShown p (measure.Max c) place ⊎ IsKey p c place
IsGreatest p c (Different place) = ⊥
IsGreatest p c (Average sums counts) = ⊥

-- the different values of the key, or the number that one row has where the rows aren't grouped further
abbrev pub IsDistinct : Query → Query → ℕ → Source → Type 0
IsDistinct p q c (Count part) = IsOwn p (measure.Distinct c) part × (same_dims p q ≡ true)
IsDistinct p q c (Sum part) = ⊥
IsDistinct p q c (Least place) = ⊥
IsDistinct p q c (Greatest place) = ⊥
IsDistinct p q c (Different place) = IsKey p c place
IsDistinct p q c (Average sums counts) = ⊥

abbrev pub IsAverage : Query → ℕ → Source → Type 0
IsAverage p c (Count part) = ⊥
IsAverage p c (Sum part) = ⊥
IsAverage p c (Least place) = ⊥
IsAverage p c (Greatest place) = ⊥
IsAverage p c (Different place) = ⊥
IsAverage p c (Average sums counts) = IsSums p c sums × IsCounts p c counts

-- the measure of q can be derived in this way from the rows of p
abbrev pub IsSource : Query → Query → Measure → Source → Type 0
IsSource p q measure.Rows s = IsRows p s
IsSource p q (measure.Count c) s = IsCount p c s
IsSource p q (measure.Sum c) s = IsSum p c s
IsSource p q (measure.Min c) s = IsLeast p c s
IsSource p q (measure.Max c) s = IsGreatest p c s
IsSource p q (measure.Distinct c) s = IsDistinct p q c s
IsSource p q (measure.Avg c) s = IsAverage p c s

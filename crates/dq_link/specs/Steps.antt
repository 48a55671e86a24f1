-- What a step of making a link ready leaves.
use Rattle.std.specs.Prelude.{◌≡◌, ℕ, ◌<◌, ◌≤◌, ◌^◌, Option, Result, Ok, Err}
use Rattle.dq_base.specs.Causes.{Rose}
use Rattle.dq_link.specs.Mirrors.{IsMirrored, Readying}
use Rattle.dq_link.specs.Mounts.{Holdings, Mounts}
use Rattle.dq_link.specs.Views.{MirroredLink}
use Rattle.dq_link.specs.declared.fault.LinkFault.{LinkFault}
use Rattle.dq_link.specs.declared.fault.LinkFault.TheVariants as fault

-- what a link tells at some time, and its mirror with the count of calls
pub record Moment : Type 0 where
  pub mounts : Mounts
  pub tables : Holdings
  pub faults : ℕ
  pub runs : ℕ
  pub planned : Option ℕ
  pub ready : Readying

-- the step is done, and the mirror tells what stands
pub record IsDone (step : Readying → Readying) (before now : Moment) : Type 0 where
  pub reached : now.ready ≡ step before.ready
  pub mirrored : IsMirrored now.mounts now.tables now.ready.mirror
  pub faults : now.faults ≡ before.faults
  pub runs : now.runs ≡ before.runs
  pub planned : now.planned ≡ before.planned

-- a call failed; no more calls were made than the step takes
pub record IsBroken (step : Readying → Readying) (before now : Moment) : Type 0 where
  pub some : before.ready.count < now.ready.count
  pub most : now.ready.count ≤ (step before.ready).count
  pub later : before.faults ≤ now.faults
  pub rose : Rose before.faults now.faults
  pub runs : now.runs ≡ before.runs
  pub planned : now.planned ≡ before.planned

-- memory was wanting; no more calls were made than the step takes, and the mirror tells what stands
pub record IsStopped (step : Readying → Readying) (before now : Moment) : Type 0 where
  pub some : before.ready.count ≤ now.ready.count
  pub most : now.ready.count ≤ (step before.ready).count
  pub mirrored : IsMirrored now.mounts now.tables now.ready.mirror
  pub faults : now.faults ≡ before.faults
  pub runs : now.runs ≡ before.runs
  pub planned : now.planned ≡ before.planned

abbrev pub Moves : {T : Type 0} → (Readying → Readying) → Moment → Moment → Result T LinkFault → Type 0
Moves step before now (Ok done) = IsDone step before now
Moves step before now (Err fault.Failed) = IsBroken step before now
Moves step before now (Err fault.Memory) = IsStopped step before now

module _ {L : Type 0} (mounts : L → Mounts) (tables : L → Holdings) (faults runs calls : L → ℕ) (planned : L → Option ℕ) where
  abbrev pub moment : MirroredLink L → Moment
  moment l = record { mounts = mounts l.link; tables = tables l.link; faults = faults l.link; runs = runs l.link; planned = planned l.link; ready = record { mirror = l.mirror; count = calls l.link } }

  -- a step of a link with these meanings
  abbrev pub Advances : {T : Type 0} → (Readying → Readying) → MirroredLink L → MirroredLink L → Result T LinkFault → Type 0
  Advances step before now result = Moves step (moment before) (moment now) result

  -- a link whose mirror tells what stands, with room for a step
  pub record CanAdvance (step : Readying → Readying) (before : MirroredLink L) : Type 0 where
    pub mirrored : IsMirrored (mounts before.link) (tables before.link) before.mirror
    pub runs_room : runs before.link < 2 ^ 40
    pub calls_room : (step (record { mirror = before.mirror; count = calls before.link })).count ≤ 2 ^ 40

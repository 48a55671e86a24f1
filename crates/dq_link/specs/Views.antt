-- What contracts see of a link and what is kept of it.
use Rattle.std.specs.Prelude.{◌≡◌, ℕ, ◌≤◌, Option}
use Rattle.dq_base.specs.Spelling.{Bytes}
use Rattle.dq_link.specs.Mirrors.{IsMirrored, Mirror}
use Rattle.dq_link.specs.Mounts.{Holdings, Mounts}

-- a link, and what is kept of it
pub record MirroredLink (L : Type 0) : Type 0 where
  pub link : L
  pub mirror : Mirror

-- a link that is kept for further use: its number, its mirror, and the text that it ran last
pub record PooledLink (L : Type 0) : Type 0 where
  pub number : ℕ
  pub link : L
  pub mirror : Mirror
  pub last : Option Bytes

-- a link that had a fault, and its number
pub record LostLink (L : Type 0) : Type 0 where
  pub number : ℕ
  pub link : L

-- what a pooled link keeps
pub record IsPooled (mounts : Mounts) (tables : Holdings) (faults runs calls : ℕ) (m : Mirror) : Type 0 where
  pub mirrored : IsMirrored mounts tables m
  pub unfaulted : faults ≡ 0
  pub counted : runs ≤ calls

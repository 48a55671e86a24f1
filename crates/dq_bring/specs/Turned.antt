-- What a turn of a lane makes of the flight that it brings.
use Rattle.std.specs.Prelude.{◌≡◌, false, List}
use Rattle.dq_journal.specs.declared.entry.Entry.{Entry}
use Rattle.dq_machine.specs.Machine.{after}
use Rattle.dq_machine.specs.State.{work_of}
use Rattle.dq_bring.specs.Told.{Ends, Enters, StaysBeside}
use Rattle.dq_bring.specs.Views.{BringingOf}
use Rattle.dq_bring.specs.declared.telling.Flown.{Flown}
use Rattle.dq_bring.specs.declared.telling.Flown.TheVariants as flown

-- the flight is still to be brought
pub record FliesOn (v w : BringingOf) (old new : List Entry) : Type 0 where
  pub enters : Enters v.lane v.flight v.untold old new
  pub loaded : w.loaded ≡ v.loaded
  pub lane : w.lane ≡ v.lane
  pub flight : w.flight ≡ v.flight
  pub seen : w.seen ≡ new
  pub untold : w.untold ≡ false
  pub own : (work_of (after v.loaded new) v.lane).own ≡ (work_of (after v.loaded old) v.lane).own
  pub beside : StaysBeside (work_of (after v.loaded old) v.lane) (work_of (after v.loaded new) v.lane)
  pub flights : (after v.loaded new).flights ≡ (after v.loaded old).flights

abbrev pub IsFlown : {L : Type 0} → BringingOf → List Entry → List Entry → Flown L → Type 0
IsFlown v old new (flown.On b) = FliesOn v b old new
IsFlown v old new (flown.Over e) = Ends v.loaded v.lane v.flight v.untold old new e

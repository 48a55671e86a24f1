-- What contracts see of a batch under way.
use Rattle.std.specs.Prelude.{ℕ, Bool, List}
use Rattle.dq_extract.specs.Loads.{LoadedFiles}
use Rattle.dq_journal.specs.declared.entry.Entry.{Entry}
use Rattle.dq_batch.specs.Open.{is_over, pending_in, untold_in}
use Rattle.dq_batch.specs.declared.open.Open.{Open}

pub record BatchOf : Type 0 where
  pub loaded : LoadedFiles
  pub lane : ℕ
  pub step : ℕ
  -- that of its entry in the journal
  pub place : ℕ
  -- the journal of its last event
  pub seen : List Entry
  -- there is work before the lane's next turn
  pub pending : Bool
  -- a dial failed, and the desk doesn't know it yet
  pub untold : Bool
  -- nothing is left to be brought or taken
  pub over : Bool

abbrev pub batch_view : {L : Type 0} → LoadedFiles → List Entry → Open L → BatchOf
batch_view l seen o = record {
  loaded = l;
  lane = o.lane;
  step = o.step;
  place = o.place;
  seen = seen;
  pending = pending_in o.current;
  untold = untold_in o.current;
  over = is_over o;
}

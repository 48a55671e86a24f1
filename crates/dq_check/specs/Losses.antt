-- The flights whose losses and falls a journal tells.
use Rattle.std.specs.Prelude.{◌≡◌, ℕ, Bool, List, [], ◌∷◌, Option, Some, None, unwrap_or, if◌then◌else◌}
use Rattle.std.specs.BTreeMap.{get}
use Rattle.std.specs.BTreeSet.{contains}
use Rattle.std.specs.List.{list_any}
use Rattle.std.specs.Ordering.{nat_cmp}
use Rattle.dq_check.specs.declared.losses.Losses.{Losses}
use Rattle.dq_journal.specs.declared.entry.Entry.{Entry}
use Rattle.dq_journal.specs.declared.entry.Entry.TheVariants.{Publish, Admit, Lease, Give, Lose, Land, Fall, Take, End}
use Rattle.dq_machine.specs.Owning.{Fate, Answered, fate_by, falls_wanting, is_memory, losses_of}

-- the flight for which a link is lost
abbrev pub lost_in : Entry → List ℕ
lost_in (Publish lane step) = []
lost_in (Admit lane step met) = []
lost_in (Lease lane flight link fresh) = []
lost_in (Give lane flight link ran runs calls) = []
lost_in (Lose lane flight link dialled ran runs calls) = flight ∷ []
lost_in (Land lane flight cells clever literal) = []
lost_in (Fall lane flight cause) = []
lost_in (Take lane flight next) = []
lost_in (End lane) = []

-- the flight that falls, as memory is wanting
abbrev pub wanting_in : Entry → List ℕ
wanting_in (Publish lane step) = []
wanting_in (Admit lane step met) = []
wanting_in (Lease lane flight link fresh) = []
wanting_in (Give lane flight link ran runs calls) = []
wanting_in (Lose lane flight link dialled ran runs calls) = []
wanting_in (Land lane flight cells clever literal) = []
wanting_in (Fall lane flight cause) = if is_memory cause then flight ∷ [] else []
wanting_in (Take lane flight next) = []
wanting_in (End lane) = []

-- how many links were lost for a flight, and whether memory was wanting for it
abbrev pub lost_of : Losses → ℕ → ℕ
lost_of l flight = unwrap_or (get nat_cmp l.lost flight) 0

abbrev pub was_wanting : Losses → ℕ → Bool
was_wanting l flight = contains nat_cmp l.wanting flight

-- those of a journal
pub record AreLosses (journal : List Entry) (l : Losses) : Type 0 where
  pub lost : (flight : ℕ) → lost_of l flight ≡ losses_of journal flight
  pub wanting : (flight : ℕ) → was_wanting l flight ≡ list_any (falls_wanting flight) journal

-- what may be said of a zone whose own flight is this one, if it has one
abbrev pub fate_by_losses : Losses → Option ℕ → Fate
fate_by_losses l None = Answered
fate_by_losses l (Some flight) = fate_by (lost_of l flight) (was_wanting l flight)

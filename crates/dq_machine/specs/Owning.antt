-- Which flight brings a zone's answer, and what became of it.
use Rattle.std.specs.Prelude.{ℕ, ◌+◌, Bool, true, false, nat_eq, List, [], ◌∷◌, length, map, filter, drop, slice_get, Option, Some, None, unwrap_or, if◌then◌else◌}
use Rattle.std.specs.List.{list_any, flat_map, enumerate_from}
use Rattle.dq_base.specs.Batches.{roles}
use Rattle.dq_base.specs.Headings.{Heading}
use Rattle.dq_base.specs.Scripts.{numbered}
use Rattle.dq_base.specs.declared.query.Query.{Query}
use Rattle.dq_base.specs.declared.canon.Role.{Role}
use Rattle.dq_base.specs.declared.canon.Role.TheVariants.{Remote, Local}
use Rattle.dq_journal.specs.Steps.{entries_of}
use Rattle.dq_journal.specs.declared.entry.Cause.{Cause}
use Rattle.dq_journal.specs.declared.entry.Cause.TheVariants as cause
use Rattle.dq_journal.specs.declared.entry.Met.{Met}
use Rattle.dq_journal.specs.declared.entry.Met.TheVariants as met
use Rattle.dq_journal.specs.declared.entry.Entry.{Entry}
use Rattle.dq_journal.specs.declared.entry.Entry.TheVariants.{Publish, Admit, Lease, Give, Lose, Land, Fall, Take, End}
use Rattle.dq_machine.specs.Preparing.{canons_of, is_valid}

-- what a Take starts, if it is one
abbrev pub started_in : Entry → List (Option ℕ)
started_in (Publish lane step) = []
started_in (Admit lane step met) = []
started_in (Lease lane flight link fresh) = []
started_in (Give lane flight link ran runs calls) = []
started_in (Lose lane flight link dialled ran runs calls) = []
started_in (Land lane flight cells clever literal) = []
started_in (Fall lane flight cause) = []
started_in (Take lane flight next) = next ∷ []
started_in (End lane) = []

-- what the lane's Takes behind a place start, in order
abbrev pub started_behind : List Entry → ℕ → ℕ → List (Option ℕ)
started_behind journal lane place = flat_map started_in (entries_of lane (drop place journal))

abbrev pub met_in : Option Entry → List Met
met_in None = []
met_in (Some (Publish lane step)) = []
met_in (Some (Admit lane step met)) = met
met_in (Some (Lease lane flight link fresh)) = []
met_in (Some (Give lane flight link ran runs calls)) = []
met_in (Some (Lose lane flight link dialled ran runs calls)) = []
met_in (Some (Land lane flight cells clever literal)) = []
met_in (Some (Fall lane flight cause)) = []
met_in (Some (Take lane flight next)) = []
met_in (Some (End lane)) = []

abbrev pub first_started : List (Option ℕ) → Option ℕ
first_started [] = None
first_started (t ∷ takes) = t

-- the own flights of remote queries, by what they met: that of their group, or the one that the Take of their join starts
abbrev pub own_flights : List Met → List (Option ℕ) → List (Option ℕ)
own_flights [] takes = []
own_flights (met.Hit f ∷ ms) takes = None ∷ own_flights ms takes
own_flights (met.Literal f ∷ ms) takes = None ∷ own_flights ms takes
own_flights (met.Group f ∷ ms) takes = Some f ∷ own_flights ms takes
own_flights (met.Join f ∷ ms) takes = first_started takes ∷ own_flights ms (drop 1 takes)

-- one for each role: that of the remote query, and none for a local one
abbrev pub spread : List Role → List (Option ℕ) → List (Option ℕ)
spread [] owns = []
spread (Remote ∷ rs) owns = first_started owns ∷ spread rs (drop 1 owns)
spread (Local place ∷ rs) owns = None ∷ spread rs owns

-- whose answer a valid zone has: the flight that is its own, and for a local zone the place of the zone from which it is computed
pub record Origin : Type 0 where
  pub own : Option ℕ
  pub leader : Option ℕ

abbrev pub no_origin : Origin
no_origin = record { own = None; leader = None }

-- of the valid zone at a place among the valid ones; a local zone's flight is that of the remote zone
abbrev pub origin_of : List (Option ℕ) → List ℕ → ℕ → Role → Origin
origin_of owns zones place Remote = record { own = unwrap_or (slice_get owns place) None; leader = None }
origin_of owns zones place (Local source) = record { own = unwrap_or (slice_get owns source) None; leader = slice_get zones source }

-- the places of the valid zones, from this one on
abbrev pub valid_places : List Heading → ℕ → List Query → List ℕ
valid_places schemas place [] = []
valid_places schemas place (q ∷ zones) =
    if is_valid schemas q then place ∷ valid_places schemas (place + 1) zones else valid_places schemas (place + 1) zones

abbrev pub valid_origins : List Role → List (Option ℕ) → List ℕ → List Origin
valid_origins rs owns places = map (λ p. origin_of (spread rs owns) places p.0 p.1) (enumerate_from 0 rs)

-- one for each zone, where those of the valid ones are given in order
abbrev pub over_zones : List Heading → List Query → List Origin → List Origin
over_zones schemas [] origins = []
over_zones schemas (q ∷ zones) [] = no_origin ∷ over_zones schemas zones []
over_zones schemas (q ∷ zones) (o ∷ origins) =
    if is_valid schemas q then o ∷ over_zones schemas zones origins else no_origin ∷ over_zones schemas zones (o ∷ origins)

-- of the zones of a batch that was admitted so; places count from 0
abbrev pub origins_met : List Heading → List Query → List Met → List (Option ℕ) → List Origin
origins_met schemas zones met takes =
    over_zones schemas zones (valid_origins (roles (canons_of schemas zones)) (own_flights met takes) (valid_places schemas 0 zones))

-- of the zones of the batch that a lane's entry at this place of the journal admits
abbrev pub origins : List Heading → List Entry → ℕ → ℕ → List Query → List Origin
origins schemas journal lane place zones = origins_met schemas zones (met_in (numbered journal place)) (started_behind journal lane place)

-- what became of a flight

abbrev pub loses : ℕ → Entry → Bool
loses flight (Publish lane step) = false
loses flight (Admit lane step met) = false
loses flight (Lease lane f link fresh) = false
loses flight (Give lane f link ran runs calls) = false
loses flight (Lose lane f link dialled ran runs calls) = nat_eq f flight
loses flight (Land lane f cells clever literal) = false
loses flight (Fall lane f cause) = false
loses flight (Take lane f next) = false
loses flight (End lane) = false

-- how many links were lost for it
abbrev pub losses_of : List Entry → ℕ → ℕ
losses_of journal flight = length (filter (loses flight) journal)

abbrev pub is_memory : Cause → Bool
is_memory cause.BackEnd = false
is_memory cause.Memory = true

-- the flight falls, as memory is wanting
abbrev pub falls_wanting : ℕ → Entry → Bool
falls_wanting flight (Publish lane step) = false
falls_wanting flight (Admit lane step met) = false
falls_wanting flight (Lease lane f link fresh) = false
falls_wanting flight (Give lane f link ran runs calls) = false
falls_wanting flight (Lose lane f link dialled ran runs calls) = false
falls_wanting flight (Land lane f cells clever literal) = false
falls_wanting flight (Fall lane f cause) = if is_memory cause then nat_eq f flight else false
falls_wanting flight (Take lane f next) = false
falls_wanting flight (End lane) = false

-- what may be said of a valid zone: its answer, unless memory is wanting; that the back end failed twice; that memory was wanting
pub data Fate : Type 0 where
  Answered Failed Wanting : Fate

abbrev pub fate_by : ℕ → Bool → Fate
fate_by losses wanting = if nat_eq losses 2 then Failed else if wanting then Wanting else Answered

abbrev pub fate : List Entry → Option ℕ → Fate
fate journal None = Answered
fate journal (Some flight) = fate_by (losses_of journal flight) (list_any (falls_wanting flight) journal)

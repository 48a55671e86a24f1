-- What a desk keeps, at first and in general.
use Rattle.std.proofs.Common.{◌≡◌, ℕ, zero, suc, ◌+◌, ◌-◌, ◌<◌, ◌≤◌, true, false, List, [], ◌∷◌, ◌++◌, length, map, get_or, slice_set, replicate, sum_by, refl, ap, sym, ◌∙◌, arith}
use Rattle.std.proofs.lemmas.List.Folds.{sum_by-replicate}
use Rattle.std.proofs.lemmas.List.{length-replicate}
use Rattle.std.specs.Prelude.{slice_index_or}
use Rattle.dq_base.specs.Headings.{Heading}
use Rattle.dq_base.specs.Versions.{Version}
use Rattle.dq_cache.specs.Entries.{CleverOf, LiteralOf}
use Rattle.dq_extract.specs.Loads.{LoadedFiles, IsLoaded}
use Rattle.dq_flight.specs.Flights.{FlightsOf}
use Rattle.dq_link.specs.Views.{LostLink, PooledLink}
use Rattle.dq_machine.proofs.Standing.{AreStanding-start}
use Rattle.dq_machine.specs.Machine.{after, legal, run}
use Rattle.dq_machine.specs.Refreshing.{no_stand}
use Rattle.dq_machine.specs.State.{Joined, State, Work, no_work, start}
use Rattle.dq_laws.specs.Room.{owed, owed_work}
use Rattle.dq_desk.specs.Kept.{Agrees, AreFlights, AreVersions, HasRoom, Inner, IsDesk, IsShelved}
use Rattle.dq_trial.specs.Links.{LinkTells}
use Rattle.dq_desk.specs.Roomed.{Roomed}

-- rooms

module _ {L : Type 0} where
  -- an entry that was owed takes one of each room at most
  pub room-less : (s s' : State) (p p' : Inner L) → HasRoom s p → owed s' + 1 ≤ owed s → p'.owed ≡ p.owed - 1 → p.spare ≤ p'.spare + 1 → p.flights.spare ≤ p'.flights.spare + 1
      → p.wrecks.spare ≤ p'.wrecks.spare + 1 → length s'.works ≡ length s.works → length p.idle.items + p.idle.spare ≤ length p'.idle.items + p'.idle.spare → HasRoom s' p'
  room-less s s' p p' h less owes entries flights wrecks works idle = record {
    owed = omega (arith, h.owed, less, owes);
    entries = omega (arith, h.owed, less, owes, h.entries, entries);
    flights = omega (arith, h.owed, less, owes, h.flights, flights);
    wrecks = omega (arith, h.owed, less, owes, h.wrecks, wrecks);
    idle = omega (arith, h.idle, works, idle);
  }

  -- there is room for one
  pub record HasSome (p : Inner L) : Type 0 where
    pub owed : 1 ≤ p.owed
    pub entries : 0 < p.spare
    pub flights : 0 < p.flights.spare
    pub wrecks : 0 < p.wrecks.spare

  pub room-some : (s s' : State) (p : Inner L) → HasRoom s p → owed s' + 1 ≤ owed s → HasSome p
  room-some s s' p h less = record {
    owed = omega (arith, h.owed, less);
    entries = omega (arith, h.owed, less, h.entries);
    flights = omega (arith, h.owed, less, h.flights);
    wrecks = omega (arith, h.owed, less, h.wrecks);
  }

-- the joins of all lanes

pub joins_of_all : List Work → List (List Joined)
joins_of_all works = map (λ (w : Work). w.joins) works

pub joins-same : (works : List Work) (i : ℕ) (w : Work) → w.joins ≡ (get_or works i no_work).joins → map (λ (v : Work). v.joins) (slice_set works i w) ≡ map (λ (v : Work). v.joins) works
joins-same [] i w same = refl
joins-same (v ∷ works) zero w same = ap (λ joins. joins ∷ map (λ (v : Work). v.joins) works) same
joins-same (v ∷ works) (suc i) w same = ap (λ more. v.joins ∷ more) (joins-same works i w same)

pub joins-set : (works : List Work) (i : ℕ) (w : Work) → map (λ (v : Work). v.joins) (slice_set works i w) ≡ slice_set (map (λ (v : Work). v.joins) works) i w.joins
joins-set [] i w = refl
joins-set (v ∷ works) zero w = refl
joins-set (v ∷ works) (suc i) w = ap (λ more. v.joins ∷ more) (joins-set works i w)

joins_none : (n : ℕ) → replicate n [] ≡ map (λ (v : Work). v.joins) (replicate n no_work)
joins_none zero = refl
joins_none (suc n) = ap (λ more. [] ∷ more) (joins_none n)

-- at first

no_stamp : (n source : ℕ) → slice_index_or (replicate {A = ℕ} n 0) source 0 ≡ 0
no_stamp zero zero = refl
no_stamp zero (suc source) = refl
no_stamp (suc n) zero = refl
no_stamp (suc n) (suc source) = no_stamp n source

-- the parts of a desk on which nothing has happened
pub record IsFirst {L : Type 0} (l : LoadedFiles) (p : Inner L) : Type 0 where
  pub lanes : p.owed ≡ length l.script.lanes
  pub entries : p.owed ≤ p.spare
  pub published : p.published ≡ 0
  pub stamps : p.stamps ≡ replicate {A = ℕ} (length l.script.schemas) 0
  pub stands : p.stands ≡ map no_stand l.script.schemas
  pub joins : p.joins ≡ replicate (length l.script.lanes) []
  pub clever : p.clever ≡ record { entries = []; bound = l.script.clever }
  pub literal : p.literal ≡ record { entries = []; bound = l.script.literal }
  pub flights : p.flights.flights ≡ []
  pub flights_room : p.owed ≤ p.flights.spare
  pub started : p.started ≡ 0
  pub idle : p.idle.items ≡ []
  pub idle_room : p.owed ≤ p.idle.spare
  pub fresh : p.fresh ≡ 0
  pub wrecks : p.wrecks.items ≡ []
  pub wrecks_room : p.owed ≤ p.wrecks.spare

module _ {L : Type 0} (tells : LinkTells L) (l : LoadedFiles) (p : Inner L) (f : IsFirst l p) where
  lanes_start : owed (start l) ≡ length l.script.lanes
  lanes_start = sum_by-replicate owed_work (length l.script.lanes) no_work ∙ omega arith

  agrees_start : Agrees tells l (start l) p
  agrees_start = record {
    versions = record {
      published = f.published;
      stamps = rw f.stamps (record { each = λ source. no_stamp (length l.script.schemas) source });
      many = ap length f.stamps ∙ length-replicate (length l.script.schemas) 0;
      stands = rw f.stands (AreStanding-start l.script.schemas);
    };
    shelves = rw (f.clever, f.literal) (record { clever = refl; clever_bound = refl; clever_tables = tt; literal = refl; literal_bound = refl; literal_tables = tt });
    flights = record { flown = rw f.flights refl; started = f.started; each = rw f.flights tt };
    joins = f.joins ∙ joins_none (length l.script.lanes);
    idle = rw f.idle tt;
    fresh = f.fresh;
    room = record {
      owed = omega (arith, lanes_start, f.lanes);
      entries = f.entries;
      flights = f.flights_room;
      wrecks = f.wrecks_room;
      idle = omega (arith, length-replicate (length l.script.lanes) no_work, f.lanes, f.idle_room);
    };
  }

  pub IsDesk-new : IsLoaded l → IsDesk tells l [] p
  unfolding after legal
  IsDesk-new loaded = record { loaded = loaded; legal = refl; agrees = agrees_start; wrecks = rw f.wrecks tt }

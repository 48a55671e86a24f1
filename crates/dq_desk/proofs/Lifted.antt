-- What is kept of a version holds as well once there are more.
use Rattle.std.proofs.Common.{◌≡◌, ℕ, ◌≤◌, true, List, [], ◌∷◌, ap, ◌∙◌, arith, length}
use Rattle.std.specs.List.{AllByRecursion}
use Rattle.std.specs.Prelude.{Option, Some, None, IfSome}
use Rattle.dq_base.specs.Answers.{answer}
use Rattle.dq_base.specs.Headings.{Heading}
use Rattle.dq_base.specs.declared.query.Query.{Query}
use Rattle.dq_cache.specs.Entries.{BodiedOf, EntryOf}
use Rattle.dq_extract.specs.Loads.{LoadedFiles}
use Rattle.dq_flight.specs.Flights.{Course, FlightOf}
use Rattle.dq_flight.specs.Flights as flights
use Rattle.dq_link.specs.Mounts.{Mounted, Mounts}
use Rattle.dq_link.specs.Views.{PooledLink}
use Rattle.dq_machine.specs.Publishing.{rows_at}
use Rattle.dq_machine.specs.State.{LinkOf, Publication}
use Rattle.dq_laws.proofs.Stays.{Adds}
use Rattle.dq_desk.specs.Kept.{IsBodied, IsFlight, IsLandedAs, IsTable}
use Rattle.dq_desk.specs.Links.{AreLinks}
use Rattle.dq_trial.specs.Links.{AreNamed, IsLink, IsNamed, LinkTells}

pub all-weaker : {X : Type 0} (P Q : X → Type 0) → ((x : X) → P x → Q x) → (xs : List X) → AllByRecursion P xs → AllByRecursion Q xs
all-weaker P Q weaker [] h = tt
all-weaker P Q weaker (x ∷ xs) h = (weaker x h.0, all-weaker P Q weaker xs h.1)

module _ (old new : List Publication) (adds : Adds old new) where
  table_lifted : (e : EntryOf) → IsTable old e → IsTable new e
  table_lifted e h = record { stamp = omega (arith, h.stamp, adds.more); table = rw (adds.rows e.stamp h.stamp) h.table }

  bodied_lifted : (b : BodiedOf) → IsBodied old b → IsBodied new b
  bodied_lifted b h = record { table = table_lifted b.entry h.table; body = h.body; sized = h.sized }

  landed_lifted : (stamp : ℕ) (key : Query) (course : Course) → stamp ≤ length old → IsLandedAs old stamp key course → IsLandedAs new stamp key course
  landed_lifted stamp key flights.Running le h = tt
  landed_lifted stamp key (flights.Landed table) le h = rw (adds.rows stamp le) h
  landed_lifted stamp key flights.Fallen le h = tt

  flight_lifted : (f : FlightOf) → IsFlight old f → IsFlight new f
  flight_lifted f h = record { stamp = omega (arith, h.stamp, adds.more); table = landed_lifted f.stamp f.key f.course h.stamp h.table; sized = h.sized }

  pub tables-lifted : (es : List EntryOf) → AllByRecursion (IsTable old) es → AllByRecursion (IsTable new) es
  tables-lifted es h = all-weaker (IsTable old) (IsTable new) table_lifted es h

  pub bodied-lifted : (bs : List BodiedOf) → AllByRecursion (IsBodied old) bs → AllByRecursion (IsBodied new) bs
  bodied-lifted bs h = all-weaker (IsBodied old) (IsBodied new) bodied_lifted bs h

  pub flights-lifted : (fs : List FlightOf) → AllByRecursion (IsFlight old) fs → AllByRecursion (IsFlight new) fs
  flights-lifted fs h = all-weaker (IsFlight old) (IsFlight new) flight_lifted fs h

  named_lifted : (schemas : List Heading) (source : ℕ) (m : Mounted) → IsNamed schemas old source m → IsNamed schemas new source m
  named_lifted schemas source m h =
      record { stamp = omega (arith, h.stamp, adds.more); heading = h.heading; rows = rw (adds.rows m.stamp h.stamp) h.rows }

  some_lifted : (schemas : List Heading) (source : ℕ) (o : Option Mounted) → IfSome o (IsNamed schemas old source) → IfSome o (IsNamed schemas new source)
  some_lifted schemas source None h = tt
  some_lifted schemas source (Some m) h = named_lifted schemas source m h

  module _ {L : Type 0} (tells : LinkTells L) (l : LoadedFiles) where
    link_lifted : (k : LinkOf) (p : PooledLink L) → IsLink tells l old k p → IsLink tells l new k p
    link_lifted k p h = record {
      number = h.number;
      runs = h.runs;
      calls = h.calls;
      mirror = h.mirror;
      named = λ source. some_lifted l.script.schemas source (tells.mounts p.link source) (h.named source);
      planned = h.planned;
    }

    pub links-lifted : (ks : List LinkOf) (ps : List (PooledLink L)) → AreLinks tells l old ks ps → AreLinks tells l new ks ps
    links-lifted [] [] h = tt
    links-lifted [] (p ∷ ps) h = absurd h
    links-lifted (k ∷ ks) [] h = absurd h
    links-lifted (k ∷ ks) (p ∷ ps) h = (link_lifted k p h.0, links-lifted ks ps h.1)

-- What is known of a flight stays while the journal goes on without its lane.
use Rattle.std.proofs.Common.{◌≡◌, ℕ, ◌<◌, ◌≤◌, Bool, true, false, List, [], ◌∷◌, length, refl, sym, ◌∙◌, arith}
use Rattle.std.proofs.lemmas.Bool.{eqb-true, ltb-true}
use Rattle.std.specs.Prelude.{All, Option, Some, None, IfSome, nat_le, nat_lt}
use Rattle.dq_base.specs.Headings.{Heading}
use Rattle.dq_base.specs.Scripts.{is_lane}
use Rattle.dq_base.specs.declared.query.Query.{Query}
use Rattle.dq_extract.specs.Loads.{LoadedFiles}
use Rattle.dq_fates.proofs.GoingOn.{own_stays, work_stays}
use Rattle.dq_fates.proofs.Rows.{versions_go_on}
use Rattle.dq_fates.specs.GoingOn.{GoesOn}
use Rattle.dq_journal.specs.declared.entry.Entry.{Entry}
use Rattle.dq_laws.proofs.Each.{each-found}
use Rattle.dq_laws.proofs.Flying.{running}
use Rattle.dq_laws.proofs.Goes.{legal_reached}
use Rattle.dq_laws.proofs.Stamped.{IsStamped-reached}
use Rattle.dq_laws.proofs.Stays.{Adds}
use Rattle.dq_laws.specs.Flying.{RunsFor, StaysAt}
use Rattle.dq_link.specs.Mounts.{Mounted, Mounts}
use Rattle.dq_link.specs.Views.{LostLink, PooledLink}
use Rattle.dq_link.specs.declared.pooled.Lost.{Lost as LostOf}
use Rattle.dq_link.specs.declared.pooled.Lost.TheVariants as lost
use Rattle.dq_machine.proofs.Reached.{and_first}
use Rattle.dq_machine.specs.Machine.{after, legal}
use Rattle.dq_machine.specs.State.{Flown, LinkOf, Phase as Course, New, Leased, Given, Publication, flight_at, is_first, is_numbered, work_of}
use Rattle.dq_trial.specs.Links.{AreNamed, IsNamed, LinkTells}
use Rattle.dq_trial.specs.Trying.{Gives, Loses}
use Rattle.dq_bring.specs.Flights.{IsBringing, KeyAt, standing_at}
use Rattle.dq_bring.specs.Phases.{AreReady, CanTryOn, IsLostOn, IsPhase, IsPhaseAt, IsReady, Standing, trial_on}
use Rattle.dq_bring.specs.declared.phase.Answer.{Answer}
use Rattle.dq_bring.specs.declared.phase.Phase.{Phase}
use Rattle.dq_bring.specs.declared.phase.Phase.TheVariants as phase

-- more versions

module _ {L : Type 0} (tells : LinkTells L) (at : Standing) (versions : List Publication) (adds : Adds at.versions versions) (within : at.stamp ≤ length at.versions) where
  abbrev to : Standing
  to = record at { versions = versions }

  some_named : (schemas : List Heading) (source : ℕ) (o : Option Mounted) → IfSome o (IsNamed schemas at.versions source) → IfSome o (IsNamed schemas versions source)
  some_named schemas source None h = tt
  some_named schemas source (Some m) h =
      record { stamp = omega (arith, h.stamp, adds.more); heading = h.heading; rows = rw (adds.rows m.stamp h.stamp) h.rows }

  named_on : (mounts : Mounts) → AreNamed at.loaded.script.schemas at.versions mounts → AreNamed at.loaded.script.schemas versions mounts
  named_on mounts h = λ source. some_named at.loaded.script.schemas source (mounts source) (h source)

  try_on : (k : LinkOf) (p : PooledLink L) → CanTryOn tells at k p → CanTryOn tells to k p
  try_on k p h = record {
    link = record {
      number = h.link.number;
      runs = h.link.runs;
      calls = h.link.calls;
      mirror = h.link.mirror;
      named = named_on (tells.mounts p.link) h.link.named;
      planned = h.link.planned;
    };
    room = h.room;
  }

  gives_on : (k : LinkOf) (ran : Bool) (p : PooledLink L) → Gives tells (trial_on at k) ran p → Gives tells (trial_on to k) ran p
  gives_on k ran p h = record {
    number = h.number;
    counts = h.counts;
    named = named_on (tells.mounts p.link) h.named;
    mirror = h.mirror;
    text = h.text;
    planned = h.planned;
  }

  loses_on : (k : LinkOf) (ran : Bool) (w : LostLink L) → Loses tells (trial_on at k) ran w → Loses tells (trial_on to k) ran w
  loses_on k ran w h = record { number = h.number; counts = h.counts; planned = h.planned }

  ready_on : (a : Answer) → IsReady at a → IsReady to a
  ready_on a h = record { body = h.body; table = rw (adds.rows at.stamp within) h.table; further = h.further }

  some_ready : (o : Option Answer) → IfSome o (IsReady at) → IfSome o (IsReady to)
  some_ready None h = tt
  some_ready (Some a) h = ready_on a h

  are_ready : (ran : Bool) (o : Option Answer) → AreReady at ran o → AreReady to ran o
  are_ready true o h = some_ready o h
  are_ready false o h = h

  lost_on : (fresh : Bool) (k : LinkOf) (number : ℕ) (what : LostOf L) → IsLostOn tells at fresh k number what → IsLostOn tells to fresh k number what
  lost_on fresh k number (lost.Link w ran) h = (h.0, loses_on k ran w h.1)
  lost_on fresh k number lost.Dial h = h

  phase_on : (c : Course) (p : Phase L) → IsPhaseAt tells at c p → IsPhaseAt tells to c p
  phase_on (New n) phase.New h = h
  phase_on (New n) (phase.Idle p) h = h
  phase_on (New n) (phase.Dial number) h = h
  phase_on (New n) (phase.Back p ran answered) h = h
  phase_on (New n) (phase.Lost number what) h = h
  phase_on (New n) phase.Undialled h = h
  phase_on (New n) (phase.Landing a) h = h
  phase_on (New n) phase.Falling h = h
  phase_on (Leased n fresh k) phase.New h = h
  phase_on (Leased n fresh k) (phase.Idle p) h = (h.0, try_on k p h.1)
  phase_on (Leased n fresh k) (phase.Dial number) h = h
  phase_on (Leased n fresh k) (phase.Back p ran answered) h = (h.0, gives_on k ran p h.1, are_ready ran answered h.2)
  phase_on (Leased n fresh k) (phase.Lost number what) h = (h.0, lost_on fresh k number what h.1)
  phase_on (Leased n fresh k) phase.Undialled h = h
  phase_on (Leased n fresh k) (phase.Landing a) h = h
  phase_on (Leased n fresh k) phase.Falling h = h
  phase_on (Given ran) phase.New h = h
  phase_on (Given ran) (phase.Idle p) h = h
  phase_on (Given ran) (phase.Dial number) h = h
  phase_on (Given ran) (phase.Back p before answered) h = h
  phase_on (Given ran) (phase.Lost number what) h = h
  phase_on (Given ran) phase.Undialled h = h
  phase_on (Given ran) (phase.Landing a) h = (h.0, ready_on a h.1)
  phase_on (Given ran) phase.Falling h = h

-- the flight's key and stamp

key_stays : (o q : Option Flown) (key : Query) (stamp : ℕ) → StaysAt o q → KeyAt o key stamp → KeyAt q key stamp
key_stays None q key stamp stays at = absurd at
key_stays (Some f) None key stamp stays at = absurd stays
key_stays (Some f) (Some g) key stamp stays at = (stays.key ∙ at.0, stays.stamp ∙ at.1)

pub key_one : (o : Option Flown) (key key' : Query) (stamp stamp' : ℕ) → KeyAt o key stamp → KeyAt o key' stamp' → (key ≡ key') × (stamp ≡ stamp')
key_one None key key' stamp stamp' at other = absurd at
key_one (Some f) key key' stamp stamp' at other = (sym at.0 ∙ other.0, sym at.1 ∙ other.1)

stamp_by : (l : LoadedFiles) (journal : List Entry) (flight : ℕ) (key : Query) (stamp : ℕ) (o : Option Flown) → legal l journal ≡ true → flight_at (after l journal) flight ≡ o
    → KeyAt o key stamp → stamp ≤ length (after l journal).versions
stamp_by l journal flight key stamp None lawful found at = absurd at
stamp_by l journal flight key stamp (Some f) lawful found at =
    let s = after l journal in
    let all = (IsStamped-reached l s (legal_reached l journal lawful)).flown in
    let few = each-found (λ (g : Flown). g.stamp ≤ length s.versions) (is_numbered flight) s.flights.flown f found all in
    omega (arith, few, at.1)

-- a flight of a lane

pub above : (lanes lane : ℕ) → is_lane lanes lane ≡ true → 0 < lane
above lanes lane is = ltb-true 0 lane (and_first (nat_lt 0 lane) (nat_le lane lanes) is)

module _ {L : Type 0} (tells : LinkTells L) (l : LoadedFiles) (lane flight losses : ℕ) where
  pub IsBringing-on : (old new : List Entry) (p : Phase L) → IsBringing tells l lane flight losses old p → legal l new ≡ true → GoesOn lane old new
      → IsBringing tells l lane flight losses new p
  IsBringing-on old new p h lawful on =
      let s = after l old in
      let t = after l new in
      let lane_is = above (length l.script.lanes) lane h.there in
      let work = work_stays l lane old new lawful lane_is on in
      let adds : Adds s.versions t.versions = rw on.is (versions_go_on l old on.more) in
      let within = stamp_by l old flight h.key h.stamp (flight_at s flight) h.legal refl h.asked in
      record {
        legal = lawful;
        there = h.there;
        first = rw work h.first;
        key = h.key;
        stamp = h.stamp;
        asked = key_stays (flight_at s flight) (flight_at t flight) h.key h.stamp (own_stays l lane old new lawful lane_is on flight h.first) h.asked;
        phase = rw work (phase_on tells (standing_at l s lane h.key h.stamp losses) t.versions adds within (work_of s lane).phase p h.phase);
      }

-- a flight that begins

pub record Asked (o : Option Flown) : Type 0 where
  pub key : Query
  pub stamp : ℕ
  pub asked : KeyAt o key stamp

asked_by : (lane : ℕ) (o : Option Flown) → RunsFor lane o → Asked o
asked_by lane None runs = absurd runs
asked_by lane (Some f) runs = record { key = f.key; stamp = f.stamp; asked = (refl, refl) }

first_all : (P : ℕ → Type 0) (own : List ℕ) (flight : ℕ) → is_first own flight ≡ true → All P own → P flight
first_all P [] flight first all = let no : ⊥ = cc in absurd no
first_all P (f ∷ own) flight first all = rw (← eqb-true f flight first) (all 0 f (omega arith))

module _ {L : Type 0} (tells : LinkTells L) (l : LoadedFiles) (lane flight : ℕ) (journal : List Entry) where
  pub begins : legal l journal ≡ true → is_lane (length l.script.lanes) lane ≡ true → is_first (work_of (after l journal) lane).own flight ≡ true
      → (work_of (after l journal) lane).phase ≡ New 0 → IsBringing tells l lane flight 0 journal phase.New
  begins lawful there first course =
      let s = after l journal in
      let all = (running l journal lawful).each lane (above (length l.script.lanes) lane there) in
      let a = asked_by lane (flight_at s flight) (first_all (λ n. RunsFor lane (flight_at s n)) (work_of s lane).own flight first all) in
      record { legal = lawful; there = there; first = first; key = a.key; stamp = a.stamp; asked = a.asked; phase = rw course refl }

  -- the flight's key and stamp are those that are told

  pub phase-asked : (losses : ℕ) (p : Phase L) (key : Query) (stamp : ℕ) → IsBringing tells l lane flight losses journal p → KeyAt (flight_at (after l journal) flight) key stamp
      → IsPhase tells (standing_at l (after l journal) lane key stamp losses) p
  phase-asked losses p key stamp h asked =
      let same = key_one (flight_at (after l journal) flight) h.key key h.stamp stamp h.asked asked in rw (← same.0, ← same.1) h.phase

  pub bringing-asked : (losses : ℕ) (p q : Phase L) (key : Query) (stamp : ℕ) → IsBringing tells l lane flight losses journal p → KeyAt (flight_at (after l journal) flight) key stamp
      → IsPhase tells (standing_at l (after l journal) lane key stamp losses) q → IsBringing tells l lane flight losses journal q
  bringing-asked losses p q key stamp h asked phase =
      record { legal = h.legal; there = h.there; first = h.first; key = key; stamp = stamp; asked = asked; phase = phase }

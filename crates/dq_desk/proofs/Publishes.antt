-- What a desk keeps when an extract is refreshed.
use Rattle.std.proofs.Common.{◌≡◌, ℕ, ◌+◌, ◌-◌, ◌<◌, ◌≤◌, Bool, true, false, not, ◌&&◌, List, [], ◌∷◌, ◌++◌, length, length-set, map, filter, slice_set, refl, ap, sym, ◌∙◌, arith}
use Rattle.std.specs.List.{AllByRecursion}
use Rattle.std.specs.Prelude.{Option, Some, None, nat_eq, if◌then◌else◌}
use Rattle.dq_base.specs.Scripts.{step_of}
use Rattle.dq_base.specs.Versions.{Version}
use Rattle.dq_base.specs.declared.script.Step.{Step}
use Rattle.dq_base.specs.declared.script.Step.TheVariants as step
use Rattle.dq_cache.specs.Entries.{BodiedOf, CleverOf, EntryOf, LiteralOf, is_of}
use Rattle.dq_extract.proofs.Places.{FitsStep-segment_of}
use Rattle.dq_extract.specs.Loads.{LoadedFiles, segment_of}
use Rattle.dq_journal.specs.Standing.{version_rows}
use Rattle.dq_journal.specs.declared.entry.Entry.{Entry}
use Rattle.dq_journal.specs.declared.entry.Entry.TheVariants.{Publish}
use Rattle.dq_machine.proofs.Begins.{publish_above, publish_kind}
use Rattle.dq_machine.proofs.Bounds.{IsBounded-reached}
use Rattle.dq_machine.proofs.Reached.{allowed_above, allowed_may, allowed_within}
use Rattle.dq_machine.proofs.Stamped.{AreLatest-push}
use Rattle.dq_machine.proofs.Standing.{CanRefresh-next, IsPublished, published_by}
use Rattle.dq_machine.specs.Latest.{AreLatest}
use Rattle.dq_machine.specs.Machine.{after, allowed, may_publish, next}
use Rattle.dq_machine.specs.Publishing.{shelves_after, versions_after, without_source}
use Rattle.dq_machine.specs.Refreshing.{CanRefresh, IsRefresh, RefreshedAt}
use Rattle.dq_machine.specs.State.{Publication, Shelved, Shelves, State, Work, work_of}
use Rattle.dq_laws.proofs.Owed.{owed_next}
use Rattle.dq_laws.proofs.Stays.{Adds, adds_next}
use Rattle.dq_laws.specs.Room.{owed}
use Rattle.dq_desk.specs.Kept.{Agrees, AreVersions, HasRoom, Inner, IsBodied, IsDesk, IsShelved, IsTable, shelved_in, shelved_of}
use Rattle.dq_trial.specs.Links.{LinkTells}
use Rattle.dq_desk.proofs.Kept.{joins-same}
use Rattle.dq_desk.proofs.Lifted.{bodied-lifted, flights-lifted, links-lifted, tables-lifted}
use Rattle.dq_desk.proofs.Pushed.{IsDesk-push, desk-reached, wrecks-same}

-- shelves

all_if : {X : Type 0} (P : X → Type 0) (b : Bool) (x : X) (xs : List X) → P x → AllByRecursion P xs → AllByRecursion P (if b then x ∷ xs else xs)
all_if P true x xs one more = (one, more)
all_if P false x xs one more = more

all_filter : {X : Type 0} (P : X → Type 0) (p : X → Bool) (xs : List X) → AllByRecursion P xs → AllByRecursion P (filter p xs)
all_filter P p [] h = tt
all_filter P p (x ∷ xs) h = all_if P (p x) x (filter p xs) h.0 (all_filter P p xs h.1)

map_if : {X Y : Type 0} (f : X → Y) (b : Bool) (x : X) (xs : List X) → map f (if b then x ∷ xs else xs) ≡ (if b then f x ∷ map f xs else map f xs)
map_if f true x xs = refl
map_if f false x xs = refl

map_filter : {X Y : Type 0} (f : X → Y) (p : Y → Bool) (xs : List X) → map f (filter (λ x. p (f x)) xs) ≡ filter p (map f xs)
map_filter f p [] = refl
map_filter f p (x ∷ xs) =
    map_if f (p (f x)) x (filter (λ x. p (f x)) xs) ∙ ap (λ more. if p (f x) then f x ∷ more else more) (map_filter f p xs)

abbrev is_other : ℕ → Shelved → Bool
is_other source e = not (nat_eq e.key.source source)

pub shelves-cleared : (l : LoadedFiles) (versions : List Publication) (shelves : Shelves) (clever clever' : CleverOf) (literal literal' : LiteralOf) (k source : ℕ) (o : Option Step)
    → IsShelved l versions shelves clever literal → clever'.entries ≡ filter (λ e. not (is_of source e)) clever.entries → clever'.bound ≡ clever.bound
    → literal'.entries ≡ filter (λ b. not (is_of source b.entry)) literal.entries → literal'.bound ≡ literal.bound
    → record { clever = without_source source shelves.clever; literal = without_source source shelves.literal } ≡ shelves_after shelves o
    → IsShelved l versions (shelves_after shelves o) clever' literal'
shelves-cleared l versions shelves clever clever' literal literal' k source o h c cb t tb is =
    rw (← is) (record {
      clever = ap (map shelved_of) c ∙ map_filter shelved_of (is_other source) clever.entries ∙ ap (filter (is_other source)) h.clever;
      clever_bound = cb ∙ h.clever_bound;
      clever_tables = rw c (all_filter (IsTable versions) (λ e. not (is_of source e)) clever.entries h.clever_tables);
      literal = ap (map shelved_in) t ∙ map_filter shelved_in (is_other source) literal.entries ∙ ap (filter (is_other source)) h.literal;
      literal_bound = tb ∙ h.literal_bound;
      literal_tables = rw t (all_filter (IsBodied versions) (λ b. not (is_of source b.entry)) literal.entries h.literal_tables);
    })

shelves_of : (shelves : Shelves) (stands : List Version) (o : Option Step) (found : Option Version) (source : ℕ) (fresh : Version) → IsRefresh stands o found source fresh
    → record { clever = without_source source shelves.clever; literal = without_source source shelves.literal } ≡ shelves_after shelves o
shelves_of shelves stands None found source fresh is = absurd is
shelves_of shelves stands (Some (step.Batch zones)) found source fresh is = absurd is
shelves_of shelves stands (Some (step.Publish k how file)) found source fresh is = rw is.0 refl

shelves_lifted : (l : LoadedFiles) (old new : List Publication) (shelves : Shelves) (clever : CleverOf) (literal : LiteralOf) → Adds old new → IsShelved l old shelves clever literal
    → IsShelved l new shelves clever literal
shelves_lifted l old new shelves clever literal adds h = record {
  clever = h.clever;
  clever_bound = h.clever_bound;
  clever_tables = tables-lifted old new adds clever.entries h.clever_tables;
  literal = h.literal;
  literal_bound = h.literal_bound;
  literal_tables = bodied-lifted old new adds literal.entries h.literal_tables;
}

-- versions

pub versions-published : (l : LoadedFiles) (versions : List Publication) (published : ℕ) (stamps : List ℕ) (stands : List Version) (o : Option Step) (found : Option Version) (source : ℕ)
    (fresh : Version) → AreVersions l versions published stamps stands → IsPublished l.script.schemas versions stands o found source fresh
    → AreVersions l (versions_after versions (version_rows found) o) (published + 1) (slice_set stamps source (published + 1)) (slice_set stands source fresh)
versions-published l versions published stamps stands o found source fresh h p =
    rw (← p.versions_are) (record {
      published = omega (arith, h.published);
      stamps = AreLatest-push stamps stamps versions source (record { source = source; rows = fresh.rows }) (published + 1) h.stamps (λ i. refl)
          (omega (arith, p.within, h.stands.count, h.many)) refl (ap (λ n. n + 1) h.published);
      many = length-set stamps source (published + 1) ∙ h.many;
      stands = p.stand;
    })

module _ {L : Type 0} (tells : LinkTells L) (l : LoadedFiles) (journal : List Entry) (p : Inner L) (h : IsDesk tells l journal p) where
  abbrev pub s : State
  s = after l journal

  -- what a publish step needs of what stands
  pub CanRefresh-desk : (lane number : ℕ) → allowed l s (Publish lane number) ≡ true
      → CanRefresh p.stands (step_of l.script.lanes lane number) (segment_of l lane number)
  CanRefresh-desk lane number may =
      let e : Entry = Publish lane number in
      let m = allowed_may l s e may in
      CanRefresh-next l s.versions s.works p.stands lane number h.loaded (allowed_above l s e may) (allowed_within l s e may)
      (publish_above l (work_of s lane) lane number m) (IsBounded-reached l s h.loaded (desk-reached tells l journal p h)) h.agrees.versions.stands
      (publish_kind l (work_of s lane) lane number m)

  -- its source has a place
  pub publish-within : (lane number source : ℕ) (fresh : Version) → IsRefresh p.stands (step_of l.script.lanes lane number) (segment_of l lane number) source fresh
      → (source < length p.stands) × (source < length p.stamps)
  publish-within lane number source fresh is =
      let a = h.agrees.versions in
      let w = published_by l.script.schemas s.versions p.stands (step_of l.script.lanes lane number) (segment_of l lane number) source fresh a.stands
      (FitsStep-segment_of l lane number h.loaded) is in
      (w.within, omega (arith, w.within, a.stands.count, a.many))

  -- the parts after it
  pub IsDesk-publish : (lane number source : ℕ) (fresh : Version) (journal' : List Entry) (p' : Inner L) → allowed l s (Publish lane number) ≡ true
      → IsRefresh p.stands (step_of l.script.lanes lane number) (segment_of l lane number) source fresh → journal' ≡ journal ++ Publish lane number ∷ []
      → p.owed ≤ p'.spare → p'.owed ≡ p.owed → p'.published ≡ p.published + 1 → p'.stamps ≡ slice_set p.stamps source (p.published + 1) → p'.stands ≡ slice_set p.stands source fresh
      → p'.joins ≡ p.joins → p'.clever.entries ≡ filter (λ e. not (is_of source e)) p.clever.entries → p'.clever.bound ≡ p.clever.bound
      → p'.literal.entries ≡ filter (λ b. not (is_of source b.entry)) p.literal.entries → p'.literal.bound ≡ p.literal.bound
      → p'.flights ≡ p.flights → p'.started ≡ p.started → p'.idle ≡ p.idle → p'.fresh ≡ p.fresh → p'.wrecks ≡ p.wrecks
      → IsDesk tells l journal' p'
  IsDesk-publish lane number source fresh journal' p' may is grew spare owes published stamps stands joins clever clever_bound literal literal_bound flights started idle newest wrecks =
      let a = h.agrees in
      let e : Entry = Publish lane number in
      let o = step_of l.script.lanes lane number in
      let found = segment_of l lane number in
      let adds = adds_next l s e in
      let w = published_by l.script.schemas s.versions p.stands o found source fresh a.versions.stands (FitsStep-segment_of l lane number h.loaded) is in
      let same : owed (next l s e) ≡ owed s = owed_next l s e (desk-reached tells l journal p h) may in
      IsDesk-push tells l journal journal' p p' e h may grew (record {
        versions = rw (published, stamps, stands) (versions-published l s.versions p.published p.stamps p.stands o found source fresh a.versions w);
        shelves = shelves-cleared l (next l s e).versions s.shelves p.clever p'.clever p.literal p'.literal 0 source o
            (shelves_lifted l s.versions (next l s e).versions s.shelves p.clever p.literal adds a.shelves) clever clever_bound literal literal_bound
            (shelves_of s.shelves p.stands o found source fresh is);
        flights = rw (flights, started) (record { flown = a.flights.flown; started = a.flights.started; each = flights-lifted s.versions (next l s e).versions adds p.flights.flights a.flights.each });
        joins = joins ∙ a.joins ∙ sym (joins-same s.works (lane - 1) _ refl);
        idle = rw idle (links-lifted s.versions (next l s e).versions adds tells l s.links.idle p.idle.items a.idle);
        fresh = newest ∙ a.fresh;
        room = record {
          owed = omega (arith, same, owes, a.room.owed);
          entries = omega (arith, owes, spare);
          flights = rw (flights, owes) a.room.flights;
          wrecks = rw (wrecks, owes) a.room.wrecks;
          idle = rw idle (omega (arith, a.room.idle, length-set s.works (lane - 1) (record (work_of s lane) { last = number })));
        };
      }) (rw wrecks (wrecks-same tells l.script.fails _ p.wrecks.items h.wrecks))

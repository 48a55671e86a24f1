-- What a desk keeps when links are leased, given back and lost.
use Rattle.std.proofs.Common.{◌≡◌, ℕ, ◌+◌, ◌-◌, ◌<◌, ◌≤◌, Bool, true, false, not, ◌&&◌, List, [], ◌∷◌, ◌++◌, length, length-set, refl, ap, sym, ◌∙◌, arith}
use Rattle.std.proofs.lemmas.Bool.{eq-eqb, eqb-true}
use Rattle.std.specs.Prelude.{Option, Some, None, nat_eq}
use Rattle.dq_base.specs.Scripts.{is_lane}
use Rattle.dq_extract.specs.Loads.{LoadedFiles}
use Rattle.dq_journal.specs.declared.entry.Entry.{Entry}
use Rattle.dq_journal.specs.declared.entry.Entry.TheVariants.{Lease, Give, Lose}
use Rattle.dq_link.specs.Views.{LostLink, PooledLink}
use Rattle.dq_machine.proofs.Reached.{allowed_may, allowed_within, allowed_above, and_both, and_first, and_second}
use Rattle.dq_machine.specs.Leasing.{given_as, is_next, link_given, links_given, may_give, may_lease, mirror_for, mirror_given, reach}
use Rattle.dq_machine.specs.Machine.{after, allowed, next}
use Rattle.dq_machine.specs.State.{Flown, LinkOf, Links, Phase, New, Leased, Given, Publication, State, Work, flight_at, is_first, work_of}
use Rattle.dq_laws.proofs.Counting.{counted}
use Rattle.dq_laws.proofs.LinksFew.{few_links}
use Rattle.dq_laws.proofs.Owed.{owed_next}
use Rattle.dq_desk.specs.Events.{is_there, leases, may_lease_now}
use Rattle.dq_desk.specs.Kept.{Agrees, Inner, IsDesk}
use Rattle.dq_desk.specs.Links.{AreLinks, IsMirror, IsTop, lease_entry, lease_from, loss_in}
use Rattle.dq_trial.specs.Links.{AreNamed, IsLink, IsPlanned, LinkTells}
use Rattle.dq_desk.specs.Roomed.{Roomed}
use Rattle.dq_desk.proofs.Kept.{HasSome, joins-same, room-less, room-some}
use Rattle.dq_desk.proofs.Pushed.{IsDesk-push, after-push, desk-reached, legal-push, wrecks-push, wrecks-same}

-- a lease

lease_allowed : (l : LoadedFiles) (s : State) (lane flight link : ℕ) (fresh : Bool) → may_lease_now s lane flight ≡ true → is_next s.links.idle s.links.fresh link fresh ≡ true
    → allowed l s (Lease lane flight link fresh) ≡ true
lease_allowed l s lane flight link fresh may next =
    let w = work_of s lane in
    and_both (is_there s lane) (leases w flight && is_next s.links.idle s.links.fresh link fresh) (and_first (is_there s lane) (leases w flight) may)
    (and_both (leases w flight) (is_next s.links.idle s.links.fresh link fresh) (and_second (is_there s lane) (leases w flight) may) next)

module _ {L : Type 0} (tells : LinkTells L) (l : LoadedFiles) (journal : List Entry) (p : Inner L) (h : IsDesk tells l journal p) where
  abbrev pub s : State
  s = after l journal

  -- an idle link is leased
  pub record LeasesIdle (lane flight spare : ℕ) (link : PooledLink L) (idle : Roomed (PooledLink L)) : Type 0 where
    pub entry : lease_entry s.links lane flight ≡ Lease lane flight link.number false
    pub top : IsTop tells l s.versions s.links.idle link
    pub some : HasSome p
    pub desk : (journal' : List Entry) → journal' ≡ journal ++ Lease lane flight link.number false ∷ []
        → IsDesk tells l journal' (record p { spare = spare; owed = p.owed - 1; idle = idle })

  idle_by : (lane flight spare : ℕ) (link : PooledLink L) (idle : Roomed (PooledLink L)) (ks : List LinkOf) → may_lease_now s lane flight ≡ true → p.spare ≤ spare + 1
      → p.idle.items ≡ link ∷ idle.items → p.idle.spare + 1 ≤ idle.spare → s.links.idle ≡ ks → AreLinks tells l s.versions ks (link ∷ idle.items) → LeasesIdle lane flight spare link idle
  idle_by lane flight spare link idle [] may fits items room is links = absurd links
  idle_by lane flight spare link idle (k ∷ ks) may fits items room is links =
      let a = h.agrees in
      let e : Entry = Lease lane flight link.number false in
      let p' : Inner L = record p { spare = spare; owed = p.owed - 1; idle = idle } in
      let next_is : is_next s.links.idle s.links.fresh link.number false ≡ true = rw is (eq-eqb link.number k.number links.0.number) in
      let allowed = lease_allowed l s lane flight link.number false may next_is in
      record {
        entry = rw is (ap (λ n. Lease lane flight n false) (sym links.0.number));
        top = rw is links.0;
        some = room-some s (next l s e) p a.room (owed_next l s e (desk-reached tells l journal p h) allowed);
        desk = λ journal' grew. IsDesk-push tells l journal journal' p p' e h allowed grew (record {
          versions = a.versions;
          shelves = a.shelves;
          flights = a.flights;
          joins = a.joins ∙ sym (joins-same s.works (lane - 1) _ refl);
          idle = rw is links.1;
          fresh = rw is a.fresh;
          room = room-less s (next l s e) p p' a.room (owed_next l s e (desk-reached tells l journal p h) allowed) refl fits (omega arith) (omega arith)
              (length-set s.works (lane - 1) _) (omega (arith, ap length items, room));
        }) (wrecks-same tells l.script.fails _ p.wrecks.items h.wrecks);
      }

  pub leases-idle : (lane flight spare : ℕ) (link : PooledLink L) (idle : Roomed (PooledLink L)) → may_lease_now s lane flight ≡ true → p.spare ≤ spare + 1
      → p.idle.items ≡ link ∷ idle.items → p.idle.spare + 1 ≤ idle.spare → LeasesIdle lane flight spare link idle
  leases-idle lane flight spare link idle may fits items room =
      idle_by lane flight spare link idle s.links.idle may fits items room refl (rw items at h.agrees.idle)

  -- a fresh one is to be dialled
  pub record LeasesFresh (lane flight spare : ℕ) : Type 0 where
    pub entry : lease_entry s.links lane flight ≡ Lease lane flight (p.fresh + 1) true
    pub none : s.links.idle ≡ []
    pub some : HasSome p
    pub few : p.fresh ≤ length journal
    pub number : p.fresh + 1 ≡ s.links.fresh + 1
    pub desk : (journal' : List Entry) → journal' ≡ journal ++ Lease lane flight (p.fresh + 1) true ∷ []
        → IsDesk tells l journal' (record p { spare = spare; owed = p.owed - 1; fresh = p.fresh + 1 })

  fresh_by : (lane flight spare : ℕ) (ks : List LinkOf) → may_lease_now s lane flight ≡ true → p.spare ≤ spare + 1 → p.idle.items ≡ [] → s.links.idle ≡ ks
      → AreLinks tells l s.versions ks [] → LeasesFresh lane flight spare
  fresh_by lane flight spare (k ∷ ks) may fits items is links = absurd links
  fresh_by lane flight spare [] may fits items is links =
      let a = h.agrees in
      let e : Entry = Lease lane flight (p.fresh + 1) true in
      let p' : Inner L = record p { spare = spare; owed = p.owed - 1; fresh = p.fresh + 1 } in
      let next_is : is_next s.links.idle s.links.fresh (p.fresh + 1) true ≡ true = rw is (eq-eqb (p.fresh + 1) (s.links.fresh + 1) (ap (λ n. n + 1) a.fresh)) in
      let allowed = lease_allowed l s lane flight (p.fresh + 1) true may next_is in
      record {
        entry = rw is (ap (λ n. Lease lane flight (n + 1) true) (sym a.fresh));
        none = is;
        some = room-some s (next l s e) p a.room (owed_next l s e (desk-reached tells l journal p h) allowed);
        few = omega (arith, a.fresh, (counted l journal h.legal).fresh);
        number = ap (λ n. n + 1) a.fresh;
        desk = λ journal' grew. IsDesk-push tells l journal journal' p p' e h allowed grew (record {
          versions = a.versions;
          shelves = a.shelves;
          flights = a.flights;
          joins = a.joins ∙ sym (joins-same s.works (lane - 1) _ refl);
          idle = rw (is, items) tt;
          fresh = rw is (ap (λ n. n + 1) a.fresh);
          room = room-less s (next l s e) p p' a.room (owed_next l s e (desk-reached tells l journal p h) allowed) refl fits (omega arith) (omega arith)
              (length-set s.works (lane - 1) _) (omega arith);
        }) (wrecks-same tells l.script.fails _ p.wrecks.items h.wrecks);
      }

  pub leases-fresh : (lane flight spare : ℕ) → may_lease_now s lane flight ≡ true → p.spare ≤ spare + 1 → p.idle.items ≡ [] → LeasesFresh lane flight spare
  leases-fresh lane flight spare may fits items = fresh_by lane flight spare s.links.idle may fits items refl (rw items at h.agrees.idle)

  -- a link comes back

  link_by : (k : LinkOf) (f : Option Flown) (ran : Bool) (losses : ℕ) (fresh : Bool) (link : PooledLink L) → nat_eq k.number link.number ≡ true
      → AreNamed l.script.schemas s.versions (tells.mounts link.link) → IsMirror ran link.mirror (Leased losses fresh k) f → IsPlanned l.script.fails (tells.planned link.link)
      → IsLink tells l s.versions (link_given k f ran (tells.runs link.link) (tells.calls link.link)) link
  link_by k f true losses fresh link same named mirror planned = record {
    number = sym (eqb-true k.number link.number same);
    runs = refl;
    calls = refl;
    mirror = λ sure. mirror sure ∙ rw sure refl;
    named = named;
    planned = planned;
  }
  link_by k f false losses fresh link same named mirror planned = record {
    number = sym (eqb-true k.number link.number same);
    runs = refl;
    calls = refl;
    mirror = λ sure. cc;
    named = named;
    planned = planned;
  }

  given_by : (phase : Phase) (f : Option Flown) (ran : Bool) (link : PooledLink L)
      → may_give phase f link.number ran (tells.runs link.link) (tells.calls link.link) ≡ true → AreNamed l.script.schemas s.versions (tells.mounts link.link)
      → IsMirror ran link.mirror phase f → IsPlanned l.script.fails (tells.planned link.link)
      → AreLinks tells l s.versions (links_given s.links phase f ran (tells.runs link.link) (tells.calls link.link)).idle (link ∷ p.idle.items)
  given_by (New losses) f ran link may named mirror planned = cc
  given_by (Given before) f ran link may named mirror planned = cc
  given_by (Leased losses fresh k) f ran link may named mirror planned =
      (link_by k f ran losses fresh link (and_first (nat_eq k.number link.number) (given_as ran k (reach k f) (tells.runs link.link) (tells.calls link.link)) may) named mirror planned, h.agrees.idle)

  given_fresh : (phase : Phase) (f : Option Flown) (ran : Bool) (runs calls : ℕ) → (links_given s.links phase f ran runs calls).fresh ≡ s.links.fresh
  given_fresh (New losses) f ran runs calls = refl
  given_fresh (Given before) f ran runs calls = refl
  given_fresh (Leased losses fresh k) f ran runs calls = refl

  pub IsDesk-give : (lane flight spare : ℕ) (link : PooledLink L) (ran : Bool) (idle : Roomed (PooledLink L)) (journal' : List Entry)
      → allowed l s (Give lane flight link.number ran (tells.runs link.link) (tells.calls link.link)) ≡ true → AreNamed l.script.schemas s.versions (tells.mounts link.link)
      → IsMirror ran link.mirror (work_of s lane).phase (flight_at s flight) → IsPlanned l.script.fails (tells.planned link.link) → p.spare ≤ spare + 1
      → idle.items ≡ link ∷ p.idle.items → p.idle.spare ≤ idle.spare + 1 → journal' ≡ journal ++ Give lane flight link.number ran (tells.runs link.link) (tells.calls link.link) ∷ []
      → IsDesk tells l journal' (record p { spare = spare; owed = p.owed - 1; idle = idle })
  IsDesk-give lane flight spare link ran idle journal' may named mirror planned fits items room grew =
      let a = h.agrees in
      let w = work_of s lane in
      let f = flight_at s flight in
      let runs : ℕ = tells.runs link.link in
      let calls : ℕ = tells.calls link.link in
      let e : Entry = Give lane flight link.number ran runs calls in
      let p' : Inner L = record p { spare = spare; owed = p.owed - 1; idle = idle } in
      let gives = and_second (is_first w.own flight) (may_give w.phase f link.number ran runs calls) (allowed_may l s e may) in
      IsDesk-push tells l journal journal' p p' e h may grew (record {
        versions = a.versions;
        shelves = a.shelves;
        flights = a.flights;
        joins = a.joins ∙ sym (joins-same s.works (lane - 1) _ refl);
        idle = rw items (given_by w.phase f ran link gives named mirror planned);
        fresh = a.fresh ∙ sym (given_fresh w.phase f ran runs calls);
        room = room-less s (next l s e) p p' a.room (owed_next l s e (desk-reached tells l journal p h) may) refl fits (omega arith) (omega arith)
            (length-set s.works (lane - 1) _) (omega (arith, ap length items, room));
      }) (wrecks-same tells l.script.fails _ p.wrecks.items h.wrecks)

  -- there is room for it
  links_count : (ks : List LinkOf) (ps : List (PooledLink L)) → AreLinks tells l s.versions ks ps → length ps ≡ length ks
  links_count [] [] links = refl
  links_count [] (p ∷ ps) links = absurd links
  links_count (k ∷ ks) [] links = absurd links
  links_count (k ∷ ks) (p ∷ ps) links = omega (arith, links_count ks ps links.1)

  pub give-room : (lane flight : ℕ) (link : PooledLink L) (ran : Bool) → allowed l s (Give lane flight link.number ran (tells.runs link.link) (tells.calls link.link)) ≡ true
      → AreNamed l.script.schemas s.versions (tells.mounts link.link) → IsMirror ran link.mirror (work_of s lane).phase (flight_at s flight)
      → IsPlanned l.script.fails (tells.planned link.link) → 0 < p.idle.spare
  give-room lane flight link ran may named mirror planned =
      let w = work_of s lane in
      let f = flight_at s flight in
      let runs : ℕ = tells.runs link.link in
      let calls : ℕ = tells.calls link.link in
      let e : Entry = Give lane flight link.number ran runs calls in
      let gives = and_second (is_first w.own flight) (may_give w.phase f link.number ran runs calls) (allowed_may l s e may) in
      let few : length (next l s e).links.idle ≤ length (next l s e).works =
      omega (arith, rw (after-push l journal e) at (few_links l (journal ++ e ∷ []) (legal-push l journal e h.legal may)).1) in
      let count = links_count (links_given s.links w.phase f ran runs calls).idle (link ∷ p.idle.items) (given_by w.phase f ran link gives named mirror planned) in
      omega (arith, few, count, length-set s.works (lane - 1) (record w { phase = Given ran }), h.agrees.room.idle)

  -- a link is lost

  pub IsDesk-lose-link : (lane flight link spare : ℕ) (ran : Bool) (w : LostLink L) (wrecks : Roomed (LostLink L)) (journal' : List Entry)
      → allowed l s (Lose lane flight link true ran (tells.runs w.link) (tells.calls w.link)) ≡ true → w.number ≡ link → IsPlanned l.script.fails (tells.planned w.link) → p.spare ≤ spare + 1
      → wrecks.items ≡ p.wrecks.items ++ w ∷ [] → p.wrecks.spare ≤ wrecks.spare + 1 → journal' ≡ journal ++ Lose lane flight link true ran (tells.runs w.link) (tells.calls w.link) ∷ []
      → IsDesk tells l journal' (record p { spare = spare; owed = p.owed - 1; wrecks = wrecks })
  IsDesk-lose-link lane flight link spare ran w wrecks journal' may number planned fits items room grew =
      let a = h.agrees in
      let e : Entry = Lose lane flight link true ran (tells.runs w.link) (tells.calls w.link) in
      let p' : Inner L = record p { spare = spare; owed = p.owed - 1; wrecks = wrecks } in
      IsDesk-push tells l journal journal' p p' e h may grew (record {
        versions = a.versions;
        shelves = a.shelves;
        flights = a.flights;
        joins = a.joins ∙ sym (joins-same s.works (lane - 1) _ refl);
        idle = a.idle;
        fresh = a.fresh;
        room = room-less s (next l s e) p p' a.room (owed_next l s e (desk-reached tells l journal p h) may) refl fits (omega arith) room
            (length-set s.works (lane - 1) _) (omega arith);
      }) (rw items (wrecks-push tells l.script.fails _ p.wrecks.items (record { number = link; runs = tells.runs w.link; calls = tells.calls w.link }) w h.wrecks
      (record { number = number; runs = refl; calls = refl; planned = planned })))

  pub IsDesk-lose-dial : (lane flight link spare : ℕ) (journal' : List Entry) → allowed l s (Lose lane flight link false false 0 0) ≡ true → p.spare ≤ spare + 1
      → journal' ≡ journal ++ Lose lane flight link false false 0 0 ∷ [] → IsDesk tells l journal' (record p { spare = spare; owed = p.owed - 1 })
  IsDesk-lose-dial lane flight link spare journal' may fits grew =
      let a = h.agrees in
      let e : Entry = Lose lane flight link false false 0 0 in
      let p' : Inner L = record p { spare = spare; owed = p.owed - 1 } in
      IsDesk-push tells l journal journal' p p' e h may grew (record {
        versions = a.versions;
        shelves = a.shelves;
        flights = a.flights;
        joins = a.joins ∙ sym (joins-same s.works (lane - 1) _ refl);
        idle = a.idle;
        fresh = a.fresh;
        room = room-less s (next l s e) p p' a.room (owed_next l s e (desk-reached tells l journal p h) may) refl fits (omega arith) (omega arith)
            (length-set s.works (lane - 1) _) (omega arith);
      }) (wrecks-same tells l.script.fails _ p.wrecks.items h.wrecks)

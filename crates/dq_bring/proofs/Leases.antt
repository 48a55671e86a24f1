-- A flight that has no link leases one, or falls.
use Rattle.std.proofs.Common.{◌≡◌, ℕ, ◌+◌, ◌*◌, ◌-◌, ◌<◌, ◌≤◌, ◌^◌, true, false, List, [], ◌∷◌, ◌++◌, refl, ap, sym, arith}
use Rattle.std.proofs.lemmas.Bool.{eq-eqb, le-leb}
use Rattle.dq_extract.specs.Loads.{LoadedFiles}
use Rattle.dq_journal.specs.declared.entry.Entry.{Entry}
use Rattle.dq_journal.specs.declared.entry.Entry.TheVariants.{Lease}
use Rattle.dq_laws.specs.Counts.{AreCounted}
use Rattle.dq_laws.specs.Lengths.{most_entries_of_journal}
use Rattle.dq_link.specs.Views.{PooledLink}
use Rattle.dq_machine.specs.Leasing.{fresh_link, leased, may_lease}
use Rattle.dq_machine.specs.Machine.{after, legal}
use Rattle.dq_machine.specs.State.{LinkOf, Phase as Course, New, Leased, Given, State, Work, work_of}
use Rattle.dq_desk.specs.Events.{may_lease_now}
use Rattle.dq_desk.specs.Links.{IsTop, lease_entry}
use Rattle.dq_trial.specs.Links.{IsLink, LinkTells}
use Rattle.dq_bring.specs.Flights.{IsBringing, standing_at}
use Rattle.dq_bring.specs.Phases.{IsNew, Standing}
use Rattle.dq_bring.specs.Told.{Goes}
use Rattle.dq_bring.specs.declared.phase.Phase.TheVariants as phase
use Rattle.dq_bring.proofs.Pushed.{Goes-push, work_is}
use Rattle.dq_bring.proofs.Standings.{flight_may}

module _ {L : Type 0} (tells : LinkTells L) (l : LoadedFiles) (lane flight losses : ℕ) (old : List Entry) (h : IsBringing tells l lane flight losses old phase.New) where
  abbrev s : State
  s = after l old

  abbrev w : Work
  w = work_of s lane

  abbrev at : Standing
  at = standing_at l s lane h.key h.stamp losses

  may_by : (c : Course) → IsNew tells at c → losses < 2 → may_lease c ≡ true
  may_by (New n) new few = le-leb n 1 (omega (arith, new, few))
  may_by (Leased n fresh k) new few = absurd new
  may_by (Given ran) new few = absurd new

  pub lease_may : losses < 2 → may_lease_now s lane flight ≡ true
  lease_may few = flight_may tells l lane flight losses old phase.New h (may_lease w.phase) (may_by w.phase h.phase few)

  -- an idle link

  idle_room : (n : ℕ) (k : LinkOf) (link : PooledLink L) → IsLink tells l s.versions k link → k.calls ≤ 34 * most_entries_of_journal → tells.calls link.link ≤ 2 ^ 40 - 34
  idle_room n k link is few = omega (arith, is.calls, few)

  module _ (new : List Entry) (lawful : legal l new ≡ true) (counted : AreCounted most_entries_of_journal (after l new)) where
    idle_goes : (n : ℕ) (k : LinkOf) (ks : List LinkOf) (link : PooledLink L) → w.phase ≡ New n → n ≡ losses → s.links.idle ≡ k ∷ ks → IsLink tells l s.versions k link
        → new ≡ old ++ Lease lane flight k.number false ∷ [] → Goes tells l lane flight false old new losses (phase.Idle link)
    idle_goes n k ks link course same idle is grew =
        let e : Entry = Lease lane flight k.number false in
        let legal_so : legal l (old ++ e ∷ []) ≡ true = rw grew at lawful in
        let leased_so : leased w.phase k.number s.links.idle ≡ Leased n false k = rw (course, idle) refl in
        let few = rw (work_is tells l e flight losses old new phase.New h legal_so grew, leased_so) at (counted.out lane) in
        Goes-push tells l e flight losses old new phase.New h legal_so grew losses (phase.Idle link) (eq-eqb flight flight refl) refl refl refl
        (record { joins = refl; last = refl; ended = refl }) refl refl
        (rw leased_so (same, record { link = is; room = idle_room n k link is few.calls }))

    idle_by : (c : Course) (ks : List LinkOf) (link : PooledLink L) → w.phase ≡ c → IsNew tells at c → s.links.idle ≡ ks → IsTop tells l s.versions ks link
        → new ≡ old ++ lease_entry s.links lane flight ∷ [] → Goes tells l lane flight false old new losses (phase.Idle link)
    idle_by c [] link course is idle top grew = absurd top
    idle_by (New n) (k ∷ ks) link course is idle top grew = idle_goes n k ks link course is idle top (rw idle at grew)
    idle_by (Leased n fresh j) (k ∷ ks) link course is idle top grew = absurd is
    idle_by (Given ran) (k ∷ ks) link course is idle top grew = absurd is

    pub leased_idle : (link : PooledLink L) → IsTop tells l s.versions s.links.idle link → new ≡ old ++ lease_entry s.links lane flight ∷ []
        → Goes tells l lane flight false old new losses (phase.Idle link)
    leased_idle link top grew = idle_by w.phase s.links.idle link refl h.phase refl top grew

  -- a fresh one

  module _ (new : List Entry) (lawful : legal l new ≡ true) where
    dial_goes : (n number : ℕ) → w.phase ≡ New n → n ≡ losses → s.links.idle ≡ [] → number ≡ s.links.fresh + 1
        → new ≡ old ++ Lease lane flight (s.links.fresh + 1) true ∷ [] → Goes tells l lane flight false old new losses (phase.Dial number)
    dial_goes n number course same idle is grew =
        let e : Entry = Lease lane flight (s.links.fresh + 1) true in
        let legal_so : legal l (old ++ e ∷ []) ≡ true = rw grew at lawful in
        let leased_so : leased w.phase (s.links.fresh + 1) s.links.idle ≡ Leased n true (fresh_link (s.links.fresh + 1)) = rw (course, idle) refl in
        Goes-push tells l e flight losses old new phase.New h legal_so grew losses (phase.Dial number) (eq-eqb flight flight refl) refl refl refl
        (record { joins = refl; last = refl; ended = refl }) refl refl
        (rw leased_so (same, refl, ap fresh_link (sym is)))

    dial_by : (c : Course) (number : ℕ) → w.phase ≡ c → IsNew tells at c → s.links.idle ≡ [] → number ≡ s.links.fresh + 1
        → new ≡ old ++ lease_entry s.links lane flight ∷ [] → Goes tells l lane flight false old new losses (phase.Dial number)
    dial_by (New n) number course is idle counts grew = dial_goes n number course is idle counts (rw idle at grew)
    dial_by (Leased n fresh j) number course is idle counts grew = absurd is
    dial_by (Given ran) number course is idle counts grew = absurd is

    pub leased_dial : (number : ℕ) → (s.links.idle ≡ []) × (number ≡ s.links.fresh + 1) → new ≡ old ++ lease_entry s.links lane flight ∷ []
        → Goes tells l lane flight false old new losses (phase.Dial number)
    leased_dial number is grew = dial_by w.phase number refl h.phase is.0 is.1 grew

use Rattle.std.proofs.Common.{◌≡◌, ◌∙◌, ◌+◌, ◌*◌, ◌≤◌, List, [], ◌∷◌, ◌++◌, true, ap, sym, subst, refl, arith, length, map}
use Rattle.std.proofs.lemmas.List.{length-map}
use Rattle.std.specs.Arc.{arc_value}
use Rattle.std.specs.List.{list_all}
use Rattle.std.specs.Prelude.{nat_lt}
use Rattle.dq_flight.specs.Flights.{FlightOf}
use Rattle.dq_journal.specs.declared.entry.Entry.TheVariants.{Admit}
use Rattle.dq_journal.specs.declared.entry.Met.{Met}
use Rattle.dq_machine.specs.Machine.{after}
use Rattle.dq_desk.specs.Kept.{flown_of}
use Rattle.dq_desk.specs.Plans.{all_joined}
use Rattle.dq_desk.proofs.Admits.{IsDesk-admit, admit-lane, admit-numbers, admit-within, clever-sound, held-are, joins-can, keys-above, keys-few, literal-sound, met-is, otherwise-long, remotes_are, started-are, stood-are}
use Rattle.dq_desk.proofs.desk.Desk.admit.Goals as goal

pub make_ready-requires-clause-within : goal.make_ready-requires-clause-within
make_ready-requires-clause-within g c =
    let i = c.self.inside in
    let may = rw (← c.self.view_is) at c.requires.may in
    let prepared = rw (← c.self.view_is) at c.requires.prepared in
    let queries = c.in_ok-queries.queries in
    let asked = remotes_are _ _ _ _ prepared c.in_ok-queries.ensures in
    rw c.as_slice-3.ensures.value (admit-within _ _ _ _ c.self.invariant c.args.lane c.args.step may queries asked)

pub make_ready-requires-clause-numbers : goal.make_ready-requires-clause-numbers
make_ready-requires-clause-numbers g c =
    let i = c.self.inside in
    let may = rw (← c.self.view_is) at c.requires.may in
    let prepared = rw (← c.self.view_is) at c.requires.prepared in
    let queries = c.in_ok-queries.queries in
    let asked = remotes_are _ _ _ _ prepared c.in_ok-queries.ensures in
    admit-numbers _ _ _ _ c.self.invariant c.args.lane c.args.step may queries asked

pub hand_out_all-requires-clause-otherwise : goal.hand_out_all-requires-clause-otherwise
hand_out_all-requires-clause-otherwise g c =
    let i = c.self.inside in
    let may = rw (← c.self.view_is) at c.requires.may in
    let prepared = rw (← c.self.view_is) at c.requires.prepared in
    let queries = c.in_ok-queries.queries in
    let asked = remotes_are _ _ _ _ prepared c.in_ok-queries.ensures in
    let r = c.in_ok-ready.ready in
    let keys = map arc_value r.keys.items in
    let many = length-map r.keys.items arc_value in
    let ready = rw (c.as_slice-2.ensures.value, c.as_slice-3.ensures.value) at c.in_ok-ready.ensures.ready in
    otherwise-long _ _ _ _ c.self.invariant c.args.lane c.args.step may queries asked c.read_keys.ensures r.otherwise r.joins.items r.stood r.started keys ready

pub join_all-requires : goal.join_all-requires
join_all-requires g c =
    let i = c.self.inside in
    let may = rw (← c.self.view_is) at c.requires.may in
    let prepared = rw (← c.self.view_is) at c.requires.prepared in
    let queries = c.in_ok-queries.queries in
    let asked = remotes_are _ _ _ _ prepared c.in_ok-queries.ensures in
    let r = c.in_ok-ready.ready in
    let keys = map arc_value r.keys.items in
    let many = length-map r.keys.items arc_value in
    let ready = rw (c.as_slice-2.ensures.value, c.as_slice-3.ensures.value) at c.in_ok-ready.ensures.ready in
    rw (c.as_slice-5.ensures.value, c.in_ok-owed.ensures.flights) (joins-can _ _ _ _ c.self.invariant c.args.lane c.args.step may queries asked c.read_keys.ensures r.otherwise r.joins.items r.stood r.started keys ready)

pub overflow_add-self-inside : goal.overflow_add-self-inside
overflow_add-self-inside g c =
    let i = c.self.inside in
    let may = rw (← c.self.view_is) at c.requires.may in
    let prepared = rw (← c.self.view_is) at c.requires.prepared in
    let queries = c.in_ok-queries.queries in
    let asked = remotes_are _ _ _ _ prepared c.in_ok-queries.ensures in
    omega (arith, admit-numbers _ _ _ _ c.self.invariant c.args.lane c.args.step may queries asked)

pub start_all-requires-clause-room : goal.start_all-requires-clause-room
start_all-requires-clause-room g c =
    let i = c.self.inside in
    let may = rw (← c.self.view_is) at c.requires.may in
    let prepared = rw (← c.self.view_is) at c.requires.prepared in
    let queries = c.in_ok-queries.queries in
    let asked = remotes_are _ _ _ _ prepared c.in_ok-queries.ensures in
    let r = c.in_ok-ready.ready in
    let keys = map arc_value r.keys.items in
    let many = length-map r.keys.items arc_value in
    let ready = rw (c.as_slice-2.ensures.value, c.as_slice-3.ensures.value) at c.in_ok-ready.ensures.ready in
    omega (arith, keys-few _ _ _ _ c.self.invariant c.args.lane c.args.step may queries asked c.read_keys.ensures r.otherwise r.joins.items r.stood r.started keys ready, many, c.in_ok-owed.ensures.flights_room, c.len.ensures, c.join_all.ensures.room)

pub start_all-requires-clause-above : goal.start_all-requires-clause-above
start_all-requires-clause-above g c =
    let i = c.self.inside in
    let may = rw (← c.self.view_is) at c.requires.may in
    let prepared = rw (← c.self.view_is) at c.requires.prepared in
    let queries = c.in_ok-queries.queries in
    let asked = remotes_are _ _ _ _ prepared c.in_ok-queries.ensures in
    let r = c.in_ok-ready.ready in
    let keys = map arc_value r.keys.items in
    let many = length-map r.keys.items arc_value in
    let ready = rw (c.as_slice-2.ensures.value, c.as_slice-3.ensures.value) at c.in_ok-ready.ensures.ready in
    let A : List FlightOf → Type 0 = λ fs. list_all (λ (f : FlightOf). nat_lt f.number (i.started + 1)) fs ≡ true in
    let both : all_joined c.take_room.new.flights.flights c.as_slice-5.result.now ≡ all_joined i.flights.flights r.joins.items = λ j. all_joined (c.in_ok-owed.ensures.flights j) (c.as_slice-5.ensures.value j) in
    let same : c.join_all.new.flights.flights ≡ all_joined i.flights.flights r.joins.items = c.join_all.ensures.flights ∙ both in
    subst A (sym same) (keys-above _ _ _ _ c.self.invariant c.args.lane c.args.step may queries asked c.read_keys.ensures r.otherwise r.joins.items r.stood r.started keys ready)

pub start_all-requires-clause-numbers : goal.start_all-requires-clause-numbers
start_all-requires-clause-numbers g c =
    let i = c.self.inside in
    let may = rw (← c.self.view_is) at c.requires.may in
    let prepared = rw (← c.self.view_is) at c.requires.prepared in
    let queries = c.in_ok-queries.queries in
    let asked = remotes_are _ _ _ _ prepared c.in_ok-queries.ensures in
    let r = c.in_ok-ready.ready in
    let keys = map arc_value r.keys.items in
    let many = length-map r.keys.items arc_value in
    let ready = rw (c.as_slice-2.ensures.value, c.as_slice-3.ensures.value) at c.in_ok-ready.ensures.ready in
    omega (arith, admit-numbers _ _ _ _ c.self.invariant c.args.lane c.args.step may queries asked, keys-few _ _ _ _ c.self.invariant c.args.lane c.args.step may queries asked c.read_keys.ensures r.otherwise r.joins.items r.stood r.started keys ready, many)

pub overflow_add-self : goal.overflow_add-self
overflow_add-self g c =
    let i = c.self.inside in
    let may = rw (← c.self.view_is) at c.requires.may in
    let prepared = rw (← c.self.view_is) at c.requires.prepared in
    let queries = c.in_ok-queries.queries in
    let asked = remotes_are _ _ _ _ prepared c.in_ok-queries.ensures in
    let r = c.in_ok-ready.ready in
    let keys = map arc_value r.keys.items in
    let many = length-map r.keys.items arc_value in
    let ready = rw (c.as_slice-2.ensures.value, c.as_slice-3.ensures.value) at c.in_ok-ready.ensures.ready in
    omega (arith, admit-numbers _ _ _ _ c.self.invariant c.args.lane c.args.step may queries asked, keys-few _ _ _ _ c.self.invariant c.args.lane c.args.step may queries asked c.read_keys.ensures r.otherwise r.joins.items r.stood r.started keys ready, many, c.len-count.ensures, r.keys.ok)

pub index_mut-requires : goal.index_mut-requires
index_mut-requires g c =
    let i = c.self.inside in
    let may = rw (← c.self.view_is) at c.requires.may in
    let prepared = rw (← c.self.view_is) at c.requires.prepared in
    let queries = c.in_ok-queries.queries in
    let asked = remotes_are _ _ _ _ prepared c.in_ok-queries.ensures in
    omega (arith, admit-lane _ _ _ _ c.self.invariant c.args.lane c.args.step may queries asked, i.joins.ok)

pub invariant_of-self-2 : goal.invariant_of-self-2
invariant_of-self-2 g c =
    let i = c.self.inside in
    let may = rw (← c.self.view_is) at c.requires.may in
    let prepared = rw (← c.self.view_is) at c.requires.prepared in
    let queries = c.in_ok-queries.queries in
    let asked = remotes_are _ _ _ _ prepared c.in_ok-queries.ensures in
    let r = c.in_ok-ready.ready in
    let keys = map arc_value r.keys.items in
    let many = length-map r.keys.items arc_value in
    let ready = rw (c.as_slice-2.ensures.value, c.as_slice-3.ensures.value) at c.in_ok-ready.ensures.ready in
    let l = arc_value i.loaded in
    let s = after l i.journal.entries in
    let valid = rw (c.deref.ensures, c.as_slice.ensures) at c.keys_are_valid.ensures.valid in
    let out = c.hand_out_all.new in
    let handed = c.hand_out_all.ensures.handed l.script.schemas s.versions (map flown_of i.flights.flights) (rw c.as_slice-4.ensures.value c.self.invariant.agrees.versions.stamps)
    (clever-sound _ _ _ _ c.self.invariant valid) (literal-sound _ _ _ _ c.self.invariant valid) in
    let few = keys-few _ _ _ _ c.self.invariant c.args.lane c.args.step may queries asked c.read_keys.ensures r.otherwise r.joins.items r.stood r.started keys ready in
    let grew = rw (c.in_ok-owed.ensures.entries, c.into_list.ensures) at c.push.ensures.entries in
    let owes : c.in_ok-owed.owed ≡ i.owed + 6 * length queries = omega (arith, c.in_ok-owed.ensures.owed, c.len.ensures) in
    let entries : c.in_ok-owed.owed ≤ c.push.new.self.spare = omega (arith, c.push.ensures.room, c.in_ok-owed.ensures.entries_room) in
    let room : c.in_ok-owed.owed ≤ c.start_all.new.flights.spare = omega (arith, few, many, c.in_ok-owed.ensures.flights_room, c.len.ensures, c.join_all.ensures.room, c.start_all.ensures.room) in
    let flown = rw (c.join_all.ensures.flights, c.in_ok-owed.ensures.flights, c.as_slice-5.ensures.value, c.as_slice-6.ensures.value) at c.start_all.ensures.flights in
    let count : i.started + c.len-count.result ≡ i.started + length keys = omega (arith, many, c.len-count.ensures, r.keys.ok) in
    rw c.of.ensures
    (IsDesk-admit _ _ _ _ c.self.invariant c.args.lane c.args.step may queries asked c.read_keys.ensures r.otherwise r.joins.items r.stood r.started keys ready out.clever out.literal out.met.items out.held.items handed c.push.new.self.entries _ c.start_all.ensures.sized grew owes entries room c.in_ok-owed.ensures.wrecks_room
    refl refl refl refl refl refl flown count refl refl c.in_ok-owed.ensures.wrecks)

pub returns-clause-entry : goal.returns-clause-entry
returns-clause-entry g c =
    let i = c.self.inside in
    let may = rw (← c.self.view_is) at c.requires.may in
    let prepared = rw (← c.self.view_is) at c.requires.prepared in
    let queries = c.in_ok-queries.queries in
    let asked = remotes_are _ _ _ _ prepared c.in_ok-queries.ensures in
    let r = c.in_ok-ready.ready in
    let keys = map arc_value r.keys.items in
    let many = length-map r.keys.items arc_value in
    let ready = rw (c.as_slice-2.ensures.value, c.as_slice-3.ensures.value) at c.in_ok-ready.ensures.ready in
    let l = arc_value i.loaded in
    let s = after l i.journal.entries in
    let valid = rw (c.deref.ensures, c.as_slice.ensures) at c.keys_are_valid.ensures.valid in
    let out = c.hand_out_all.new in
    let handed = c.hand_out_all.ensures.handed l.script.schemas s.versions (map flown_of i.flights.flights) (rw c.as_slice-4.ensures.value c.self.invariant.agrees.versions.stamps)
    (clever-sound _ _ _ _ c.self.invariant valid) (literal-sound _ _ _ _ c.self.invariant valid) in
    let grew = rw (c.in_ok-owed.ensures.entries, c.into_list.ensures) at c.push.ensures.entries in
    rw (← c.self.view_is) (grew ∙ ap (λ (ms : List Met). i.journal.entries ++ Admit c.args.lane c.args.step ms ∷ []) (met-is _ _ _ _ c.self.invariant c.args.lane c.args.step may queries asked c.read_keys.ensures r.otherwise r.joins.items r.stood r.started keys ready out.clever out.literal out.met.items out.held.items handed))

pub returns-clause-met : goal.returns-clause-met
returns-clause-met g c =
    let i = c.self.inside in
    let may = rw (← c.self.view_is) at c.requires.may in
    let prepared = rw (← c.self.view_is) at c.requires.prepared in
    let queries = c.in_ok-queries.queries in
    let asked = remotes_are _ _ _ _ prepared c.in_ok-queries.ensures in
    let r = c.in_ok-ready.ready in
    let keys = map arc_value r.keys.items in
    let many = length-map r.keys.items arc_value in
    let ready = rw (c.as_slice-2.ensures.value, c.as_slice-3.ensures.value) at c.in_ok-ready.ensures.ready in
    let l = arc_value i.loaded in
    let s = after l i.journal.entries in
    let valid = rw (c.deref.ensures, c.as_slice.ensures) at c.keys_are_valid.ensures.valid in
    let out = c.hand_out_all.new in
    let handed = c.hand_out_all.ensures.handed l.script.schemas s.versions (map flown_of i.flights.flights) (rw c.as_slice-4.ensures.value c.self.invariant.agrees.versions.stamps)
    (clever-sound _ _ _ _ c.self.invariant valid) (literal-sound _ _ _ _ c.self.invariant valid) in
    rw (← c.self.view_is) (c.into_list-2.ensures ∙ c.hand_out_all.ensures.again ∙ met-is _ _ _ _ c.self.invariant c.args.lane c.args.step may queries asked c.read_keys.ensures r.otherwise r.joins.items r.stood r.started keys ready out.clever out.literal out.met.items out.held.items handed)

pub returns-clause-held : goal.returns-clause-held
returns-clause-held g c =
    let i = c.self.inside in
    let may = rw (← c.self.view_is) at c.requires.may in
    let prepared = rw (← c.self.view_is) at c.requires.prepared in
    let queries = c.in_ok-queries.queries in
    let asked = remotes_are _ _ _ _ prepared c.in_ok-queries.ensures in
    let r = c.in_ok-ready.ready in
    let keys = map arc_value r.keys.items in
    let many = length-map r.keys.items arc_value in
    let ready = rw (c.as_slice-2.ensures.value, c.as_slice-3.ensures.value) at c.in_ok-ready.ensures.ready in
    let l = arc_value i.loaded in
    let s = after l i.journal.entries in
    let valid = rw (c.deref.ensures, c.as_slice.ensures) at c.keys_are_valid.ensures.valid in
    let out = c.hand_out_all.new in
    let handed = c.hand_out_all.ensures.handed l.script.schemas s.versions (map flown_of i.flights.flights) (rw c.as_slice-4.ensures.value c.self.invariant.agrees.versions.stamps)
    (clever-sound _ _ _ _ c.self.invariant valid) (literal-sound _ _ _ _ c.self.invariant valid) in
    let met : c.into_list-2.result ≡ out.met.items = c.into_list-2.ensures ∙ c.hand_out_all.ensures.again in
    rw (← c.self.view_is, met, c.into_list-3.ensures) (held-are _ _ _ _ c.self.invariant c.args.lane c.args.step may queries asked c.read_keys.ensures r.otherwise r.joins.items r.stood r.started keys ready out.clever out.literal out.met.items out.held.items handed)

pub returns-clause-stood : goal.returns-clause-stood
returns-clause-stood g c =
    let i = c.self.inside in
    let may = rw (← c.self.view_is) at c.requires.may in
    let prepared = rw (← c.self.view_is) at c.requires.prepared in
    let queries = c.in_ok-queries.queries in
    let asked = remotes_are _ _ _ _ prepared c.in_ok-queries.ensures in
    let r = c.in_ok-ready.ready in
    let keys = map arc_value r.keys.items in
    let many = length-map r.keys.items arc_value in
    let ready = rw (c.as_slice-2.ensures.value, c.as_slice-3.ensures.value) at c.in_ok-ready.ensures.ready in
    let l = arc_value i.loaded in
    let s = after l i.journal.entries in
    let valid = rw (c.deref.ensures, c.as_slice.ensures) at c.keys_are_valid.ensures.valid in
    let out = c.hand_out_all.new in
    let handed = c.hand_out_all.ensures.handed l.script.schemas s.versions (map flown_of i.flights.flights) (rw c.as_slice-4.ensures.value c.self.invariant.agrees.versions.stamps)
    (clever-sound _ _ _ _ c.self.invariant valid) (literal-sound _ _ _ _ c.self.invariant valid) in
    rw (← c.self.view_is) (stood-are _ _ _ _ c.self.invariant c.args.lane c.args.step may queries asked c.read_keys.ensures r.otherwise r.joins.items r.stood r.started keys ready out.clever out.literal out.met.items out.held.items handed)

pub returns-clause-started : goal.returns-clause-started
returns-clause-started g c =
    let i = c.self.inside in
    let may = rw (← c.self.view_is) at c.requires.may in
    let prepared = rw (← c.self.view_is) at c.requires.prepared in
    let queries = c.in_ok-queries.queries in
    let asked = remotes_are _ _ _ _ prepared c.in_ok-queries.ensures in
    let r = c.in_ok-ready.ready in
    let keys = map arc_value r.keys.items in
    let many = length-map r.keys.items arc_value in
    let ready = rw (c.as_slice-2.ensures.value, c.as_slice-3.ensures.value) at c.in_ok-ready.ensures.ready in
    let l = arc_value i.loaded in
    let s = after l i.journal.entries in
    let valid = rw (c.deref.ensures, c.as_slice.ensures) at c.keys_are_valid.ensures.valid in
    let out = c.hand_out_all.new in
    let handed = c.hand_out_all.ensures.handed l.script.schemas s.versions (map flown_of i.flights.flights) (rw c.as_slice-4.ensures.value c.self.invariant.agrees.versions.stamps)
    (clever-sound _ _ _ _ c.self.invariant valid) (literal-sound _ _ _ _ c.self.invariant valid) in
    rw (← c.self.view_is) (started-are _ _ _ _ c.self.invariant c.args.lane c.args.step may queries asked c.read_keys.ensures r.otherwise r.joins.items r.stood r.started keys ready out.clever out.literal out.met.items out.held.items handed)

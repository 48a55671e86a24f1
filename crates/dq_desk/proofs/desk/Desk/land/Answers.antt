use Rattle.std.proofs.Common.{◌≡◌}
use Rattle.std.specs.Arc.{arc_value}
use Rattle.std.specs.Prelude.{slice_index_or}
use Rattle.dq_cache.specs.Entries.{cells_of}
use Rattle.dq_desk.proofs.Lands.{IsDesk-land, cells-landed, is-running, land-columns, land-found, land-room, land-runs, landing-of}
use Rattle.dq_desk.proofs.desk.Desk.land.Goals as goal

pub unreachable-requires : goal.unreachable-requires
unreachable-requires g c = land-found _ _ _ _ c.self.invariant c.args.lane c.args.flight (rw (← c.self.view_is) at c.requires.may) c.in_default.ensures

pub cells_of-cells-requires-clause-columns : goal.cells_of-cells-requires-clause-columns
cells_of-cells-requires-clause-columns g c =
    let may = rw (← c.self.view_is) at c.requires.may in
    let is = rw (← c.self.view_is) at c.requires.answer in
    let q = landing-of _ _ _ _ c.self.invariant c.args.lane c.args.flight c.in-Some.version (arc_value c.in-Some.key.now) (arc_value c.args.table) may c.in-Some.ensures is in
    let keys = rw (c.deref.ensures, c.as_slice.ensures) at c.keys_are_valid.ensures.valid in
    rw c.deref-3.ensures (land-columns _ _ _ _ c.self.invariant c.args.flight c.in-Some.version _ _ q keys).0

pub cells_of-cells-requires-clause-cells : goal.cells_of-cells-requires-clause-cells
cells_of-cells-requires-clause-cells g c =
    let may = rw (← c.self.view_is) at c.requires.may in
    let is = rw (← c.self.view_is) at c.requires.answer in
    let q = landing-of _ _ _ _ c.self.invariant c.args.lane c.args.flight c.in-Some.version (arc_value c.in-Some.key.now) (arc_value c.args.table) may c.in-Some.ensures is in
    let keys = rw (c.deref.ensures, c.as_slice.ensures) at c.keys_are_valid.ensures.valid in
    rw (c.deref-3.ensures, c.deref-4.ensures) (land-columns _ _ _ _ c.self.invariant c.args.flight c.in-Some.version _ _ q keys).1

pub land-requires : goal.land-requires
land-requires g c = is-running _ _ _ _ c.self.invariant c.args.flight (land-runs _ _ _ _ c.self.invariant c.args.lane c.args.flight (rw (← c.self.view_is) at c.requires.may))

pub overflow_sub-self : goal.overflow_sub-self
overflow_sub-self g c =
    let may = rw (← c.self.view_is) at c.requires.may in
    let is = rw (← c.self.view_is) at c.requires.answer in
    let q = landing-of _ _ _ _ c.self.invariant c.args.lane c.args.flight c.in-Some.version (arc_value c.in-Some.key.now) (arc_value c.args.table) may c.in-Some.ensures is in
    let counted : c.cells_of-cells.result ≡ cells_of (arc_value c.in-Some.key.now) (arc_value c.args.table) = rw (c.deref-3.ensures, c.deref-4.ensures) at c.cells_of-cells.ensures in
    let latest : c.stamp_at-now.result ≡ slice_index_or c.self.inside.stamps.items (arc_value c.in-Some.key.now).source 0 =
    rw (c.query.ensures.same, c.deref-2.ensures, c.as_slice-2.ensures.value) at c.stamp_at-now.ensures in
    (land-room _ _ _ _ c.self.invariant c.args.lane c.args.flight c.in-Some.version c.cells_of-cells.result c.stamp_at-now.result _ _ may q counted
    c.keep_clever-clever.result c.keep_literal-literal.result latest c.keep_clever-clever.ensures.answer c.keep_literal-literal.ensures.answer).owed

pub push-requires-clause-room : goal.push-requires-clause-room
push-requires-clause-room g c =
    let may = rw (← c.self.view_is) at c.requires.may in
    let is = rw (← c.self.view_is) at c.requires.answer in
    let q = landing-of _ _ _ _ c.self.invariant c.args.lane c.args.flight c.in-Some.version (arc_value c.in-Some.key.now) (arc_value c.args.table) may c.in-Some.ensures is in
    let counted : c.cells_of-cells.result ≡ cells_of (arc_value c.in-Some.key.now) (arc_value c.args.table) = rw (c.deref-3.ensures, c.deref-4.ensures) at c.cells_of-cells.ensures in
    let latest : c.stamp_at-now.result ≡ slice_index_or c.self.inside.stamps.items (arc_value c.in-Some.key.now).source 0 =
    rw (c.query.ensures.same, c.deref-2.ensures, c.as_slice-2.ensures.value) at c.stamp_at-now.ensures in
    (land-room _ _ _ _ c.self.invariant c.args.lane c.args.flight c.in-Some.version c.cells_of-cells.result c.stamp_at-now.result _ _ may q counted
    c.keep_clever-clever.result c.keep_literal-literal.result latest c.keep_clever-clever.ensures.answer c.keep_literal-literal.ensures.answer).entries

pub invariant_of-self : goal.invariant_of-self
invariant_of-self g c =
    let may = rw (← c.self.view_is) at c.requires.may in
    let is = rw (← c.self.view_is) at c.requires.answer in
    let text = rw (← c.self.view_is) at c.requires.body in
    let q = landing-of _ _ _ _ c.self.invariant c.args.lane c.args.flight c.in-Some.version (arc_value c.in-Some.key.now) (arc_value c.args.table) may c.in-Some.ensures is in
    let counted : c.cells_of-cells.result ≡ cells_of (arc_value c.in-Some.key.now) (arc_value c.args.table) = rw (c.deref-3.ensures, c.deref-4.ensures) at c.cells_of-cells.ensures in
    let latest : c.stamp_at-now.result ≡ slice_index_or c.self.inside.stamps.items (arc_value c.in-Some.key.now).source 0 =
    rw (c.query.ensures.same, c.deref-2.ensures, c.as_slice-2.ensures.value) at c.stamp_at-now.ensures in
    IsDesk-land _ _ _ _ c.self.invariant c.args.lane c.args.flight c.in-Some.version c.cells_of-cells.result c.stamp_at-now.result _ _ may q counted
    c.keep_clever-clever.result c.keep_literal-literal.result latest c.keep_clever-clever.ensures.answer c.keep_literal-literal.ensures.answer _ c.args.body _ _ _ _ text
    c.keep_clever-clever.ensures.list c.keep_clever-clever.ensures.bound c.keep_literal-literal.ensures.list c.keep_literal-literal.ensures.bound
    c.land.ensures.flights c.land.ensures.room c.push.ensures.room c.push.ensures.entries

pub returns-clause-entry : goal.returns-clause-entry
returns-clause-entry g c =
    let may = rw (← c.self.view_is) at c.requires.may in
    let is = rw (← c.self.view_is) at c.requires.answer in
    let q = landing-of _ _ _ _ c.self.invariant c.args.lane c.args.flight c.in-Some.version (arc_value c.in-Some.key.now) (arc_value c.args.table) may c.in-Some.ensures is in
    let counted : c.cells_of-cells.result ≡ cells_of (arc_value c.in-Some.key.now) (arc_value c.args.table) = rw (c.deref-3.ensures, c.deref-4.ensures) at c.cells_of-cells.ensures in
    let cells = cells-landed _ _ _ _ c.self.invariant c.args.lane c.args.flight c.in-Some.version c.cells_of-cells.result 0 _ _ may q counted in
    rw (← c.self.view_is, ← cells) c.push.ensures.entries

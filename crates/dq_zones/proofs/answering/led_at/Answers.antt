use Rattle.std.proofs.Common.{◌≡◌, ◌<◌, length, Some, None, ap, sym, ◌∙◌, arith}
use Rattle.std.specs.Option.{option_copied}
use Rattle.dq_base.specs.declared.canon.Role.TheVariants.{Remote, Local}
use Rattle.dq_zones.proofs.Done.{covered_both}
use Rattle.dq_zones.proofs.Lists.{got_within, within_got}
use Rattle.dq_zones.proofs.answering.led_at.Goals as goal

pub slot_at-slot-requires-clause-place : goal.slot_at-slot-requires-clause-place
slot_at-slot-requires-clause-place c =
    let below = within_got c.args.prepared.now.roles c.args.source Remote (c.requires.fit.sources c.args.place c.args.source c.requires.local).0 in
    let many = c.requires.fit.roles in
    omega (arith, below, many)

pub unreachable-requires : goal.unreachable-requires
unreachable-requires c =
    let few = (c.requires.fit.among c.args.source _ c.slot_at-slot.ensures).1 in
    let below : c.slot_at-slot.result < length c.args.outcomes.now = omega (arith, few) in
    let there = got_within c.args.outcomes.now c.slot_at-slot.result below in
    let none : None ≡ Some there.0 = sym (ap option_copied c.in_default.is) ∙ c.get.ensures ∙ there.1 in cc

pub canon_at-requires : goal.canon_at-requires
canon_at-requires c =
    let below = within_got c.args.prepared.now.roles c.args.source Remote (c.requires.fit.sources c.args.place c.args.source c.requires.local).0 in
    let roles = c.requires.fit.roles in
    let canons = c.requires.fit.canons in
    omega (arith, below, roles, canons)

pub canon_at-requires-2 : goal.canon_at-requires-2
canon_at-requires-2 c =
    let below = within_got c.args.prepared.now.roles c.args.place (Local c.args.source) c.requires.local in
    let roles = c.requires.fit.roles in
    let canons = c.requires.fit.canons in
    omega (arith, below, roles, canons)

pub led_by-requires : goal.led_by-requires
led_by-requires c =
    covered_both _ _ c.canon_at.result.now c.canon_at-2.result.now c.canon_at.ensures c.canon_at-2.ensures (c.requires.fit.sources c.args.place c.args.source c.requires.local).1

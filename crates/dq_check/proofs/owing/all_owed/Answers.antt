use Rattle.std.proofs.Common.{◌≡◌, List, [], ◌++◌, drop, sym, subst, arith, append-nil}
use Rattle.std.proofs.Math.ListN.{drop_of_length-le}
use Rattle.dq_base.specs.declared.query.Query.{Query}
use Rattle.dq_check.specs.Dues.{DueOf}
use Rattle.dq_check.specs.Owed.{AreOwed}
use Rattle.dq_check.proofs.owing.all_owed.Goals as goal

pub returns : goal.returns
returns c =
    let vs = c.args.machine.now.state.versions in
    let none : AreOwed c.args.schemas.now vs c.args.losses.now c.loop-zone.origins_left.now c.loop-zone.stamps_left.now (drop c.loop-zone.zone-index c.args.zones.now) [] =
    subst (λ (zs : List Query). AreOwed c.args.schemas.now vs c.args.losses.now c.loop-zone.origins_left.now c.loop-zone.stamps_left.now zs [])
    (sym (drop_of_length-le c.args.zones.now c.loop-zone-test.false)) tt in
    subst (λ (ds : List DueOf). AreOwed c.args.schemas.now vs c.args.losses.now c.args.origins.now c.args.stamps.now c.args.zones.now ds) (append-nil c.loop-zone.dues.items) (c.loop-zone.invariant [] none)

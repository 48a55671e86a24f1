use Rattle.std.specs.BTreeMap.{get}
use Rattle.dq_script.proofs.Placed.{placed-so}
use Rattle.dq_script.proofs.places.Places.with.Goals as goal

pub invariant_of-result : goal.invariant_of-result
invariant_of-result g c =
    placed-so g.K.Ord.cmp (get g.K.Ord.cmp c.self.inside.places) (get g.K.Ord.cmp c.in_ok-places.places) c.self.inside.keys c.push.new.self c.args.key c.args.copy c.len.result
    c.in_ok-places.ensures c.self.invariant c.requires c.len.ensures c.in_ok-push.ensures.ok

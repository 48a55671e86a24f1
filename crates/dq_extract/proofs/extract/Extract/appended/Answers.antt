use Rattle.std.proofs.Common.{◌≡◌, ◌++◌, ◌∷◌, [], rules, ◌<◌, length}
use Rattle.std.specs.Arc.{arc_value}
use Rattle.dq_base.specs.Versions.{IsVersion}
use Rattle.dq_extract.proofs.Extracts.{IsExtract-next}
use Rattle.dq_extract.proofs.extract.Extract.appended.Goals as goal

pub invariant_of-result : goal.invariant_of-result
invariant_of-result c =
    let next : c.push.new.self ≡ c.self.inside.segments ++ arc_value c.args.segment.now ∷ [] =
    cc (c.in_ok-push.ensures.ok, c.in_ok-segments.ensures, c.in_ok-try_clone.ensures) in
    let whole : IsVersion (arc_value c.args.segment.now) = search (rules, c.count-count.ensures.version) in
    let some : 0 < length (arc_value c.args.segment.now).heading.names = search (rules, c.count-count.ensures.columns) in
    IsExtract-next _ _ _ _ _ _ c.self.invariant c.self.view_is whole c.requires.heading c.requires.cells some c.in_ok-schema.ensures next

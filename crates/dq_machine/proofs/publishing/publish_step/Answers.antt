use Rattle.std.proofs.Common.{◌≡◌, ◌∙◌}
use Rattle.std.specs.Arc.{arc_value}
use Rattle.dq_base.specs.Scripts.{step_of}
use Rattle.dq_extract.proofs.Places.{FitsStep-segment_of}
use Rattle.dq_extract.specs.Loads.{segment_of}
use Rattle.dq_machine.proofs.Standing.{published_by}
use Rattle.dq_machine.specs.Refreshing.{IsRefresh}
use Rattle.dq_machine.proofs.publishing.publish_step.Goals as goal

pub returns-clause-versions : goal.returns-clause-versions
returns-clause-versions c =
    let l = c.args.loaded.now in
    let o = step_of l.script.lanes c.args.lane c.args.step in
    let found = segment_of l c.args.lane c.args.step in
    let source = c.in_ok-source.field-0.source in
    let fresh = arc_value c.in_ok-source.field-0.extract in
    let is : IsRefresh c.args.stands.now.items o found source fresh = rw c.as_slice.ensures.value at c.in_ok-source.ensures in
    let p = published_by l.script.schemas c.args.versions.now c.args.stands.now.items o found source fresh c.requires.standing
    (FitsStep-segment_of l c.args.lane c.args.step c.script-script.ensures.loaded) is in
    c.in_ok-push.ensures.ok ∙ rw c.in_ok-shared.ensures p.versions_are

pub returns-clause-standing : goal.returns-clause-standing
returns-clause-standing c =
    let l = c.args.loaded.now in
    let o = step_of l.script.lanes c.args.lane c.args.step in
    let found = segment_of l c.args.lane c.args.step in
    let source = c.in_ok-source.field-0.source in
    let fresh = arc_value c.in_ok-source.field-0.extract in
    let is : IsRefresh c.args.stands.now.items o found source fresh = rw c.as_slice.ensures.value at c.in_ok-source.ensures in
    let p = published_by l.script.schemas c.args.versions.now c.args.stands.now.items o found source fresh c.requires.standing
    (FitsStep-segment_of l c.args.lane c.args.step c.script-script.ensures.loaded) is in
    rw (c.in_ok-push.ensures.ok, c.in_ok-shared.ensures, c.new.ensures) p.stand

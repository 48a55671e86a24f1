use Rattle.std.proofs.Common.{◌∙◌, sym}
use Rattle.std.specs.Arc.{arc_value}
use Rattle.dq_top.proofs.Blended.{first_false, second_false}
use Rattle.dq_top.proofs.Fine.{cause_told, none_told, whole_told, writes_told}
use Rattle.dq_top.proofs.rehearsing.play_loaded.Goals as goal

pub returns-clause-whole : goal.returns-clause-whole
returns-clause-whole g c = whole_told (arc_value c.in-Ok.owner) c.wants_memory-wanting.result c.write.result c.told_of-told.result c.told_of-told.ensures

pub returns-clause-writes : goal.returns-clause-writes
returns-clause-writes g c =
    writes_told (g.S.Sink.written c.args.sink.now) (g.S.Sink.written c.write.new.sink) _
    (arc_value c.in-Ok.owner) c.wants_memory-wanting.result c.write.result c.told_of-told.result c.told_of-told.ensures c.write.ensures.ok c.write.ensures.err

pub returns-clause-cause : goal.returns-clause-cause
returns-clause-cause g c =
    cause_told (g.S.Sink.faults c.args.sink.now) (g.S.Sink.faults c.write.new.sink) c.wants_memory-wanting.result c.write.result c.told_of-told.result c.told_of-told.ensures c.write.ensures.cause

pub returns-clause-served : goal.returns-clause-served
returns-clause-served g c = λ none.
    first_false _ _ (sym c.wants_memory-wanting.ensures ∙ none_told c.wants_memory-wanting.result c.write.result c.told_of-told.result c.told_of-told.ensures none)

pub returns-clause-kept : goal.returns-clause-kept
returns-clause-kept g c = λ none.
    second_false _ _ (sym c.wants_memory-wanting.ensures ∙ none_told c.wants_memory-wanting.result c.write.result c.told_of-told.result c.told_of-told.ensures none)

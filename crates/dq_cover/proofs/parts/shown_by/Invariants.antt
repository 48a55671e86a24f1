use Rattle.std.proofs.Common.{take}
use Rattle.dq_cover.specs.Parts.{AreMarks}
use Rattle.dq_cover.proofs.parts.shown_by.Given as goal

abbrev pub invariant-loop-m : goal.invariant-loop-m
invariant-loop-m l = AreMarks l.marks (take l.m-index l.measures)

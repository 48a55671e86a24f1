use Rattle.std.proofs.Common.{◌≡◌, true, subst}
use Rattle.dq_machine.specs.Machine.{legal}
use Rattle.dq_rehearse.proofs.Moved.{turn_moved}
use Rattle.dq_rehearse.proofs.playing.advance.Goals as goal

pub returns-in-Moved-clause-turns : goal.returns-in-Moved-clause-turns
returns-in-Moved-clause-turns g c =
    let turn = c.in-Moved.ensures in
    let new = c.step-stepped.new.desk.journal in
    let lawful = subst (λ m. legal m new ≡ true) turn.desk c.journal-journal.ensures.legal in
    turn_moved c.args.desk.now.loaded c.args.lane.now c.work.new.self c.step-stepped.new.self c.args.desk.now.journal new c.requires.loaded c.work.ensures turn.number turn.loaded turn.seen lawful turn.ended turn.turn

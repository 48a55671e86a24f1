use Rattle.std.proofs.Common.{◌≡◌, ◌∙◌}
use Rattle.std.specs.Arc.{arc_value}
use Rattle.dq_rehearse.proofs.whole.play_script.Goals as goal

pub returns-clause-legal : goal.returns-clause-legal
returns-clause-legal g c =
    let at : c.play-desk.result.desk.loaded ≡ arc_value c.args.loaded.now = c.play-desk.ensures.loaded ∙ c.in_ok-desk.ensures.loaded ∙ c.in_ok-try_clone.ensures in
    rw (c.into_parts-journal.ensures.journal, ← at) c.into_parts-journal.ensures.legal

pub returns-clause-right : goal.returns-clause-right
returns-clause-right g c =
    let at : c.play-desk.result.desk.loaded ≡ arc_value c.args.loaded.now = c.play-desk.ensures.loaded ∙ c.in_ok-desk.ensures.loaded ∙ c.in_ok-try_clone.ensures in
    rw (c.into_parts-journal.ensures.journal, ← at) c.in_ok-results.ensures.right

pub returns-clause-idle : goal.returns-clause-idle
returns-clause-idle g c =
    let at : c.play-desk.result.desk.loaded ≡ arc_value c.args.loaded.now = c.play-desk.ensures.loaded ∙ c.in_ok-desk.ensures.loaded ∙ c.in_ok-try_clone.ensures in
    rw (c.into_parts-journal.ensures.journal, ← at) c.into_parts-journal.ensures.idle

pub returns-clause-wrecks : goal.returns-clause-wrecks
returns-clause-wrecks g c =
    let at : c.play-desk.result.desk.loaded ≡ arc_value c.args.loaded.now = c.play-desk.ensures.loaded ∙ c.in_ok-desk.ensures.loaded ∙ c.in_ok-try_clone.ensures in
    rw (c.into_parts-journal.ensures.journal, ← at) c.into_parts-journal.ensures.wrecks

pub returns-clause-dials : goal.returns-clause-dials
returns-clause-dials g c =
    let at : c.play-desk.result.desk.loaded ≡ arc_value c.args.loaded.now = c.play-desk.ensures.loaded ∙ c.in_ok-desk.ensures.loaded ∙ c.in_ok-try_clone.ensures in
    rw (c.into_parts-journal.ensures.journal, ← at) c.in_ok-results.ensures.dials

pub returns-clause-plans : goal.returns-clause-plans
returns-clause-plans g c =
    let at : c.play-desk.result.desk.loaded ≡ arc_value c.args.loaded.now = c.play-desk.ensures.loaded ∙ c.in_ok-desk.ensures.loaded ∙ c.in_ok-try_clone.ensures in
    rw (← at) c.in_ok-results.ensures.plans

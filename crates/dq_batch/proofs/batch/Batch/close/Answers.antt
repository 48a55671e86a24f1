use Rattle.std.proofs.Common.{◌≡◌, List, ◌++◌, true, sym, subst}
use Rattle.dq_base.specs.Scripts.{step_of, zones_of}
use Rattle.dq_journal.specs.Steps.{AreRefused}
use Rattle.dq_journal.specs.Standing.{stand}
use Rattle.dq_journal.specs.declared.entry.Entry.{Entry}
use Rattle.dq_machine.specs.Machine.{legal}
use Rattle.dq_machine.specs.Owning.{origins}
use Rattle.dq_machine.specs.Right.{AreOutcomes}
use Rattle.dq_batch.specs.Views.{BatchOf}
use Rattle.dq_batch.proofs.Closes.{closes, fits_over}
use Rattle.dq_batch.proofs.batch.Batch.close.Goals as goal

pub returns : goal.returns
returns g c =
    let ended = subst (λ (v : BatchOf). v.over ≡ true) (sym c.self.view_is) c.requires.over in
    let refused = subst (λ (v : BatchOf). AreRefused v.loaded.script.schemas (zones_of (step_of v.loaded.script.lanes v.lane v.step)) c.args.outcomes.now) (sym c.self.view_is) c.requires.refused in
    record {
      right = subst (λ (v : BatchOf). (more : List Entry) → legal v.loaded (v.seen ++ more) ≡ true → AreOutcomes v.loaded.script.schemas (stand v.loaded (v.seen ++ more) v.place) (v.seen ++ more)
          (origins v.loaded.script.schemas (v.seen ++ more) v.lane v.place (zones_of (step_of v.loaded.script.lanes v.lane v.step))) (zones_of (step_of v.loaded.script.lanes v.lane v.step)) c.answer_zones.new.outcomes)
          c.self.view_is
          (λ more lawful. closes c.self.inside.loaded.value c.self.inside.seen.value.entries more c.self.inside.open c.self.invariant.held ended lawful c.args.outcomes.now c.answer_zones.new.outcomes refused c.answer_zones.ensures);
    }

pub answer_zones-requires : goal.answer_zones-requires
answer_zones-requires g c =
    let ended = subst (λ (v : BatchOf). v.over ≡ true) (sym c.self.view_is) c.requires.over in
    let refused = subst (λ (v : BatchOf). AreRefused v.loaded.script.schemas (zones_of (step_of v.loaded.script.lanes v.lane v.step)) c.args.outcomes.now) (sym c.self.view_is) c.requires.refused in
    fits_over c.self.inside.loaded.value c.self.inside.seen.value.entries c.self.inside.open c.self.invariant.held ended c.args.outcomes.now refused

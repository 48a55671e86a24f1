use Rattle.std.proofs.Common.{◌≡◌, ap}
use Rattle.dq_machine.proofs.Admits.{admit_joiners, admit_numbers}
use Rattle.dq_machine.specs.Parts.{PartsOf}
use Rattle.dq_machine.specs.State.{Flights}
use Rattle.dq_machine.proofs.parts.Parts.admit_entry.Goals as goal

pub admit_as-requires-clause-numbers : goal.admit_as-requires-clause-numbers
admit_as-requires-clause-numbers c =
    let kind = rw c.script.ensures.script at c.in-Some.ensures.kind in
    let same : c.meet.new.self.state.flights ≡ c.args.self.now.state.flights = ap (λ (p : PartsOf). p.state.flights) c.meet.ensures.rest in
    rw (same, c.in_ok-admission.ensures.admission)
    (admit_numbers c.args.loaded.now c.args.self.now.state c.args.lane c.args.step c.script.ensures.loaded c.requires.parts.reached kind)

pub admit_as-requires-clause-joiners : goal.admit_as-requires-clause-joiners
admit_as-requires-clause-joiners c =
    let kind = rw c.script.ensures.script at c.in-Some.ensures.kind in
    let same : c.meet.new.self.state.flights ≡ c.args.self.now.state.flights = ap (λ (p : PartsOf). p.state.flights) c.meet.ensures.rest in
    rw (same, c.in_ok-admission.ensures.admission)
    (admit_joiners c.args.loaded.now c.args.self.now.state c.args.lane c.args.step c.script.ensures.loaded c.requires.parts.reached kind)
